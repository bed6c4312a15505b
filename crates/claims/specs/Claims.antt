-- Every claim that docs/GUARANTEE.md lists beside the contracts of functions, by its type: the two are the same list, in the same order.
use Rattle.std.specs.Prelude.{◌≡◌, List, ℕ}
use Rattle.little_endian.specs.Number.{AllBytes}
use Rattle.rv32_arithmetic.specs.Corners.{Corners}
use Rattle.rv32_arithmetic.specs.Halves.{LowerHalf}
use Rattle.rv32_arithmetic.specs.Divisor.{PowersFound, ShiftDivides}
use Rattle.riscv32imc.specs.Examples.{ExamplesExpand}
use Rattle.riscv32imc.specs.Hints.{HintsCounted, HintsExpand}
use Rattle.riscv_decode.specs.Statements.{Counted, StandingApart, OneRow, RowsListed, DecodeListed, LinesAccepted, UpperHalves, SystemRefused}
use Rattle.lane_word.specs.Flags.{FlagsAgree, OneFlag}
use Rattle.predicate_answer.specs.Refusal.{Refusal}
use Rattle.predicate_semantics.specs.Program.{Program}
use Rattle.predicate_semantics.specs.State.{RunResult}
use Rattle.predicate_semantics.specs.Tested.{passed, refused}
use Rattle.predicate_semantics.specs.Lane.{Setup, lane_run}
use Rattle.predicate_semantics.specs.Call.{Call}
use Rattle.predicate_semantics.specs.Guarantee.{PrefixGuarantee, CompletedGuarantee, AcceptanceGuarantee, Guarantee}
use Rattle.predicate_semantics.specs.Cases.{CasesHold, ScalarRunsGiveZero, WorkedRuns}
use Rattle.predicate_semantics.specs.Bound.{StepBound, LimitEnough, LimitShort, ScalarLimit}
use Rattle.predicate_semantics.specs.Lent.{MoreRows, MoreEntries, MoreLent, RowsNeeded, EntriesNeeded}
use Rattle.predicate_semantics.specs.Order.{StartOrder}
use Rattle.predicate_semantics.specs.Hints.{HintsOnlyAdvance}
use Rattle.predicate_semantics.specs.RecordRules.{Completed, Accepted, TakesStep, ProperRefusal}
use Rattle.lane_record.specs.Answers.{Exact}
use Rattle.lane_record.specs.Cases.{WorkedRecord, RangesTaken, RangesBroken}
use Rattle.lane_record.specs.RoundTrip.{ReadBack, Rewritten}
use Rattle.lane_record.specs.Runs.{KeepsRules}
use Rattle.lane_library.specs.Outcome.{RecordFits, CarriesRange}
use Rattle.lane_exports.specs.Boundary.{BreaksRules, WordsBack, Rewrites}
use Rattle.lane_exports.specs.Loader.{WordsPromised}
use Rattle.lane_program.specs.Program.{RecordWritten}
use Rattle.lane_program.specs.Example.{WorkedInput}
use Rattle.wrong_programs.specs.Behaviours.{AllPossible}
use Rattle.wrong_programs.specs.Refuted.{RunRefuted, RunPromiseRefuted, LibraryRefuted}

pub record Claims : Type 0 where
  -- demand 3
  pub guarantee : Guarantee
  pub acceptance_guarantee : (p : Program) (l : Setup) (limit : ℕ) → AcceptanceGuarantee p l limit
  pub prefix_guarantee : (p : Program) (l : Setup) → PrefixGuarantee p l
  pub completed_guarantee : (p : Program) (l : Setup) (limit : ℕ) → CompletedGuarantee p l limit
  pub words_promised : WordsPromised
  -- the run
  pub cases_hold : CasesHold
  pub scalar_runs_give_zero : ScalarRunsGiveZero
  pub worked_runs : WorkedRuns
  pub worked_input : WorkedInput
  pub start_order : (p : Program) (l : Setup) → StartOrder p l
  pub step_bound : StepBound
  pub limit_enough : (p : Program) (l : Setup) → LimitEnough p l
  pub limit_short : (p : Program) (l : Setup) → LimitShort p l
  pub scalar_limit : (p : Program) → ScalarLimit p
  pub more_rows : (p : Program) (l : Setup) (limit : ℕ) → MoreRows p l limit
  pub more_entries : (p : Program) (l : Setup) (limit : ℕ) → MoreEntries p l limit
  pub more_lent : (p : Program) (l : Setup) (limit : ℕ) → MoreLent p l limit
  pub rows_needed : (p : Program) (l : Setup) (limit : ℕ) → RowsNeeded p l limit
  pub entries_needed : (p : Program) (l : Setup) (limit : ℕ) → EntriesNeeded p l limit
  pub hints_only_advance : HintsOnlyAdvance
  -- what every run keeps
  pub completed : (p : Program) (l : Setup) (limit : ℕ) → Completed p l limit (lane_run p l limit).state
  pub accepted : (p : Program) (l : Setup) (limit : ℕ) (r : RunResult) → (lane_run p l limit).answer ≡ passed r → Accepted l (lane_run p l limit).state r
  pub refused_proper : (p : Program) (l : Setup) (limit : ℕ) (r : Refusal) → (lane_run p l limit).answer ≡ refused r → ProperRefusal l r
  pub takes_step : TakesStep
  -- the record
  pub keeps_rules : (c : Call) → KeepsRules c
  pub carries_range : CarriesRange
  pub record_fits : RecordFits
  pub record_written : RecordWritten
  pub exact : (bytes : List ℕ) → AllBytes bytes → Exact bytes
  pub read_back : ReadBack
  pub rewritten : Rewritten
  pub worked_record : WorkedRecord
  pub ranges_taken : RangesTaken
  pub ranges_broken : RangesBroken
  pub words_back : WordsBack
  pub rewrites : Rewrites
  pub breaks_rules : BreaksRules
  -- operations
  pub corners : Corners
  pub lower_half : LowerHalf
  pub powers_found : PowersFound
  pub shift_divides : ShiftDivides
  pub examples_expand : ExamplesExpand
  pub hints_counted : HintsCounted
  pub hints_expand : HintsExpand
  pub counted : Counted
  pub standing_apart : StandingApart
  pub one_row : OneRow
  pub rows_listed : RowsListed
  pub decode_listed : DecodeListed
  pub lines_accepted : LinesAccepted
  pub upper_halves : UpperHalves
  pub system_refused : SystemRefused
  pub flags_agree : FlagsAgree
  pub one_flag : OneFlag
  -- wrong programs
  pub run_refuted : RunRefuted
  pub run_promise_refuted : RunPromiseRefuted
  pub library_refuted : LibraryRefuted
  pub all_possible : AllPossible
