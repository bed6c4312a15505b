-- What a run answers and leaves, for every image, program, range and lent memory: the public contract, `Ran`, and what it cites.
use Rattle.std.specs.Prelude.{List, ◌≡◌, ℕ, ◌≤◌, Ok, Result}
use Rattle.std.specs.Result.{result_and}
use Rattle.std.proofs.Math.Option.{some}
use Rattle.little_endian.specs.Lent.{over}
use Rattle.lane_word.specs.declared.InputRange.{InputRange}
use Rattle.predicate_answer.specs.declared.CallError.{CallError}
use Rattle.predicate_answer.specs.declared.RecordOutcome.{RecordOutcome}
use Rattle.predicate_semantics.specs.declared.Rv32Program.{Rv32Program}
use Rattle.predicate_semantics.specs.State.{result_read}
use Rattle.predicate_semantics.specs.Standing.{scalar_answer}
use Rattle.predicate_semantics.specs.Call.{Call, run_of}
use Rattle.predicate_semantics.specs.Outcome.{verdict_on, outcome_of}
use Rattle.predicate_trace.specs.Trace.{entry_count, trace_bytes}
use Rattle.lane_memory.specs.LentRows.{row_count, cleared}

-- Who causes a refusal: a lent trace after a call, with an entry for each completed step and every byte behind as before
abbrev pub trace_after : Call → List ℕ → List ℕ
trace_after c trace = over (trace_bytes (run_of c).state.trace) trace

module _ (image : List ℕ) (program : Rv32Program) (range : InputRange) (rows trace : List ℕ) where
  -- the call over the whole rows and entries that are lent
  abbrev pub call_over : Call
  call_over = record { image = image; program = program; range = range; rows = row_count rows; entries = entry_count trace }

  -- the one answer of a run, and every lent byte after it
  pub record Ran (r : Result RecordOutcome CallError) (rows' trace' : List ℕ) : Type 0 where
    -- the call's refusal for what its caller chose, or what the record is written of, completed steps of a refused run included
    pub answer : r ≡ result_and (verdict_on call_over) (Ok (outcome_of call_over))
    pub entries : trace' ≡ trace_after call_over trace
    -- Written byte: rows are cleared, whatever they held; a remainder stays
    pub zero : rows' ≡ cleared rows
    -- of what the code itself gives: the scalar run of each input of the range answers just this, whatever the registers hold that it does not set
    pub guarantee : (outcome : RecordOutcome) → r ≡ Ok outcome
        → outcome.answer ≡ Ok tt
        → (input : ℕ) → range.first ≤ input → input ≤ range.last
        → (others : ℕ → ℕ) → scalar_answer image program input others ≡ some (result_read outcome trace')
