-- Threads on both sides of an edge: the cases marked *, the slips named there, the edges of lent space and of the range, as one table.
use Rattle.std.specs.Prelude.{◌≡◌, Bool, true, false, ◌&&◌, List, [], ◌∷◌, ◌++◌, ℕ, ◌/◌, ◌%◌, eqb}
use Rattle.std.proofs.Math.Option.{some, map}
use Rattle.riscv32imc.specs.Constants.{image_base}
use Rattle.lane_word.specs.declared.InputRange.{InputRange}
use Rattle.lane_word.specs.Range.{invalid_channels}
use Rattle.predicate_trace.specs.declared.PredicateControlStep.{PredicateControlStep}
use Rattle.predicate_answer.specs.declared.PredicateTransducerExecution.{PredicateTransducerExecution}
use Rattle.predicate_answer.specs.Refusal.{number_of, role_in}
use Rattle.predicate_semantics.specs.declared.Rv32SymbolLayout.{Rv32SymbolLayout}
use Rattle.predicate_semantics.specs.Program.{stop}
use Rattle.predicate_semantics.specs.State.{RunResult}
use Rattle.predicate_semantics.specs.Tested.{Tested, passed, refused}
use Rattle.predicate_semantics.specs.Lane.{Ended, execution}
use Rattle.predicate_semantics.specs.Standing.{scalar_answer}
use Rattle.predicate_semantics.specs.Call.{Call, program_in, setup_of, run_of}

-- what a run gives
pub data Outcome : Type 0 where
  -- return value, steps
  accepts : ℕ → ℕ → Outcome
  -- number, role, completed steps
  refuses : ℕ → ℕ → ℕ → Outcome

-- an image, its entry, the range of inputs, what is lent, and what the run then gives
pub record Case : Type 0 where
  pub image : List ℕ
  pub entry : ℕ
  pub range : InputRange
  pub rows : ℕ
  pub entries : ℕ
  pub outcome : Outcome

-- the event count and the events where the example of the program has them
unfoldable pub symbols : ℕ → Rv32SymbolLayout
symbols entry = record { entry = entry; event_count = 0x80001000; events = 0x80001004 }

-- an image from such an entry, over a range, with so many rows and trace entries lent
unfoldable pub calling : List ℕ → ℕ → InputRange → ℕ → ℕ → Call
calling image entry range rows entries = record { image = image; program = record { symbols = symbols entry }; range = range; rows = rows; entries = entries }

-- the answer, with the steps that the run completed, is the outcome
unfoldable pub meets : Outcome → ℕ → Tested RunResult → Bool
meets (accepts value steps) completed (passed r) = eqb r.return_value value && eqb r.steps steps
meets (accepts value steps) completed (refused r) = false
meets (refuses number role steps) completed (passed r) = false
meets (refuses number role steps) completed (refused r) =
    eqb (number_of r) number && eqb (role_in r) role && eqb completed steps

-- the run of a case gives its outcome
unfoldable pub holds : Case → Bool
holds c =
    let e : Ended = run_of (calling c.image c.entry c.range c.rows c.entries) in
    meets c.outcome e.state.steps e.answer

-- every case of a table does
unfoldable pub all_hold : List Case → Bool
all_hold [] = true
all_hold (c ∷ cs) = holds c && all_hold cs

-- with what the program `lane-run` lends, from the image's first byte
unfoldable pub plain : List ℕ → Outcome → Case
plain image outcome = record { image = image; entry = image_base; range = invalid_channels; rows = 200; entries = 2048; outcome = outcome }

-- a case over another range
unfoldable pub ranging : ℕ → ℕ → Case → Case
ranging first last c =
    record { image = c.image; entry = c.entry; range = record { first = first; last = last }; rows = c.rows; entries = c.entries; outcome = c.outcome }

-- C.JR x1 from stop, with so many rows and no trace entry lent
unfoldable pub at_stop : ℕ → Outcome → Case
at_stop rows outcome = record { image = 0x82 ∷ 0x80 ∷ []; entry = stop; range = invalid_channels; rows = rows; entries = 0; outcome = outcome }

-- the bytes of a word, and of a halfword
unfoldable pub word : ℕ → List ℕ
word w = w % 256 ∷ w / 256 % 256 ∷ w / 65536 % 256 ∷ w / 16777216 % 256 ∷ []

unfoldable pub half : ℕ → List ℕ
half h = h % 256 ∷ h / 256 % 256 ∷ []

-- C.LI x10, 1 and C.JR x1
unfoldable pub return1 : List ℕ
return1 = half 0x4505 ++ half 0x8082

-- the table
unfoldable pub cases : List Case
cases =
    -- * Entry = stop: 7, role 6, 0 steps
    record { image = 0x82 ∷ 0x80 ∷ []; entry = stop; range = invalid_channels; rows = 200; entries = 2048; outcome = refuses 7 6 0 }
    -- so too with no trace lent
    ∷ at_stop 200 (refuses 7 6 0)
    -- * Image 82 80: 7, role 6, 1 step
    ∷ plain (0x82 ∷ 0x80 ∷ []) (refuses 7 6 1)
    -- * 2E 85 82 80 (x10 from x11): 6, role 6; the slip of calling unknown zeros equal accepts it
    ∷ plain (0x2E ∷ 0x85 ∷ 0x82 ∷ 0x80 ∷ []) (refuses 6 6 2)
    -- * AD 8D 2E 85 82 80 (x11 XOR itself first): 6
    ∷ plain (0xAD ∷ 0x8D ∷ 0x2E ∷ 0x85 ∷ 0x82 ∷ 0x80 ∷ []) (refuses 6 6 3)
    -- * 13 35 65 00 82 80 (SLTIU 6): return 0
    ∷ plain (0x13 ∷ 0x35 ∷ 0x65 ∷ 0x00 ∷ 0x82 ∷ 0x80 ∷ []) (accepts 0 2)
    -- * with 7: 7, role 6
    ∷ plain (0x13 ∷ 0x35 ∷ 0x75 ∷ 0x00 ∷ 0x82 ∷ 0x80 ∷ []) (refuses 7 6 2)
    -- * LW at 801FFFFC passes (LW x10, 12(x2); C.JR x1)
    ∷ plain (word 0x00C12503 ++ half 0x8082) (accepts 0x00100073 2)
    -- * at 801FFFFD: 5 (LW x10, 13(x2))
    ∷ plain (word 0x00D12503 ++ half 0x8082) (refuses 5 0 0)
    -- * at 7FFFFFFF: 4 (LUI x11, 80000; LW x10, -1(x11))
    ∷ plain (word 0x800005B7 ++ word 0xFFF5A503 ++ half 0x8082) (refuses 4 0 1)
    -- * SB at the image's end, 8000000C, passes (LUI x11, 80000; SB x0, 12(x11))
    ∷ plain (word 0x800005B7 ++ word 0x00058623 ++ return1) (accepts 1 4)
    -- * one lower: 11
    ∷ plain (word 0x800005B7 ++ word 0x000585A3 ++ return1) (refuses 11 0 1)
    -- * Four rows and a store only to stop: passes (SW x0, 12(x2))
    ∷ record { image = word 0x00012623 ++ return1; entry = image_base; range = invalid_channels; rows = 4; entries = 2048; outcome = accepts 1 3 }
    -- a row short for a store elsewhere (SW x0, 8(x2)): 13; under four rows: 13 before any step, also at stop
    ∷ record { image = word 0x00012423 ++ return1; entry = image_base; range = invalid_channels; rows = 7; entries = 2048; outcome = refuses 13 0 0 }
    ∷ record { image = return1; entry = stop; range = invalid_channels; rows = 3; entries = 2048; outcome = refuses 13 0 0 }
    -- .. and below the image's end, 11 comes first (LUI x11, 80000; SB x0, 11(x11))
    ∷ record { image = word 0x800005B7 ++ word 0x000585A3 ++ return1; entry = image_base; range = invalid_channels; rows = 4; entries = 2048; outcome = refuses 11 0 1 }
    -- a trace entry short: 14; a word without a row comes before it: 9 (EBREAK)
    ∷ record { image = return1; entry = image_base; range = invalid_channels; rows = 200; entries = 1; outcome = refuses 14 0 1 }
    ∷ record { image = word 0x00100073; entry = image_base; range = invalid_channels; rows = 200; entries = 0; outcome = refuses 9 0 0 }
    -- a branch that is taken (BEQ x0, x0, 6, past a C.JR of x0, which is refused), and one that is not (BNE x0, x0, 6)
    ∷ plain (word 0x00000363 ++ half 0x8002 ++ return1) (accepts 1 3)
    ∷ plain (word 0x00001363 ++ return1) (accepts 1 3)
    -- slipped: testing JALR before clearing bit 0 (ANDI x11, x10, 1; C.ADD x11, x1; C.LI x10, 1; C.JR x11)
    ∷ plain (word 0x00157593 ++ half 0x9586 ++ half 0x4505 ++ half 0x8582) (accepts 1 4)
    -- slipped: counting SB at the event address (LUI x11, 80001; C.LI x12, 1; SB x12, 0(x11)); SW is counted
    ∷ plain (word 0x800015B7 ++ half 0x4605 ++ word 0x00C58023 ++ return1) (refuses 12 0 5)
    ∷ plain (word 0x800015B7 ++ half 0x4605 ++ word 0x00C5A023 ++ return1) (accepts 1 5)
    -- one lane agrees with itself: 7 to 7 at stop is accepted with no step and no trace; 7 to 8 there are two
    ∷ ranging 7 7 (at_stop 200 (accepts 7 0))
    ∷ ranging 7 8 (at_stop 200 (refuses 7 6 0))
    -- the first input above the last: 17, before 13 and after 2 and 1
    ∷ ranging 5 4 (at_stop 200 (refuses 17 0 0))
    ∷ ranging 5 4 (at_stop 3 (refuses 17 0 0))
    ∷ ranging 5 4 (record { image = return1; entry = 0x7FFFFFFF; range = invalid_channels; rows = 3; entries = 0; outcome = refuses 2 0 0 })
    ∷ ranging 5 4 (plain [] (refuses 1 0 0))
    -- SLTIU 12: from 12 on it gives 0, from 11 on both, up to 11 it gives 1
    ∷ ranging 12 255 (plain (word 0x00C53513 ++ half 0x8082) (accepts 0 2))
    ∷ ranging 11 255 (plain (word 0x00C53513 ++ half 0x8082) (refuses 7 6 2))
    ∷ ranging 0 11 (plain (word 0x00C53513 ++ half 0x8082) (accepts 1 2))
    -- all 256 bytes, and the first and the last alone, of which C.JR x1 returns the input
    ∷ ranging 0 255 (plain return1 (accepts 1 2))
    ∷ ranging 0 255 (plain (half 0x8082) (refuses 7 6 1))
    ∷ ranging 0 0 (plain (half 0x8082) (accepts 0 1))
    ∷ ranging 255 255 (plain (half 0x8082) (accepts 255 1))
    ∷ []

-- each of its cases does
abbrev pub CasesHold : Type 0
CasesHold = all_hold cases ≡ true

-- the image that the lanes refuse as unknown: each scalar run of it answers 0
abbrev pub ScalarRunsGiveZero : Type 0
ScalarRunsGiveZero =
    (input : ℕ) (others : ℕ → ℕ)
    → map (λ (r : RunResult). r.return_value)
    (scalar_answer (0xAD ∷ 0x8D ∷ 0x2E ∷ 0x85 ∷ 0x82 ∷ 0x80 ∷ []) (record { symbols = symbols image_base }) input others)
    ≡ some 0

-- program counter, word after expansion, length, next program counter
abbrev pub control_step : ℕ → ℕ → ℕ → ℕ → PredicateControlStep
control_step pc word bytes next = record {
  program_counter = pc;
  instruction_word = word;
  instruction_bytes = bytes;
  next_program_counter = next;
}

-- Record: the result of the program's example, 05 45 82 80; its trace holds the words after expansion
unfoldable pub example_result : RunResult
example_result = record {
  return_value = 1;
  steps = 2;
  trace = control_step 0x80000000 0x00100513 2 0x80000002 ∷ control_step 0x80000002 0x00008067 2 0x801FFFFC ∷ [];
  events = [];
}

-- .. its numbers
unfoldable pub example_execution : PredicateTransducerExecution
example_execution = record {
  first_input = 6;
  lane_count = 250;
  return_value = 1;
  symbolic_transitions = 2;
  lane_value_operations = 500;
  sparse_memory_bytes = 4;
  event_count = 0;
}

-- an image that leaves one event: operation 2, offset 16, value 12345000, counted by an SW at 80000014
unfoldable pub one_event : List ℕ
one_event =
    -- LUI x11, 80001
    word 0x800015B7
    -- C.LI x12, 2; C.SW x12, 4(x11)
    ++ half 0x4609 ++ half 0xC1D0
    -- C.LI x12, 16; C.SW x12, 8(x11)
    ++ half 0x4641 ++ half 0xC590
    -- LUI x12, 12345; C.SW x12, 12(x11)
    ++ word 0x12345637 ++ half 0xC5D0
    -- C.LI x12, 1; SW x12, 0(x11)
    ++ half 0x4605 ++ word 0x00C5A023
    ++ return1

-- .. its result
unfoldable pub one_event_result : RunResult
one_event_result = record {
  return_value = 1;
  steps = 11;
  trace =
      control_step 0x80000000 0x800015B7 4 0x80000004
      ∷ control_step 0x80000004 0x00200613 2 0x80000006
      ∷ control_step 0x80000006 0x00C5A223 2 0x80000008
      ∷ control_step 0x80000008 0x01000613 2 0x8000000A
      ∷ control_step 0x8000000A 0x00C5A423 2 0x8000000C
      ∷ control_step 0x8000000C 0x12345637 4 0x80000010
      ∷ control_step 0x80000010 0x00C5A623 2 0x80000012
      ∷ control_step 0x80000012 0x00100613 2 0x80000014
      ∷ control_step 0x80000014 0x00C5A023 4 0x80000018
      ∷ control_step 0x80000018 0x00100513 2 0x8000001A
      ∷ control_step 0x8000001A 0x00008067 2 0x801FFFFC
      ∷ [];
  events = record { operation = 2; offset = 16; value = 0x12345000; location = 0x80000014 } ∷ [];
}

-- .. its numbers: the event's sixteen bytes and stop's four are written
unfoldable pub one_event_execution : PredicateTransducerExecution
one_event_execution = record {
  first_input = 6;
  lane_count = 250;
  return_value = 1;
  symbolic_transitions = 11;
  lane_value_operations = 2750;
  sparse_memory_bytes = 20;
  event_count = 1;
}

-- one lane that is at stop from the first, 7 to 7: its result
unfoldable pub one_input_result : RunResult
one_input_result = record { return_value = 7; steps = 0; trace = []; events = [] }

-- .. its numbers
unfoldable pub one_input_execution : PredicateTransducerExecution
one_input_execution = record {
  first_input = 7;
  lane_count = 1;
  return_value = 7;
  symbolic_transitions = 0;
  lane_value_operations = 0;
  sparse_memory_bytes = 4;
  event_count = 0;
}

-- the run of a call ends in this result, with these numbers
pub record EndsWith (c : Call) (r : RunResult) (e : PredicateTransducerExecution) : Type 0 where
  pub result : (run_of c).answer ≡ passed r
  pub numbers : execution (program_in c) (setup_of c) (run_of c).state r ≡ e

-- the three runs above, whole
pub record WorkedRuns : Type 0 where
  pub example : EndsWith (calling return1 image_base invalid_channels 200 2048) example_result example_execution
  pub one_event_case : EndsWith (calling one_event image_base invalid_channels 200 2048) one_event_result one_event_execution
  pub one_input : EndsWith (calling return1 stop (record { first = 7; last = 7 }) 4 0) one_input_result one_input_execution
