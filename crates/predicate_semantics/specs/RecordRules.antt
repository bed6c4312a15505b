-- Record: the rules that a run's record keeps, which hold of every run.
use Rattle.std.specs.Prelude.{◌≡◌, Bool, ◌&&◌, ◌||◌, cond, ◌⊎◌, List, [], ◌∷◌, ℕ, ◌*◌, ◌≤◌, ◌<◌, ◌^◌, T, leb, eqb, length, Err}
use Rattle.std.proofs.Math.Option.{some}
use Rattle.riscv32imc.specs.Constants.{max_memory_bytes}
use Rattle.lane_word.specs.declared.InputRange.{InputRange}
use Rattle.lane_word.specs.Range.{input_count}
use Rattle.predicate_trace.specs.declared.PredicateControlStep.{PredicateControlStep}
use Rattle.predicate_answer.specs.declared.PredicateTransducerExecution.{PredicateTransducerExecution}
use Rattle.predicate_semantics.specs.Program.{Core, Program, stop}
use Rattle.predicate_answer.specs.Blank.{max_events, last_refusal, last_role}
use Rattle.predicate_semantics.specs.State.{RunResult}
use Rattle.predicate_semantics.specs.Tested.{passed}
use Rattle.predicate_answer.specs.Refusal.{RunRefusal, Refusal, of_run, of_call}
use Rattle.predicate_semantics.specs.Lane.{LaneState, Setup}
use Rattle.predicate_semantics.specs.Call.{Call, run_of}

-- a trace that leads from one address to another, each step from where the step before it led, in instructions of 2 or 4 bytes
abbrev pub Chain : ℕ → List PredicateControlStep → ℕ → Type 0
Chain from [] to = from ≡ to
Chain from (c ∷ cs) to =
    (c.program_counter ≡ from)
    × ((c.instruction_bytes ≡ 2) ⊎ (c.instruction_bytes ≡ 4))
    × Chain c.next_program_counter cs to

-- the numbers of each step that an entry holds in four bytes fit there
abbrev pub Words : List PredicateControlStep → Type 0
Words [] = Unit
Words (c ∷ cs) =
    (c.program_counter < 2 ^ 32) × (c.instruction_word < 2 ^ 32) × (c.next_program_counter < 2 ^ 32) × Words cs

-- what a halfword expands to is a number of four bytes
abbrev pub ExpandsToWords : Core → Type 0
ExpandsToWords core = (h w : ℕ) → core.expand h ≡ some w → w < 2 ^ 32

-- of every run, accepted or refused: the state that it ends in
pub record Completed (p : Program) (l : Setup) (limit : ℕ) (s : LaneState) : Type 0 where
  -- an entry for each step, and each of them lent
  pub counted : length s.trace ≡ s.steps
  pub lent : s.steps ≤ l.entries
  pub bound : s.steps ≤ limit
  pub chain : Chain p.symbols.entry s.trace s.pc
  pub words : ExpandsToWords p.core → Words s.trace

-- of an accepted run: its result too
pub record Accepted (l : Setup) (s : LaneState) (r : RunResult) : Type 0 where
  pub steps : s.steps ≡ r.steps
  pub trace : s.trace ≡ r.trace
  pub arrived : s.pc ≡ stop
  pub events : length r.events ≤ max_events
  -- stop's four are written, none of the image's is, and each has a row
  pub written_least : 4 ≤ length s.memory
  pub written_most : length s.memory < max_memory_bytes
  pub lent : length s.memory ≤ l.rows

-- an accepted run's numbers, by its range, completed steps and written bytes
abbrev pub numbers_over : InputRange → ℕ → ℕ → RunResult → PredicateTransducerExecution
numbers_over range steps written r = record {
  first_input = range.first;
  lane_count = input_count range;
  return_value = r.return_value;
  symbolic_transitions = r.steps;
  lane_value_operations = input_count range * steps;
  sparse_memory_bytes = written;
  event_count = length r.events;
}

-- a run is accepted with no step only over one input: where entry is stop, inputs that differ refuse the run
abbrev pub TakesStep : Type 0
TakesStep =
    (c : Call) (r : RunResult) → (run_of c).answer ≡ passed r → (1 ≤ r.steps) ⊎ (input_count c.range ≡ 1)

-- the refusals that a record can hold: a role goes with 6 and 7 alone
unfoldable pub proper : RunRefusal → Bool
proper r =
    leb 1 r.number && leb r.number last_refusal
    && cond (eqb r.number 6 || eqb r.number 7) (leb 1 r.role && leb r.role last_role) (eqb r.role 0)

-- a refusal of the run is one of these, and one of the call is for what its caller chose
abbrev pub ProperRefusal : Setup → Refusal → Type 0
ProperRefusal l (of_run q) = T (proper q)
ProperRefusal l (of_call e) = l.choice ≡ Err e
