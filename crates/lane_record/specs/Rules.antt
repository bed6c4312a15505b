-- The record's rules (Record): the one definition that its writer and its reader cite.
use Rattle.std.specs.Prelude.{Bool, true, cond, ◌&&◌, ◌||◌, List, [], ◌∷◌, ℕ, ◌+◌, ◌-◌, ◌*◌, eqb, leb, length}
use Rattle.riscv32imc.specs.Constants.{max_memory_bytes, max_steps}
use Rattle.lane_word.specs.Range.{most_inputs}
use Rattle.predicate_trace.specs.declared.PredicateControlStep.{PredicateControlStep}
use Rattle.predicate_answer.specs.declared.PredicateTransducerExecution.{PredicateTransducerExecution}
use Rattle.predicate_semantics.specs.Program.{stop}
use Rattle.predicate_answer.specs.Blank.{max_events, last_refusal, last_role}
use Rattle.predicate_answer.specs.declared.RecordRefusal.{RecordRefusal}
use Rattle.lane_record.specs.Format.{Record, accepted, refused}

-- from low to high, both of them too
abbrev pub within : ℕ → ℕ → ℕ → Bool
within low x high = leb low x && leb x high

-- the fewest written bytes: stop's four
abbrev pub min_written_bytes : ℕ
min_written_bytes = 4

-- the most: all of memory but the image, which is never written and has a byte at least
abbrev pub max_written_bytes : ℕ
max_written_bytes = max_memory_bytes - 1

-- a range of bytes: one input at least, and the last is a byte
abbrev pub range_valid : ℕ → ℕ → Bool
range_valid first count = leb 1 count && leb (first + count) most_inputs

-- the fewest steps of so many lanes: none where one lane alone is at stop from the first, for two differ there
abbrev pub fewest_steps : ℕ → ℕ
fewest_steps count = cond (eqb count 1) 0 1

-- the numbers of the heading, each against what a run can give
abbrev pub execution_valid : PredicateTransducerExecution → Bool
execution_valid e =
    range_valid e.first_input e.lane_count
    && within (fewest_steps e.lane_count) e.symbolic_transitions max_steps
    && eqb e.lane_value_operations (e.lane_count * e.symbolic_transitions)
    && within min_written_bytes e.sparse_memory_bytes max_written_bytes
    && leb e.event_count max_events

-- a step that has an instruction's length, and leads to the counter c
abbrev pub link : PredicateControlStep → ℕ → Bool
link s c = (eqb s.instruction_bytes 2 || eqb s.instruction_bytes 4) && eqb s.next_program_counter c

-- a step that has an instruction's length, at the counter c
abbrev pub follows : PredicateControlStep → ℕ → Bool
follows s c = eqb c s.program_counter && (eqb s.instruction_bytes 2 || eqb s.instruction_bytes 4)

-- the counter that steps begin at; without a step, the one that they end at
abbrev pub begins : ℕ → List PredicateControlStep → ℕ
begins end [] = end
begins end (s ∷ ss) = s.program_counter

-- every step leads to the one after it, and the last to end
abbrev pub linked : ℕ → List PredicateControlStep → Bool
linked end [] = true
linked end (s ∷ ss) = link s (begins end ss) && linked end ss

-- of the refusals only 6 and 7 have a role
abbrev pub role_valid : ℕ → ℕ → Bool
role_valid number role = cond (eqb number 6 || eqb number 7) (within 1 role last_role) (eqb role 0)

-- a refusal that a run gives, its role, and no more steps than a run takes
abbrev pub refusal_valid : RecordRefusal → Bool
refusal_valid f = within 1 f.number last_refusal && role_valid f.number f.role && leb f.steps max_steps

-- the rules, all of them; the first item says how many events and steps there are
abbrev pub valid : Record → Bool
valid (accepted e es ss) =
    execution_valid e && eqb (length es) e.event_count && eqb (length ss) e.symbolic_transitions && linked stop ss
valid (refused f) = refusal_valid f
