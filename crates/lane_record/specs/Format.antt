-- The bytes of a record (Record): items, each led by a byte that says its kind, and so how long it is.
use Rattle.std.specs.Prelude.{List, [], ◌∷◌, ◌++◌, map, ℕ, ◌+◌, get_or}
use Rattle.little_endian.specs.Pack.{total, pack, packs, Fits, AllFit}
use Rattle.predicate_trace.specs.declared.PredicateControlStep.{PredicateControlStep}
use Rattle.predicate_answer.specs.declared.CompiledMmioEvent.{CompiledMmioEvent}
use Rattle.predicate_answer.specs.declared.PredicateTransducerExecution.{PredicateTransducerExecution}
use Rattle.predicate_trace.specs.Trace.{step_widths, step_values}
use Rattle.predicate_answer.specs.declared.RecordRefusal.{RecordRefusal}

pub data Kind : Type 0 where
  heading event step refusal : Kind

-- the first byte of an item
abbrev pub kind_byte : Kind → ℕ
kind_byte heading = 0x01
kind_byte event = 0x02
kind_byte step = 0x03
kind_byte refusal = 0x7F

-- the widths of a body's numbers
abbrev pub widths : Kind → List ℕ
-- first input, lanes, return value, steps, lane operations, written bytes, events
widths heading = 1 ∷ 2 ∷ 4 ∷ 4 ∷ 4 ∷ 4 ∷ 1 ∷ []
-- operation, offset, value, location
widths event = 4 ∷ 4 ∷ 4 ∷ 4 ∷ []
widths step = step_widths
-- refusal, role, completed steps
widths refusal = 1 ∷ 1 ∷ 4 ∷ []

-- an item's length, its first byte counted
abbrev pub size : Kind → ℕ
size k = 1 + total (widths k)

-- an item, and items one after another
abbrev pub item : Kind → List ℕ → List ℕ
item k vs = kind_byte k ∷ pack (widths k) vs

abbrev pub items : Kind → List (List ℕ) → List ℕ
items k vss = packs (kind_byte k ∷ []) (widths k) vss

-- an accepted run has a heading, its events and its steps; a refused one its refusal alone
pub data Record : Type 0 where
  accepted : PredicateTransducerExecution → List CompiledMmioEvent → List PredicateControlStep → Record
  refused : RecordRefusal → Record

-- the numbers of each body, and what is made from them
abbrev pub execution_values : PredicateTransducerExecution → List ℕ
execution_values e =
    e.first_input ∷ e.lane_count ∷ e.return_value ∷ e.symbolic_transitions
    ∷ e.lane_value_operations ∷ e.sparse_memory_bytes ∷ e.event_count ∷ []

abbrev pub execution_from : List ℕ → PredicateTransducerExecution
execution_from vs =
    record {
      first_input = get_or vs 0 0;
      lane_count = get_or vs 1 0;
      return_value = get_or vs 2 0;
      symbolic_transitions = get_or vs 3 0;
      lane_value_operations = get_or vs 4 0;
      sparse_memory_bytes = get_or vs 5 0;
      event_count = get_or vs 6 0;
    }

abbrev pub event_values : CompiledMmioEvent → List ℕ
event_values e = e.operation ∷ e.offset ∷ e.value ∷ e.location ∷ []

abbrev pub event_from : List ℕ → CompiledMmioEvent
event_from vs = record { operation = get_or vs 0 0; offset = get_or vs 1 0; value = get_or vs 2 0; location = get_or vs 3 0 }

abbrev pub refusal_values : RecordRefusal → List ℕ
refusal_values f = f.number ∷ f.role ∷ f.steps ∷ []

abbrev pub refusal_from : List ℕ → RecordRefusal
refusal_from vs = record { number = get_or vs 0 0; role = get_or vs 1 0; steps = get_or vs 2 0 }

-- the record's bytes
abbrev pub encode : Record → List ℕ
encode (accepted e es ss) =
    item heading (execution_values e) ++ (items event (map event_values es) ++ items step (map step_values ss))
encode (refused f) = item refusal (refusal_values f)

-- every number fits its place; the types of the code see to that, and no rule tests it
abbrev pub FitsRecord : Record → Type 0
FitsRecord (accepted e es ss) =
    Fits (widths heading) (execution_values e) × AllFit (widths event) (map event_values es) × AllFit (widths step) (map step_values ss)
FitsRecord (refused f) = Fits (widths refusal) (refusal_values f)
