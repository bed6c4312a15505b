-- What straight-line code reads of an item, and leaves of one. Assumes nothing.
use mathlib.Core.Path.{◌≡◌}
use mathlib.Core.List.{List}
use Prim.Native.Nat.{ℕ, suc, ◌+◌}
use native.Mathlib.Numerals.{add-one, add-four, add_five, add_eight}
use native.Mathlib.Nat.{add_assoc}
use native.Mathlib.Omega.{arith}
use lib.ListN.{take, drop}
use lib.Seq.{sets, drop-drop}
use Rattle.little_endian.specs.Number as number
use Rattle.little_endian.specs.Pack.{unpack}
use Rattle.predicate_answer.specs.declared.CompiledMmioEvent.{CompiledMmioEvent}
use Rattle.predicate_answer.specs.declared.PredicateTransducerExecution.{PredicateTransducerExecution}
use Rattle.predicate_trace.specs.Trace.{step_widths, step_of}
use Rattle.predicate_answer.specs.declared.RecordRefusal.{RecordRefusal}
use Rattle.lane_record.specs.Format.{kind_byte, heading, event, refusal, widths, item, execution_values, event_values, event_from, refusal_values}
use Rattle.lane_record.specs.Decode.{execution_at, refusal_at}

-- ---- read
module _ (l : List ℕ) where
  abbrev at : ℕ → ℕ → ℕ
  at w i = number.value (take w (drop i l))

  pub execution_is : record {
    first_input = at 1 1;
    lane_count = at 2 2;
    return_value = at 4 4;
    symbolic_transitions = at 4 8;
    lane_value_operations = at 4 12;
    sparse_memory_bytes = at 4 16;
    event_count = at 1 20;
  } ≡ execution_at l
  execution_is = rw (drop-drop 1 1 l, drop-drop 2 2 l, drop-drop 4 4 l, drop-drop 4 8 l, drop-drop 4 12 l, drop-drop 4 16 l)

  pub refusal_is : record { number = at 1 1; role = at 1 2; steps = at 4 3 } ≡ refusal_at l
  refusal_is = rw (drop-drop 1 1 l, drop-drop 1 2 l)

  pub event_is : (i : ℕ) → record { operation = at 4 i; offset = at 4 (i + 4); value = at 4 (i + 8); location = at 4 (i + 12) } ≡ event_from (unpack (widths event) (drop i l))
  event_is i = rw (drop-drop 4 i l, drop-drop 4 (i + 4) l, drop-drop 4 (i + 4 + 4) l, add_assoc i 4 4, add_assoc i 8 4)

  pub step_is : (i : ℕ) → record { program_counter = at 4 i; instruction_word = at 4 (i + 4); instruction_bytes = at 1 (i + 8); next_program_counter = at 4 (i + 9) }
      ≡ step_of (unpack step_widths (drop i l))
  step_is i = rw (drop-drop 4 i l, drop-drop 4 (i + 4) l, drop-drop 1 (i + 4 + 4) l, add_assoc i 4 4, add_assoc i 8 1)

-- ---- written: each call's list by what it ensures
module _ (l : List ℕ) where
  pub execution_put : {l1 l2 l3 l4 l5 l6 l7 l8 : List ℕ} (e : PredicateTransducerExecution)
      → (l1 ≡ sets l 0 (number.bytes 1 (kind_byte heading))) × (l2 ≡ sets l1 1 (number.bytes 1 e.first_input)) × (l3 ≡ sets l2 2 (number.bytes 2 e.lane_count))
      × (l4 ≡ sets l3 4 (number.bytes 4 e.return_value)) × (l5 ≡ sets l4 8 (number.bytes 4 e.symbolic_transitions))
      × (l6 ≡ sets l5 12 (number.bytes 4 e.lane_value_operations)) × (l7 ≡ sets l6 16 (number.bytes 4 e.sparse_memory_bytes))
      × (l8 ≡ sets l7 20 (number.bytes 1 e.event_count))
      → l8 ≡ sets l 0 (item heading (execution_values e))
  execution_put e p = rw (p.7, p.6, p.5, p.4, p.3, p.2, p.1, p.0)

  pub refusal_put : {l1 l2 l3 l4 : List ℕ} (f : RecordRefusal)
      → l1 ≡ sets l 0 (number.bytes 1 (kind_byte refusal)) → l2 ≡ sets l1 1 (number.bytes 1 f.number) → l3 ≡ sets l2 2 (number.bytes 1 f.role)
      → l4 ≡ sets l3 3 (number.bytes 4 f.steps) → l4 ≡ sets l 0 (item refusal (refusal_values f))
  refusal_put f p1 p2 p3 p4 = rw (p4, p3, p2, p1)

  pub event_put : {l1 l2 l3 l4 l5 : List ℕ} (i : ℕ) (e : CompiledMmioEvent)
      → l1 ≡ sets l i (number.bytes 1 (kind_byte event)) → l2 ≡ sets l1 (i + 1) (number.bytes 4 e.operation) → l3 ≡ sets l2 (i + 5) (number.bytes 4 e.offset)
      → l4 ≡ sets l3 (i + 9) (number.bytes 4 e.value) → l5 ≡ sets l4 (i + 13) (number.bytes 4 e.location) → l5 ≡ sets l i (item event (event_values e))
  event_put i e p1 p2 p3 p4 p5 =
      let n9 : i + 9 ≡ suc (suc (suc (suc (suc (i + 4))))) = omega arith in
      let n13 : i + 13 ≡ suc (suc (suc (suc (suc (i + 8))))) = omega arith in
      rw (p5, p4, p3, p2, p1, add-one i, add_five i, n9, n13, add-four i, add_eight i)
