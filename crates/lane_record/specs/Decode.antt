-- The record that bytes are (Record), read by position.
use Rattle.std.specs.Prelude.{Bool, true, cond, ◌&&◌, List, map, ℕ, zero, suc, ◌+◌, ◌*◌, eqb, length, get_or, drop}
use Rattle.std.proofs.Math.Option.{Option, none, some}
use Rattle.little_endian.specs.Pack.{unpack, unpacks}
use Rattle.predicate_answer.specs.declared.CompiledMmioEvent.{CompiledMmioEvent}
use Rattle.predicate_answer.specs.declared.PredicateTransducerExecution.{PredicateTransducerExecution}
use Rattle.predicate_trace.specs.Trace.{steps_at}
use Rattle.predicate_answer.specs.declared.RecordRefusal.{RecordRefusal}
use Rattle.lane_record.specs.Format.{Kind, heading, event, step, refusal, kind_byte, widths, size, Record, accepted, refused, execution_from, event_from, refusal_from}
use Rattle.lane_record.specs.Rules.{valid}

-- the heading's fields, n events, and a refusal, each after its first byte
abbrev pub execution_at : List ℕ → PredicateTransducerExecution
execution_at bs = execution_from (unpack (widths heading) (drop 1 bs))

abbrev pub events_at : ℕ → List ℕ → List CompiledMmioEvent
events_at n bs = map event_from (unpacks 1 (widths event) n bs)

abbrev pub refusal_at : List ℕ → RecordRefusal
refusal_at bs = refusal_from (unpack (widths refusal) (drop 1 bs))

-- where the steps begin: after 01 and its events
abbrev pub steps_from : PredicateTransducerExecution → ℕ
steps_from e = size heading + e.event_count * size event

-- as many events and steps as the heading says
abbrev pub accepted_at : PredicateTransducerExecution → List ℕ → Record
accepted_at e bs =
    accepted e (events_at e.event_count (drop (size heading) bs)) (steps_at 1 e.symbolic_transitions (drop (steps_from e) bs))

-- n bytes, each z from the one before, are all m
abbrev pub kinds_are : ℕ → ℕ → ℕ → List ℕ → Bool
kinds_are m z zero bs = true
kinds_are m z (suc n) bs = eqb (get_or bs 0 0) m && kinds_are m z n (drop z bs)

-- n items of one kind begin the bytes
abbrev pub items_are : Kind → ℕ → List ℕ → Bool
items_are k n bs = kinds_are (kind_byte k) (size k) n bs

-- the bytes are just the items that the heading counts, each of its kind, and nothing more
abbrev pub accepted_form : PredicateTransducerExecution → List ℕ → Bool
accepted_form e bs =
    eqb (length bs) (steps_from e + e.symbolic_transitions * size step)
    && eqb (get_or bs 0 0) (kind_byte heading)
    && items_are event e.event_count (drop (size heading) bs)
    && items_are step e.symbolic_transitions (drop (steps_from e) bs)

-- a record, if the test holds
abbrev pub ruled : Bool → Record → Option Record
ruled test r = cond test (some r) none

-- a refusal that keeps the rules; a heading, events and steps that do
abbrev pub refused_in : List ℕ → Option Record
refused_in bs = ruled (eqb (length bs) (size refusal) && valid (refused (refusal_at bs))) (refused (refusal_at bs))

abbrev pub accepted_in : PredicateTransducerExecution → List ℕ → Option Record
accepted_in e bs = ruled (accepted_form e bs && valid (accepted_at e bs)) (accepted_at e bs)

-- the record that the bytes are, if they have the form of one that keeps the rules
unfoldable pub decode_record : List ℕ → Option Record
decode_record bs = cond (eqb (get_or bs 0 0) (kind_byte refusal)) (refused_in bs) (accepted_in (execution_at bs) bs)
