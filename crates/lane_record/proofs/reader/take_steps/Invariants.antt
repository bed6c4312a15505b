use Rattle.std.proofs.Common.{[], ◌*◌, length}
use Rattle.std.proofs.lemmas.List.Edits.{sets}
use Rattle.predicate_trace.specs.Trace.{entry_bytes, trace_bytes, steps_at}
use Rattle.lane_record.proofs.LoopLaws.{Moving}
use Rattle.lane_record.proofs.reader.take_steps.Given as goal

abbrev pub invariant-loop-k : goal.invariant-loop-k
invariant-loop-k l =
    (goal.iterator-loop-k).can_next l.k-iterator
    × (goal.iterator-loop-k).is_finite l.k-iterator
    × Moving [] 1 (sets l.fn.trace 0 (trace_bytes (steps_at 1 l.n l.items))) (length l.fn.trace) l.k-iterator.iter.iter.size l.trace l.k-iterator.iter.iter.rest.now l.k-iterator.iter.n (l.k-iterator.count * entry_bytes)
