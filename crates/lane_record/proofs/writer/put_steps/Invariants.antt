use Rattle.std.proofs.Common.{[], ◌∷◌, map, ◌+◌, ◌*◌, length}
use Rattle.std.proofs.lemmas.List.Edits.{sets}
use Rattle.predicate_trace.specs.Trace.{step_values, steps_at}
use Rattle.lane_record.specs.Format.{step, kind_byte, size, items}
use Rattle.lane_record.proofs.LoopLaws.{Moving}
use Rattle.lane_record.proofs.writer.put_steps.Given as goal

abbrev pub invariant-loop-k : goal.invariant-loop-k
invariant-loop-k l =
    (goal.iterator-loop-k).can_next l.k-iterator
    × (goal.iterator-loop-k).is_finite l.k-iterator
    × Moving (kind_byte step ∷ []) 0 (sets l.fn.s l.to (items step (map step_values (steps_at 0 l.n l.trace)))) (length l.fn.s) l.k-iterator.iter.iter.size l.s l.k-iterator.iter.iter.rest.now l.k-iterator.iter.n (l.to + l.k-iterator.count * size step)
