use Rattle.lane_record.specs.Decode.{kinds_are}
use Rattle.lane_record.proofs.LoopLaws.{Kinds}
use Rattle.lane_record.proofs.reader.kinds_are.Given as goal

abbrev pub invariant-loop-item : goal.invariant-loop-item
invariant-loop-item l =
    (goal.iterator-loop-item).can_next l.item-iterator
    × (goal.iterator-loop-item).is_finite l.item-iterator
    × Kinds l.kind l.z (kinds_are l.kind l.z l.n l.items) l.item-iterator.iter.size l.item-iterator.iter.rest.now l.item-iterator.n
