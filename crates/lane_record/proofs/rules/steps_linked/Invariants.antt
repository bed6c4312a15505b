use Rattle.predicate_semantics.specs.Program.{stop}
use Rattle.predicate_trace.specs.Trace.{steps_at}
use Rattle.lane_record.specs.Rules.{linked}
use Rattle.lane_record.proofs.LoopLaws.{Linking}
use Rattle.lane_record.proofs.rules.steps_linked.Given as goal

abbrev pub invariant-loop-item : goal.invariant-loop-item
invariant-loop-item l =
    (goal.iterator-loop-item).can_next l.item-iterator
    × (goal.iterator-loop-item).is_finite l.item-iterator
    × Linking l.p (linked stop (steps_at l.p l.n l.items)) l.item-iterator.iter.size l.item-iterator.iter.rest.now l.item-iterator.n l.due
