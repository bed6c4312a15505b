use Rattle.std.proofs.lemmas.List.Edits.{sets}
use Rattle.predicate_answer.specs.Blank.{no_events}
use Rattle.lane_record.specs.Decode.{events_at}
use Rattle.lane_record.proofs.LoopLaws.{Taking}
use Rattle.lane_record.proofs.reader.take_events.Given as goal

abbrev pub invariant-loop-k : goal.invariant-loop-k
invariant-loop-k l =
    (goal.iterator-loop-k).can_next l.k-iterator
    × (goal.iterator-loop-k).is_finite l.k-iterator
    × Taking (sets no_events 0 (events_at l.n l.items)) l.n l.k-iterator.iter.iter.size l.events l.k-iterator.iter.iter.rest.now l.k-iterator.iter.n l.k-iterator.count
