use Rattle.std.proofs.Common.{map, ◌+◌, ◌*◌, length, take}
use Rattle.std.proofs.lemmas.List.Edits.{sets}
use Rattle.lane_record.specs.Format.{heading, event, size, items, event_values}
use Rattle.lane_record.proofs.LoopLaws.{Listing}
use Rattle.lane_record.proofs.writer.put_events.Given as goal

abbrev pub invariant-loop-k : goal.invariant-loop-k
invariant-loop-k l =
    Listing l.events (sets l.fn.s (size heading) (items event (map event_values (take (length l.events) l.events)))) (length l.fn.s) (length l.events) l.s l.k (size heading + l.k * size event)
