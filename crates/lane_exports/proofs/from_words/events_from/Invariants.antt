use Rattle.lane_exports.proofs.WordLaws.{Gathering}
use Rattle.lane_exports.proofs.from_words.events_from.Given as goal

abbrev pub invariant-loop-k : goal.invariant-loop-k
invariant-loop-k l = Gathering l.s l.event-items l.k
