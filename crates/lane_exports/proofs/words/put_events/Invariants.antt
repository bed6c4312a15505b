use Rattle.std.proofs.Common.{◌≡◌, ◌+◌, ◌*◌, drop}
use Rattle.std.proofs.lemmas.List.Edits.{sets}
use Rattle.lane_exports.specs.Boundary.{event_words_at, event_words}
use Rattle.lane_exports.proofs.words.put_events.Given as goal

abbrev pub invariant-loop-k : goal.invariant-loop-k
invariant-loop-k l = sets l.fn.s event_words_at (event_words l.events) ≡ sets l.s (event_words_at + l.k * 4) (event_words (drop l.k l.events))
