use Rattle.std.proofs.Common.{ℕ, replicate, rules}
use Rattle.std.proofs.lemmas.List.{length-replicate}
use Rattle.lane_exports.specs.Boundary.{outcome_size}
use Rattle.lane_exports.proofs.WordLaws.{unmapped, outcome_put}
use Rattle.lane_exports.proofs.words.words_of.Goals as goal

pub returns : goal.returns
returns c =
    rw (c.put_events.ensures, c.put-2.ensures, c.put.ensures, c.execution_words.ensures, c.answer_words.ensures)
    (outcome_put c.args.outcome (replicate outcome_size 0) (length-replicate {A = ℕ} outcome_size 0) (search (unmapped, rules)))
