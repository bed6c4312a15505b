use Rattle.std.proofs.Common.{◌≡◌, rules, sym, ◌∙◌}
use lib.ListN.{length-replicate, get_or-replicate}
use Rattle.lane_word.specs.Word.{lanes, constant}
use Rattle.lane_memory.proofs.join_value.Goals as goal

pub returns : goal.returns
unfolding constant
returns c =
    c.join_each.ensures (constant lanes c.args.low)
    (length-replicate lanes c.args.low, λ k x h p. let e : x ≡ c.args.low = search rules in e ∙ sym (get_or-replicate lanes k c.args.low 0 h))
