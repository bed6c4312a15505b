use Rattle.std.proofs.Common.{sym, ◌∙◌, rules}
use Rattle.rv32_arithmetic.specs.Arithmetic.{srl}
use Rattle.lane_word.proofs.Divisor.{shifted_lanes}
use Rattle.lane_word.proofs.LaneWord.divu.Goals as goal

pub returns-in-Some : goal.returns-in-Some
returns-in-Some c =
    c.map_values.ensures (λ v. srl v c.in-Some.places) (λ v r p. search rules) ∙ shifted_lanes c.args.self c.args.right _ (search rules) (search rules) (sym c.in-Some.ensures)
