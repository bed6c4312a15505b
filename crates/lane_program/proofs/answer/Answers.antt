use Rattle.std.proofs.Common.{rules, refl}
use Rattle.lane_program.proofs.Laws.{first_taken}
use Rattle.lane_program.proofs.answer.Goals as goal

pub returns-in-Some : goal.returns-in-Some
returns-in-Some c = rw c.in-Some.is (rw (c.min.ensures, first_taken c.in-Some.count c.args.input (search rules)) at c.record_input.ensures)

pub returns-in_default : goal.returns-in_default
returns-in_default c = rw c.in_default.is (refl, refl)
