use Rattle.lane_record.proofs.ItemLaws.{step_is}
use Rattle.lane_record.proofs.items.step_at.Goals as goal

pub returns : goal.returns
returns c = rw (c.get.ensures, c.get-2.ensures, c.get-3.ensures, c.get-4.ensures) (step_is c.args.s.now c.args.at)
