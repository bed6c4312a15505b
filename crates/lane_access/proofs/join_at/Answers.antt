use Rattle.lane_access.proofs.Loads.{joins_image, joins_rows}
use Rattle.lane_access.proofs.join_at.Goals as goal

pub returns-in-Some : goal.returns-in-Some
returns-in-Some c =
    let m = c.args in
    joins_image m.image.now c.args.address m.rows.now c.args.values.now c.in-Some.ensures c.join_value.ensures

pub returns-in-None : goal.returns-in-None
returns-in-None c =
    let m = c.args in
    joins_rows m.image.now c.args.address m.rows.now c.args.values.now c.in-None.ensures c.join_values.ensures
