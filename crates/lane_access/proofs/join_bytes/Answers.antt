use Rattle.std.proofs.Common.{arith, rules}
use Rattle.lane_access.specs.Seen.{seen}
use Rattle.lane_access.proofs.Loads.{read_step}
use Rattle.lane_access.proofs.join_bytes.Goals as goal

pub loop-k-preserved : goal.loop-k-preserved
loop-k-preserved c =
    let l = c.loop-k in
    let m = c.args in
    (search rules, read_step (seen m.image.now m.rows.now) c.args.width c.args.address l.k (omega arith) (omega arith) l.invariant.0 l.invariant.1 c.join_at-known.ensures)
