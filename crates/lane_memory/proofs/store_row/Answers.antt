use Rattle.std.proofs.Common.{◌∙◌, arith}
use Rattle.lane_memory.proofs.RowBytes.{put_row}
use Rattle.lane_memory.proofs.Seek.{takes_inside, takes_row}
use Rattle.lane_memory.proofs.store_row.Goals as goal

pub returns-in-At : goal.returns-in-At
returns-in-At g c =
    let rows = c.args.rows.now in
    let start = g.S.Stored.start c.args.stored.now c.args.place c.args.address in
    put_row rows c.in-At.row start (omega arith) c.write.ensures.row (takes_inside rows c.args.address c.find.ensures c.in-At.is) c.write.ensures.short
    ∙ takes_row rows c.args.address c.find.ensures c.in-At.is start
