use Rattle.std.proofs.Common.{◌≡◌, ◌+◌, rules, get_or, sym, ◌∙◌, refl}
use Rattle.lane_memory.specs.LentRows.{head_bytes}
use Rattle.lane_memory.specs.Rows.{lane_byte, row_byte}
use Rattle.lane_memory.proofs.RowBytes.{row_lanes, row_lane, told_none}
use Rattle.lane_memory.proofs.join_row.Goals as goal

pub returns-in-None : goal.returns-in-None
returns-in-None c =
    let row = c.args.row.now in
    let e : row_byte row ≡ lane_byte row = told_none row (sym c.told_row.ensures ∙ c.in-None.is) in
    rw e
    (refl, c.join_each.ensures (lane_byte row) (row_lanes row (search rules), λ k x h p. let e : x ≡ get_or row (head_bytes + k) 0 = search rules in e ∙ row_lane row k h))
