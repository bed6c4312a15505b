use Rattle.std.proofs.Common.{false, sym, ◌∙◌, ℕ, map, arith}
use Rattle.std.proofs.lemmas.List.{length-map}
use lib.ListN.{get_or-map}
use Rattle.rv32_arithmetic.specs.Bits.{byte_of}
use Rattle.lane_word.specs.Word.{unary}
use Rattle.lane_memory.specs.LentRows.{head_bytes}
use Rattle.lane_memory.proofs.Loops.{sets_more, sets_all}
use Rattle.lane_memory.proofs.RowBytes.{row_set}
use Rattle.lane_memory.proofs.LaneWordStored.write.Goals as goal

pub loop-lane-preserved : goal.loop-lane-preserved
loop-lane-preserved c =
    let byte = λ (v : ℕ). byte_of v c.args.place in
    let values = c.args.self.now.values in
    c.loop-lane.invariant
    ∙ sets_more (map byte values) c.loop-lane.row head_bytes c.loop-lane.lane (byte 0) (omega (arith, length-map values byte))
    (c.stored_byte.ensures ∙ sym (get_or-map byte values c.loop-lane.lane 0))

pub returns-clause-row : goal.returns-clause-row
unfolding unary
returns-clause-row c =
    let byte = λ (v : ℕ). byte_of v c.args.place in
    let values = c.args.self.now.values in
    row_set c.args.row.now c.args.address c.args.self.now.known false (map byte values) c.write_head.ensures
    (sym (c.loop-lane.invariant ∙ sets_all (map byte values) c.loop-lane.row head_bytes c.loop-lane.lane (omega (arith, length-map values byte))))

pub returns-clause-short : goal.returns-clause-short
unfolding unary
returns-clause-short c = omega (arith, length-map c.args.self.now.values (λ v. byte_of v c.args.place))
