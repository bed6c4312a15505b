use Rattle.std.proofs.Common.{◌≡◌, ◌+◌, map, drop}
use Rattle.std.proofs.lemmas.List.Edits.{sets}
use Rattle.rv32_arithmetic.specs.Bits.{byte_of}
use Rattle.lane_memory.specs.LentRows.{head_bytes}
use Rattle.lane_memory.proofs.LaneWordStored.write.Given as goal

abbrev pub invariant-loop-lane : goal.invariant-loop-lane
invariant-loop-lane l =
    let bytes = map (λ v. byte_of v l.fn.place) l.self.values in
    sets l.initial.row head_bytes bytes ≡ sets l.row (head_bytes + l.lane) (drop l.lane bytes)
