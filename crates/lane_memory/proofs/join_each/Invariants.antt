use Rattle.std.proofs.Common.{◌≡◌, ℕ, get_or}
use Rattle.rv32_arithmetic.specs.Bits.{join}
use Rattle.lane_word.proofs.Lanewise.{Done}
use Rattle.lane_memory.proofs.join_each.Given as goal

abbrev pub invariant-loop-lane : goal.invariant-loop-lane
invariant-loop-lane g l = Done (λ i z. (x : ℕ) × goal.F-post g l.low i x × (z ≡ join x (get_or l.initial.values i 0))) l.initial.values l.values l.lane
