use Rattle.std.proofs.Common.{◌+◌, ◌-◌, ◌/◌, ◌%◌, ◌^◌, ◌<◌, refl, arith, lt_of_lt_of_le, pow_pos, pow_mono, shl_lt, shl_exact}
use Rattle.std.proofs.lemmas.Nat.{one_shl, mod_below}
use Rattle.riscv32imc.specs.Expansion.{place}
use Rattle.riscv32imc.proofs.compressed.bits.Goals as goal

pub returns : goal.returns
unfolding place
returns c =
    let k = c.args.high + 1 - c.args.low in
    let below : c.args.value / 2 ^ c.args.low % 2 ^ k < 2 ^ k = mod_below _ (2 ^ k) (pow_pos k) in
    rw (one_shl k 32 (omega arith), shl_exact k c.args.destination 32 below (omega arith))
    (refl, lt_of_lt_of_le (shl_lt k _ below) (pow_mono {j = 18} (omega arith)))
