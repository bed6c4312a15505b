use Rattle.std.proofs.Common.{◌≡◌, length, rules}
use Rattle.lane_word.specs.Word.{lanes}
use Rattle.riscv32imc_predicate.proofs.Filing.{start_held}
use Rattle.riscv32imc_predicate.proofs.start.start_registers.Goals as goal

pub returns : goal.returns
returns c n h =
    let size : length c.args.x10.values ≡ lanes = search rules in
    rw c.unknown-words.ensures (start_held c.args.x10 size c.args.told c.requires n h)
