use Rattle.riscv32imc_predicate.proofs.Filing.{one_told}
use Rattle.riscv32imc_predicate.proofs.start.told_input.Goals as goal

pub returns : goal.returns
returns c = rw (c.then_some.ensures, c.from.ensures) (one_told c.args.range)
