use Rattle.std.proofs.Common.{arith}
use Rattle.riscv_decode.proofs.Numbers.{unnamed}
use Rattle.riscv_decode.proofs.operations.computing_of.Goals as goal

pub returns-in_default : goal.returns-in_default
returns-in_default c = unnamed _ c.args.word (λ h. omega arith)
