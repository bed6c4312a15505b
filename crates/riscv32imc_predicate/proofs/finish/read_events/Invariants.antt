use Rattle.riscv32imc_predicate.proofs.AtStop.{Filling}
use Rattle.riscv32imc_predicate.proofs.finish.read_events.Given as goal

abbrev pub invariant-loop-i : goal.invariant-loop-i
invariant-loop-i l = Filling l.image l.rows l.from l.count l.locations l.events l.i
