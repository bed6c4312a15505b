use Rattle.riscv32imc_predicate.proofs.Exits.{exit}
use Rattle.riscv32imc_predicate.proofs.AtStop.{filling_refused, filling_exit}
use Rattle.riscv32imc_predicate.proofs.finish.read_events.Goals as goal

pub returns-in_err-event : goal.returns-in_err-event
returns-in_err-event c =
    rw (exit c.from_residual.result c.from_residual.ensures.1) (filling_refused c.loop-i.invariant c.loop-i-test.true _ c.in_err-event.ensures)

pub returns : goal.returns
returns c = filling_exit c.loop-i.invariant c.loop-i-test.false
