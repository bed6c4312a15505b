use Rattle.std.proofs.Common.{arith}
use Rattle.riscv32imc_predicate.proofs.Answering.{ran, calls, holds_none}
use Rattle.riscv32imc_predicate.proofs.execute_predicate.Goals as goal

pub run-answer-requires : goal.run-answer-requires
run-answer-requires c = holds_none c.args.rows.now _ c.unmark.ensures

pub returns : goal.returns
returns c =
    let a = c.args in
    ran a.image.now a.program a.range a.rows.now a.trace.now c.unmark.ensures
    (c.run-answer.ensures _ (calls a.image.now a.program a.range a.rows.now a.trace.now (omega arith) c.unmark.ensures)) c.clear.ensures
