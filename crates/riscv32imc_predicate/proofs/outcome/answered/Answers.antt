use Rattle.std.specs.Prelude.{Result}
use Rattle.std.proofs.Common.{arith, subst}
use Rattle.predicate_answer.specs.declared.Rv32Error.{Rv32Error}
use Rattle.predicate_semantics.specs.Lane.{finish}
use Rattle.riscv32imc_predicate.specs.declared.finish.Finished.{Finished}
use Rattle.riscv32imc_predicate.specs.Finishing.{Answers}
use Rattle.riscv32imc_predicate.proofs.Running.{reports_accepted, reports_refused}
use Rattle.riscv32imc_predicate.proofs.outcome.answered.Goals as goal

pub returns-in-Err : goal.returns-in-Err
returns-in-Err c d s at h =
    let a = c.args in
    let q = subst (λ (v : Result Finished Rv32Error). Answers v s (finish d.program d.setup s)) c.in-Err.is h in
    reports_refused a.range s _ c.in-Err.error _ at.same_steps q c.refused.ensures

pub returns-in-Ok : goal.returns-in-Ok
returns-in-Ok c d s at h =
    let a = c.args in
    let f = c.in-Ok.finished in
    let q = subst (λ (v : Result Finished Rv32Error). Answers v s (finish d.program d.setup s)) c.in-Ok.is h in
    rw (c.rv32_mul.ensures, c.from.ensures, c.count-lane_count.ensures) (reports_accepted a.range s (omega arith) at d f.return_value q.0 f.events q.2 q.1)
