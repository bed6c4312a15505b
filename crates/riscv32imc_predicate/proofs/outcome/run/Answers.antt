-- The tests before any step, then the run from its first state.
use Rattle.std.proofs.Common.{refl, sym}
use Rattle.predicate_answer.specs.Refusal.{refusal_of, of_call}
use Rattle.predicate_semantics.specs.Lane.{begin}
use Rattle.predicate_trace.specs.Trace.{put_entries}
use Rattle.riscv32imc_predicate.specs.Setting.{first_state}
use Rattle.riscv32imc_predicate.proofs.Running.{run_refused_first, reports_refused, runs_as}
use Rattle.riscv32imc_predicate.proofs.outcome.run.Goals as goal

pub started-requires : goal.started-requires
started-requires c = (c.requires, rw (← c.row_count-rows_lent.ensures, ← c.range_test.ensures) (sym c.in-Ok.ensures))

pub returns-in-Err-Run : goal.returns-in-Err-Run
unfolding begin put_entries
returns-in-Err-Run c x k =
    let e = c.in-Err-Run.error in
    let t = rw c.in-Err-Run.field-0-is at c.in-Err-Run.ensures in
    runs_as k (run_refused_first k (refusal_of e) (rw (← c.row_count-rows_lent.ensures, ← c.range_test.ensures) (sym t)))
    (reports_refused c.args.range (first_state x) _ e 0 refl refl (rw c.in-Err-Run.field-0-is at c.refused.ensures)) (sym k.same_lent) refl

pub returns-in-Err-Call : goal.returns-in-Err-Call
unfolding begin put_entries
returns-in-Err-Call c x k =
    let t = rw c.in-Err-Call.field-0-is at c.in-Err-Call.ensures in
    rw c.in-Err-Call.field-0-is
    (runs_as k (run_refused_first k (of_call c.in-Err-Call.error) (rw (← c.row_count-rows_lent.ensures, ← c.range_test.ensures) (sym t)))
    refl (sym k.same_lent) refl)

pub returns-in-Ok : goal.returns-in-Ok
returns-in-Ok c x k = c.started.ensures x k
