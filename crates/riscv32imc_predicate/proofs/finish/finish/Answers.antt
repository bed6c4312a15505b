use Rattle.std.proofs.Common.{inl, inr}
use Rattle.riscv32imc_predicate.proofs.Exits.{exit}
use Rattle.riscv32imc_predicate.proofs.AtStop.{return_refused, count_refused, many_events, other_count, events_refused, events_found}
use Rattle.riscv32imc_predicate.proofs.finish.finish.Goals as goal

pub returns-in_err-return_value : goal.returns-in_err-return_value
returns-in_err-return_value c =
    rw (exit c.from_residual.result c.from_residual.ensures.1) (λ d s g x. return_refused g x _ c.in_err-return_value.ensures)

pub returns-in_err-count : goal.returns-in_err-count
returns-in_err-count c =
    rw (exit c.from_residual-in_err-count.result c.from_residual-in_err-count.ensures.1) (λ d s g x. count_refused g x _ c.in_ok-return_value.ensures _ c.in_err-count.ensures)

pub returns-in_err-events : goal.returns-in_err-events
returns-in_err-events c =
    rw (exit c.from_residual-in_err-events.result c.from_residual-in_err-events.ensures.1) (λ d s g x. events_refused g x _ c.in_ok-return_value.ensures _ c.in_ok-count.ensures c.if-count-gt-EVENT_LIMIT.false c.if-count-recorded.false _ c.in_err-events.ensures)

pub returns : goal.returns
returns c = λ d s g x. events_found g x _ c.in_ok-return_value.ensures _ c.in_ok-count.ensures c.if-count-gt-EVENT_LIMIT.false c.if-count-recorded.false _ c.in_ok-events.ensures

pub returns-then-count-gt-EVENT_LIMIT : goal.returns-then-count-gt-EVENT_LIMIT
returns-then-count-gt-EVENT_LIMIT c = λ d s g x.
    elim c.then-count-gt-EVENT_LIMIT.either [
      | inl h ↦ many_events g x _ c.in_ok-return_value.ensures _ c.in_ok-count.ensures h
      | inr h ↦ other_count g x _ c.in_ok-return_value.ensures _ c.in_ok-count.ensures h.0 h.1
    ]
