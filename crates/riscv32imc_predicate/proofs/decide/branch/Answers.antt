use Rattle.std.proofs.Common.{sym}
use Rattle.riscv32imc_predicate.proofs.Exits.{exit}
use borrow.Author.Tests.{eq-eqb, ne_eqb}
use Rattle.predicate_semantics.specs.Choice.{choose}
use Rattle.predicate_semantics.specs.Tested.{◌>>=◌}
use Rattle.riscv32imc_predicate.proofs.decide.branch.Goals as goal

pub returns-in_err-direction : goal.returns-in_err-direction
unfolding ◌>>=◌
returns-in_err-direction c =
    rw (exit c.from_residual.result c.from_residual.ensures.1) (λ m w r. rw (sym c.in_err-direction.ensures), tt)

pub returns-then-direction-eq0 : goal.returns-then-direction-eq0
unfolding ◌>>=◌ choose
returns-then-direction-eq0 c = (λ m w r. rw (sym c.in_ok-direction.ensures, eq-eqb _ 0 c.if-direction-eq0.true), tt)

pub returns-else-direction-eq0 : goal.returns-else-direction-eq0
unfolding ◌>>=◌ choose
returns-else-direction-eq0 c = (λ m w r. rw (sym c.in_ok-direction.ensures, ne_eqb _ 0 c.if-direction-eq0.false), tt)
