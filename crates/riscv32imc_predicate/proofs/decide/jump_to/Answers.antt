use Rattle.std.proofs.Common.{sym, arith}
use Rattle.riscv32imc_predicate.proofs.Exits.{exit}
use borrow.Author.Tests.{lt-ltb, le-ltb}
use Rattle.predicate_semantics.specs.Tested.{◌>>=◌, refuse, require}
use Rattle.riscv32imc_predicate.proofs.decide.jump_to.Goals as goal

pub returns-in_err-target : goal.returns-in_err-target
unfolding ◌>>=◌
returns-in_err-target c =
    rw (exit c.from_residual.result c.from_residual.ensures.1) (λ m w r. rw (sym c.in_err-target.ensures), tt)

pub returns-then-target-eq0 : goal.returns-then-target-eq0
unfolding ◌>>=◌ refuse require
returns-then-target-eq0 c = (λ m w r. rw (sym c.in_ok-target.ensures, le-ltb 0 c.in_ok-target.target (omega arith)), tt)

pub returns : goal.returns
unfolding ◌>>=◌ refuse require
returns c = (λ m w r. rw (sym c.in_ok-target.ensures, lt-ltb 0 c.in_ok-target.target (omega arith)), tt)
