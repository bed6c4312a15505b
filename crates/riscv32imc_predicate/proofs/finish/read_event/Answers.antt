use Rattle.std.proofs.Common.{sym}
use Rattle.riscv32imc_predicate.proofs.Exits.{exit}
use Rattle.predicate_semantics.specs.Tested.{◌>>=◌}
use Rattle.predicate_semantics.specs.Lane.{event_at}
use Rattle.riscv32imc_predicate.proofs.finish.read_event.Goals as goal

pub returns-in_err-access_agreed : goal.returns-in_err-access_agreed
unfolding event_at ◌>>=◌
returns-in_err-access_agreed c =
    rw (exit c.from_residual.result c.from_residual.ensures.1, sym c.in_err-access_agreed.ensures)

pub returns-in_err-access_agreed-2 : goal.returns-in_err-access_agreed-2
unfolding event_at ◌>>=◌
returns-in_err-access_agreed-2 c =
    rw (exit c.from_residual-in_err-access_agreed-2.result c.from_residual-in_err-access_agreed-2.ensures.1, sym c.in_ok-access_agreed.ensures, sym c.in_err-access_agreed-2.ensures)

pub returns-in_err-access_agreed-3 : goal.returns-in_err-access_agreed-3
unfolding event_at ◌>>=◌
returns-in_err-access_agreed-3 c =
    rw (exit c.from_residual-in_err-access_agreed-3.result c.from_residual-in_err-access_agreed-3.ensures.1, sym c.in_ok-access_agreed.ensures, sym c.in_ok-access_agreed-2.ensures, sym c.in_err-access_agreed-3.ensures)

pub returns : goal.returns
unfolding event_at ◌>>=◌
returns c = rw (sym c.in_ok-access_agreed.ensures, sym c.in_ok-access_agreed-2.ensures, sym c.in_ok-access_agreed-3.ensures)
