use Rattle.std.proofs.Common.{sym}
use Rattle.riscv32imc_predicate.proofs.Exits.{exit}
use Rattle.predicate_semantics.specs.Tested.{◌>>=◌}
use Rattle.riscv32imc_predicate.proofs.decide.store.Goals as goal

pub returns-in_err-address : goal.returns-in_err-address
unfolding ◌>>=◌
returns-in_err-address c =
    rw (exit c.from_residual.result c.from_residual.ensures.1) (λ m w r. rw (sym c.in_err-address.ensures), tt)

pub returns-in_err-room_for : goal.returns-in_err-room_for
unfolding ◌>>=◌
returns-in_err-room_for c =
    rw (exit c.from_residual-in_err-room_for.result c.from_residual-in_err-room_for.ensures.1) (λ m w r. rw (sym c.in_ok-address.ensures, sym c.in_err-room_for.ensures), tt)

pub returns : goal.returns
unfolding ◌>>=◌
returns c = (λ m w r. rw (sym c.in_ok-address.ensures, sym c.in_ok-room_for.ensures), tt)
