use Rattle.std.proofs.Common.{refl}
use Rattle.riscv32imc_predicate.proofs.Exits.{exit}
use Rattle.riscv32imc_predicate.proofs.Coming.{comes_limit, comes_refused, comes_next}
use Rattle.riscv32imc_predicate.proofs.ready.ready.Goals as goal

pub returns-then-bounds-place : goal.returns-then-bounds-place
returns-then-bounds-place c =
    comes_limit c.args.image.now c.args.rows.now c.args.bounds c.args.place c.if-pc.false c.if-bounds-place.true

pub returns-in_err-fetched : goal.returns-in_err-fetched
returns-in_err-fetched c =
    rw (exit c.from_residual.result c.from_residual.ensures.1) (comes_refused c.args.image.now c.args.rows.now c.args.bounds c.args.place c.if-pc.false c.if-bounds-place.false c.in_err-fetched.ensures)

pub returns : goal.returns
returns c =
    comes_next c.args.image.now c.args.rows.now c.args.bounds c.args.place c.if-pc.false c.if-bounds-place.false c.in_ok-fetched.fetched c.in_ok-fetched.ensures
    (record { same_word = refl; same_length = refl; same_action = c.action_of-action.ensures; reads = c.reading_of.ensures })
