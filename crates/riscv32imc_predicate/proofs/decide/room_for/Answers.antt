use Rattle.std.proofs.Common.{◌+◌, sym, arith}
use Rattle.riscv32imc_predicate.proofs.Exits.{exit}
use borrow.Author.Tests.{le-leb, lt-leb}
use Rattle.riscv32imc.specs.Constants.{image_base}
use Rattle.predicate_semantics.specs.Tested.{◌>>=◌, refuse, require}
use Rattle.predicate_semantics.specs.Lane.{room_for}
use Rattle.lane_access.proofs.Laws.{inside_fits}
use Rattle.riscv32imc_predicate.proofs.decide.room_for.Goals as goal

pub returns-in_err-range_of : goal.returns-in_err-range_of
unfolding room_for ◌>>=◌
returns-in_err-range_of c =
    rw (exit c.from_residual.result c.from_residual.ensures.1, sym c.in_err-range_of.ensures)

pub overflow_sub-address : goal.overflow_sub-address
overflow_sub-address c = let f = inside_fits c.args.address c.args.width (sym c.in_ok-range_of.ensures) in omega arith

pub returns-then-address-size : goal.returns-then-address-size
unfolding room_for ◌>>=◌ refuse require
returns-then-address-size c = rw (sym c.in_ok-range_of.ensures, lt-leb (image_base + c.args.size) c.args.address (omega arith))

pub returns-then-not-rows_suffice : goal.returns-then-not-rows_suffice
unfolding room_for ◌>>=◌ refuse require
returns-then-not-rows_suffice c =
    let f = inside_fits c.args.address c.args.width (sym c.in_ok-range_of.ensures) in
    rw (sym c.in_ok-range_of.ensures, le-leb (image_base + c.args.size) c.args.address (omega arith), sym c.if-not-rows_suffice.ensures)

pub returns : goal.returns
unfolding room_for ◌>>=◌ refuse require
returns c =
    let f = inside_fits c.args.address c.args.width (sym c.in_ok-range_of.ensures) in
    rw (sym c.in_ok-range_of.ensures, le-leb (image_base + c.args.size) c.args.address (omega arith), sym c.if-not-rows_suffice.ensures)
