use Rattle.std.specs.Prelude.{Err, None, Ok, Some}
use Rattle.std.proofs.Common.{sym}
use Rattle.riscv32imc_predicate.proofs.Exits.{exit}
use Rattle.lane_word.specs.Word.{lanes}
use Rattle.lane_word.proofs.ToldLaws.{unary_constant}
use Rattle.predicate_action.specs.Meaning.{extension_of}
use Rattle.predicate_semantics.specs.Tested.{◌>>=◌}
use Rattle.lane_access.specs.Seen.{seen}
use Rattle.lane_access.proofs.Laws.{access_inside, access_outside, loads}
use Rattle.riscv32imc_predicate.proofs.decide.load.Goals as goal

pub returns-in_err-address : goal.returns-in_err-address
unfolding ◌>>=◌
returns-in_err-address c =
    rw (exit c.from_residual.result c.from_residual.ensures.1) (λ w r. rw (sym c.in_err-address.ensures), tt)

pub returns-in_err-loaded : goal.returns-in_err-loaded
unfolding ◌>>=◌
returns-in_err-loaded c =
    let h = loads c.args.image.now c.args.rows.now c.args.width c.in_ok-address.address (Err _) c.in_err-loaded.ensures in
    rw (exit c.from_residual-in_err-loaded.result c.from_residual-in_err-loaded.ensures.1) (λ w r. rw (sym c.in_ok-address.ensures, access_outside (seen c.args.image.now c.args.rows.now) c.args.width c.in_ok-address.address _ h), tt)

pub returns-in-Some : goal.returns-in-Some
unfolding ◌>>=◌
returns-in-Some c =
    let m = seen c.args.image.now c.args.rows.now in
    let h = loads c.args.image.now c.args.rows.now c.args.width c.in_ok-address.address (Ok (Some c.in-Some.value)) (rw c.in-Some.is at c.in_ok-loaded.ensures) in (
      λ w r.
          rw (
            sym c.in_ok-address.ensures,
            access_inside m c.args.width c.in_ok-address.address h.0,
            h.1,
            unary_constant (extension_of c.args.extension) lanes c.in-Some.value,
            c.extend_value.ensures,
          ),
      tt,
    )

pub returns-in-None : goal.returns-in-None
unfolding ◌>>=◌
returns-in-None c =
    let m = seen c.args.image.now c.args.rows.now in
    let h = loads c.args.image.now c.args.rows.now c.args.width c.in_ok-address.address (Ok None) (rw c.in-None.is at c.in_ok-loaded.ensures) in
    (λ w r. rw (sym c.in_ok-address.ensures, access_inside m c.args.width c.in_ok-address.address h), h)
