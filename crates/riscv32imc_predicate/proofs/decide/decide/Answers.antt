use Rattle.std.proofs.Common.{ℕ, false, ap, ◌∙◌}
use Rattle.riscv32imc_predicate.proofs.Exits.{exit}
use borrow.Author.Tests.{lt-ltb, le-ltb}
use Rattle.lane_word.specs.declared.LaneWord.{LaneWord}
use Rattle.predicate_semantics.specs.State.{Effect}
use Rattle.predicate_semantics.specs.Tested.{Tested, passed, ◌>>=◌, refuse, require}
use Rattle.predicate_semantics.specs.Lane.{execute}
use Rattle.riscv32imc_predicate.specs.Changes.{last_tested}
use Rattle.riscv32imc_predicate.proofs.Following.{last_open}
use Rattle.riscv32imc_predicate.proofs.decide.decide.Goals as goal

pub returns-in_err-step : goal.returns-in_err-step
unfolding ◌>>=◌
returns-in_err-step c =
    rw (exit c.from_residual.result c.from_residual.ensures.1) (
      λ d s g left right o.
          ap (λ (t : Tested (Effect LaneWord)). last_tested t c.args.place.steps c.args.entries)
          (c.in_err-step.ensures.0 d s g left right o ∙ ap (λ (k : ℕ). execute d.program d.setup s k c.args.progress.action) c.rv32_add-following.ensures),
      tt,
    )

pub returns-then-entries-place : goal.returns-then-entries-place
unfolding ◌>>=◌ refuse require
returns-then-entries-place c = (
  λ d s g left right o.
      rw (le-ltb _ _ c.if-entries-place.true)
      (ap (λ (t : Tested (Effect LaneWord)). t >>= λ e. require 14 false >>= λ _. passed e)
      (c.in_ok-step.ensures.0 d s g left right o ∙ ap (λ (k : ℕ). execute d.program d.setup s k c.args.progress.action) c.rv32_add-following.ensures)),
  tt,
)

pub returns : goal.returns
returns c = (
  λ d s g left right o.
      rw (lt-ltb _ _ c.if-entries-place.false)
      (c.in_ok-step.ensures.0 d s g left right o
      ∙ ap (λ (k : ℕ). execute d.program d.setup s k c.args.progress.action) c.rv32_add-following.ensures
      ∙ last_open _),
  c.in_ok-step.ensures.1,
)
