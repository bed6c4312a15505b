-- A turn of the loop: the word that it computes, and the machine that its change leaves.
use Rattle.std.specs.Prelude.{None, Option, Some, ℕ}
use Rattle.std.proofs.Common.{◌≡◌, refl, sym, ap, ◌∙◌, set}
use Rattle.lane_word.specs.Word.{lanes}
use Rattle.predicate_semantics.specs.Lane.{LaneState}
use Rattle.riscv32imc_predicate.specs.declared.Ending.TheVariants as ending
use Rattle.riscv32imc_predicate.specs.declared.Progress.{Progress}
use Rattle.riscv32imc_predicate.specs.Setting.{Setting, Environment, environment}
use Rattle.riscv32imc_predicate.specs.Coming.{Continues}
use Rattle.riscv32imc_predicate.specs.Register.{first_operand, second_operand, place_of, laid_out}
use Rattle.riscv32imc_predicate.specs.Tracking.{Machine, machine}
use Rattle.riscv32imc_predicate.proofs.Filing.{unknown_size}
use Rattle.riscv32imc_predicate.proofs.Following.{is_at}
use Rattle.riscv32imc_predicate.proofs.Looping.{with_words, Looped, looped_start, arrives_as, looped_refused, looped_on, told_first, told_operand, Works, by_value, by_words, Applied, applied_rows, stores_as, computed_now}
use Rattle.riscv32imc_predicate.proofs.run.advance.Goals as goal
use Rattle.riscv32imc_predicate.proofs.run.advance.Goals.{Joined-known, in-Some, in-None, in-Some-left, in_default, in-Some-right, in_default-right, in-Nothing, in-Sets, in-Computes, in-Loads, in-Stores+in-Some-second, in-Stores+in-None-second}

module _ (c : Joined-known) where
  abbrev held : Machine
  held = machine c.loop-progress.place (record { words = c.loop-progress.words; tags = c.loop-progress.tags }) c.loop-progress.recorded c.loop-progress.rows c.loop-progress.trace

  abbrev given : Environment
  given = environment c.args.image.now c.args.symbols c.args.bounds

  abbrev progress : Progress
  progress = c.in-Ok.progress

  abbrev first : Option ℕ
  first = told_first progress held

  abbrev operand : Option ℕ
  operand = told_operand progress held

  -- an instruction was fetched
  continues : {x : Setting} {s : LaneState} (i : Looped x given s held c.loop-progress.computed) → Continues x progress i.state
  continues {x} i = c.in-Ok.ensures.comes x given.symbols i.stands.serves i.state (is_at i.stands)

  -- how the loop came to the word: two told values, or operands that are laid out
  works : Works progress held c.match-known.words c.loop-progress.computed c.match-known.computed c.match-known.tested
  works = elim c.match-known.branch [
    | in-Some w ↦ by_value w.in-Some.value (rw (← c.second_operand-right.ensures) (sym w.in-Some.ensures)) w.words-is w.computed-is w.tested-is
    | in-None w ↦
        let one : (w.match-left.words ≡ laid_out first first_operand held.words) × (w.match-left.left ≡ first)
        = elim w.match-left.branch [
          | in-Some-left u ↦ (u.words-is ∙ rw (u.constant.ensures, u.in-Some-left.is), cc)
          | in_default u ↦ (u.words-is ∙ rw u.in_default.is, cc)
        ] in
        let other : (w.match-right.words ≡ laid_out operand second_operand w.match-left.words) × (w.match-right.right ≡ operand)
        = elim w.match-right.branch [
          | in-Some-right u ↦ (u.words-is ∙ rw (u.constant-in-Some-right.ensures, ← c.second_operand-right.ensures, u.in-Some-right.is), cc)
          | in_default-right u ↦ (u.words-is ∙ rw (← c.second_operand-right.ensures, u.in_default-right.is), cc)
        ] in
        simp (w.words-is, w.computed-is, w.tested-is)
        (by_words (record {
          first_words = one.0;
          second_words = other.0;
          first_place = w.place_of-a.ensures ∙ ap (λ (u : Option ℕ). place_of u progress.reading.rs1 first_operand) one.1;
          second_place = w.place_of-b.ensures ∙ ap (λ (u : Option ℕ). place_of u progress.reading.rs2 second_operand) other.1;
        }) w.operate-computed.ensures w.tell-tested.ensures)
  ]

pub loop-progress-init : goal.loop-progress-init
loop-progress-init c = record { same_rows = refl; comes = λ x s h. looped_start (rw c.unknown-computed.ensures (unknown_size lanes)) h }

pub returns-in-Err-clause-advances : goal.returns-in-Err-clause-advances
returns-in-Err-clause-advances c x s h =
    let i = c.loop-progress.invariant.comes x s h in
    arrives_as i _ i.stands c.in-Err.ending (c.in-Err.ensures.comes x c.args.symbols i.stands.serves i.state (is_at i.stands)) c.reached.ensures

pub returns-in-Err-decide-clause-advances : goal.returns-in-Err-decide-clause-advances
returns-in-Err-decide-clause-advances c x s h =
    let j = (goal.at.returns-in-Err-decide-clause-advances c).Joined-known in
    let i = c.loop-progress.invariant.comes x s h in
    let k = continues j i in
    let e = looped_refused i k (computed_now i k (works j)) c.in-Err-decide.error c.in-Err-decide.ensures.0 in
    arrives_as i (with_words (held j) c.match-known.words) e.0 (ending.Refused c.in-Err-decide.error) e.1 c.reached-in-Err-decide.ensures

pub loop-progress-preserved : goal.loop-progress-preserved
loop-progress-preserved c =
    let j = (goal.at.loop-progress-preserved c).Joined-known in
    let step = c.in-Ok-decide.step in
    let a = with_words (held j) c.match-known.words in
    let b = machine c.complete-place.result (record { words = c.match-step.words; tags = c.match-step.tags }) c.match-step.recorded c.match-step.rows c.complete-place.new.trace in
    let made : Applied (given j) (progress j) c.match-known.computed step.change a b c.match-step.new
    = elim c.match-step.branch [
      | in-Nothing w ↦ rw w.in-Nothing.is (w.tags-is, w.words-is, (w.recorded-is, w.rows-is, w.new-is))
      | in-Sets w ↦ rw w.in-Sets.is (w.tags-is ∙ ap (λ (n : ℕ). set a.tags n (Some w.in-Sets.value)) w.slot_of.ensures, w.words-is, (w.recorded-is, w.rows-is, w.new-is))
      | in-Computes w ↦ rw w.in-Computes.is (
        w.tags-is ∙ ap (λ (n : ℕ). set a.tags n None) w.slot_of-slot.ensures,
        w.words-is ∙ ap (λ (n : ℕ). set a.words n c.match-known.computed) w.slot_of-slot.ensures,
        (w.recorded-is, w.rows-is, w.new-is),
      )
      | in-Loads w ↦ rw w.in-Loads.is (
        w.load_lanes.result,
        w.load_lanes.ensures,
        w.tags-is ∙ ap (λ (n : ℕ). set a.tags n None) w.slot_of-slot-in-Loads.ensures,
        w.words-is ∙ ap (λ (n : ℕ). set a.words n w.load_lanes.result) w.slot_of-slot-in-Loads.ensures,
        (w.recorded-is, w.rows-is, w.new-is),
      )
      | in-Stores+in-Some-second w ↦ rw w.in-Stores.is (w.tags-is, w.words-is, stores_as w.store_told.ensures w.new-is w.rows-is (rw w.in-Some-second.is), rw w.recorded-is w.located-recorded.ensures)
      | in-Stores+in-None-second w ↦ rw w.in-Stores.is (w.tags-is, w.words-is, stores_as w.store_lanes.ensures w.new-is w.rows-is (rw w.in-None-second.is), rw w.recorded-is w.located-recorded.ensures)
    ] in
    record {
      same_rows = applied_rows (given j) (progress j) c.match-known.computed step.change a b c.match-step.new made ∙ c.loop-progress.invariant.same_rows;
      comes = λ x s h.
          let i = c.loop-progress.invariant.comes x s h in
          let k = continues j i in
          looped_on i k (computed_now i k (works j)) b c.match-step.new step.next (record { moves = c.complete-place.ensures.0; entry = c.complete-place.ensures.1 }) step.change
          c.in-Ok-decide.ensures made;
    }
