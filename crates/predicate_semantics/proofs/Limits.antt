-- What another limit of steps makes of a run: proved once, over a run with a limit as both are, and then for each.
use mathlib.Core.Path.{◌≡◌, refl, sym, ◌∙◌, ap}
use mathlib.Core.Bool.{Bool, true, false}
use mathlib.Core.Option.{Option, none, some, none-ne-some}
use Prim.Native.Nat.{ℕ, zero, suc, ◌+◌, ◌≤◌, ◌<◌}
use native.Mathlib.Omega.{arith}
use lib.Dec.{eqb}
use borrow.Author.Tests.{eqb-false}
use Rattle.predicate_semantics.specs.Choice.{choose}
use Rattle.predicate_semantics.specs.Program.{Program, stop}
use Rattle.predicate_semantics.specs.State.{RunResult, apply}
use Rattle.predicate_semantics.specs.Tested.{Tested, passed, refused, refuse}
use Rattle.predicate_semantics.specs.Lane.{LaneState, Setup, Ended, on, step, run, begin, start, lane_run}
use Rattle.predicate_semantics.specs.Scalar.{ScalarState, scalar_run}
use Rattle.predicate_semantics.specs.Scalar as Scalar
use Rattle.predicate_semantics.specs.Bound.{LimitEnough, LimitShort, ScalarLimit}
use Rattle.predicate_semantics.proofs.Laws.{run_stop, run_out, run_next, run_refused, steps_apply, step_steps}
use Rattle.predicate_semantics.proofs.RecordRules.{kept_start}

-- a run with its limit, over its states and what it ends in: its end where the limit is short, the steps of each, and which ends are at stop
record Limiting (S E : Type 0) : Type 1 where
  run : ℕ → S → E
  out : S → E
  steps : S → ℕ
  completed : E → ℕ
  Arrived : E → Type 0

module _ {S E : Type 0} (r : Limiting S E) where
  -- an end, elsewhere than at stop, that adds no step
  abbrev Stays : S → E → Type 0
  Stays s e = (r.completed e ≤ r.steps s) × (r.Arrived e → ⊥)

  -- a state short of stop, where no step is left
  abbrev Short : S → Type 0
  Short s = (r.run zero s ≡ r.out s) × Stays s (r.out s)

  -- the end at a state, whatever the limit
  record Ends (s : S) (e : E) : Type 0 where
    always : (limit : ℕ) → r.run limit s ≡ e
    most : r.completed e ≤ r.steps s
    least : r.Arrived e → r.steps s ≤ r.completed e

  -- a step that leads on
  record Goes (s t : S) : Type 0 where
    on : (limit : ℕ) → r.run (suc limit) s ≡ r.run limit t
    one : r.steps t ≡ suc (r.steps s)
    short : Short s

  -- what comes at a state: its end; or a step, that fails or leads on
  data Turn (s : S) : Type 0 where
    ends : (e : E) → Ends s e → Turn s
    fails : (e : E) → ((limit : ℕ) → r.run (suc limit) s ≡ e) → Stays s e → Short s → Turn s
    goes : (t : S) → Goes s t → Turn s

  -- a run from a state that ended so, with another limit
  record Limited (s : S) (e : E) (other : ℕ) : Type 0 where
    counts : r.Arrived e → r.steps s ≤ r.completed e
    enough : r.Arrived e → r.completed e ≤ r.steps s + other → r.run other s ≡ e
    short : r.steps s + other < r.completed e → (t : S) × (r.run other s ≡ r.out t) × (r.steps t ≡ r.steps s + other)

  limited_stays : (s : S) (e : E) (other : ℕ) → Stays s e → Limited s e other
  limited_stays s e other h =
      record { counts = λ a. absurd (h.1 a); enough = λ a f. absurd (h.1 a); short = λ f. absurd (omega (arith, h.0)) }

  limited_ends : (s : S) (e : E) (other : ℕ) → Ends s e → Limited s e other
  limited_ends s e other h = record { counts = h.least; enough = λ a f. h.always other; short = λ f. absurd (omega (arith, h.most)) }

  limited_goes : (s t : S) (e : E) (other : ℕ) → Goes s t → ((other : ℕ) → Limited t e other) → Limited s e other
  limited_goes s t e zero g h = record {
    counts = λ a. omega (arith, g.one, (h 0).counts a);
    enough = λ a f. absurd (omega (arith, g.one, (h 0).counts a));
    short = λ f. (s, g.short.0, omega arith);
  }
  limited_goes s t e (suc other) g h = record {
    counts = λ a. omega (arith, g.one, (h other).counts a);
    enough = λ a f. g.on other ∙ (h other).enough a (omega (arith, g.one));
    short = λ f.
        let rest = (h other).short (omega (arith, g.one)) in
        (rest.0, g.on other ∙ rest.1, omega (arith, g.one, rest.2));
  }

  module _ (turn : (s : S) → Turn s) where
    limited : (limit : ℕ) (s : S) (other : ℕ) → Limited s (r.run limit s) other
    limited zero s other = go (turn s)
      where
        go : Turn s → Limited s (r.run zero s) other
        go (ends e h) = rw (h.always zero) (limited_ends s e other h)
        go (fails e q h z) = rw z.0 (limited_stays s (r.out s) other z.1)
        go (goes t g) = rw g.short.0 (limited_stays s (r.out s) other g.short.1)
    limited (suc limit) s other = go (turn s) (λ t. limited limit t)
      where
        go : Turn s → ((t : S) (other : ℕ) → Limited t (r.run limit t) other) → Limited s (r.run (suc limit) s) other
        go (ends e h) f = rw (h.always (suc limit)) (limited_ends s e other h)
        go (fails e q h z) f = rw (q limit) (limited_stays s e other h)
        go (goes t g) f = rw (g.on limit) (limited_goes s t (r.run limit t) other g (f t))

-- the lane run
module _ (p : Program) (l : Setup) where
  abbrev lane_limiting : Limiting LaneState Ended
  lane_limiting = record {
    run = run p l;
    out = λ s. record { state = s; answer = refuse 3 0 };
    steps = λ s. s.steps;
    completed = λ e. e.state.steps;
    Arrived = λ e. e.state.pc ≡ stop;
  }

  lane_turn : (s : LaneState) → Turn lane_limiting s
  lane_turn s = go (eqb s.pc stop) refl (step p l s) refl
    where
      stays : eqb s.pc stop ≡ false → (s.steps ≤ s.steps) × (s.pc ≡ stop → ⊥)
      stays b = (omega arith, eqb-false _ _ b)

      go : (b : Bool) → eqb s.pc stop ≡ b → (m : Tested LaneState) → step p l s ≡ m → Turn lane_limiting s
      go true b m d = ends _ (record { always = λ limit. run_stop p l limit s b; most = omega arith; least = λ a. omega arith })
      go false b (passed t) d = goes t (record { on = λ limit. run_next p l limit s t b d; one = step_steps p l s t d; short = (run_out p l s b, stays b) })
      go false b (refused r) d = fails _ (λ limit. run_refused p l limit s r b d) (stays b) (run_out p l s b, stays b)

  -- from the run's first state, which has no steps
  lane_limited : (limit : ℕ) (s : LaneState) (other : ℕ) → start p l ≡ passed s
      → Limited lane_limiting s (run p l limit s) other × (s.steps ≡ 0)
  unfolding begin
  lane_limited limit s other q = (limited lane_limiting lane_turn limit s other, ap (λ (x : LaneState). x.steps) (kept_start p l s q).1)

  pub limit_enough : LimitEnough p l
  unfolding lane_run on
  limit_enough limit other a h = go (start p l) refl a h
    where
      go : (m : Tested LaneState) → start p l ≡ m → (on (begin p l) m (λ s. run p l limit s)).state.pc ≡ stop
          → (on (begin p l) m (λ s. run p l limit s)).state.steps ≤ other → on (begin p l) m (λ s. run p l other s) ≡ on (begin p l) m (λ s. run p l limit s)
      go (passed s) q a h = let f = lane_limited limit s other q in f.0.enough a (omega (arith, f.1))
      go (refused r) q a h = refl

  pub limit_short : LimitShort p l
  unfolding lane_run on begin
  limit_short limit other h = go (start p l) refl h
    where
      go : (m : Tested LaneState) → start p l ≡ m → other < (on (begin p l) m (λ s. run p l limit s)).state.steps
          → ((on (begin p l) m (λ s. run p l other s)).answer ≡ refuse 3 0) × ((on (begin p l) m (λ s. run p l other s)).state.steps ≡ other)
      go (passed s) q h =
          let f = lane_limited limit s other q in
          let e = f.0.short (omega (arith, f.1)) in
          rw e.1 (refl, omega (arith, f.1, e.2))
      go (refused r) q h = absurd (omega arith)

-- the scalar run, whose answer has its steps
abbrev answered : Option RunResult → ℕ
answered none = 0
answered (some r) = r.steps

abbrev Answers : Option RunResult → Type 0
Answers none = ⊥
Answers (some r) = Unit {0}

-- what a part of it went through to give an answer
through : {A B : Type 0} {b : B} (m : Option A) {f : A → Option B} → Scalar.◌>>=◌ m f ≡ some b → (a : A) × (m ≡ some a) × (f a ≡ some b)
unfolding Scalar.◌>>=◌
through {b = b} none q = absurd (none-ne-some b q)
through (some a) q = (a, refl, q)

module _ (p : Program) where
  scalar_step_steps : (s t : ScalarState) → Scalar.step p s ≡ some t → t.steps ≡ suc s.steps
  unfolding Scalar.step
  scalar_step_steps s t q =
      let seen = through (Scalar.attempt p s) q in
      let made : apply Scalar.write p.symbols.event_count s seen.0.fetched seen.0.effect ≡ t = cc seen.2 in
      ap (λ (x : ScalarState). x.steps) (sym made) ∙ steps_apply Scalar.write _ s seen.0.fetched seen.0.effect

  scalar_finish_steps : (s : ScalarState) (r : RunResult) → Scalar.finish p s ≡ some r → s.steps ≡ r.steps
  unfolding Scalar.finish
  scalar_finish_steps s r q =
      let counted = through _ q in
      let tested = through _ counted.2 in
      ap answered (through _ tested.2).2

  abbrev scalar_limiting : Limiting ScalarState (Option RunResult)
  scalar_limiting = record { run = Scalar.run p; out = λ _. none; steps = λ s. s.steps; completed = answered; Arrived = Answers }

  scalar_turn : (s : ScalarState) → Turn scalar_limiting s
  unfolding Scalar.run choose Scalar.◌>>=◌
  scalar_turn s = go (eqb s.pc stop) refl (Scalar.finish p s) refl (Scalar.step p s) refl
    where
      at_stop_same : eqb s.pc stop ≡ true → (o : Option RunResult) → Scalar.finish p s ≡ o → (limit : ℕ) → Scalar.run p limit s ≡ o
      at_stop_same b o q zero = rw b q
      at_stop_same b o q (suc limit) = rw b q

      go : (b : Bool) → eqb s.pc stop ≡ b → (o : Option RunResult) → Scalar.finish p s ≡ o → (m : Option ScalarState) → Scalar.step p s ≡ m → Turn scalar_limiting s
      go true b none q m d = ends none (record { always = at_stop_same b none q; most = omega arith; least = λ a. absurd a })
      go true b (some r) q m d = ends (some r) (record {
        always = at_stop_same b (some r) q;
        most = omega (arith, scalar_finish_steps s r q);
        least = λ a. omega (arith, scalar_finish_steps s r q);
      })
      go false b o q none d = fails none (λ limit. rw (b, d)) (omega arith, λ a. a) (rw b, (omega arith, λ a. a))
      go false b o q (some t) d = goes t (record { on = λ limit. rw (b, d); one = scalar_step_steps s t d; short = (rw b, (omega arith, λ a. a)) })

  scalar_none_yet : (input : ℕ) (others : ℕ → ℕ) (s : ScalarState) → Scalar.start p input others ≡ some s → s.steps ≡ 0
  unfolding Scalar.start
  scalar_none_yet input others s q =
      ap counted (sym (through (Scalar.start_tests _ _) q).2)
    where
      counted : Option ScalarState → ℕ
      counted none = 0
      counted (some s) = s.steps

  pub scalar_limit : ScalarLimit p
  unfolding scalar_run Scalar.◌>>=◌
  scalar_limit limit other input others r q =
      let begun = through (Scalar.start p input others) q in
      let f = rw begun.2 at (limited scalar_limiting scalar_turn limit begun.0 other) in
      let none_yet = scalar_none_yet input others begun.0 begun.1 in
      (λ h. rw begun.1 (f.enough tt (omega (arith, none_yet))), λ h. rw begun.1 (f.short (omega (arith, none_yet))).1)
