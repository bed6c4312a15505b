-- The states that a lane run reaches: what the proof of the run's loop cites.
use mathlib.Core.Path.{◌≡◌, refl, ◌∙◌, ap}
use mathlib.Core.Bool.{Bool, true, false}
use mathlib.Core.Option.{Option, none, some, none-ne-some}
use Prim.Native.Nat.{ℕ, zero, suc, ◌+◌}
use native.Mathlib.Omega.{arith}
use lib.Dec.{eqb}
use Rattle.predicate_semantics.specs.Choice.{choose}
use Rattle.predicate_semantics.specs.Program.{Program, stop}
use Rattle.predicate_semantics.specs.Tested.{Tested, passed, refused, if_passed}
use Rattle.predicate_semantics.specs.Lane.{LaneState, Setup, step, run, after}
use Rattle.predicate_semantics.proofs.Laws.{run_next, step_steps}

-- an answer that waits for a test came from a value that passed it
from_passed : {A B : Type 0} {b : B} (m : Tested A) {f : A → Option B} → if_passed m f ≡ some b → (a : A) × (m ≡ passed a) × (f a ≡ some b)
unfolding if_passed
from_passed (passed a) q = (a, refl, q)
from_passed {b = b} (refused r) q = absurd (none-ne-some b q)

module _ (p : Program) (l : Setup) where
  -- the first of several steps
  first_step : (n : ℕ) (b s : LaneState) → after p l (suc n) b ≡ some s
      → (eqb b.pc stop ≡ false) × (t : LaneState) × (step p l b ≡ passed t) × (after p l n t ≡ some s)
  unfolding after choose
  first_step n b s q = go (eqb b.pc stop) refl q
    where
      go : (c : Bool) → eqb b.pc stop ≡ c → choose c (λ _. none) (λ _. if_passed (step p l b) (λ t. after p l n t)) ≡ some s
          → (eqb b.pc stop ≡ false) × (t : LaneState) × (step p l b ≡ passed t) × (after p l n t ≡ some s)
      go true e q = absurd (none-ne-some s q)
      go false e q = let f = from_passed (step p l b) q in (e, f.0, f.1, f.2)

  -- the state after one step more
  pub after_next : (n : ℕ) (b : LaneState) {s t : LaneState} → after p l n b ≡ some s → eqb s.pc stop ≡ false → step p l s ≡ passed t
      → after p l (suc n) b ≡ some t
  unfolding after choose if_passed
  after_next zero b {s} q e h = let f : b ≡ s = cc q in rw (f, e, h)
  after_next (suc n) b {s} q e h = let f = first_step n b s q in rw (f.0, f.2) (after_next n f.1 f.3 e h)

  -- the rest of a run is the rest from a state that it comes to
  pub run_after : (n m k : ℕ) (b : LaneState) {s : LaneState} → m ≡ n + k → after p l n b ≡ some s → run p l m b ≡ run p l k s
  unfolding after
  run_after zero m k b {s} e q = let f : b ≡ s = cc q in let g : m ≡ k = omega (arith, e) in rw (g, f)
  run_after (suc n) m k b {s} e q =
      let f = first_step n b s q in
      let g : m ≡ suc (n + k) = omega (arith, e) in
      rw g (run_next p l (n + k) b f.1 f.0 f.2 ∙ run_after n (n + k) k f.1 refl f.3)

  -- which has as many steps more
  pub steps_after : (n : ℕ) (b : LaneState) {s : LaneState} → after p l n b ≡ some s → s.steps ≡ n + b.steps
  unfolding after
  steps_after zero b {s} q = let f : b ≡ s = cc q in omega (arith, ap (λ (x : LaneState). x.steps) f)
  steps_after (suc n) b {s} q = let f = first_step n b s q in omega (arith, steps_after n f.1 f.3, step_steps p l b f.1 f.2)
