-- The clauses of the lane run as laws, and rows that only grow: what the proof of the run's loop cites.
use mathlib.Core.Path.{◌≡◌, refl}
use mathlib.Core.Bool.{Bool, true, false}
use mathlib.Core.Option.{some}
use mathlib.Core.List.{List, [], ◌∷◌}
use Prim.Native.Nat.{ℕ, zero, suc, ◌≤◌}
use native.Mathlib.Nat.{le_trans}
use native.Mathlib.Omega.{arith}
use lib.Dec.{eqb}
use lib.ListN.{length}
use Rattle.riscv_decode.specs.declared.Fetched.{Fetched}
use Rattle.lane_word.specs.declared.LaneWord.{LaneWord}
use Rattle.predicate_semantics.specs.Choice.{choose}
use Rattle.predicate_semantics.specs.Program.{Program, stop}
use Rattle.predicate_semantics.specs.State.{State, Effect, goes, sets, stores, advanced, apply}
use Rattle.predicate_semantics.specs.Memory.{Written, put, write}
use Rattle.predicate_semantics.specs.Tested.{passed, refused, refuse, require}
use Rattle.predicate_answer.specs.Refusal.{Refusal}
use Rattle.predicate_semantics.specs.Lane.{LaneState, Setup, on, run, attempt, step, finish}
use Rattle.predicate_semantics.proofs.Sim.{Sim, agrees, bind_lane}

told : {A B : Type 0} {R : A → B → Type 0} {a : A} {b : B} → Sim R (passed a) (some b) → R a b
told (agrees r) = r

module _ (p : Program) (l : Setup) where
  pub run_stop : (n : ℕ) (s : LaneState) → eqb s.pc stop ≡ true → run p l n s ≡ record { state = s; answer = finish p l s }
  unfolding run choose
  run_stop zero s b = rw b
  run_stop (suc n) s b = rw b

  pub run_out : (s : LaneState) → eqb s.pc stop ≡ false → run p l zero s ≡ record { state = s; answer = refuse 3 0 }
  unfolding run choose
  run_out s b = rw b

  pub run_next : (n : ℕ) (s t : LaneState) → eqb s.pc stop ≡ false → step p l s ≡ passed t → run p l (suc n) s ≡ run p l n t
  unfolding run choose on
  run_next n s t b e = rw (b, e)

  pub run_refused : (n : ℕ) (s : LaneState) (r : Refusal) → eqb s.pc stop ≡ false → step p l s ≡ refused r
      → run p l (suc n) s ≡ record { state = s; answer = refused r }
  unfolding run choose on
  run_refused n s r b e = rw (b, e)

-- a completed step adds 1 to the steps
pub steps_apply : {W M : Type 0} (write : M → ℕ → ℕ → W → M) (c : ℕ) (s : State W M) (f : Fetched) (e : Effect W)
    → (apply write c s f e).steps ≡ suc s.steps
unfolding apply advanced
steps_apply write c s f (goes next) = refl
steps_apply write c s f (sets rd value next) = refl
steps_apply write c s f (stores a n value next) = refl

pub step_steps : (p : Program) (l : Setup) (s t : LaneState) → step p l s ≡ passed t → t.steps ≡ suc s.steps
unfolding step
step_steps p l s t e = told (rw e at sim_steps)
  where
    sim_steps : Sim (λ u (_ : Unit {0}). u.steps ≡ suc s.steps) (step p l s) (some tt)
    sim_steps = bind_lane (attempt p l s) (λ seen. bind_lane (require 14 _) (λ _. agrees (steps_apply write _ s seen.fetched seen.effect)))

-- written bytes never get fewer, so a store that fits at its end fits at each of its bytes
pub put_grows : (a : ℕ) (b : LaneWord) (ws : List Written) → length ws ≤ length (put a b ws)
unfolding put choose
put_grows a b [] = omega arith
put_grows a b (w ∷ ws) = go (eqb w.address a) (put_grows a b ws)
  where
    go : (c : Bool) → length ws ≤ length (put a b ws)
        → suc (length ws) ≤ length (choose c (λ _. record { address = a; byte = b } ∷ ws) (λ _. w ∷ put a b ws))
    go true h = omega arith
    go false h = omega arith

pub write_grows : (n : ℕ) (ws : List Written) (a : ℕ) (w : LaneWord) → length ws ≤ length (write ws n a w)
unfolding write
write_grows zero ws a w = omega arith
write_grows (suc n) ws a w = le_trans (put_grows a _ ws) (write_grows n _ (suc a) _)
