-- Written bytes at distinct addresses of a part of memory: no more than the part has addresses.
use mathlib.Core.Path.{◌≡◌, refl, sym, ◌∙◌, ap}
use mathlib.Core.Bool.{Bool, true, false}
use mathlib.Core.List.{List, [], ◌∷◌}
use Prim.Native.Nat.{ℕ, zero, suc, ◌+◌, ◌-◌, ◌≤◌, ◌<◌}
use native.Mathlib.Nat.{add-zero, add-suc}
use native.Mathlib.Omega.{arith}
use lib.Dec.{eqb, ltb}
use lib.ListN.{length}
use borrow.Author.Tests.{eqb-true, eqb-false, ltb-true, ltb-false, lt-ltb, le-ltb}
use Rattle.rv32_arithmetic.specs.Arithmetic.{flag}
use Rattle.lane_word.specs.declared.LaneWord.{LaneWord}
use Rattle.predicate_semantics.specs.Choice.{choose}
use Rattle.predicate_semantics.specs.Memory.{Written, put, write}
use Rattle.predicate_semantics.specs.Kept.{total, occurs, below, Distinct}

-- every total stays, or a new address is added to every total
data Put (a : ℕ) (ws vs : List Written) : Type 0 where
  again : ((q : ℕ → ℕ) → total q vs ≡ total q ws) → Put a ws vs
  new : occurs a ws ≡ 0 → ((q : ℕ → ℕ) → total q vs ≡ q a + total q ws) → Put a ws vs

put_total : (a : ℕ) (b : LaneWord) (ws : List Written) → Put a ws (put a b ws)
unfolding put choose
put_total a b [] = new refl (λ q. refl)
put_total a b (w ∷ ws) = go (eqb w.address a) refl (put_total a b ws)
  where
    go : (c : Bool) → eqb w.address a ≡ c → Put a ws (put a b ws)
        → Put a (w ∷ ws) (choose c (λ _. record { address = a; byte = b } ∷ ws) (λ _. w ∷ put a b ws))
    go true e h = again (λ q. ap (λ (x : ℕ). q x + total q ws) (sym (eqb-true _ _ e)))
    go false e (again f) = again (λ q. ap (λ (x : ℕ). q w.address + x) (f q))
    go false e (new o f) = new (rw e (omega arith)) (λ q. rw (f q) (omega arith))

pub distinct_none : (low high : ℕ) → Distinct low high []
distinct_none low high = record { once = λ x. omega arith; above = refl; under = refl }

distinct_put : {low high : ℕ} (a : ℕ) (b : LaneWord) {ws : List Written} → low ≤ a → a < high
    → Distinct low high ws → Distinct low high (put a b ws)
distinct_put {low} {high} a b {ws} l h d = go (put_total a b ws)
  where
    twice : (x : ℕ) → occurs a ws ≡ 0 → (c : Bool) → eqb a x ≡ c → flag c + occurs x ws ≤ 1
    twice x o true e = rw (sym (eqb-true a x e)) (rw o (omega arith))
    twice x o false e = omega (arith, d.once x)

    go : {vs : List Written} → Put a ws vs → Distinct low high vs
    go (again f) = record {
      once = λ x. rw (f (λ a. flag (eqb a x))) (d.once x);
      above = f (λ a. flag (ltb a low)) ∙ d.above;
      under = f (λ a. flag (ltb a high)) ∙ d.under ∙ sym (f (λ _. 1));
    }
    go (new o f) = record {
      once = λ x. rw (f (λ a. flag (eqb a x))) (twice x o (eqb a x) refl);
      above = f (λ a. flag (ltb a low)) ∙ rw (le-ltb a low l) (omega (arith, d.above));
      under = f (λ a. flag (ltb a high)) ∙ rw (lt-ltb a high h) (omega (arith, d.under)) ∙ sym (f (λ _. 1));
    }

pub distinct_write : (n : ℕ) {low high : ℕ} {ws : List Written} (a : ℕ) (w : LaneWord) → low ≤ a → a + n ≤ high
    → Distinct low high ws → Distinct low high (write ws n a w)
unfolding write
distinct_write zero a w l h d = d
distinct_write (suc n) a w l h d =
    distinct_write n (suc a) _ (omega arith) (omega arith) (distinct_put a _ l (omega arith) d)

one_more : (a x : ℕ) → flag (ltb a (suc x)) ≡ flag (ltb a x) + flag (eqb a x)
one_more a x = go (ltb a x) (eqb a x) refl refl
  where
    go : (c d : Bool) → ltb a x ≡ c → eqb a x ≡ d → flag (ltb a (suc x)) ≡ flag c + flag d
    go true true e f = absurd (omega (arith, ltb-true, eqb-true))
    go true false e f = rw (lt-ltb a (suc x) (omega (arith, ltb-true)))
    go false true e f = rw (lt-ltb a (suc x) (omega (arith, eqb-true)))
    go false false e f = rw (le-ltb a (suc x) (omega (arith, ltb-false, eqb-false)))

below_suc : (x : ℕ) (ws : List Written) → below (suc x) ws ≡ below x ws + occurs x ws
below_suc x [] = refl
below_suc x (w ∷ ws) = omega (arith, one_more w.address x, below_suc x ws)

below_add : (n low : ℕ) (ws : List Written) → ((x : ℕ) → occurs x ws ≤ 1) → below (low + n) ws ≤ below low ws + n
below_add zero low ws o = rw (add-zero low) (omega arith)
below_add (suc n) low ws o = rw (add-suc low n) (omega (arith, below_suc (low + n) ws, o (low + n), below_add n low ws o))

total_length : (ws : List Written) → total (λ _. 1) ws ≡ length ws
total_length [] = refl
total_length (w ∷ ws) = omega (arith, total_length ws)

pub distinct_fits : (low n : ℕ) (ws : List Written) → Distinct low (low + n) ws → length ws ≤ n
distinct_fits low n ws d = omega (arith, below_add n low ws d.once, d.above, d.under, total_length ws)
