-- The scan that ends at the first value unlike v, over any number n of values. Assumes nothing.
use mathlib.Core.Path.{◌≡◌, refl, ◌∙◌}
use mathlib.Core.Bool.{true, false}
use mathlib.Core.List.{List, [], ◌∷◌}
use Prim.Native.Nat.{ℕ, ◌+◌, ◌≤◌, ◌<◌}
use native.Mathlib.Numerals.{add-one}
use native.Mathlib.Omega.{arith}
use borrow.Author.Tests.{eq-eqb, ne_eqb}
use lib.ListN.{length, get_or, drop, drop_of_length-le}
use lib.Seq.{drop-cons}
use Rattle.lane_word.specs.Word.{every}

-- whether every value is v hangs on those from k on
pub record Scanned (n : ℕ) (l : List ℕ) (v k : ℕ) : Type 0 where
  pub long : length l ≡ n
  pub within : k ≤ n
  pub rest : every v l ≡ every v (drop k l)

module _ {n : ℕ} {l : List ℕ} {v k : ℕ} (s : Scanned n l v k) where
  pub step : k < n → get_or l k 0 ≡ v → Scanned n l v (k + 1)
  unfolding every
  step h e =
      record {
        long = s.long;
        within = omega arith;
        rest = s.rest ∙ rw (drop-cons l k 0 (omega (arith, s.long)), eq-eqb _ _ e, add-one);
      }

  pub even : n ≤ k → every v l ≡ true
  unfolding every
  even h = s.rest ∙ rw (drop_of_length-le l {i = k} (omega (arith, s.long)))

  pub uneven : k < n → (get_or l k 0 ≡ v → ⊥) → every v l ≡ false
  unfolding every
  uneven h e = s.rest ∙ rw (drop-cons l k 0 (omega (arith, s.long)), ne_eqb _ _ e)

-- lane 0 is like itself
pub start : (l : List ℕ) {n : ℕ} → length l ≡ n → 0 < n → Scanned n l (get_or l 0 0) 1
start l e h = step (record { long = e; within = omega arith; rest = refl }) h refl

-- without lanes any value is like all
pub no_lanes : (l : List ℕ) → length l ≡ 0 → (get_or l 0 0 ≡ 0) × (every (get_or l 0 0) l ≡ true)
unfolding every
no_lanes [] h = (refl, refl)
no_lanes (x ∷ l) h = absurd (omega arith)
