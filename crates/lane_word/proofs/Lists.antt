-- Lengths and elements of mapped and zipped lists, and of a range's inputs. Assumes nothing.
use mathlib.Core.Path.{◌≡◌, refl, ap, ◌∙◌}
use mathlib.Core.List.{List, [], ◌∷◌, map}
use Prim.Native.Nat.{ℕ, zero, suc, ◌+◌, ◌<◌}
use native.Mathlib.Omega.{arith}
use lib.ListN.{length, get_or}
use Rattle.lane_word.specs.Word.{zip}
use Rattle.lane_word.specs.Range.{inputs}

pub get_d_map : (f : ℕ → ℕ) (l : List ℕ) (i : ℕ) → i < length l → get_or (map f l) i 0 ≡ f (get_or l i 0)
get_d_map f [] i h = omega arith
get_d_map f (x ∷ l) zero h = refl
get_d_map f (x ∷ l) (suc i) h = get_d_map f l i (omega arith)

pub length_zip : (f : ℕ → ℕ → ℕ) (l r : List ℕ) → length l ≡ length r → length (zip f l r) ≡ length l
unfolding zip
length_zip f [] r h = refl
length_zip f (x ∷ l) [] h = omega arith
length_zip f (x ∷ l) (y ∷ r) h = ap suc (length_zip f l r (omega arith))

pub get_d_zip : (f : ℕ → ℕ → ℕ) (l r : List ℕ) (i : ℕ) → i < length l → length l ≡ length r →
    get_or (zip f l r) i 0 ≡ f (get_or l i 0) (get_or r i 0)
unfolding zip
get_d_zip f [] r i h e = omega arith
get_d_zip f (x ∷ l) [] i h e = omega arith
get_d_zip f (x ∷ l) (y ∷ r) zero h e = refl
get_d_zip f (x ∷ l) (y ∷ r) (suc i) h e = get_d_zip f l r i (omega arith) (omega arith)

pub length_inputs : (first count : ℕ) → length (inputs first count) ≡ count
unfolding inputs
length_inputs first zero = refl
length_inputs first (suc count) = ap suc (length_inputs (suc first) count)

pub get_d_inputs : (first count i : ℕ) → i < count → get_or (inputs first count) i 0 ≡ first + i
unfolding inputs
get_d_inputs first zero i h = omega arith
get_d_inputs first (suc count) zero h = omega arith
get_d_inputs first (suc count) (suc i) h = get_d_inputs (suc first) count i (omega arith) ∙ omega arith
