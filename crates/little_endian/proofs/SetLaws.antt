-- Stores one after another: what is left to write, from here, is what there was to write from the start. Assumes nothing.
use mathlib.Core.Path.{◌≡◌, sym, ◌∙◌}
use mathlib.Core.List.{List, [], ◌∷◌, ◌++◌}
use Prim.Native.Nat.{ℕ, suc, ◌+◌, ◌/◌, ◌%◌, ◌≤◌, ◌<◌}
use native.Mathlib.Numerals.{add-one, add-two, add-three}
use native.Mathlib.Nat.{add-zero, add-suc, suc-add, zero-add, mod-eq_of_lt}
use native.Mathlib.Omega.{arith}
use lib.ListN.{length, set}
use lib.Seq.{sets, sets-eq}
use Rattle.little_endian.specs.Number.{bytes}
use Rattle.little_endian.specs.Lent.{over}

pub sets_append : {A : Type 0} (vs ws l : List A) (i : ℕ) → sets (sets l i vs) (i + length vs) ws ≡ sets l i (vs ++ ws)
sets_append [] ws l i = rw add-zero
sets_append (v ∷ vs) ws l i = rw (add-suc, ← suc-add) (sets_append vs ws (set l i v) (suc i))

-- z elements written at i, and then the rest
pub sets_step : {A : Type 0} (l l' : List A) (i z : ℕ) (vs rest : List A) → l' ≡ sets l i vs → length vs ≡ z → sets l i (vs ++ rest) ≡ sets l' (i + z) rest
sets_step l l' i z vs rest e n = rw (e, ← n) (sym (sets_append vs rest l i))

-- stores at the start, all of which lie inside
pub sets_over : {A : Type 0} (vs l : List A) → length vs ≤ length l → sets l 0 vs ≡ over vs l
sets_over vs l h = sets-eq vs l 0 (rw zero-add h) ∙ rw (zero-add (length vs))

-- what straight-line code leaves of a number's one byte, and of its four
pub sets_one : (l : List ℕ) (at x : ℕ) → x < 256 → set l at x ≡ sets l at (bytes 1 x)
sets_one l at x h = rw (mod-eq_of_lt h)

pub sets_four : (l : List ℕ) (at x : ℕ)
    → set (set (set (set l at (x % 256)) (at + 1) (x / 256 % 256)) (at + 2) (x / 65536 % 256)) (at + 3) (x / 16777216 % 256) ≡ sets l at (bytes 4 x)
sets_four l at x =
    let e2 : x / 256 / 256 ≡ x / 65536 = omega arith in
    let e3 : x / 65536 / 256 ≡ x / 16777216 = omega arith in
    rw (e2, e3, add-one, add-two, add-three)
