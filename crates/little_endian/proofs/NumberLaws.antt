-- Numbers and their bytes, both ways, and numbers read at a place of a list. Assumes nothing.
use mathlib.Core.Path.{◌≡◌, refl, ap, ◌∙◌}
use mathlib.Core.List.{List, [], ◌∷◌}
use Prim.Native.Nat.{ℕ, zero, suc, ◌+◌, ◌*◌, ◌/◌, ◌%◌, ◌^◌, ◌<◌}
use native.Mathlib.Nat.{pow-suc, mod-lt, add-zero}
use native.Mathlib.Omega.{arith}
use lib.ListN.{length, get_or, take, drop}
use lib.Seq.{get_or-drop, take-nil, drop-nil}
use Rattle.little_endian.specs.Number.{value, bytes, AllBytes}

pub length_bytes : (n x : ℕ) → length (bytes n x) ≡ n
length_bytes zero x = refl
length_bytes (suc n) x = ap suc (length_bytes n (x / 256))

-- the number of a number's bytes, and the bytes of bytes' number
pub value_bytes : (n x : ℕ) → x < 256 ^ n → value (bytes n x) ≡ x
value_bytes zero x h = omega arith
value_bytes (suc n) x h =
    let l : x / 256 < 256 ^ n = omega (arith, pow-suc 256 n) in
    omega (arith, value_bytes n (x / 256) l)

pub bytes_value : (bs : List ℕ) → AllBytes bs → bytes (length bs) (value bs) ≡ bs
bytes_value [] h = refl
bytes_value (b ∷ bs) h =
    let l : b < 256 = h 0 in
    let p : (b + 256 * value bs) % 256 ≡ b = omega arith in
    let q : (b + 256 * value bs) / 256 ≡ value bs = omega arith in
    rw (p, q) (ap (λ (r : List ℕ). b ∷ r) (bytes_value bs (λ i. h (suc i))))

-- bounds
pub value_below : (bs : List ℕ) → AllBytes bs → value bs < 256 ^ length bs
value_below [] h = omega arith
value_below (b ∷ bs) h =
    let l : b < 256 = h 0 in
    omega (arith, pow-suc 256 (length bs), value_below bs (λ i. h (suc i)))

pub bytes_below : (n x : ℕ) → AllBytes (bytes n x)
bytes_below zero x i = omega arith
bytes_below (suc n) x zero = mod-lt x (omega arith)
bytes_below (suc n) x (suc i) = bytes_below n (x / 256) i

pub below_drop : (n : ℕ) (bs : List ℕ) → AllBytes bs → AllBytes (drop n bs)
below_drop n bs h i = rw get_or-drop (h (n + i))

pub below_take : (n : ℕ) (bs : List ℕ) → AllBytes bs → AllBytes (take n bs)
below_take zero bs h i = omega arith
below_take (suc n) [] h i = omega arith
below_take (suc n) (b ∷ bs) h zero = h zero
below_take (suc n) (b ∷ bs) h (suc i) = below_take n bs (λ j. h (suc j)) i

-- the lowest byte of the number at a place; past the end it is 0
value_next : (l : List ℕ) (at n : ℕ) → value (take (suc n) (drop at l)) ≡ get_or l at 0 + 256 * value (take n (drop (suc at) l))
value_next [] at n = rw (drop-nil at, take-nil n) refl
value_next (x ∷ l) zero n = refl
value_next (x ∷ l) (suc at) n = value_next l at n

-- a number of one byte is that byte
pub value_one : (l : List ℕ) (at : ℕ) → value (take 1 (drop at l)) ≡ get_or l at 0
value_one l at = value_next l at 0 ∙ add-zero (get_or l at 0)
