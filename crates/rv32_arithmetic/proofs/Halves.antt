-- The products of words read as signed numbers, from the unsigned one: a negative operand takes the other one from its upper half.
-- Assumes nothing.
use Rattle.std.proofs.Common.{◌≡◌, ℕ, zero, suc, ◌+◌, ◌-◌, ◌*◌, ◌/◌, ◌%◌, ◌^◌, ◌<◌, ◌≤◌, Bool, true, false, cond, ltb, pos, negsuc, neg_ℤ, sym, refl, ap, ◌∙◌, suc-mul, mul_comm, mul-add, arith, w64, of_z, ltb-false, ltb-true, le-ltb, lt-ltb}
use Rattle.rv32_arithmetic.specs.Arithmetic.{signed, sub, mul, product, mulhu}
use Rattle.rv32_arithmetic.specs.Halves.{LowerHalf}
use Rattle.rv32_arithmetic.specs.Correction.{correction}
use Rattle.std.proofs.lemmas.Nat.{mul-lt}

-- the magnitude of a word that is negative: what it lacks of 2 ^ 32
abbrev magnitude : ℕ → ℕ
magnitude a = suc (4294967296 - suc a)

-- (2 ^ 32 - a) b = 2 ^ 32 b - a b
magnitude_times : (a b : ℕ) → a < 2 ^ 32 → a * b + magnitude a * b ≡ 4294967296 * b
magnitude_times a b h =
    let e : a + magnitude a ≡ 4294967296 = omega arith in
    ap (λ (x : ℕ). x + magnitude a * b) (mul_comm a b) ∙ ap (λ (x : ℕ). b * a + x) (mul_comm (magnitude a) b)
    ∙ sym (mul-add b a (magnitude a)) ∙ ap (λ (x : ℕ). b * x) e ∙ mul_comm b 4294967296

less_times : (a b : ℕ) → a < 2 ^ 32 → 0 < b → a * b < 4294967296 * b
less_times a b h g =
    let e = magnitude_times a b h in
    let s : magnitude a * b ≡ b + (4294967296 - suc a) * b = suc-mul (4294967296 - suc a) b ∙ omega arith in
    omega arith

-- the 64 bits of a product that is not positive
bits_of_negative : (m : ℕ) → m < 2 ^ 64 → of_z w64 (neg_ℤ (pos m)) ≡ (2 ^ 64 - m) % 2 ^ 64
bits_of_negative zero h = refl
bits_of_negative (suc m) h = omega arith

-- 64 bits by their halves
pub record Halves (bits high low : ℕ) : Type 0 where
  pub upper : bits / 2 ^ 32 ≡ high
  pub lower : bits % 2 ^ 32 ≡ low

-- no operand is negative
neither_negative : (a b : ℕ) → Halves (a * b) (mulhu a b) (mul a b)
neither_negative a b = record { upper = refl; lower = refl }

-- one is
one_negative : (a b p : ℕ) → a < 2 ^ 32 → b < 2 ^ 32 → p ≡ magnitude a * b → Halves (of_z w64 (neg_ℤ (pos p))) (sub (mulhu a b) b) (mul a b)
one_negative a zero p h g e =
    let z : p ≡ 0 = e ∙ mul_comm (magnitude a) 0 ∙ omega arith in
    let y : a * 0 ≡ 0 = mul_comm a 0 ∙ omega arith in
    record { upper = rw (z, y); lower = rw (z, y) }
one_negative a (suc b) p h g e =
    let r = magnitude_times a (suc b) h in
    let l = less_times a (suc b) h (omega arith) in
    record { upper = rw (bits_of_negative p (omega arith)) (omega arith); lower = rw (bits_of_negative p (omega arith)) (omega arith) }

-- both are
both_negative : (a b : ℕ) → a < 2 ^ 32 → b < 2 ^ 32 → 2 ^ 31 ≤ a → 2 ^ 31 ≤ b → Halves (magnitude a * magnitude b) (sub (sub (mulhu a b) b) a) (mul a b)
both_negative a b h g w v =
    let r = magnitude_times a b h in
    let q : magnitude a * b + magnitude a * magnitude b ≡ 4294967296 * magnitude a =
    ap (λ (x : ℕ). x + magnitude a * magnitude b) (mul_comm (magnitude a) b) ∙ ap (λ (x : ℕ). b * magnitude a + x) (mul_comm (magnitude a) (magnitude b)) ∙ magnitude_times b (magnitude a) g in
    record { upper = omega (arith, r, q, w, v); lower = omega (arith, r, q, w, v) }

signed_low : (a : ℕ) → a < 2 ^ 31 → signed a ≡ pos a
signed_low a h = rw (lt-ltb a 2147483648 h)

signed_high : (a : ℕ) → 2 ^ 31 ≤ a → signed a ≡ negsuc (4294967296 - suc a)
signed_high a h = rw (le-ltb a 2147483648 h)

-- an operand that is not negative takes nothing
takes_nothing : (x : ℕ) → x < 2 ^ 32 → sub x 0 ≡ x
takes_nothing x h = omega arith

mulhu_fits : (a b : ℕ) → a < 2 ^ 32 → b < 2 ^ 32 → mulhu a b < 2 ^ 32
mulhu_fits a b h g = omega (arith, mul-lt a b (2 ^ 32) (2 ^ 32) h g)

-- signed by unsigned
pub mixed_halves : (a b : ℕ) → a < 2 ^ 32 → b < 2 ^ 32 → Halves (product signed pos a b) (sub (mulhu a b) (correction a b)) (mul a b)
mixed_halves a b h g = go (ltb a 2147483648) refl
  where
    go : (s : Bool) → ltb a 2147483648 ≡ s → Halves (product signed pos a b) (sub (mulhu a b) (cond s 0 b)) (mul a b)
    go true e = rw (signed_low a (ltb-true _ _ e), takes_nothing (mulhu a b) (mulhu_fits a b h g)) (neither_negative a b)
    go false e = rw (signed_high a (ltb-false _ _ e)) (one_negative a b _ h g refl)

-- signed by signed
pub signed_halves : (a b : ℕ) → a < 2 ^ 32 → b < 2 ^ 32 → Halves (product signed signed a b) (sub (sub (mulhu a b) (correction a b)) (correction b a)) (mul a b)
signed_halves a b h g = go (ltb a 2147483648) (ltb b 2147483648) refl refl
  where
    go : (s t : Bool) → ltb a 2147483648 ≡ s → ltb b 2147483648 ≡ t → Halves (product signed signed a b) (sub (sub (mulhu a b) (cond s 0 b)) (cond t 0 a)) (mul a b)
    go true true e f =
        rw (signed_low a (ltb-true _ _ e), signed_low b (ltb-true _ _ f), takes_nothing (mulhu a b) (mulhu_fits a b h g), takes_nothing (mulhu a b) (mulhu_fits a b h g)) (neither_negative a b)
    go true false e f =
        rw (signed_low a (ltb-true _ _ e), signed_high b (ltb-false _ _ f), takes_nothing (mulhu a b) (mulhu_fits a b h g))
        (rw (mul_comm b a) at (one_negative b a _ g h (mul_comm a (magnitude b))))
    go false true e f =
        rw (signed_high a (ltb-false _ _ e), signed_low b (ltb-true _ _ f), takes_nothing (sub (mulhu a b) b) (omega arith)) (one_negative a b _ h g refl)
    go false false e f =
        rw (signed_high a (ltb-false _ _ e), signed_high b (ltb-false _ _ f)) (both_negative a b h g (ltb-false _ _ e) (ltb-false _ _ f))

pub lower_half : LowerHalf
lower_half a b h g = ((signed_halves a b h g).lower, (mixed_halves a b h g).lower, refl)
