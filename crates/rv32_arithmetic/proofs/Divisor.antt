-- Division by a power of two, as a shift by its places. Assumes nothing.
use Rattle.std.specs.Bool.{then_some}
use Rattle.std.specs.Prelude.{None, Option, Some, ℕ}
use Rattle.std.proofs.Common.{◌≡◌, ℕ, zero, suc, ◌*◌, ◌/◌, ◌%◌, ◌^◌, ◌<◌, Bool, true, false, cond, eqb, sym, refl, ap, ◌∙◌, mod-lt, mod-eq_of_lt, pow-suc, arith, pow_pos, eq-eqb, ne_eqb, eqb-true}
use borrow.Author.Tests.{eqb-false}
use lib.Arith.{lt_of_le-ne}
use lib.Count.{count_trailing_zeros}
use lib.Pow.{pow-lt}
use Rattle.std.proofs.lemmas.Nat.{one_shl}
use Rattle.rv32_arithmetic.specs.Arithmetic.{divu}
use Rattle.rv32_arithmetic.specs.Divisor.{power_below, power_of, PowersFound, ShiftDivides}

-- ---- which numbers are powers

found_below : (n k : ℕ) → k < n → power_below n (2 ^ k) ≡ Some k
unfolding power_below
found_below zero k h = absurd (omega arith)
found_below (suc n) k h = go (eqb k n) refl (found_below n k)
  where
    go : (b : Bool) → eqb k n ≡ b → (k < n → power_below n (2 ^ k) ≡ Some k) → power_below (suc n) (2 ^ k) ≡ Some k
    go true e f = rw (eqb-true k n e, eq-eqb (2 ^ n) (2 ^ n) refl)
    go false e f =
        let l : k < n = lt_of_le-ne (omega arith) (eqb-false k n e) in
        rw (ne_eqb (2 ^ k) (2 ^ n) (λ z. omega (arith, pow-lt l, z))) (f l)

is_below : (n x k : ℕ) → power_below n x ≡ Some k → (k < n) × (x ≡ 2 ^ k)
unfolding power_below
is_below zero x k h = let z : ◌≡◌ {A = ℕ} 0 1 = cc in absurd (omega (arith, z))
is_below (suc n) x k h = go (eqb x (2 ^ n)) refl h (is_below n x k)
  where
    go : (b : Bool) → eqb x (2 ^ n) ≡ b → cond b (Some n) (power_below n x) ≡ Some k → (power_below n x ≡ Some k → (k < n) × (x ≡ 2 ^ k)) → (k < suc n) × (x ≡ 2 ^ k)
    go true e q f = let z : n ≡ k = cc in (omega (arith, z), eqb-true x (2 ^ n) e ∙ ap (λ (i : ℕ). 2 ^ i) z)
    go false e q f = let p = f q in (omega (arith, p.0), p.1)

pub powers_found : PowersFound
powers_found = (found_below 32, is_below 32)

-- ---- by the zeros below the lowest bit

zeros_of_power : (n k : ℕ) → k < n → count_trailing_zeros n (2 ^ k) ≡ k
unfolding count_trailing_zeros
zeros_of_power zero k h = absurd (omega arith)
zeros_of_power (suc n) zero h = refl
zeros_of_power (suc n) (suc k) h =
    let even : 2 ^ suc k % 2 ≡ 0 = omega (arith, pow-suc 2 k) in
    let half : 2 ^ suc k / 2 ≡ 2 ^ k = omega (arith, pow-suc 2 k) in
    rw (even, half) (ap suc (zeros_of_power n k (omega arith)))

-- what `1 << places` equals, and a number that it does not
pub is_power : (x k : ℕ) → k < 32 → 1 * 2 ^ k % 4294967296 ≡ x → Some k ≡ power_of x
is_power x k h e = sym (ap power_of (sym e ∙ one_shl k 32 h) ∙ found_below 32 k h)

pub no_power : (x : ℕ) → (1 * 2 ^ (count_trailing_zeros 32 x % 32) % 4294967296 ≡ x → ⊥) → None ≡ power_of x
no_power x d = go (power_of x) refl
  where
    go : (p : Option ℕ) → power_of x ≡ p → None ≡ p
    go None e = refl
    go (Some k) e =
        let p = is_below 32 x k e in
        let z : count_trailing_zeros 32 (2 ^ k) % 32 ≡ k = ap (λ (i : ℕ). i % 32) (zeros_of_power 32 k p.0) ∙ mod-eq_of_lt p.0 in
        absurd (d (rw (p.1, z) (one_shl k 32 p.0)))

-- .. as code tells it
pub told : (x : ℕ) → then_some (eqb (1 * 2 ^ (count_trailing_zeros 32 x % 32) % 4294967296) x) (count_trailing_zeros 32 x % 32) ≡ power_of x
told x = go (eqb (1 * 2 ^ (count_trailing_zeros 32 x % 32) % 4294967296) x) refl
  where
    go : (b : Bool) → eqb (1 * 2 ^ (count_trailing_zeros 32 x % 32) % 4294967296) x ≡ b → then_some b (count_trailing_zeros 32 x % 32) ≡ power_of x
    go true e = is_power x _ (mod-lt _ (omega arith)) (eqb-true _ _ e)
    go false e = no_power x (eqb-false _ _ e)

-- ---- the quotient

pub shift_divides : ShiftDivides
shift_divides a k h = rw (mod-eq_of_lt h, ne_eqb (2 ^ k) 0 (λ z. omega (arith, pow_pos k, z)))

-- .. by a number that was found to be a power
pub by_places : {r : Option ℕ} (x : ℕ) {k : ℕ} → r ≡ power_of x → r ≡ Some k → (k < 32) × ((a : ℕ) → a / 2 ^ k ≡ divu a x)
by_places x {k} found is =
    let p = is_below 32 x k (sym found ∙ is) in
    (p.0, λ a. ap (λ (i : ℕ). a / 2 ^ i) (sym (mod-eq_of_lt p.0)) ∙ shift_divides a k p.0 ∙ ap (divu a) (sym p.1))
