-- Words read as two's complement numbers: what the casts of `as_signed` and `as_unsigned` ask, what the machine reads of two
-- signed locals, and that a quotient fits. Assumes nothing.
use Rattle.std.proofs.Common.{◌≡◌, ℕ, zero, suc, ◌-◌, ◌/◌, ◌<◌, ◌≤◌, true, false, T, ℤ, pos, negsuc, neg_ℤ, nat_abs, refl, ap, ◌∙◌, div-le_self, arith, to_z-of_z, Fits-lit, w32, Fits, SFits, to_z, of_z, ne_eqb}
use native.Mathlib.Nat.{div-lt_self}
use lib.Dec.{leb-zero}
use lib.Signed.{mag, le_z, non_neg, quot_z, rem_z, shr_z, mag_rem, mag_shr}
use mir.Facts.{to_z_inj, to_z_pos, of_z-to_z, sfits_to_z}
use Rattle.rv32_arithmetic.specs.Arithmetic.{signed, unsigned, div, rem}

-- what the machine reads of a signed local goes through the local's bits: here the local holds the number of the word a
pub again : {a : ℕ} {x : ℤ} → Fits w32 a → x ≡ signed a → to_z w32 (of_z w32 x) ≡ signed a
again f e = ap (λ (z : ℤ). to_z w32 (of_z w32 z)) e ∙ ap (to_z w32) (of_z-to_z f)

-- `as_unsigned` of a number that is not negative
pub record Positive (z : ℤ) : Type 0 where
  pub cast : T (non_neg (to_z w32 (of_z w32 z))) × Fits w32 (nat_abs (to_z w32 (of_z w32 z)))
  pub is : nat_abs (to_z w32 (of_z w32 z)) ≡ unsigned z

pub positive : (z : ℤ) → SFits w32 z → le_z (pos 0) (to_z w32 (of_z w32 z)) ≡ true → Positive z
positive (pos n) s e =
    record { cast = rw (to_z-of_z s) (tt, record { fits = omega (arith, s.sfits) }); is = rw (to_z-of_z s) }
positive (negsuc n) s e = let z : ◌≡◌ {A = ℕ} 0 1 = cc (to_z-of_z s) in absurd (omega arith)

-- `as_unsigned` of a negative number
pub record Negative (z : ℤ) : Type 0 where
  pub cast : T (non_neg (to_z w32 (4294967295 - of_z w32 z))) × Fits w32 (nat_abs (to_z w32 (4294967295 - of_z w32 z)))
  pub within : nat_abs (to_z w32 (4294967295 - of_z w32 z)) ≤ 4294967295
  pub is : 4294967295 - nat_abs (to_z w32 (4294967295 - of_z w32 z)) ≡ unsigned z

pub negative : (z : ℤ) → SFits w32 z → le_z (pos 0) (to_z w32 (of_z w32 z)) ≡ false → Negative z
negative (pos n) s e = let z : ◌≡◌ {A = ℕ} 0 1 = cc (to_z-of_z s, leb-zero n) in absurd (omega arith)
negative (negsuc n) s e =
    let h : 4294967295 - (4294967296 - suc n) ≡ n = omega (arith, s.sfits) in
    let flip : to_z w32 (4294967295 - (4294967296 - suc n)) ≡ pos n = ap (to_z w32) h ∙ to_z_pos w32 s.sfits in
    record {
      cast = rw flip (tt, record { fits = omega (arith, s.sfits) });
      within = rw flip (omega (arith, s.sfits));
      is = rw flip (omega (arith, s.sfits));
    }

-- a quotient fits, but for the least number by -1
mag_neg : (r : ℕ) {a : ℕ} → r ≤ suc a → mag (neg_ℤ (pos r)) ≤ a
mag_neg zero h = omega arith
mag_neg (suc r) h = omega arith

quot_fits : (z d : ℤ) → SFits w32 z → (z ≡ negsuc 2147483647 → d ≡ negsuc 0 → ⊥) → SFits w32 (quot_z z d)
quot_fits (pos a) (pos b) s h = record { sfits = omega (arith, div-le_self a b, s.sfits) }
quot_fits (pos a) (negsuc b) s h =
    let e : a / suc b ≤ suc a = omega (arith, div-le_self a (suc b)) in
    record { sfits = omega (arith, mag_neg (a / suc b) e, s.sfits) }
quot_fits (negsuc a) (pos b) s h =
    let e : suc a / b ≤ suc a = div-le_self (suc a) b in
    record { sfits = omega (arith, mag_neg (suc a / b) e, s.sfits) }
quot_fits (negsuc a) (negsuc zero) s h =
    let n : a ≡ 2147483647 → ⊥ = λ e. h (ap negsuc e) refl in
    record { sfits = omega (arith, n, s.sfits) }
quot_fits (negsuc a) (negsuc (suc b)) s h =
    let l : suc a / suc (suc b) < suc a = div-lt_self (omega arith) (omega arith) in
    record { sfits = omega (arith, s.sfits) }

rem_fits : {z : ℤ} (d : ℤ) → SFits w32 z → SFits w32 (rem_z z d)
rem_fits {z} d s = record { sfits = omega (arith, mag_rem z d, s.sfits) }

pub shr_fits : {z : ℤ} (m : ℕ) → SFits w32 z → SFits w32 (shr_z z m)
shr_fits {z} m s = record { sfits = omega (arith, mag_shr z m, s.sfits) }

-- the division of two signed locals: it is defined, and what `as_unsigned` makes of its two results
pub record Divided (a b : ℕ) (x y : ℤ) : Type 0 where
  pub defined : (0 < of_z w32 y) × SFits w32 (quot_z (to_z w32 (of_z w32 x)) (to_z w32 (of_z w32 y)))
  pub quotient : unsigned (to_z w32 (of_z w32 (quot_z (to_z w32 (of_z w32 x)) (to_z w32 (of_z w32 y))))) ≡ div a b
  pub remainder : unsigned (to_z w32 (of_z w32 (rem_z (to_z w32 (of_z w32 x)) (to_z w32 (of_z w32 y))))) ≡ rem a b

pub divided : {a b : ℕ} {x y : ℤ} → Fits w32 a → Fits w32 b → x ≡ signed a → y ≡ signed b →
    (b ≡ 0 → ⊥) → (a ≡ 2147483648 → b ≡ 4294967295 → ⊥) → Divided a b x y
divided {a} {b} f g p q n m =
    let s : SFits w32 (quot_z (to_z w32 a) (to_z w32 b)) = quot_fits (to_z w32 a) (to_z w32 b) (sfits_to_z f) (λ u v. m (to_z_inj f (Fits-lit tt) u) (to_z_inj g (Fits-lit tt) v)) in
    record {
      defined = (rw (q, of_z-to_z g) (omega arith), rw (again f p, again g q) s);
      quotient = rw (again f p, again g q, to_z-of_z s, ne_eqb _ _ n);
      remainder = rw (again f p, again g q, to_z-of_z (rem_fits (to_z w32 b) (sfits_to_z f)), ne_eqb _ _ n);
    }
