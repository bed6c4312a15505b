-- Words that are one power of two in every lane: by them a word is divided as by a shift. Assumes nothing.
use Rattle.std.specs.Prelude.{Err, None, Ok, Result, Some, ℕ}
use mathlib.Core.Bool.{Bool, true, false, cond}
use mathlib.Core.Path.{◌≡◌, refl, ap, sym, ◌∙◌}
use Prim.Native.Nat.{ℕ}
use lib.ListN.{length, get_or}
use Rattle.rv32_arithmetic.specs.Arithmetic.{srl, divu}
use Rattle.rv32_arithmetic.specs.Divisor.{power_of}
use Rattle.rv32_arithmetic.proofs.Divisor.{powers_found, shift_divides}
use Rattle.lane_word.specs.declared.LaneWord.{LaneWord}
use Rattle.lane_word.specs.Word.{lanes, unary, binary, every, uniform_of}
use Rattle.lane_word.specs.Divisor.{power_in, common_power}
use Rattle.lane_word.proofs.Clash.{clash}
use Rattle.lane_word.proofs.Words.{unary_same}
use Rattle.lane_word.proofs.ToldLaws.{told_is, binary_constant}
use Rattle.lane_word.specs.declared.UniformError.TheVariants.{Unknown, Uneven}
use Rattle.lane_word.specs.declared.UniformError.{UniformError}

-- ---- the code's ways to find it

-- the uniform test finds lane 0's value, or none
uniform_is : (P : Result ℕ UniformError → Type 0) (w : LaneWord) → P (Ok (get_or w.values 0 0)) → P (Err Unknown) → P (Err Uneven) → P (uniform_of w)
unfolding uniform_of
uniform_is P w value unknown uneven = go w.known (every (get_or w.values 0 0) w.values)
  where
    go : (b c : Bool) → P (cond b (cond c (Ok (get_or w.values 0 0)) (Err Uneven)) (Err Unknown))
    go true true = value
    go true false = uneven
    go false c = unknown

-- lane 0 is no power
pub none_in_first : (w : LaneWord) → None ≡ power_of (get_or w.values 0 0) → None ≡ common_power w
none_in_first w found = uniform_is (λ u. None ≡ power_in u) w found refl refl

-- the lanes have no common value
pub none_in_all : (w : LaneWord) {e : UniformError} → Err e ≡ uniform_of w → None ≡ common_power w
none_in_all w {e = Unknown} told = ap power_in told
none_in_all w {e = Uneven} told = ap power_in told

-- every lane is what lane 0 is
pub all_as_first : (w : LaneWord) {k v : ℕ} → Some k ≡ power_of (get_or w.values 0 0) → Ok v ≡ uniform_of w → Some k ≡ common_power w
all_as_first w {k} {v} found told =
    uniform_is (λ u. Ok v ≡ u → Some k ≡ power_in u) w (λ q. found) (λ q. absurd (clash (cc))) (λ q. absurd (clash (cc))) told

-- ---- what it is found for

-- the shift of each lane is its division
pub shifted_lanes : (a b : LaneWord) (k : ℕ) → length a.values ≡ lanes → length b.values ≡ lanes → common_power b ≡ Some k
    → unary (λ v. srl v k) a ≡ binary divu a b
shifted_lanes a b k e d h = go (uniform_of b) refl h
  where
    go : (u : Result ℕ UniformError) → uniform_of b ≡ u → power_in u ≡ Some k → unary (λ v. srl v k) a ≡ binary divu a b
    go (Ok v) q p =
        let f = powers_found.1 v k p in
        let z : binary divu a b ≡ unary (λ x. divu x v) a = rw (told_is b v d q) (binary_constant divu lanes v a e) in
        unary_same (λ x. shift_divides x k f.0 ∙ rw f.1) a ∙ sym z
    go (Err Unknown) q p = absurd (clash (cc))
    go (Err Uneven) q p = absurd (clash (cc))
