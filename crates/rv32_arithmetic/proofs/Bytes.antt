-- The bytes of a word: a shift by 8 k places is a division by 256 ^ k, and a word has four bytes. Assumes nothing.
use Rattle.std.proofs.Common.{◌≡◌, ℕ, zero, suc, ◌+◌, ◌*◌, ◌/◌, ◌%◌, ◌^◌, ◌<◌, ◌≤◌, sym, refl, pow-suc, arith, pow-add}
use native.Mathlib.Nat.{pow-le-pow_right, div-eq_of_lt}
use Rattle.rv32_arithmetic.specs.Bits.{byte_of}

eight_places : (k : ℕ) → 2 ^ (8 * k) ≡ 256 ^ k
eight_places zero = refl
eight_places (suc k) =
    let e : 8 * suc k ≡ 8 * k + 8 = omega arith in
    rw (e, pow-add, eight_places k) (sym (pow-suc 256 k))

pub shifted : (x k : ℕ) → x / 2 ^ (8 * k) % 256 ≡ byte_of x k
shifted x k = rw (eight_places k)

pub above : (x k : ℕ) → x < 2 ^ 32 → 4 ≤ k → 0 ≡ byte_of x k
above x k h l =
    let p : 256 ^ 4 ≤ 256 ^ k = pow-le-pow_right (omega arith) l in
    let q : x < 256 ^ k = omega arith in
    rw (div-eq_of_lt q)
