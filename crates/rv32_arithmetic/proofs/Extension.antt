-- Sign extension from a power of two, as a shift makes it. Assumes nothing.
use Rattle.std.proofs.Common.{◌≡◌, ℕ, ◌+◌, ◌-◌, ◌*◌, ◌%◌, ◌^◌, ◌<◌, ◌≤◌, Bool, true, false, cond, ltb, refl, mod-eq_of_lt, arith, pow_pos, pow_mono, le-ltb, lt-ltb}
use Rattle.std.proofs.lemmas.Nat.{one_shl}
use Rattle.rv32_arithmetic.specs.Bits.{sign_extend}

either_way : (t : Bool) (x : ℕ) → x ≡ cond t x (x + 0)
either_way true x = refl
either_way false x = omega arith

-- the three ways of `sign_extend`
pub whole : (x k : ℕ) → x < 2 ^ 32 → 32 ≤ k → x ≡ sign_extend x k
unfolding sign_extend
whole x k f h =
    let p : 4294967296 ≤ 2 ^ k = pow_mono h in
    let e : x % 2 ^ k ≡ x = mod-eq_of_lt (omega arith) in
    let z : 4294967296 - 2 ^ k ≡ 0 = omega arith in
    rw (e, z) (either_way (ltb x (2 ^ k - x)) x)

pub low_half : (x k : ℕ) → k < 32 → x % (1 * 2 ^ k % 4294967296) < 1 * 2 ^ k % 4294967296 - x % (1 * 2 ^ k % 4294967296) → x % (1 * 2 ^ k % 4294967296) ≡ sign_extend x k
unfolding sign_extend
low_half x k b = rw (one_shl k 32 b) (λ h. rw (lt-ltb _ _ h))

pub high_half : (x k : ℕ) → k < 32 → 1 * 2 ^ k % 4294967296 - x % (1 * 2 ^ k % 4294967296) ≤ x % (1 * 2 ^ k % 4294967296)
    → (x % (1 * 2 ^ k % 4294967296) + (4294967296 - 1 * 2 ^ k % 4294967296)) % 4294967296 ≡ sign_extend x k
unfolding sign_extend
high_half x k b =
    let l : k ≤ 31 = omega arith in
    let m : 2 ^ k ≤ 2147483648 = pow_mono l in
    rw (one_shl k 32 b) (λ h. rw (le-ltb _ _ h) (mod-eq_of_lt (omega (arith, m, pow_pos k))))
