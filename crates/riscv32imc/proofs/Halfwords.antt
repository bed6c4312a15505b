-- A test that none of all halfwords passes holds of no halfword. Assumes nothing.
use mathlib.Core.Bool.{Bool, true, false, cond}
use mathlib.Core.Path.{◌≡◌, refl, subst}
use Prim.Native.Nat.{ℕ, zero, suc, ◌+◌, ◌^◌, ◌≤◌, ◌<◌}
use native.Mathlib.Nat.{pow-suc}
use native.Mathlib.Omega.{arith}
use borrow.Author.Tests.{ltb-true, ltb-false}
use lib.Dec.{ltb}
use Rattle.riscv32imc.specs.Hints.{how_many}

not_counted : (b : Bool) → ◌≡◌ {A = ℕ} (cond b 1 0) 0 → b ≡ false
not_counted true e = absurd (omega (arith, e))
not_counted false e = refl

none_passes : (test : ℕ → Bool) (k first i : ℕ) → how_many test k first ≡ 0 → first ≤ i → i < first + 2 ^ k → test i ≡ false
unfolding how_many
none_passes test zero first i e l h = let z : first ≡ i = omega arith in subst (λ (x : ℕ). test x ≡ false) z (not_counted (test first) e)
none_passes test (suc k) first i e l h =
    let low : how_many test k first ≡ 0 = omega (arith, e) in
    let high : how_many test k (first + 2 ^ k) ≡ 0 = omega (arith, e) in
    go (ltb i (first + 2 ^ k)) refl
    (λ b. none_passes test k first i low l b)
    (λ b. none_passes test k (first + 2 ^ k) i high b (omega (arith, pow-suc 2 k)))
  where
    go : (b : Bool) → ltb i (first + 2 ^ k) ≡ b → (i < first + 2 ^ k → test i ≡ false) → (first + 2 ^ k ≤ i → test i ≡ false) → test i ≡ false
    go true e x y = x (ltb-true i (first + 2 ^ k) e)
    go false e x y = y (ltb-false i (first + 2 ^ k) e)

pub no_halfword : (test : ℕ → Bool) → how_many test 16 0 ≡ 0 → (h : ℕ) → h < 2 ^ 16 → test h ≡ false
no_halfword test e h b = none_passes test 16 0 h e (omega arith) (omega arith)
