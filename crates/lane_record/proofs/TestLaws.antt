-- Tests in a row. Assumes nothing.
use mathlib.Core.Path.{◌≡◌, refl}
use mathlib.Core.Bool.{Bool, true, false, ◌&&◌}
use Prim.Native.Nat.{ℕ}
use native.Mathlib.Omega.{arith}

pub both : (t u : Bool) → (t && u) ≡ true → (t ≡ true) × (u ≡ true)
both true u e = (refl, e)
both false u e = let z : ◌≡◌ {A = ℕ} 0 1 = cc in absurd (omega arith)

pub yes : {t u : Bool} → t ≡ true → u ≡ true → (t && u) ≡ true
yes p q = rw (p, q)

-- two tests that always hold may be left out
pub always : (a d : Bool) {b c : Bool} → b ≡ true → c ≡ true → (a && b && c && d) ≡ (a && d)
always true d p q = rw (p, q)
always false d p q = refl
