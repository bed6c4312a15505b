-- Answers of two forms are never equal: `cc` reads this of such an equation. Assumes nothing.
use mathlib.Core.Path.{◌≡◌}
use Prim.Native.Nat.{ℕ}
use native.Mathlib.Omega.{arith}

pub clash : ◌≡◌ {A = ℕ} 0 1 → ⊥
clash z = omega arith
