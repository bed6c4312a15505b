-- Operation numbers: the last of some, what is above them, and that below the first. Assumes nothing.
use Rattle.std.specs.Prelude as Code
use mathlib.Core.Path.{◌≡◌, refl, sym}
use mathlib.Core.List.{◌∷◌, map}
use Prim.Native.Nat.{ℕ, zero, suc, ◌+◌, ◌≤◌, ◌<◌}
use native.Mathlib.Omega.{arith}
use lib.ListN.{get_or-eq_default}
use Rattle.riscv_decode.specs.Decode.{operation_of}
use Rattle.riscv_decode.specs.Listing.{operation_count, listing, operation}

-- n is none of the k numbers from a on
abbrev pub None : ℕ → ℕ → ℕ → Type 0
None a n zero = Unit {0}
None a n (suc k) = None a n k × (n ≡ a + k → ⊥)

above : (a n k : ℕ) → a ≤ n → None a n k → a + k ≤ n
above a n zero h r = omega arith
above a n (suc k) h r = omega (arith, above a n k h r.0, r.1)

-- of the numbers from a to a + k, the last
pub last : (a k n : ℕ) → (a ≤ n) × (n ≤ a + k) → None a n k → n ≡ a + k
last a k n h r = omega (arith, above a n k h.0 r)

-- above the last there is no operation
pub beyond : (n w : ℕ) → operation_count < n → Code.None ≡ operation_of n w
unfolding operation_of listing
beyond n w h = sym (get_or-eq_default (Code.None ∷ map (λ l. Code.Some (operation l w)) listing) Code.None h)

-- nor is there one below the first
pub unnamed : (n w : ℕ) → (1 ≤ n → operation_count < n) → Code.None ≡ operation_of n w
unfolding operation_of
unnamed zero w h = refl
unnamed (suc n) w h = beyond (suc n) w (h (omega arith))
