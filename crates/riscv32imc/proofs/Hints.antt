-- Hints: how many there are and what they expand to, by computed counts over all halfwords. Assumes nothing.
use Rattle.std.specs.Prelude.{None, Option, Some, ℕ}
use mathlib.Core.Bool.{Bool, true, false, not, ◌&&◌, true≢false}
use mathlib.Core.Path.{◌≡◌, refl}
use Prim.Native.Nat.{ℕ}
use lib.Dec.{T}
use Rattle.rv32_arithmetic.specs.Bits.{sign_extend}
use Rattle.riscv32imc.specs.Expansion.{place, cLui, quadrant1, cSlli, cRegisters, quadrant2, expand}
use Rattle.riscv32imc.specs.Hints.{hint, how_many, HintsCounted, writes_x0, HintsExpand}
use Rattle.riscv32imc.proofs.Halfwords.{no_halfword}

pub hints_counted : HintsCounted
unfolding place how_many hint
hints_counted = (refl, refl, refl, refl, refl, refl)

abbrev expands_into_x0 : Option ℕ → Bool
expands_into_x0 (Some w) = writes_x0 w
expands_into_x0 None = false

-- a hint that does not expand to a word that writes x0
strays : ℕ → Bool
strays h = hint h && not (expands_into_x0 (expand h))

none_strays : how_many strays 16 0 ≡ 0
unfolding sign_extend place cLui quadrant1 cSlli cRegisters quadrant2 expand how_many strays hint writes_x0
none_strays = refl

T_of : (b : Bool) → not b ≡ false → T b
T_of true e = tt
T_of false e = absurd (true≢false e)

word_of : (b : Bool) (x : Option ℕ) → T b → b && not (expands_into_x0 x) ≡ false → (w : ℕ) × (x ≡ Some w) × T (writes_x0 w)
word_of true (Some w) t e = (w, refl, T_of (writes_x0 w) e)
word_of true None t e = absurd (true≢false e)
word_of false x t e = absurd t

pub hints_expand : HintsExpand
unfolding strays
hints_expand h b t = word_of (hint h) (expand h) t (no_halfword strays none_strays h b)
