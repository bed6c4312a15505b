-- Every word that a halfword expands to is a number of four bytes.
use Rattle.std.specs.Prelude.{None, Option, Some, ℕ}
use mathlib.Core.Path.{◌≡◌, refl, subst}
use mathlib.Core.Bool.{Bool, true, false}
use mathlib.Core.Option.{some, some-injective}
use Prim.Native.Nat.{ℕ, ◌<◌, ◌%◌, ◌^◌}
use native.Mathlib.Omega.{arith}
use lib.Dec.{eqb}
use Rattle.rv32_arithmetic.specs.Bits.{slice}
use Rattle.riscv32imc.specs.Expansion.{funct3, rd, rs2, addi4spn_imm, addi16sp_imm, lui_imm, cAddi4spn, quadrant0, cAddi16sp, cLui, cShift, cOperations, cArithmetic, quadrant1, cSlli, cLwsp, cRegisters, quadrant2, expand}
use Rattle.predicate_semantics.specs.Standing.{expanded_word, standing_core}
use Rattle.predicate_semantics.specs.RecordRules.{ExpandsToWords}

abbrev Fits : Option ℕ → Type 0
Fits (Some w) = w < 2 ^ 32
Fits None = Unit {0}

either : {P : Type 0} (b : Bool) → (b ≡ true → P) → (b ≡ false → P) → P
either true x y = x refl
either false x y = y refl

fits_c_addi4spn : (h : ℕ) → Fits (cAddi4spn h)
unfolding cAddi4spn
fits_c_addi4spn h =
    either (eqb (addi4spn_imm h) 0) (λ e. rw e tt)
    (λ e. rw e (omega arith))

fits_quadrant0 : (h : ℕ) → Fits (quadrant0 h)
unfolding quadrant0
fits_quadrant0 h =
    either (eqb (funct3 h) 0) (λ e. rw e (fits_c_addi4spn h))
    (λ e. rw e (either (eqb (funct3 h) 2) (λ e. rw e (omega arith))
    (λ e. rw e (either (eqb (funct3 h) 6) (λ e. rw e (omega arith))
    (λ e. rw e tt)))))

fits_c_addi16sp : (h : ℕ) → Fits (cAddi16sp h)
unfolding cAddi16sp
fits_c_addi16sp h =
    either (eqb (addi16sp_imm h) 0) (λ e. rw e tt)
    (λ e. rw e (omega arith))

fits_c_lui : (h : ℕ) → Fits (cLui h)
unfolding cLui
fits_c_lui h =
    either (eqb (lui_imm h) 0) (λ e. rw e tt)
    (λ e. rw e (omega arith))

fits_c_shift : (funct7 h : ℕ) → Fits (cShift funct7 h)
unfolding cShift
fits_c_shift funct7 h =
    either (eqb (slice h 12 12) 0) (λ e. rw e (omega arith))
    (λ e. rw e tt)

fits_c_operations : (h : ℕ) → Fits (cOperations h)
unfolding cOperations
fits_c_operations h =
    either (eqb (slice h 12 12) 0) (λ e. rw e (either (eqb (slice h 6 5) 0) (λ e. rw e (omega arith)) (λ e. rw e (either (eqb (slice h 6 5) 1) (λ e. rw e (omega arith)) (λ e. rw e (either (eqb (slice h 6 5) 2) (λ e. rw e (omega arith)) (λ e. rw e (omega arith))))))))
    (λ e. rw e tt)

fits_c_arithmetic : (h : ℕ) → Fits (cArithmetic h)
unfolding cArithmetic
fits_c_arithmetic h =
    either (eqb (slice h 11 10) 0) (λ e. rw e (fits_c_shift 0 h))
    (λ e. rw e (either (eqb (slice h 11 10) 1) (λ e. rw e (fits_c_shift 0x20 h))
    (λ e. rw e (either (eqb (slice h 11 10) 2) (λ e. rw e (omega arith))
    (λ e. rw e (fits_c_operations h))))))

fits_quadrant1 : (h : ℕ) → Fits (quadrant1 h)
unfolding quadrant1
fits_quadrant1 h =
    either (eqb (funct3 h) 0) (λ e. rw e (omega arith))
    (λ e. rw e (either (eqb (funct3 h) 1) (λ e. rw e (omega arith))
    (λ e. rw e (either (eqb (funct3 h) 2) (λ e. rw e (omega arith))
    (λ e. rw e (either (eqb (funct3 h) 3) (λ e. rw e (either (eqb (rd h) 2) (λ e. rw e (fits_c_addi16sp h)) (λ e. rw e (fits_c_lui h))))
    (λ e. rw e (either (eqb (funct3 h) 4) (λ e. rw e (fits_c_arithmetic h))
    (λ e. rw e (either (eqb (funct3 h) 5) (λ e. rw e (omega arith))
    (λ e. rw e (either (eqb (funct3 h) 6) (λ e. rw e (omega arith))
    (λ e. rw e (omega arith))))))))))))))

fits_c_slli : (h : ℕ) → Fits (cSlli h)
unfolding cSlli
fits_c_slli h =
    either (eqb (slice h 12 12) 0) (λ e. rw e (omega arith))
    (λ e. rw e tt)

fits_c_lwsp : (h : ℕ) → Fits (cLwsp h)
unfolding cLwsp
fits_c_lwsp h =
    either (eqb (rd h) 0) (λ e. rw e tt)
    (λ e. rw e (omega arith))

fits_c_registers : (h : ℕ) → Fits (cRegisters h)
unfolding cRegisters
fits_c_registers h =
    either (eqb (slice h 12 12) 0) (λ e. rw e (either (eqb (rs2 h) 0) (λ e. rw e (either (eqb (rd h) 0) (λ e. rw e tt) (λ e. rw e (omega arith)))) (λ e. rw e (omega arith))))
    (λ e. rw e (either (eqb (rs2 h) 0) (λ e. rw e (either (eqb (rd h) 0) (λ e. rw e (omega arith)) (λ e. rw e (omega arith))))
    (λ e. rw e (omega arith))))

fits_quadrant2 : (h : ℕ) → Fits (quadrant2 h)
unfolding quadrant2
fits_quadrant2 h =
    either (eqb (funct3 h) 0) (λ e. rw e (fits_c_slli h))
    (λ e. rw e (either (eqb (funct3 h) 2) (λ e. rw e (fits_c_lwsp h))
    (λ e. rw e (either (eqb (funct3 h) 4) (λ e. rw e (fits_c_registers h))
    (λ e. rw e (either (eqb (funct3 h) 6) (λ e. rw e (omega arith))
    (λ e. rw e tt)))))))

fits_expand : (h : ℕ) → Fits (expand h)
unfolding expand
fits_expand h =
    either (eqb (h % 4) 0) (λ e. rw e (fits_quadrant0 h))
    (λ e. rw e (either (eqb (h % 4) 1) (λ e. rw e (fits_quadrant1 h))
    (λ e. rw e (either (eqb (h % 4) 2) (λ e. rw e (fits_quadrant2 h))
    (λ e. rw e tt)))))

told : (w : ℕ) (x : Option ℕ) → Fits x → expanded_word x ≡ some w → w < 2 ^ 32
unfolding expanded_word
told w (Some v) h e = subst (λ (n : ℕ). n < 2 ^ 32) (some-injective v w e) h
told w None h e = let z : ◌≡◌ {A = ℕ} 0 1 = cc in absurd (omega arith)

pub standing_expands_to_words : ExpandsToWords standing_core
unfolding standing_core
standing_expands_to_words h w e = told w (expand h) (fits_expand h) e
