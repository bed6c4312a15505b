-- What is claimed of hints: the halfwords of C.LI, C.LUI, C.SLLI, C.MV and C.ADD with rd 0 (the C extension's "HINT Instructions"), of every one of them.
use Rattle.std.specs.Prelude.{Bool, cond, ◌&&◌, ◌||◌, not, ◌≡◌, ℕ, zero, suc, ◌+◌, ◌^◌, ◌<◌, T, eqb, Some}
use Rattle.rv32_arithmetic.specs.Bits.{slice}
use Rattle.riscv32imc.specs.Expansion.{quadrant, funct3, rd, rs2, lui_imm, expand}

-- C.LI
abbrev pub is_li : ℕ → Bool
is_li h = eqb (quadrant h) 1 && eqb (funct3 h) 2

-- C.LUI; reserved with nzimm 0
abbrev pub is_lui : ℕ → Bool
is_lui h = eqb (quadrant h) 1 && eqb (funct3 h) 3 && not (eqb (lui_imm h) 0)

-- C.SLLI; not for RV32 with nzuimm[5] 1
abbrev pub is_slli : ℕ → Bool
is_slli h = eqb (quadrant h) 2 && eqb (funct3 h) 0 && eqb (slice h 12 12) 0

-- C.MV; with rs2 0 it is C.JR
abbrev pub is_mv : ℕ → Bool
is_mv h = eqb (quadrant h) 2 && eqb (funct3 h) 4 && eqb (slice h 12 12) 0 && not (eqb (rs2 h) 0)

-- C.ADD; with rs2 0 it is C.JALR or C.EBREAK
abbrev pub is_add : ℕ → Bool
is_add h = eqb (quadrant h) 2 && eqb (funct3 h) 4 && eqb (slice h 12 12) 1 && not (eqb (rs2 h) 0)

-- a halfword of a kind that is a hint: rd 0
abbrev pub hint_of : (ℕ → Bool) → ℕ → Bool
hint_of kind h = eqb (rd h) 0 && kind h

-- a hint of one of the five kinds
unfoldable pub hint : ℕ → Bool
hint h = hint_of (λ x. is_li x || is_lui x || is_slli x || is_mv x || is_add x) h

-- how many of the 2 ^ k numbers from `first` on pass a test
unfoldable pub how_many : (ℕ → Bool) → ℕ → ℕ → ℕ
how_many test zero first = cond (test first) 1 0
how_many test (suc k) first = how_many test k first + how_many test k (first + 2 ^ k)

-- of all halfwords 221 are hints, so many of each kind
abbrev pub HintsCounted : Type 0
HintsCounted =
    (how_many hint 16 0 ≡ 221)
    × (how_many (hint_of is_li) 16 0 ≡ 64)
    × (how_many (hint_of is_lui) 16 0 ≡ 63)
    × (how_many (hint_of is_slli) 16 0 ≡ 32)
    × (how_many (hint_of is_mv) 16 0 ≡ 31)
    × (how_many (hint_of is_add) 16 0 ≡ 31)

-- a word that is LUI, ADDI, SLLI or ADD by its opcode, funct3 and funct7, and has rd 0
unfoldable pub writes_x0 : ℕ → Bool
writes_x0 w =
    eqb (slice w 11 7) 0
    && (eqb (slice w 6 0) 0x37
    || eqb (slice w 6 0) 0x13 && eqb (slice w 14 12) 0
    || eqb (slice w 6 0) 0x13 && eqb (slice w 14 12) 1 && eqb (slice w 31 25) 0
    || eqb (slice w 6 0) 0x33 && eqb (slice w 14 12) 0 && eqb (slice w 31 25) 0)

-- each hint expands to such a word
abbrev pub HintsExpand : Type 0
HintsExpand = (h : ℕ) → h < 2 ^ 16 → T (hint h) → (w : ℕ) × (expand h ≡ Some w) × T (writes_x0 w)
