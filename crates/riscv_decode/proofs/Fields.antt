-- A row's test of mask and match, as a test of the fields that a line of the listing fixes. Assumes nothing.
use mathlib.Core.Bool.{Bool, true, false, ◌&&◌}
use mathlib.Core.Path.{◌≡◌, refl, sym, ap, ap₂, ◌∙◌}
use Prim.Native.Nat.{ℕ, ◌+◌, ◌*◌, ◌/◌, ◌%◌, ◌^◌, ◌<◌}
use native.Mathlib.Nat.{div-add-mod', mod-lt}
use native.Mathlib.Omega.{arith}
use lib.Arith.{digits_div, digits_mod}
use lib.Bits.{bit_and, and_block, and_mask}
use lib.Dec.{T, eqb, ltb, eqb→eq, ltb→lt}
use lib.Ieee.Fits.{and_l, and_r}
use lib.Pow.{pow_pos}
use mir.Facts.{yes_eqb}
use Rattle.riscv_decode.specs.Operands.{opcode_field, funct3_field, funct7_field}
use Rattle.riscv_decode.specs.Listing.{Fixed, Opcode, Funct3, Funct7, has}
use Rattle.riscv_decode.specs.Rows.{mask_of, match_of}

-- a mask in two parts, from bit k on and below it
split : (w k m n : ℕ) → n < 2 ^ k → bit_and w (m * 2 ^ k + n) ≡ bit_and (w / 2 ^ k) m * 2 ^ k + bit_and (w % 2 ^ k) n
split w k m n h =
    ap (λ (x : ℕ). bit_and x (m * 2 ^ k + n)) (sym (div-add-mod' w (2 ^ k)))
    ∙ and_block k (w / 2 ^ k) m (w % 2 ^ k) n (mod-lt w (pow_pos k)) h

agree : (p q r : Bool) → (T p → T q × T r) → (T q → T r → T p) → p ≡ (q && r)
agree true true true f g = refl
agree true true false f g = absurd (f tt).1
agree true false r f g = absurd (f tt).0
agree false true true f g = absurd (g tt tt)
agree false true false f g = refl
agree false false r f g = refl

-- numbers in two parts are equal where the parts are
joined : (k a b x y : ℕ) → x < 2 ^ k → y < 2 ^ k → eqb (a * 2 ^ k + x) (b * 2 ^ k + y) ≡ (eqb x y && eqb a b)
joined k a b x y h g =
    agree (eqb (a * 2 ^ k + x) (b * 2 ^ k + y)) (eqb x y) (eqb a b)
    (λ t.
    let e = eqb→eq (a * 2 ^ k + x) (b * 2 ^ k + y) t in (
      yes_eqb (sym (digits_mod a h) ∙ ap (λ (n : ℕ). n % 2 ^ k) e ∙ digits_mod b g),
      yes_eqb (sym (digits_div a h) ∙ ap (λ (n : ℕ). n / 2 ^ k) e ∙ digits_div b g),
    ))
    (λ s t. yes_eqb (ap₂ (λ (m n : ℕ). m * 2 ^ k + n) (eqb→eq a b t) (eqb→eq x y s)))

-- what each mask leaves of a word
low : (w : ℕ) → bit_and w 0x7f ≡ opcode_field w
low w = and_mask w 7 ∙ omega arith

middle : (w : ℕ) → bit_and w 0x707f ≡ funct3_field w * 2 ^ 12 + opcode_field w
middle w =
    split w 12 7 0x7f (omega arith)
    ∙ ap₂ (λ (x y : ℕ). x * 2 ^ 12 + y) (and_mask (w / 2 ^ 12) 3) (low (w % 2 ^ 12) ∙ omega arith)

funct3_below : (w : ℕ) → funct3_field (w % 2 ^ 25) ≡ funct3_field w
funct3_below w = omega arith

opcode_below : (w : ℕ) → opcode_field (w % 2 ^ 25) ≡ opcode_field w
opcode_below w = omega arith

high : (w : ℕ) → bit_and w 0xfe00707f ≡ funct7_field w * 2 ^ 25 + (funct3_field w * 2 ^ 12 + opcode_field w)
high w =
    split w 25 0x7f 0x707f (omega arith)
    ∙ ap₂ (λ (x y : ℕ). x * 2 ^ 25 + y) (and_mask (w / 2 ^ 25) 7)
    (middle (w % 2 ^ 25) ∙ ap₂ (λ (x y : ℕ). x * 2 ^ 12 + y) (funct3_below w) (opcode_below w))

-- opcode and funct3 are within their width
abbrev pub fits : Fixed → Bool
fits (Opcode opcode) = true
fits (Funct3 opcode funct3) = ltb opcode (2 ^ 7)
fits (Funct7 opcode funct3 funct7) = ltb opcode (2 ^ 7) && ltb funct3 (2 ^ 3)

opcode_lt : (w : ℕ) → opcode_field w < 2 ^ 12
opcode_lt w = omega arith

fields_lt : (w : ℕ) → funct3_field w * 2 ^ 12 + opcode_field w < 2 ^ 25
fields_lt w = omega arith

-- a row's test is that of the fields that the line fixes
pub fields : (f : Fixed) (w : ℕ) → T (fits f) → eqb (bit_and w (mask_of f)) (match_of f) ≡ has f w
unfolding mask_of match_of has
fields (Opcode opcode) w t = ap (λ (x : ℕ). eqb x opcode) (low w)
fields (Funct3 opcode funct3) w t =
    let h : opcode < 2 ^ 7 = ltb→lt opcode (2 ^ 7) t in
    ap (λ (x : ℕ). eqb x (funct3 * 2 ^ 12 + opcode)) (middle w)
    ∙ joined 12 (funct3_field w) funct3 (opcode_field w) opcode (opcode_lt w) (omega arith)
fields (Funct7 opcode funct3 funct7) w t =
    let h : opcode < 2 ^ 7 = ltb→lt opcode (2 ^ 7) (and_l (ltb opcode (2 ^ 7)) (ltb funct3 (2 ^ 3)) t) in
    let g : funct3 < 2 ^ 3 = ltb→lt funct3 (2 ^ 3) (and_r (ltb opcode (2 ^ 7)) (ltb funct3 (2 ^ 3)) t) in
    ap (λ (x : ℕ). eqb x (funct7 * 2 ^ 25 + (funct3 * 2 ^ 12 + opcode))) (high w)
    ∙ joined 25 (funct7_field w) funct7 (funct3_field w * 2 ^ 12 + opcode_field w) (funct3 * 2 ^ 12 + opcode) (fields_lt w) (omega arith)
    ∙ ap (λ (b : Bool). b && eqb (funct7_field w) funct7)
    (joined 12 (funct3_field w) funct3 (opcode_field w) opcode (opcode_lt w) (omega arith))
