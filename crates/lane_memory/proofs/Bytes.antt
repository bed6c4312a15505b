-- Laws of the bytes of a word. Assumes nothing.
use mathlib.Core.List.{map-map}
use Rattle.std.proofs.Common.{◌≡◌, ℕ, suc, ◌/◌, ◌%◌, ◌^◌, length, sym, ap, ◌∙◌, arith}
use native.Mathlib.Nat.{div-div-eq-div-mul, pow-succ'}
use lib.ListN.{length-map}
use Rattle.rv32_arithmetic.specs.Bits.{byte_of}
use Rattle.lane_word.specs.declared.LaneWord.{LaneWord}
use Rattle.lane_word.specs.Word.{lanes, constant, unary}
use Rattle.lane_word.proofs.ToldLaws.{unary_constant}
use Rattle.lane_memory.specs.Rows.{word_byte}

-- the bytes above the lowest are those of the word without it
byte_above : (k v : ℕ) → byte_of (v / 256) k ≡ byte_of v (suc k)
byte_above k v = ap (λ (x : ℕ). x % 256) (div-div-eq-div-mul v 256 (256 ^ k) ∙ ap (λ (x : ℕ). v / x) (sym (pow-succ' 256 k)))

byte_lowest : (v : ℕ) → v % 256 ≡ byte_of v 0
byte_lowest v = omega arith

pub of_above : (k : ℕ) (w : LaneWord) → word_byte k (unary (λ v. v / 256) w) ≡ word_byte (suc k) w
unfolding unary
of_above k w = simp (map-map, byte_above)

pub of_lowest : (w : LaneWord) → unary (λ v. v % 256) w ≡ word_byte 0 w
of_lowest w = λ i. unary (λ v. byte_lowest v i) w

pub byte_size : (k : ℕ) (w : LaneWord) → length w.values ≡ lanes → length (word_byte k w).values ≡ lanes
unfolding unary
byte_size k w size = length-map w.values (λ v. byte_of v k) ∙ size

-- a byte of a constant
pub byte_constant : (k v : ℕ) → word_byte k (constant lanes v) ≡ constant lanes (byte_of v k)
byte_constant k v = unary_constant (λ x. byte_of x k) lanes v
