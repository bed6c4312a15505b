-- Written byte: memory as the lane run sees it, which is the bytes that it has written, each with its lanes, over those that it began with.
use Rattle.std.specs.Prelude.{List, [], ◌∷◌, ℕ, zero, suc, ◌/◌, ◌%◌, eqb}
use Rattle.rv32_arithmetic.specs.Bits.{join}
use Rattle.lane_word.specs.declared.LaneWord.{LaneWord}
use Rattle.lane_word.specs.Word.{constant, unary, binary}
use Rattle.predicate_semantics.specs.Choice.{choose}
unfoldable pub use Rattle.predicate_semantics.specs.Program.{initial}

-- one written byte, a value for each lane
pub record Written : Type 0 where
  pub address : ℕ
  pub byte : LaneWord

-- the byte at an address: the written one, or else the one given
unfoldable pub byte_at : LaneWord → ℕ → List Written → LaneWord
byte_at other a [] = other
byte_at other a (w ∷ ws) = choose (eqb w.address a) (λ _. w.byte) (λ _. byte_at other a ws)

-- a store to an address that is written takes the place of its byte
unfoldable pub put : ℕ → LaneWord → List Written → List Written
put a b [] = record { address = a; byte = b } ∷ []
put a b (w ∷ ws) =
    choose (eqb w.address a) (λ _. record { address = a; byte = b } ∷ ws) (λ _. w ∷ put a b ws)

-- memory as the lanes see it: a byte for each address, the written one or else the one that memory starts with
abbrev pub LaneBytes : Type 0
LaneBytes = ℕ → LaneWord

unfoldable pub lane_bytes : List ℕ → ℕ → List Written → LaneBytes
lane_bytes image lanes ws a = byte_at (constant lanes (initial image a)) a ws

-- the little-endian number in n bytes from an address: known exactly if every byte is
unfoldable pub read : ℕ → LaneBytes → ℕ → ℕ → LaneWord
read lanes memory zero a = constant lanes 0
read lanes memory (suc n) a = binary join (memory a) (read lanes memory n (suc a))

-- the low n bytes of a word stored from an address: each as known as the word
unfoldable pub write : List Written → ℕ → ℕ → LaneWord → List Written
write ws zero a w = ws
write ws (suc n) a w = write (put a (unary (λ v. v % 256) w) ws) n (suc a) (unary (λ v. v / 256) w)
