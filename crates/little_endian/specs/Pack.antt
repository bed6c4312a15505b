-- Rows of little-endian numbers: the widths of a row's numbers, in bytes, are a list.
use Rattle.std.specs.Prelude.{List, [], ◌∷◌, ◌++◌, ℕ, zero, suc, ◌+◌, ◌<◌, ◌^◌, take, drop}
use Rattle.little_endian.specs.Number.{value, bytes}

-- the bytes of a row
abbrev pub total : List ℕ → ℕ
total [] = 0
total (w ∷ ws) = w + total ws

-- one row, written and read
abbrev pub pack : List ℕ → List ℕ → List ℕ
pack [] vs = []
pack (w ∷ ws) [] = []
pack (w ∷ ws) (v ∷ vs) = bytes w v ++ pack ws vs

abbrev pub unpack : List ℕ → List ℕ → List ℕ
unpack [] bs = []
unpack (w ∷ ws) bs = value (take w bs) ∷ unpack ws (drop w bs)

-- rows one after another, each after the same other bytes, written and read
abbrev pub packs : List ℕ → List ℕ → List (List ℕ) → List ℕ
packs pre ws [] = []
packs pre ws (vs ∷ vss) = (pre ++ pack ws vs) ++ packs pre ws vss

abbrev pub unpacks : ℕ → List ℕ → ℕ → List ℕ → List (List ℕ)
unpacks p ws zero bs = []
unpacks p ws (suc n) bs = unpack ws (drop p bs) ∷ unpacks p ws n (drop (p + total ws) bs)

-- every number fits its width
abbrev pub Fits : List ℕ → List ℕ → Type 0
Fits [] [] = Unit
Fits [] (v ∷ vs) = ⊥
Fits (w ∷ ws) [] = ⊥
Fits (w ∷ ws) (v ∷ vs) = (v < 256 ^ w) × Fits ws vs

abbrev pub AllFit : List ℕ → List (List ℕ) → Type 0
AllFit ws [] = Unit
AllFit ws (vs ∷ vss) = Fits ws vs × AllFit ws vss
