-- Lent memory in whole rows: how many it has, and what a run leaves of them.
use Rattle.std.specs.Prelude.{ℕ, ◌+◌, ◌*◌, ◌/◌, List, ◌++◌, length, drop, replicate}

-- what a row starts with: a used mark, a known mark, a uniform mark, a zero, 4 bytes of address
abbrev pub head_bytes : ℕ
head_bytes = 8

-- its head, and room for 256 lane values of a byte each, of which as many serve as there are lanes
abbrev pub row_bytes : ℕ
row_bytes = head_bytes + 256

-- bytes that are too few for one more row are not counted
abbrev pub row_count : List ℕ → ℕ
row_count memory = length memory / row_bytes

-- zeros in every whole row; the bytes behind them stay
abbrev pub cleared : List ℕ → List ℕ
cleared memory = replicate (row_count memory * row_bytes) 0 ++ drop (row_count memory * row_bytes) memory
