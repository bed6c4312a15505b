-- Tables of mask and match rows (Halfword and word), over any table.
use Rattle.std.specs.Prelude.{Bool, true, not, ◌&&◌, List, [], ◌∷◌, ◌≡◌, ℕ, suc, ◌+◌, ◌*◌, ◌^◌, ◌<◌, eqb, length, get_or, Option}
use Rattle.std.specs.List.{find}
use Rattle.std.specs.Int.Bits.{bit_and}
use Rattle.riscv_decode.specs.Listing.{Line, Fixed, Opcode, Funct3, Funct7, fixed, listing}
use Rattle.riscv_decode.specs.declared.Row.{Row}

-- the parts of a row
abbrev pub row_mask : Row → ℕ
row_mask r = r.0

abbrev pub row_match : Row → ℕ
row_match r = r.1

abbrev pub row_number : Row → ℕ
row_number r = r.2

-- what stands past a table's end
abbrev pub no_row : Row
no_row = record { 0 = 0; 1 = 0; 2 = 0 }

-- the word agrees with the row's match in the bits of its mask
abbrev pub matches : Row → ℕ → Bool
matches r w = eqb (bit_and w (row_mask r)) (row_match r)

-- the first row that the word matches
unfoldable pub find_row : List Row → ℕ → Option Row
find_row rows w = find (λ r. matches r w) rows

-- some bit that both masks have differs in the two matches
abbrev pub apart : Row → Row → Bool
apart r s = not (eqb (bit_and (row_mask s) (row_match r)) (bit_and (row_mask r) (row_match s)))

-- the row against each later one
unfoldable pub apart_from : Row → List Row → Bool
apart_from r [] = true
apart_from r (s ∷ rs) = apart r s && apart_from r rs

-- the test of all pairs: each row is apart from each later one
unfoldable pub all_apart : List Row → Bool
all_apart [] = true
all_apart (r ∷ rs) = apart_from r rs && all_apart rs

-- the bits of the fields that a line fixes
unfoldable pub mask_of : Fixed → ℕ
mask_of (Opcode opcode) = 0x7f
mask_of (Funct3 opcode funct3) = 0x707f
mask_of (Funct7 opcode funct3 funct7) = 0xfe00707f

-- the fields in their places
unfoldable pub match_of : Fixed → ℕ
match_of (Opcode opcode) = opcode
match_of (Funct3 opcode funct3) = funct3 * 2 ^ 12 + opcode
match_of (Funct7 opcode funct3 funct7) = funct7 * 2 ^ 25 + (funct3 * 2 ^ 12 + opcode)

-- a row for each line, numbered from n
unfoldable pub rows_from : ℕ → List Line → List Row
rows_from n [] = []
rows_from n (l ∷ ls) =
    record { 0 = mask_of (fixed l); 1 = match_of (fixed l); 2 = n } ∷ rows_from (suc n) ls

-- the standing table: a row for each of the listing's lines, numbered from 1
unfoldable pub standing_rows : List Row
standing_rows = rows_from 1 listing

-- the row is one of the standing table's
abbrev pub Stands : Row → Type 0
Stands r = (i : ℕ) × (i < length standing_rows) × (get_or standing_rows i no_row ≡ r)
