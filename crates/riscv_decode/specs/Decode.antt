-- Decoding (Halfword and word): the row, then the operands of its format.
use Rattle.std.specs.Prelude.{cond, List, [], ◌∷◌, map, ℕ, get_or, None, Option, Some}
use Rattle.std.specs.Option.{option_and_then}
use Rattle.riscv_decode.specs.Listing.{Line, operation, fixed, has, listing}
use Rattle.riscv_decode.specs.Rows.{row_number, find_row, standing_rows}
use Rattle.riscv_decode.specs.declared.Row.{Row}
use Rattle.riscv_decode.specs.declared.Operation.{Operation}

-- the operation of a number, with the operands that the word has in its format; 0 and what is above the listing's length have none
unfoldable pub operation_of : ℕ → ℕ → Option Operation
operation_of n w = get_or (None ∷ map (λ l. Some (operation l w)) listing) n None

-- by the row of a table that the word matches; a word that matches none is refused
unfoldable pub decode_with : List Row → ℕ → Option Operation
decode_with rows w = option_and_then (λ r. operation_of (row_number r) w) (find_row rows w)

-- by the standing table
unfoldable pub decode_of : ℕ → Option Operation
decode_of w = decode_with standing_rows w

-- by the listing alone: the first line whose opcode, funct3 and funct7 the word has
unfoldable pub listed_decode : List Line → ℕ → Option Operation
listed_decode [] w = None
listed_decode (l ∷ ls) w = cond (has (fixed l) w) (Some (operation l w)) (listed_decode ls w)
