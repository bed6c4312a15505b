-- The input of the program lane-run (document 01, Record): the symbols, then the image.
use Rattle.std.specs.Prelude.{Bool, cond, ◌&&◌, List, [], ℕ, ◌+◌, leb, ltb, length, take, drop}
use Rattle.little_endian.specs.Number.{value}
use Rattle.predicate_semantics.specs.declared.Rv32Program.{Rv32Program}

-- Record: how many bytes the symbols take
abbrev pub symbol_bytes : ℕ
symbol_bytes = 12

-- Record: the largest image that the program takes
abbrev pub program_image_bytes : ℕ
program_image_bytes = 32768

-- Record: the rows that the program lends
abbrev pub program_rows : ℕ
program_rows = 200

-- Record: the trace entries that it lends
abbrev pub program_entries : ℕ
program_entries = 2048

-- Record: the three symbols, a word each
abbrev pub input_program : List ℕ → Rv32Program
input_program input =
    record { symbols = record { entry = value (take 4 input); event_count = value (take 4 (drop 4 input)); events = value (take 4 (drop 8 input)) } }

-- Record: the image after them has a byte at least, and is no larger than the program takes
abbrev pub taken : List ℕ → Bool
taken input = ltb symbol_bytes (length input) && leb (length input) (symbol_bytes + program_image_bytes)

-- Record: the image; of one that is not taken nothing, which is refused with 1
abbrev pub image_in : List ℕ → List ℕ
image_in input = cond (taken input) (drop symbol_bytes input) []
