-- What is claimed of the standing table and the decoder (Halfword and word), of every word. The proofs stand in proofs/Apart and proofs/Listed.
use Rattle.std.specs.Prelude.{◌≡◌, ℕ, suc, ◌<◌, T, length, get_or, None, Some}
use Rattle.riscv_decode.specs.Listing.{operation_count, no_line, Opcode, Funct7, listing, operation, fixed, has}
use Rattle.riscv_decode.specs.Rows.{row_number, no_row, matches, all_apart, standing_rows}
use Rattle.riscv_decode.specs.Decode.{decode_of, listed_decode}
use Rattle.riscv_decode.specs.Operands.{rType}
use Rattle.riscv_decode.specs.declared.Operation.TheVariants.{Mulh, Mulhsu, Mulhu}

-- each operation has its line, and each line its row
abbrev pub Counted : Type 0
Counted = (length listing ≡ operation_count) × (length standing_rows ≡ operation_count)

-- the standing table passes the test of all pairs
abbrev pub StandingApart : Type 0
StandingApart = T (all_apart standing_rows)

-- so no word matches two rows
abbrev pub OneRow : Type 0
OneRow =
    (i j w : ℕ) → i < j → j < length standing_rows
    → T (matches (get_or standing_rows i no_row) w) → T (matches (get_or standing_rows j no_row) w) → ⊥

-- the rows are the manual's listing: a word matches a row exactly if it has the fields of the line in its place, whose number the row has
abbrev pub RowsListed : Type 0
RowsListed =
    (i w : ℕ) → i < length listing
    → (matches (get_or standing_rows i no_row) w ≡ has (fixed (get_or listing i no_line)) w) × (row_number (get_or standing_rows i no_row) ≡ suc i)

-- so a word decodes by the rows as it does by the listing alone
abbrev pub DecodeListed : Type 0
DecodeListed = (w : ℕ) → decode_of w ≡ listed_decode listing w

-- each line is reached: a word that has its fields decodes to its operation
abbrev pub LinesAccepted : Type 0
LinesAccepted =
    (i w : ℕ) → i < length listing → T (has (fixed (get_or listing i no_line)) w) → decode_of w ≡ Some (operation (get_or listing i no_line) w)

-- MULH, MULHSU and MULHU are the words of opcode 33 with funct7 1 and funct3 1, 2 and 3
abbrev pub UpperHalves : Type 0
UpperHalves =
    (w : ℕ)
    → (T (has (Funct7 0x33 1 1) w) → decode_of w ≡ Some (Mulh (rType w)))
    × (T (has (Funct7 0x33 2 1) w) → decode_of w ≡ Some (Mulhsu (rType w)))
    × (T (has (Funct7 0x33 3 1) w) → decode_of w ≡ Some (Mulhu (rType w)))

-- a word of opcode 73, which the manual calls SYSTEM (ECALL, EBREAK, CSR instructions), matches no row, and is refused
abbrev pub SystemRefused : Type 0
SystemRefused =
    (w : ℕ) → T (has (Opcode 0x73) w)
    → ((j : ℕ) → j < length standing_rows → T (matches (get_or standing_rows j no_row) w) → ⊥) × (decode_of w ≡ None)
