-- The rows against the manual's listing: a word is decoded by the first line whose opcode, funct3 and funct7 it has. Assumes nothing.
use Rattle.std.specs.Prelude.{None, Option, Some}
use Rattle.std.specs.Option.{option_and_then}
use mathlib.Core.Bool.{Bool, true, false, cond, ◌&&◌}
use mathlib.Core.Path.{◌≡◌, refl, sym, ap, subst, ◌∙◌}
use mathlib.Core.List.{List, [], ◌∷◌, map, ◌++◌, append_assoc}
use Prim.Native.Nat.{ℕ, zero, suc, ◌+◌, ◌<◌}
use native.Mathlib.Nat.{add-zero, zero-add, add-suc, suc-add, le_of_suc-le-suc, not-suc-le-zero}
use native.Mathlib.Numerals.{add-one}
use native.Mathlib.Omega.{arith}
use lib.Dec.{T}
use lib.Ieee.Fits.{and_l, and_r}
use lib.ListN.{length, get_or, length-append}
use lib.Seq.{get_or-append_seam}
use Rattle.riscv_decode.specs.Listing.{Line, no_line, Opcode, listing, operation, fixed, has}
use Rattle.riscv_decode.specs.Rows.{row_number, no_row, matches, find_row, apart_from, mask_of, match_of, rows_from, standing_rows}
use Rattle.riscv_decode.specs.Decode.{operation_of, decode_with, decode_of, listed_decode}
use Rattle.riscv_decode.specs.Statements.{Counted, RowsListed, DecodeListed, LinesAccepted, UpperHalves, SystemRefused}
use Rattle.riscv_decode.specs.declared.Row.{Row}
use Rattle.riscv_decode.specs.declared.Operation.{Operation}
use Rattle.riscv_decode.proofs.Apart.{not_both, from, found, beside, standing_apart}
use Rattle.riscv_decode.proofs.Fields.{fits, fields}

all_fit : List Line → Bool
all_fit [] = true
all_fit (l ∷ ls) = fits (fixed l) && all_fit ls

-- what a line makes of the word
abbrev known : ℕ → Line → Option Operation
known w l = Some (operation l w)

-- what a row's number is in a list that is counted from 1
abbrev at_row : List (Option Operation) → Row → Option Operation
at_row ps r = get_or (None ∷ ps) (row_number r) None

-- by one line, and else by the later ones
choice : (b : Bool) (ps : List (Option Operation)) (x : Option Operation) (xs : List (Option Operation)) (r : Row) (o : Option Row) (y : Option Operation) → row_number r ≡ suc (length ps) → option_and_then (at_row (ps ++ x ∷ xs)) o ≡ y → option_and_then (at_row (ps ++ x ∷ xs)) (cond b (Some r) o) ≡ cond b x y
choice true ps x xs r o y n e = rw n (get_or-append_seam ps x xs None)
choice false ps x xs r o y n e = e

-- by the lines ls, whose rows are numbered after those of earlier lines, which make ps of the word
by_line : (ps : List (Option Operation)) (ls : List Line) (w : ℕ) → T (all_fit ls) → option_and_then (at_row (ps ++ map (known w) ls)) (find_row (rows_from (suc (length ps)) ls) w) ≡ listed_decode ls w
unfolding find_row rows_from listed_decode all_fit
by_line ps [] w t = refl
by_line ps (l ∷ ls) w t =
    rw (fields (fixed l) w (and_l (fits (fixed l)) (all_fit ls) t))
    (choice (has (fixed l) w) ps (known w l) (map (known w) ls) _ (find_row (rows_from (suc (suc (length ps))) ls) w) (listed_decode ls w) refl
    (rw (append_assoc, length-append, add-one) at (by_line (ps ++ known w l ∷ []) ls w (and_r (fits (fixed l)) (all_fit ls) t))))

-- the rows and the lines
pub counted : Counted
unfolding standing_rows rows_from listing
counted = (refl, refl)

pub decode_listed : DecodeListed
unfolding decode_of decode_with operation_of standing_rows listing fixed all_fit
decode_listed w = by_line [] listing w tt

row_of : (n : ℕ) (ls : List Line) (i w : ℕ) → T (all_fit ls) → i < length ls
    → (matches (get_or (rows_from n ls) i no_row) w ≡ has (fixed (get_or ls i no_line)) w) × (row_number (get_or (rows_from n ls) i no_row) ≡ n + i)
unfolding rows_from all_fit
row_of n [] i w t h = absurd (not-suc-le-zero h)
row_of n (l ∷ ls) zero w t h = (fields (fixed l) w (and_l (fits (fixed l)) (all_fit ls) t), sym (add-zero n))
row_of n (l ∷ ls) (suc i) w t h =
    let q = row_of (suc n) ls i w (and_r (fits (fixed l)) (all_fit ls) t) (le_of_suc-le-suc h) in
    (q.0, q.1 ∙ suc-add n i ∙ sym (add-suc n i))

pub rows_listed : RowsListed
unfolding standing_rows all_fit listing fixed
rows_listed i w h = let q = row_of 1 listing i w tt h in (q.0, q.1 ∙ suc-add 0 i ∙ ap suc (zero-add i))

get_d_known : (w : ℕ) (ls : List Line) (i : ℕ) → i < length ls → get_or (map (known w) ls) i None ≡ known w (get_or ls i no_line)
get_d_known w [] i h = absurd (not-suc-le-zero h)
get_d_known w (l ∷ ls) zero h = refl
get_d_known w (l ∷ ls) (suc i) h = get_d_known w ls i (le_of_suc-le-suc h)

pub accepted : LinesAccepted
unfolding decode_of decode_with operation_of
accepted i w h p =
    let q = rows_listed i w h in
    let g : i < length standing_rows = rw (counted.1, ← counted.0) h in
    let e : find_row standing_rows w ≡ Some (get_or standing_rows i no_row) = found standing_rows standing_apart i w g (subst T (sym q.0) p) in
    rw (e, q.1) (get_d_known w listing i h)

pub upper_halves : UpperHalves
unfolding listing fixed operation
upper_halves w = (accepted 44 w (omega arith), accepted 45 w (omega arith), accepted 46 w (omega arith))

-- what a row of opcode 73 would be
abbrev system : Row
system = record { 0 = mask_of (Opcode 0x73); 1 = match_of (Opcode 0x73); 2 = 0 }

system_apart : T (apart_from system standing_rows)
unfolding apart_from standing_rows rows_from listing fixed mask_of match_of
system_apart = tt

pub system_refused : SystemRefused
unfolding decode_of decode_with operation_of
system_refused w p =
    let q : T (matches system w) = subst T (sym (fields (Opcode 0x73) w tt)) p in
    (λ j g r. not_both system (get_or standing_rows j no_row) w (from system standing_rows system_apart j g) q r, rw (beside system standing_rows w system_apart q))

-- a test of operations, on the one that each line makes of the word
abbrev pub all_lines : (Operation → Bool) → List Line → ℕ → Bool
all_lines q [] w = true
all_lines q (l ∷ ls) w = q (operation l w) && all_lines q ls w

-- the test of what a word decodes to; a refused word has nothing to test
abbrev passes : (Operation → Bool) → Option Operation → Bool
passes q (Some o) = q o
passes q None = true

line_passes : (q : Operation → Bool) (b : Bool) (o : Operation) (d : Option Operation) → T (q o) → T (passes q d) → T (passes q (cond b (Some o) d))
line_passes q true o d t u = t
line_passes q false o d t u = u

listed_passes : (q : Operation → Bool) (ls : List Line) (w : ℕ) → T (all_lines q ls w) → T (passes q (listed_decode ls w))
unfolding listed_decode
listed_passes q [] w t = tt
listed_passes q (l ∷ ls) w t =
    line_passes q (has (fixed l) w) (operation l w) (listed_decode ls w) (and_l (q (operation l w)) (all_lines q ls w) t)
    (listed_passes q ls w (and_r (q (operation l w)) (all_lines q ls w) t))

-- a test that every line's operation passes, the decoded one passes
pub decoded_passes : (q : Operation → Bool) (w : ℕ) (o : Operation) → T (all_lines q listing w) → decode_of w ≡ Some o → T (q o)
decoded_passes q w o t e = subst (λ (d : Option Operation). T (passes q d)) (sym (decode_listed w) ∙ e) (listed_passes q listing w t)
