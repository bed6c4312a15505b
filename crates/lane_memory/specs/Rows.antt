-- The rows of lent memory: what a row holds, and what each function answers and leaves.
use Rattle.std.specs.Prelude.{◌≡◌, ℕ, zero, suc, ◌+◌, ◌*◌, ◌%◌, ◌^◌, ◌<◌, Bool, true, false, cond, not, List, [], ◌∷◌, ◌++◌, length, take, drop, ◌==◌, slice_index, slice_set, None, Option, Some}
use Rattle.std.proofs.Math.Option as Math
use Rattle.std.proofs.Math.Option.{none, some}
use Rattle.std.proofs.lemmas.List.Edits.{sets}
use Rattle.little_endian.specs.Number.{value, bytes}
use Rattle.rv32_arithmetic.specs.Bits.{byte_of, join}
use Rattle.lane_word.specs.declared.LaneWord.{LaneWord}
use Rattle.lane_word.specs.Word.{lanes, constant, unary, zip}
use Rattle.predicate_semantics.specs.Memory.{Written}
use Rattle.lane_memory.specs.Search.{find_in}
use Rattle.lane_memory.specs.declared.Found.{Found}
use Rattle.lane_memory.specs.declared.Found.TheVariants.{At, Free, Full}
pub use Rattle.lane_memory.specs.LentRows.{head_bytes, row_bytes, row_count, cleared}

-- the bytes of row s
abbrev pub row_at : List ℕ → ℕ → List ℕ
row_at memory s = take row_bytes (drop (s * row_bytes) memory)

-- the lanes of a row's bytes
abbrev pub lane_byte : List ℕ → LaneWord
lane_byte row = record { values = take lanes (drop head_bytes row); known = not (slice_index row 1 == 0) }

-- the written byte in a row's bytes: where the uniform mark is not 0, lane value 0 serves for every lane
abbrev pub row_byte : List ℕ → LaneWord
row_byte row = cond (slice_index row 2 == 0) (lane_byte row) (constant lanes (slice_index row head_bytes))

-- what a row holds: nothing where its used mark is 0
abbrev pub row_holds : List ℕ → Math.Option Written
row_holds row =
    cond (slice_index row 0 == 0) none (some (record { address = value (take 4 (drop 4 row)); byte = row_byte row }))

unfoldable pub held : List ℕ → ℕ → Math.Option Written
held memory s = row_holds (row_at memory s)

-- the search through lent rows
abbrev pub row_of : List ℕ → ℕ → Found
row_of memory a = find_in (held memory) (row_count memory) a

-- byte k of a word's values, counted from the lowest
abbrev pub word_byte : ℕ → LaneWord → LaneWord
word_byte k w = unary (λ v. byte_of v k) w

-- the bytes of a row before its lane values
abbrev pub head_of : Bool → Bool → ℕ → List ℕ
head_of known uniform a = 1 ∷ cond known 1 0 ∷ cond uniform 1 0 ∷ 0 ∷ bytes 4 a

-- what a row of address a starts with: a byte's lanes, or one value for all lanes
abbrev pub lane_row : ℕ → LaneWord → List ℕ
lane_row a b = head_of b.known false a ++ b.values

abbrev pub value_row : ℕ → ℕ → List ℕ
value_row a v = head_of true true a ++ (v ∷ [])

-- row s with another start; its other bytes stay
abbrev pub write_row : List ℕ → ℕ → List ℕ → List ℕ
write_row memory s row = sets memory (s * row_bytes) row

-- a stored byte takes its address's row or a free one; where there is neither, nothing changes
abbrev pub store_at : Found → List ℕ → List ℕ → List ℕ
store_at (At s) memory row = write_row memory s row
store_at (Free s) memory row = write_row memory s row
store_at Full memory row = memory

unfoldable pub store_row : List ℕ → ℕ → List ℕ → List ℕ
store_row memory a row = store_at (row_of memory a) memory row

abbrev pub store_byte : List ℕ → ℕ → LaneWord → List ℕ
store_byte memory a b = store_row memory a (lane_row a b)

abbrev pub store_value : List ℕ → ℕ → ℕ → List ℕ
store_value memory a v = store_row memory a (value_row a v)

-- n bytes, byte k at address a + k with the row that `row k` makes for it; the last address is followed by 0
unfoldable pub store_rows : List ℕ → ℕ → ℕ → (ℕ → ℕ → List ℕ) → List ℕ
store_rows memory zero a row = memory
store_rows memory (suc k) a row = store_row (store_rows memory k a row) ((a + k) % 2 ^ 32) (row k ((a + k) % 2 ^ 32))

-- the low n bytes of a word, and of a number that is the same in all lanes
unfoldable pub store_bytes : List ℕ → ℕ → ℕ → LaneWord → List ℕ
store_bytes memory n a w = store_rows memory n a (λ k x. lane_row x (word_byte k w))

unfoldable pub store_values : List ℕ → ℕ → ℕ → ℕ → List ℕ
store_values memory n a v = store_rows memory n a (λ k x. value_row x (byte_of v k))

-- the bytes of the row that a search has found
abbrev pub row_found : Found → List ℕ → Option (List ℕ)
row_found (At s) memory = Some (row_at memory s)
row_found (Free s) memory = None
row_found Full memory = None

-- the row that an address has
unfoldable pub written : List ℕ → ℕ → Option (List ℕ)
written memory a = row_found (row_of memory a) memory

-- the written byte, or the one given
abbrev pub load_row : Option (List ℕ) → ℕ → LaneWord
load_row (Some row) other = row_byte row
load_row None other = constant lanes other

unfoldable pub load_byte : List ℕ → ℕ → ℕ → LaneWord
load_byte memory a other = load_row (written memory a) other

-- P says of a lane and a number only that the number is the lane's value in b
abbrev pub GivesLanes : (ℕ → ℕ → Type 0) → LaneWord → Type 0
GivesLanes P b = (length b.values ≡ lanes) × ((k x : ℕ) → k < lanes → P k x → x ≡ slice_index b.values k)

-- a byte below the values above it, in each lane; where there is not a value for each lane, they stay
unfoldable pub joined : LaneWord → List ℕ → List ℕ
joined b high = cond (length high == lanes) (zip join b.values high) high

-- what a byte's join answers and leaves: whether the byte is known, and the values
abbrev pub Joined : LaneWord → List ℕ → Bool → List ℕ → Type 0
Joined b high known values = (known ≡ b.known) × (values ≡ joined b high)

-- whether a row has one value for all lanes; what was not written has
abbrev pub told_row : List ℕ → Option ℕ
told_row row = cond (slice_index row 2 == 0) None (Some (slice_index row head_bytes))

abbrev pub told_written : Option (List ℕ) → ℕ → Option ℕ
told_written (Some row) other = told_row row
told_written None other = Some other

unfoldable pub told_byte : List ℕ → ℕ → ℕ → Option ℕ
told_byte memory a other = told_written (written memory a) other

-- how many of a store's n bytes have no row yet
abbrev pub new_row : Option (List ℕ) → ℕ
new_row (Some row) = 0
new_row None = 1

unfoldable pub new_bytes : List ℕ → ℕ → ℕ → ℕ
new_bytes memory zero a = 0
new_bytes memory (suc k) a = new_bytes memory k a + new_row (written memory ((a + k) % 2 ^ 32))

-- the first n rows are free, all whole rows are: only their used marks change
unfoldable pub unmark_rows : ℕ → List ℕ → List ℕ
unmark_rows zero memory = memory
unmark_rows (suc n) memory = slice_set (unmark_rows n memory) (n * row_bytes) 0

abbrev pub unmarked : List ℕ → List ℕ
unmarked memory = unmark_rows (row_count memory) memory
