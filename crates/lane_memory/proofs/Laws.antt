-- The laws that callers cite: when rows hold a memory, what the functions make of it. Assumes nothing.
use Rattle.std.specs.Prelude.{Option, None, Some}
use Rattle.std.proofs.Common.{◌≡◌, ℕ, zero, suc, ◌+◌, ◌*◌, ◌/◌, ◌%◌, ◌^◌, ◌<◌, ◌≤◌, Bool, true, false, cond, ◌&&◌, eqb, ◌⊎◌, List, [], ◌++◌, length, get_or, take, drop, replicate, sym, refl, ap, ◌∙◌, subst, inl, inr, ⊎_elim, mod-eq_of_lt, arith, length-append, length-drop, length-set, get_or-set_other, get_or-set_same, drop-set-lt, eq-eqb, ne_eqb}
use Rattle.std.proofs.lemmas.Bool.{cases_eq}
use mathlib.Core.Option.{none, some}
use lib.Arith.{lt_of_le-ne}
use lib.ListN.{length-replicate, get_or-replicate, get_or-append}
use Rattle.little_endian.specs.Number.{value, AllBytes}
use Rattle.little_endian.proofs.NumberLaws.{below_take, below_drop}
use Rattle.rv32_arithmetic.specs.Bits.{byte_of, join}
use Rattle.lane_word.specs.declared.LaneWord.{LaneWord}
use Rattle.lane_word.specs.Word.{lanes, constant, binary, zip}
use Rattle.predicate_semantics.specs.Memory.{Written, byte_at, put, write}
use Rattle.lane_memory.specs.LentRows.{head_bytes, row_bytes, row_count, cleared}
use Rattle.lane_memory.specs.Search.{find_in}
use Rattle.lane_memory.specs.Rows.{row_at, lane_byte, row_byte, held, row_of, word_byte, lane_row, value_row, write_row, store_at, store_row, store_rows, store_bytes, store_values, row_found, written, load_row, load_byte, joined, Joined, told_written, told_byte, new_row, new_bytes, unmark_rows, unmarked}
use Rattle.lane_memory.specs.Holds.{lookup, content, one, Holds}
use Rattle.lane_memory.specs.declared.Found.{Found}
use Rattle.lane_memory.specs.declared.Found.TheVariants.{At, Free, Full}
use Rattle.lane_memory.proofs.Bytes.{byte_size, byte_constant}
use Rattle.lane_memory.proofs.Memory.{byte_or, byte_lookup, length_put, put_most, write_suc, lookup_write}
use Rattle.lane_memory.proofs.HashTables.{Has, at_has, free_none, full_used, table_none, put_table}
use Rattle.lane_memory.proofs.RowBytes.{row_first, write_long, write_behind, held_others, Renders, held_written, lane_renders, value_renders}

-- ---- whatever the rows hold: a store keeps the memory's length and the bytes behind its rows

pub record Kept (l l' : List ℕ) : Type 0 where
  pub long : length l' ≡ length l
  pub behind : drop (row_count l * row_bytes) l' ≡ drop (row_count l * row_bytes) l

row_kept : (l : List ℕ) (s : ℕ) (row : List ℕ) → length row ≤ row_bytes → s < row_count l → Kept l (write_row l s row)
row_kept l s row short h =
    record {
      long = write_long l s row;
      behind = write_behind l s row short (row_count l * row_bytes) (omega arith);
    }

byte_kept : (l : List ℕ) (a : ℕ) (row : List ℕ) → length row ≤ row_bytes → Kept l (store_row l a row)
unfolding store_row
byte_kept l a row short = go (row_of l a) refl
  where
    go : (r : Found) → row_of l a ≡ r → Kept l (store_at r l row)
    go (At s) e = row_kept l s row short (at_has (held l) a (row_count l) s e).1
    go (Free s) e = row_kept l s row short (free_none (held l) a (row_count l) s e).1
    go Full e = record { long = refl; behind = refl }

kept_on : {l l' l'' : List ℕ} → Kept l l' → Kept l' l'' → Kept l l''
kept_on {l} {l'} {l''} p q =
    let e : row_count l' ≡ row_count l = ap (λ (n : ℕ). n / row_bytes) p.long in
    record { long = q.long ∙ p.long; behind = rw e at q.behind ∙ p.behind }

rows_kept : (l : List ℕ) (width a : ℕ) (row : ℕ → ℕ → List ℕ) → ((k x : ℕ) → length (row k x) ≤ row_bytes) → Kept l (store_rows l width a row)
unfolding store_rows
rows_kept l zero a row short = record { long = refl; behind = refl }
rows_kept l (suc k) a row short =
    kept_on (rows_kept l k a row short) (byte_kept (store_rows l k a row) ((a + k) % 2 ^ 32) (row k ((a + k) % 2 ^ 32)) (short k ((a + k) % 2 ^ 32)))

pub store_kept : (l : List ℕ) (width a : ℕ) (w : LaneWord) → length w.values ≡ lanes → Kept l (store_bytes l width a w)
unfolding store_bytes
store_kept l width a w size = rows_kept l width a (λ k x. lane_row x (word_byte k w)) (λ k x. (lane_renders (word_byte k w) (byte_size k w size)).short x)

pub store_value_kept : (l : List ℕ) (width a v : ℕ) → Kept l (store_values l width a v)
unfolding store_values
store_value_kept l width a v = rows_kept l width a (λ k x. value_row x (byte_of v k)) (λ k x. (value_renders (byte_of v k)).short x)

-- clearing after a store leaves what clearing before it would
cleared_kept : {l l' : List ℕ} → Kept l l' → cleared l' ≡ cleared l
cleared_kept k = rw (k.long, k.behind)

pub cleared_store : (l : List ℕ) (width a : ℕ) (w : LaneWord) → length w.values ≡ lanes → cleared (store_bytes l width a w) ≡ cleared l
cleared_store l width a w size = cleared_kept (store_kept l width a w size)

pub cleared_store_value : (l : List ℕ) (width a v : ℕ) → cleared (store_values l width a v) ≡ cleared l
cleared_store_value l width a v = cleared_kept (store_value_kept l width a v)

-- a loaded byte's values are bytes
every_below : (n v : ℕ) → v < 256 → AllBytes (replicate n v)
every_below zero v h i = omega arith
every_below (suc n) v h zero = h
every_below (suc n) v h (suc i) = every_below n v h i

pub load_below : (l : List ℕ) (a other : ℕ) → AllBytes l → other < 256 → AllBytes (load_byte l a other).values
unfolding load_byte written constant
load_below l a other b h = go (row_of l a)
  where
    row : (t : Bool) (r : List ℕ) → AllBytes r → AllBytes (cond t (lane_byte r) (constant lanes (get_or r head_bytes 0))).values
    row true r d = below_take lanes (drop head_bytes r) (below_drop head_bytes r d)
    row false r d = every_below lanes (get_or r head_bytes 0) (d head_bytes)

    go : (r : Found) → AllBytes (load_row (row_found r l) other).values
    go (At s) = row (eqb (get_or (row_at l s) 2 0) 0) (row_at l s) (below_take row_bytes (drop (s * row_bytes) l) (below_drop (s * row_bytes) l b))
    go (Free s) = every_below lanes other h
    go Full = every_below lanes other h

-- a store has at most as many new bytes as it has bytes
pub new_most : (r : Option (List ℕ)) → new_row r ≤ 1
new_most (Some row) = omega arith
new_most None = omega arith

pub new_bytes_most : (l : List ℕ) (width a : ℕ) → new_bytes l width a ≤ width
unfolding new_bytes
new_bytes_most l zero a = omega arith
new_bytes_most l (suc k) a = omega (arith, new_bytes_most l k a, new_most (written l ((a + k) % 2 ^ 32)))

-- a byte joined below a value for each lane, and below others
pub joined_all : (b : LaneWord) (high : List ℕ) → length high ≡ lanes → joined b high ≡ zip join b.values high
unfolding joined
joined_all b high h = rw (eq-eqb (length high) lanes h)

pub joined_none : (b : LaneWord) (high : List ℕ) → (length high ≡ lanes → ⊥) → joined b high ≡ high
unfolding joined
joined_none b high d = rw (ne_eqb (length high) lanes d)

-- one value for all lanes is known
pub joined_value : (high : List ℕ) {v x : ℕ} {values : List ℕ} → v ≡ x → values ≡ joined (constant lanes v) high → Joined (constant lanes x) high true values
unfolding constant
joined_value high e j = (refl, rw e at j)

-- a word's values and its known flag, joined
pub joined_word : (b : LaneWord) (high : List ℕ) (known : Bool) {r after : Bool} {values : List ℕ} → length high ≡ lanes → Joined b high r values → after ≡ (r && known)
    → record { values = values; known = after } ≡ binary join b (record { values = high; known = known })
unfolding binary
joined_word b high known h j e = rw (e, j.0, j.1, joined_all b high h)

-- one value that is told for all lanes is what a load gives
pub told_byte_law : (l : List ℕ) (a other : ℕ) {v : ℕ} → told_byte l a other ≡ Some v → load_byte l a other ≡ constant lanes v
unfolding told_byte load_byte
told_byte_law l a other {v} = go (written l a)
  where
    row : (t : Bool) (b : LaneWord) (x : ℕ) → cond t None (Some x) ≡ Some v → cond t b (constant lanes x) ≡ constant lanes v
    row true b x e = cc
    row false b x e = let z : x ≡ v = cc in rw z

    go : (r : Option (List ℕ)) → told_written r other ≡ Some v → load_row r other ≡ constant lanes v
    go (Some r) e = row (eqb (get_or r 2 0) 0) (lane_byte r) (get_or r head_bytes 0) e
    go None e = row false (constant lanes other) other e

-- ---- clearing

free_row : (l : List ℕ) (s : ℕ) → get_or l (s * row_bytes) 0 ≡ 0 → held l s ≡ none
unfolding held
free_row l s e = rw (row_first l s ∙ e)

zero_row : (k s : ℕ) (r : List ℕ) → s * row_bytes < k → held (replicate k 0 ++ r) s ≡ none
zero_row k s r h =
    free_row (replicate k 0 ++ r) s
    (get_or-append (replicate k 0) r 0 (s * row_bytes) (omega (arith, length-replicate {A = ℕ} k 0)) ∙ get_or-replicate {A = ℕ} k (s * row_bytes) 0 0 h)

pub cleared_long : (l : List ℕ) → length (cleared l) ≡ length l
cleared_long l =
    length-append (replicate (row_count l * row_bytes) 0) (drop (row_count l * row_bytes) l)
    ∙ omega (arith, length-replicate {A = ℕ} (row_count l * row_bytes) 0, length-drop (row_count l * row_bytes) l)

-- ---- unmarking

unmark_long : (n : ℕ) (l : List ℕ) → length (unmark_rows n l) ≡ length l
unfolding unmark_rows
unmark_long zero l = refl
unmark_long (suc n) l = length-set (unmark_rows n l) (n * row_bytes) 0 ∙ unmark_long n l

unmark_behind : (n : ℕ) (l : List ℕ) (k : ℕ) → n * row_bytes ≤ k → drop k (unmark_rows n l) ≡ drop k l
unfolding unmark_rows
unmark_behind zero l k h = refl
unmark_behind (suc n) l k h = drop-set-lt k (unmark_rows n l) (n * row_bytes) 0 (omega arith) ∙ unmark_behind n l k (omega arith)

unmark_first : (n : ℕ) (l : List ℕ) (s : ℕ) → s < n → n * row_bytes ≤ length l → get_or (unmark_rows n l) (s * row_bytes) 0 ≡ 0
unfolding unmark_rows
unmark_first zero l s h b = omega arith
unmark_first (suc n) l s h b =
    ⊎_elim
    (λ (z : s ≡ n). rw z (get_or-set_same (unmark_rows n l) (n * row_bytes) 0 0 (omega (arith, unmark_long n l))))
    (λ (d : s ≡ n → ⊥).
    get_or-set_other (unmark_rows n l) (n * row_bytes) (s * row_bytes) 0 0 (λ q. d (omega arith))
    ∙ unmark_first n l s (lt_of_le-ne (omega arith) d) (omega arith))
    (cases_eq s n)

pub unmarked_kept : (l : List ℕ) → Kept l (unmarked l)
unmarked_kept l = record { long = unmark_long (row_count l) l; behind = unmark_behind (row_count l) l (row_count l * row_bytes) (omega arith) }

pub unmarked_long : (l : List ℕ) → length (unmarked l) ≡ length l
unmarked_long l = (unmarked_kept l).long

pub cleared_unmarked : (l : List ℕ) → cleared (unmarked l) ≡ cleared l
cleared_unmarked l = cleared_kept (unmarked_kept l)

pub unmarked_holds : (l : List ℕ) → Holds (unmarked l) (row_count l) []
unmarked_holds l =
    record {
      rows = ap (λ (n : ℕ). n / row_bytes) (unmarked_long l);
      table = table_none (held (unmarked l)) (row_count l) (λ s h. free_row (unmarked l) s (unmark_first (row_count l) l s h (omega arith)));
    }

-- ---- the rows hold a memory

module _ {l : List ℕ} {n : ℕ} {m : List Written} (h : Holds l n m) where
  -- one row for an address
  pub one_row : (a s t : ℕ) → Has (held l s) a → Has (held l t) a → s < n → t < n → s ≡ t
  one_row a s t i j p q =
      let x : find_in (held l) n a ≡ At s = rw i.its at (h.table.finds s i.what p i.is) in
      let y : find_in (held l) n a ≡ At t = rw j.its at (h.table.finds t j.what q j.is) in
      cc

  -- a load gives what the memory has
  held_byte : (s : ℕ) (w : Written) → held l s ≡ some w → row_byte (row_at l s) ≡ w.byte
  unfolding held
  held_byte s w e = go (eqb (get_or (row_at l s) 0 0) 0) e
    where
      go : (t : Bool) → cond t none (some (record { address = value (take 4 (drop 4 (row_at l s))); byte = row_byte (row_at l s) })) ≡ some w → row_byte (row_at l s) ≡ w.byte
      go true e = cc
      go false e = cc

  pub holds_load : (a other : ℕ) → load_byte l a other ≡ byte_at (constant lanes other) a m
  unfolding load_byte written
  holds_load a other =
      rw (h.rows, byte_lookup (constant lanes other) a m, ← h.table.same a) (go (find_in (held l) n a) refl)
    where
      go : (r : Found) → find_in (held l) n a ≡ r → load_row (row_found r l) other ≡ byte_or (constant lanes other) (content (held l) r)
      go (At s) e = let i : Has (held l s) a = (at_has (held l) a n s e).0 in held_byte s i.what i.is ∙ rw i.is
      go (Free s) e = refl
      go Full e = refl

  -- one byte is stored
  module _ (a : ℕ) (b : LaneWord) where
    -- no row is left exactly where one more byte would exceed the rows
    pub full_exceeds : row_of l a ≡ Full → n < length (put a b m)
    full_exceeds e =
        let f : find_in (held l) n a ≡ Full = rw h.rows at e in
        let k : none ≡ lookup a m = rw f at (h.table.same a) in
        omega (arith, full_used (held l) a n f, h.table.count, length_put a b m, ap one k)

    module _ (below : a < 2 ^ 32) {row : ℕ → List ℕ} (of : Renders row b) where
      taken : (s : ℕ) → s < n → (find_in (held l) n a ≡ At s) ⊎ (find_in (held l) n a ≡ Free s) → Holds (write_row l s (row a)) n (put a b m)
      taken s k e =
          record {
            rows = ap (λ (x : ℕ). x / row_bytes) (write_long l s (row a)) ∙ h.rows;
            table =
                put_table
                (record { takes = e; new = held_written of l s a (omega (arith, h.rows)) below; kept = held_others l s (row a) (of.short a) })
                h.table;
          }

      holds_row : length (put a b m) ≤ n → Holds (store_row l a (row a)) n (put a b m)
      unfolding store_row
      holds_row k = go (row_of l a) refl
        where
          go : (r : Found) → row_of l a ≡ r → Holds (store_at r l (row a)) n (put a b m)
          go (At s) e = let f : find_in (held l) n a ≡ At s = rw h.rows at e in taken s (at_has (held l) a n s f).1 (inl f)
          go (Free s) e = let f : find_in (held l) n a ≡ Free s = rw h.rows at e in taken s (free_none (held l) a n s f).1 (inr f)
          go Full e = absurd (omega (arith, full_exceeds e))

  new_or_held : (a : ℕ) → new_row (written l a) + one (lookup a m) ≡ 1
  unfolding written
  new_or_held a = rw (h.rows, ← h.table.same a) (go (find_in (held l) n a) refl)
    where
      go : (r : Found) → find_in (held l) n a ≡ r → new_row (row_found r l) + one (content (held l) r) ≡ 1
      go (At s) e = let i : Has (held l s) a = (at_has (held l) a n s e).0 in rw i.is
      go (Free s) e = refl
      go Full e = refl

  -- a store's new bytes are those that the memory grows by
  pub holds_new : (width a : ℕ) (w : LaneWord) → a + width ≤ 2 ^ 32 → length (write m width a w) ≡ length m + new_bytes l width a
  unfolding new_bytes write
  holds_new zero a w b = omega arith
  holds_new (suc k) a w b =
      let x : (a + k) % 2 ^ 32 ≡ a + k = mod-eq_of_lt (omega arith) in
      rw (write_suc k a w m, x)
      (omega (
        arith,
        length_put (a + k) (word_byte k w) (write m k a w),
        ap one (lookup_write k a w m (a + k) (omega arith)),
        new_or_held (a + k),
        holds_new k a w (omega arith),
      ))

-- the low bytes of a word are stored
holds_rows : {l : List ℕ} {n : ℕ} {m : List Written} → Holds l n m → (width a : ℕ) (w : LaneWord) (row : ℕ → ℕ → List ℕ) → ((k : ℕ) → Renders (row k) (word_byte k w))
    → a + width ≤ 2 ^ 32 → length (write m width a w) ≤ n → Holds (store_rows l width a row) n (write m width a w)
unfolding store_rows write
holds_rows h zero a w row of b f = h
holds_rows {l} {n} {m} h (suc k) a w row of b f =
    let x : (a + k) % 2 ^ 32 ≡ a + k = mod-eq_of_lt (omega arith) in
    let f' : length (put (a + k) (word_byte k w) (write m k a w)) ≤ n = rw (write_suc k a w m) at f in
    let g : length (write m k a w) ≤ n = omega (arith, put_most (a + k) (word_byte k w) (write m k a w)) in
    rw (write_suc k a w m, x)
    (holds_row (holds_rows h k a w row of (omega arith) g) (a + k) (word_byte k w) (omega arith) (of k) f')

pub holds_store : {l : List ℕ} {n : ℕ} {m : List Written} → Holds l n m → (width a : ℕ) (w : LaneWord)
    → length w.values ≡ lanes → a + width ≤ 2 ^ 32 → length (write m width a w) ≤ n → Holds (store_bytes l width a w) n (write m width a w)
unfolding store_bytes
holds_store h width a w size = holds_rows h width a w (λ k x. lane_row x (word_byte k w)) (λ k. lane_renders (word_byte k w) (byte_size k w size))

-- the low bytes of a number that is the same in all lanes
pub holds_store_value : {l : List ℕ} {n : ℕ} {m : List Written} → Holds l n m → (width a v : ℕ)
    → a + width ≤ 2 ^ 32 → length (write m width a (constant lanes v)) ≤ n → Holds (store_values l width a v) n (write m width a (constant lanes v))
unfolding store_values
holds_store_value h width a v =
    holds_rows h width a (constant lanes v) (λ k x. value_row x (byte_of v k))
    (λ k. subst (λ (b : LaneWord). Renders (λ x. value_row x (byte_of v k)) b) (sym (byte_constant k v)) (value_renders (byte_of v k)))
