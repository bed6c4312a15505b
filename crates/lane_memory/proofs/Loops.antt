-- The loops over lanes: what each is at its end, and the step of the one that writes a row; and the invariants of loops, each with its start, its step and its exits. Assumes nothing.
use Rattle.std.proofs.Common.{◌≡◌, ℕ, suc, ◌+◌, ◌*◌, ◌%◌, ◌^◌, ◌<◌, ◌≤◌, not, eqb, List, ◌++◌, length, get_or, take, drop, set, replicate, sym, refl, ◌∙◌, eq-eqb, add-zero, add-one, arith, length-set, drop_of_length-le, take_all, drop-cons, take-suc, take-suc-set}
use Rattle.std.proofs.lemmas.Grind.{same_number_lists}
use lib.ListN.{length-replicate}
use lib.Seq.{sets}
use Rattle.little_endian.proofs.SetLaws.{sets_over}
use Rattle.lane_word.specs.declared.LaneWord.{LaneWord}
use Rattle.lane_word.proofs.Lanewise.{Done}
use Rattle.lane_word.proofs.Lists.{length_zip, get_d_zip}
use Rattle.lane_word.specs.Word.{lanes, zip}
use Rattle.rv32_arithmetic.specs.Bits.{join}
use Rattle.lane_memory.specs.LentRows.{head_bytes, row_bytes}
use Rattle.lane_memory.specs.Rows.{GivesLanes, joined, lane_byte, written, store_row, store_rows, new_row, new_bytes, unmark_rows}
use Rattle.lane_memory.proofs.RowBytes.{row_lanes, row_lane}
use Rattle.lane_memory.proofs.Laws.{new_most}

-- what is left to write of s, from index i + k of out on
pub sets_more : (s out : List ℕ) (i k z : ℕ) {v : ℕ} → k < length s → v ≡ get_or s k z → sets out (i + k) (drop k s) ≡ sets (set out (i + k) v) (i + (k + 1)) (drop (k + 1) s)
sets_more s out i k z h e =
    let x : i + suc k ≡ suc (i + k) = omega arith in
    rw (e, add-one, x, drop-cons s k z h)

pub sets_all : (s out : List ℕ) (i k : ℕ) → length s ≤ k → sets out (i + k) (drop k s) ≡ out
sets_all s out i k h = rw (drop_of_length-le s {i = k} h)

-- a row's lanes are read
pub lanes_read : (row : List ℕ) {xs out : List ℕ} {k : ℕ} → Done (λ i z. z ≡ get_or row (head_bytes + i) 0) xs out k → length out ≤ k → length row ≡ row_bytes → length xs ≡ lanes
    → record { values = out; known = not (eqb (get_or row 1 0) 0) } ≡ lane_byte row
lanes_read row {xs} {out} d h r e =
    let room : length (take lanes (drop head_bytes row)) ≡ lanes = row_lanes row r in
    let same : out ≡ take lanes (drop head_bytes row) =
    same_number_lists out (take lanes (drop head_bytes row)) (omega (arith, d.long))
    (λ i b. d.front i (omega arith) ∙ row_lane row i (omega (arith, d.long))) in
    rw same

joined_lanes : (b : LaneWord) (high out : List ℕ) → length b.values ≡ lanes → length high ≡ lanes → length out ≡ length high
    → ((i : ℕ) → i < lanes → get_or out i 0 ≡ join (get_or b.values i 0) (get_or high i 0)) → out ≡ joined b high
unfolding joined
joined_lanes b high out f e s p =
    rw (eq-eqb (length high) lanes e)
    (same_number_lists out (zip join b.values high) (s ∙ e ∙ sym (length_zip join b.values high (f ∙ sym e) ∙ f))
    (λ i l. p i (omega arith) ∙ sym (get_d_zip join b.values high i (omega arith) (f ∙ sym e))))

-- each value is joined above what P says of its lane
pub joined_by : {P : ℕ → ℕ → Type 0} {high out : List ℕ} {k : ℕ} → Done (λ i z. (x : ℕ) × P i x × (z ≡ join x (get_or high i 0))) high out k → length out ≤ k → length high ≡ lanes
    → (b : LaneWord) → GivesLanes P b → out ≡ joined b high
joined_by {P} {high} {out} {k} d h e b g =
    joined_lanes b high out g.0 e d.long
    (λ i l. let p = d.front i (omega (arith, d.long)) in p.2 ∙ rw (g.1 i p.0 l p.1))

-- ---- what is left to write of s, from index at + k of out on, is what there was to write from index at of d on

pub record Setting (d : List ℕ) (at : ℕ) (s : List ℕ) (n : ℕ) (out : List ℕ) (k : ℕ) : Type 0 where
  pub size : length s ≡ n
  pub long : length out ≡ length d
  pub within : k ≤ n
  pub rest : sets d at s ≡ sets out (at + k) (drop k s)

pub set_start : {d : List ℕ} {at : ℕ} {s : List ℕ} {n : ℕ} → length s ≡ n → Setting d at s n d 0
set_start {d} {at} {s} e = record { size = e; long = refl; within = omega arith; rest = rw (add-zero at) }

module _ {d : List ℕ} {at : ℕ} {s : List ℕ} {n : ℕ} {out : List ℕ} {k : ℕ} (p : Setting d at s n out k) where
  pub set_step : {i v : ℕ} (z : ℕ) → k < n → i ≡ at + k → v ≡ get_or s k z → Setting d at s n (set out i v) (k + 1)
  set_step {i} {v} z h j e =
      let x : at + suc k ≡ suc (at + k) = omega arith in
      record {
        size = p.size;
        long = length-set out i v ∙ p.long;
        within = omega arith;
        rest = p.rest ∙ rw (j, e, add-one, x, drop-cons s k z (omega (arith, p.size)));
      }

  pub set_exit : n ≤ k → out ≡ sets d at s
  set_exit h = sym (p.rest ∙ rw (drop_of_length-le s {i = k} (omega (arith, p.size))))

-- zeros from the first element on
pub zeros_exit : {d : List ℕ} {n : ℕ} {out : List ℕ} {k : ℕ} → Setting d 0 (replicate n 0) n out k → n ≤ k → n ≤ length d → out ≡ replicate n 0 ++ drop n d
zeros_exit {d} {n} p h room =
    let e : length (replicate {A = ℕ} n 0) ≡ n = length-replicate n 0 in
    set_exit p h ∙ sets_over (replicate n 0) d (omega arith) ∙ rw e

-- ---- the first k of s's n elements are copied

pub record Copying (s : List ℕ) (n : ℕ) (out : List ℕ) (k : ℕ) : Type 0 where
  pub size : length s ≡ n
  pub long : length out ≡ n
  pub within : k ≤ n
  pub front : take k out ≡ take k s

pub copy_start : {s : List ℕ} {n : ℕ} {out : List ℕ} → length s ≡ n → length out ≡ n → Copying s n out 0
copy_start e f = record { size = e; long = f; within = omega arith; front = refl }

module _ {s : List ℕ} {n : ℕ} {out : List ℕ} {k : ℕ} (p : Copying s n out k) where
  pub copy_step : {v : ℕ} → k < n → v ≡ get_or s k 0 → Copying s n (set out k v) (k + 1)
  copy_step {v} h e =
      record {
        size = p.size;
        long = length-set out k v ∙ p.long;
        within = omega arith;
        front = rw (add-one, take-suc-set out k v (omega (arith, p.long)), take-suc s k 0 (omega (arith, p.size)), p.front, e);
      }

  pub copy_exit : n ≤ k → out ≡ s
  copy_exit h = rw (take_all k out (omega (arith, p.long)), take_all k s (omega (arith, p.size))) at p.front

-- ---- `store`, `store_value`: the first k bytes are stored

pub record Storing (l : List ℕ) (a : ℕ) (row : ℕ → ℕ → List ℕ) (width : ℕ) (out : List ℕ) (k : ℕ) : Type 0 where
  pub long : length out ≡ length l
  pub within : k ≤ width
  pub is : out ≡ store_rows l k a row

pub store_start : (l : List ℕ) (a : ℕ) (row : ℕ → ℕ → List ℕ) (width : ℕ) → Storing l a row width l 0
unfolding store_rows
store_start l a row width = record { long = refl; within = omega arith; is = refl }

module _ {l : List ℕ} {a : ℕ} {row : ℕ → ℕ → List ℕ} {width : ℕ} {out : List ℕ} {k : ℕ} (s : Storing l a row width out k) where
  pub store_step : {x : ℕ} {out' : List ℕ} → k < width → x ≡ (a + k) % 2 ^ 32 → out' ≡ store_row out x (row k x) → length out' ≡ length out → Storing l a row width out' (k + 1)
  unfolding store_rows
  store_step h x e f = record { long = f ∙ s.long; within = omega arith; is = rw (e, add-one, x, s.is) }

  pub store_exit : width ≤ k → out ≡ store_rows l width a row
  store_exit h = let z : k ≡ width = omega (arith, s.within) in rw z at s.is

-- ---- `new_bytes`: so many of the first k bytes are new

pub record Counting (l : List ℕ) (a width new k : ℕ) : Type 0 where
  pub within : k ≤ width
  pub most : new ≤ k
  pub is : new ≡ new_bytes l k a

pub count_start : (l : List ℕ) (a width : ℕ) → Counting l a width 0 0
unfolding new_bytes
count_start l a width = record { within = omega arith; most = omega arith; is = refl }

module _ {l : List ℕ} {a width new k : ℕ} (s : Counting l a width new k) where
  pub count_step : {x y : ℕ} → k < width → x ≡ (a + k) % 2 ^ 32 → y ≡ new_row (written l x) → Counting l a width (new + y) (k + 1)
  unfolding new_bytes
  count_step {x} {y} h e f =
      record { within = omega arith; most = omega (arith, f, new_most (written l x)); is = rw (add-one, f, e, s.is) }

  pub count_fits : {y : ℕ} (x : ℕ) → k < width → y ≡ new_row (written l x) → new + y ≤ width
  count_fits x h f = omega (arith, f, new_most (written l x), s.most)

  pub count_exit : width ≤ k → new ≡ new_bytes l width a
  count_exit h = let z : k ≡ width = omega (arith, s.within) in rw z at s.is

-- ---- `unmark`: the first k rows are free

pub record Unmarking (l : List ℕ) (n : ℕ) (out : List ℕ) (k : ℕ) : Type 0 where
  pub long : length out ≡ length l
  pub within : k ≤ n
  pub is : out ≡ unmark_rows k l

pub unmark_start : (l : List ℕ) (n : ℕ) → Unmarking l n l 0
unfolding unmark_rows
unmark_start l n = record { long = refl; within = omega arith; is = refl }

module _ {l : List ℕ} {n : ℕ} {out : List ℕ} {k : ℕ} (s : Unmarking l n out k) where
  pub unmark_step : k < n → Unmarking l n (set out (k * row_bytes) 0) (k + 1)
  unfolding unmark_rows
  unmark_step h = record { long = length-set out (k * row_bytes) 0 ∙ s.long; within = omega arith; is = rw (add-one, s.is) }

  pub unmark_exit : n ≤ k → out ≡ unmark_rows n l
  unmark_exit h = let z : k ≡ n = omega (arith, s.within) in rw z at s.is
