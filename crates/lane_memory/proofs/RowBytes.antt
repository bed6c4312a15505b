-- Laws of the bytes of a row: where they lie in lent memory, and what writing a row leaves. Assumes nothing.
use Rattle.std.specs.Prelude.{None, Some}
use Rattle.std.proofs.Common.{◌≡◌, ℕ, zero, suc, ◌+◌, ◌-◌, ◌*◌, ◌^◌, ◌<◌, ◌≤◌, Bool, true, false, cond, not, eqb, List, [], ◌∷◌, ◌++◌, length, get_or, take, drop, set, sym, refl, ap, ◌∙◌, ⊎_elim, append_assoc, add-zero, arith, length-drop, length-take-le, get_or-drop, get_or-take, take-take, take_at, take-append-drop, drop-drop, drop-set-lt, drop_at}
use Rattle.std.proofs.lemmas.List.{drop-take}
use Rattle.std.proofs.lemmas.Bool.{cases_lt}
use mathlib.Core.Option.{some}
use lib.Arith.{lt_of_le-ne}
use borrow.Rule.Slice.PartMut.{put_mid}
use lib.Seq.{take-set-le, sets, length-sets, sets-eq}
use Rattle.little_endian.proofs.NumberLaws.{value_bytes}
use Rattle.little_endian.proofs.SetLaws.{sets_append}
use Rattle.lane_word.specs.declared.LaneWord.{LaneWord}
use Rattle.lane_word.specs.Word.{lanes, constant}
use Rattle.lane_memory.specs.LentRows.{head_bytes, row_bytes}
use Rattle.lane_memory.specs.Rows.{row_at, lane_byte, row_byte, told_row, row_holds, held, head_of, lane_row, value_row, write_row}

-- ---- what stores leave before and behind them

take_sets : (vs l : List ℕ) (i k : ℕ) → k ≤ i → take k (sets l i vs) ≡ take k l
take_sets [] l i k h = refl
take_sets (v ∷ vs) l i k h = take_sets vs (set l i v) (suc i) k (omega arith) ∙ take-set-le k l i v h

drop_sets : (vs l : List ℕ) (i k : ℕ) → i + length vs ≤ k → drop k (sets l i vs) ≡ drop k l
drop_sets [] l i k h = refl
drop_sets (v ∷ vs) l i k h = drop_sets vs (set l i v) (suc i) k (omega arith) ∙ drop-set-lt k l i v (omega arith)

-- ---- where a row's bytes lie

part_take : (i n N : ℕ) (l : List ℕ) → i + n ≤ N → take n (drop i (take N l)) ≡ take n (drop i l)
part_take i n N l h =
    let e : i + (N - i) ≡ N = omega arith in
    (rw e at (ap (λ (r : List ℕ). take n r) (drop-take i (N - i) l))) ∙ take-take n (N - i) (drop i l) (omega arith)

module _ (l : List ℕ) (s : ℕ) where
  pub row_part : (i n : ℕ) → i + n ≤ row_bytes → take n (drop i (row_at l s)) ≡ take n (drop (s * row_bytes + i) l)
  row_part i n h = part_take i n row_bytes (drop (s * row_bytes) l) h ∙ ap (λ (r : List ℕ). take n r) (drop-drop i (s * row_bytes) l)

  pub row_at_place : (i : ℕ) → i < row_bytes → get_or (row_at l s) i 0 ≡ get_or l (s * row_bytes + i) 0
  row_at_place i h = get_or-take row_bytes (drop (s * row_bytes) l) i 0 h ∙ get_or-drop (s * row_bytes) l i 0

pub row_first : (l : List ℕ) (s : ℕ) → get_or (row_at l s) 0 0 ≡ get_or l (s * row_bytes) 0
row_first l s = get_or-take row_bytes (drop (s * row_bytes) l) 0 0 (omega arith) ∙ get_or-drop (s * row_bytes) l 0 0 ∙ ap (λ (k : ℕ). get_or l k 0) (add-zero (s * row_bytes))

-- ---- what is read out of a row

module _ (row : List ℕ) where
  pub row_lanes : length row ≡ row_bytes → length (take lanes (drop head_bytes row)) ≡ lanes
  row_lanes e = length-take-le lanes (drop head_bytes row) (omega (arith, length-drop head_bytes row))

  pub row_lane : (i : ℕ) → i < lanes → get_or row (head_bytes + i) 0 ≡ get_or (take lanes (drop head_bytes row)) i 0
  row_lane i h = sym (get_or-take lanes (drop head_bytes row) i 0 h ∙ get_or-drop head_bytes row i 0)

  pub told_none : told_row row ≡ None → row_byte row ≡ lane_byte row
  told_none e = go (eqb (get_or row 2 0) 0) e
    where
      go : (t : Bool) → cond t None (Some (get_or row head_bytes 0)) ≡ None → cond t (lane_byte row) (constant lanes (get_or row head_bytes 0)) ≡ lane_byte row
      go true e = refl
      go false e = cc

-- ---- a row is written

mark_known : (k : Bool) → not (eqb (cond k 1 0) 0) ≡ k
mark_known true = refl
mark_known false = refl

pub row_set : (l : List ℕ) (a : ℕ) (known uniform : Bool) (vs : List ℕ) {l₁ l₂ : List ℕ}
    → l₁ ≡ sets l 0 (head_of known uniform a) → l₂ ≡ sets l₁ head_bytes vs → l₂ ≡ sets l 0 (head_of known uniform a ++ vs)
row_set l a known uniform vs e f = f ∙ rw e (sets_append (head_of known uniform a) vs l 0)

rest_of : (n k : ℕ) (l : List ℕ) → n ≤ k → drop n (take k l) ++ drop k l ≡ drop n l
rest_of zero k l h = take-append-drop k l
rest_of (suc n) zero l h = absurd (omega arith)
rest_of (suc n) (suc k) [] h = refl
rest_of (suc n) (suc k) (x ∷ l) h = rest_of n k l (omega arith)

-- a row's start is written through the row alone
pub put_row : (l : List ℕ) (s : ℕ) (row : List ℕ) {n : ℕ} {new : List ℕ} → n ≡ row_bytes → new ≡ sets (take n (drop (s * row_bytes) l)) 0 row
    → s * row_bytes + row_bytes ≤ length l → length row ≤ row_bytes → put_mid (s * row_bytes) n l new ≡ write_row l s row
put_row l s row {n} e f room short =
    let d : List ℕ = drop (s * row_bytes) l in
    let long : length (take row_bytes d) ≡ row_bytes = length-take-le row_bytes d (omega (arith, length-drop (s * row_bytes) l)) in
    let z : 0 + length row ≡ length row = omega arith in
    rw (f, e, sets-eq row (row_at l s) 0 (omega arith), sets-eq row l (s * row_bytes) (omega arith), z)
    (ap (λ (r : List ℕ). take (s * row_bytes) l ++ r)
    (append_assoc row (drop (length row) (row_at l s)) (drop row_bytes d)
    ∙ ap (λ (r : List ℕ). row ++ r) (rest_of (length row) row_bytes d short ∙ drop-drop (length row) (s * row_bytes) l))
    ∙ sym (append_assoc (take (s * row_bytes) l) row (drop (s * row_bytes + length row) l)))

module _ (l : List ℕ) (s : ℕ) (row : List ℕ) where
  pub write_long : length (write_row l s row) ≡ length l
  write_long = length-sets l (s * row_bytes) row

  module _ (short : length row ≤ row_bytes) where
    pub write_behind : (k : ℕ) → s * row_bytes + row_bytes ≤ k → drop k (write_row l s row) ≡ drop k l
    write_behind k h = drop_sets row l (s * row_bytes) k (omega arith)

    row_written : s * row_bytes + row_bytes ≤ length l → drop (s * row_bytes) (write_row l s row) ≡ row ++ drop (s * row_bytes + length row) l
    row_written room =
        let rest : List ℕ = drop (s * row_bytes + length row) l in
        ap (λ (r : List ℕ). drop (s * row_bytes) r) (sets-eq row l (s * row_bytes) (omega arith) ∙ append_assoc (take (s * row_bytes) l) row rest)
        ∙ drop_at (take (s * row_bytes) l) (row ++ rest) (s * row_bytes) (length-take-le (s * row_bytes) l (omega arith))

    pub held_others : (t : ℕ) → (t ≡ s → ⊥) → held (write_row l s row) t ≡ held l t
    unfolding held
    held_others t d =
        ⊎_elim
        (λ (h : t < s).
        ap row_holds
        (sym (part_take (t * row_bytes) row_bytes (s * row_bytes) (write_row l s row) (omega arith))
        ∙ ap (λ (r : List ℕ). take row_bytes (drop (t * row_bytes) r)) (take_sets row l (s * row_bytes) (s * row_bytes) (omega arith))
        ∙ part_take (t * row_bytes) row_bytes (s * row_bytes) l (omega arith)))
        (λ (h : s ≤ t). ap (λ (r : List ℕ). row_holds (take row_bytes r)) (write_behind (t * row_bytes) (let q : s < t = lt_of_le-ne h (λ z. d (sym z)) in omega arith)))
        (cases_lt t s)

-- a row that starts with `row x` holds the byte b of address x, whatever follows
pub record Renders (row : ℕ → List ℕ) (b : LaneWord) : Type 0 where
  pub short : (x : ℕ) → length (row x) ≤ row_bytes
  pub holds : (x : ℕ) (rest : List ℕ) → x < 2 ^ 32 → row_holds (take row_bytes (row x ++ rest)) ≡ some (record { address = x; byte = b })

pub held_written : {row : ℕ → List ℕ} {b : LaneWord} → Renders row b → (l : List ℕ) (s a : ℕ) → s * row_bytes + row_bytes ≤ length l → a < 2 ^ 32
    → held (write_row l s (row a)) s ≡ some (record { address = a; byte = b })
unfolding held
held_written {row} r l s a room below =
    ap (λ (x : List ℕ). row_holds (take row_bytes x)) (row_written l s (row a) (r.short a) room) ∙ r.holds a (drop (s * row_bytes + length (row a)) l) below

pub lane_renders : (b : LaneWord) → length b.values ≡ lanes → Renders (λ x. lane_row x b) b
lane_renders b size =
    record {
      short = λ x. omega (arith, size);
      holds = λ x rest below.
          rw (take-take lanes (row_bytes - head_bytes) (b.values ++ rest) (omega arith), take_at b.values rest lanes size, value_bytes 4 x below, mark_known b.known);
    }

pub value_renders : (v : ℕ) → Renders (λ x. value_row x v) (constant lanes v)
value_renders v = record { short = λ x. omega arith; holds = λ x rest below. rw (value_bytes 4 x below) }
