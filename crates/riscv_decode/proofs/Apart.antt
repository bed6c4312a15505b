-- No word matches two rows of a table that passes the test of all pairs; the standing table passes. Assumes nothing.
use Rattle.std.specs.Prelude.{None, Some}
use mathlib.Core.Bool.{Bool, true, false, ◌&&◌, ◌||◌}
use mathlib.Core.Path.{◌≡◌, refl, sym, ap, ap₂, subst, ◌∙◌}
use mathlib.Core.List.{List, [], ◌∷◌}
use Prim.Native.Nat.{ℕ, zero, suc, ◌+◌, ◌*◌, ◌/◌, ◌%◌, ◌<◌, min}
use native.Mathlib.Nat.{le_of_suc-le-suc, not-suc-le-zero}
use native.Mathlib.Omega.{arith}
use borrow.Author.Tests.{eq-eqb, ne_eqb}
use lib.Arith.{bin_ind, digits_mod}
use lib.Bits.{bit_and, and_step, and_comm, and_shr}
use lib.Dec.{T, eqb, ltb, eqb→eq, ltb→lt, T_not}
use lib.Ieee.Fits.{and_l, and_r}
use lib.ListN.{length, get_or}
use mir.Facts.{yes_eqb}
use Rattle.riscv_decode.specs.declared.Row.{Row}
use Rattle.riscv_decode.specs.Listing.{operation_count, listing, fixed}
use Rattle.riscv_decode.specs.Rows.{row_mask, row_match, row_number, no_row, matches, find_row, apart, apart_from, all_apart, mask_of, match_of, rows_from, standing_rows, Stands}
use Rattle.riscv_decode.specs.Statements.{StandingApart, OneRow}

and_odd : (a b : ℕ) → bit_and a b % 2 ≡ min (a % 2) (b % 2)
and_odd a b = ap (λ (x : ℕ). x % 2) (and_step a b) ∙ digits_mod (bit_and (a / 2) (b / 2)) (omega arith)

min_assoc : (a b c : ℕ) → min (min a b) c ≡ min a (min b c)
min_assoc a b c = omega arith

and_assoc : (a b c : ℕ) → bit_and (bit_and a b) c ≡ bit_and a (bit_and b c)
and_assoc =
    bin_ind (λ (a : ℕ). (b c : ℕ) → bit_and (bit_and a b) c ≡ bit_and a (bit_and b c)) (λ b c. refl)
    (λ n ih b c.
    and_step (bit_and n b) c
    ∙ ap₂ (λ (x y : ℕ). bit_and x (c / 2) * 2 + min y (c % 2)) (and_shr n b 1) (and_odd n b)
    ∙ ap₂ (λ (x y : ℕ). x * 2 + y) (ih (b / 2) (c / 2)) (min_assoc (n % 2) (b % 2) (c % 2))
    ∙ sym (and_step n (bit_and b c) ∙ ap₂ (λ (x y : ℕ). bit_and (n / 2) x * 2 + min (n % 2) y) (and_shr b c 1) (and_odd b c)))

-- a mask of what another mask left is the mask of both
masked : (w m n : ℕ) {v : ℕ} → bit_and w m ≡ v → bit_and n v ≡ bit_and w (bit_and m n)
masked w m n e = ap (bit_and n) (sym e) ∙ and_comm n (bit_and w m) ∙ and_assoc w m n

-- one word, two rows that the test tells apart
pub not_both : (r s : Row) (w : ℕ) → T (apart r s) → T (matches r w) → T (matches s w) → ⊥
not_both r s w t p q =
    T_not (eqb (bit_and (row_mask s) (row_match r)) (bit_and (row_mask r) (row_match s))) t
    (yes_eqb
    (masked w (row_mask r) (row_mask s) (eqb→eq (bit_and w (row_mask r)) (row_match r) p)
    ∙ ap (bit_and w) (and_comm (row_mask r) (row_mask s))
    ∙ sym (masked w (row_mask s) (row_mask r) (eqb→eq (bit_and w (row_mask s)) (row_match s) q))))

pub from : (r : Row) (rs : List Row) → T (apart_from r rs) → (k : ℕ) → k < length rs → T (apart r (get_or rs k no_row))
unfolding apart_from
from r [] t k h = absurd (not-suc-le-zero h)
from r (s ∷ rs) t zero h = and_l (apart r s) (apart_from r rs) t
from r (s ∷ rs) t (suc k) h = from r rs (and_r (apart r s) (apart_from r rs) t) k (le_of_suc-le-suc h)

-- no word matches two rows
pub one_row : (t : List Row) → T (all_apart t) → (i j w : ℕ) → (i < j) × (j < length t) → T (matches (get_or t i no_row) w) → T (matches (get_or t j no_row) w) → ⊥
unfolding all_apart
one_row [] t i j w h p q = absurd (not-suc-le-zero h.1)
one_row (r ∷ rs) t i zero w h p q = absurd (not-suc-le-zero h.0)
one_row (r ∷ rs) t zero (suc j) w h p q =
    not_both r (get_or rs j no_row) w (from r rs (and_l (apart_from r rs) (all_apart rs) t) j (le_of_suc-le-suc h.1)) p q
one_row (r ∷ rs) t (suc i) (suc j) w h p q =
    one_row rs (and_r (apart_from r rs) (all_apart rs) t) i j w (le_of_suc-le-suc h.0, le_of_suc-le-suc h.1) p q

-- so the row that a word matches is the one that is found, wherever it stands
pub found : (t : List Row) → T (all_apart t) → (i w : ℕ) → i < length t → T (matches (get_or t i no_row) w) → find_row t w ≡ Some (get_or t i no_row)
unfolding find_row all_apart
found [] t i w h p = absurd (not-suc-le-zero h)
found (r ∷ rs) t zero w h p = rw (eq-eqb _ _ (eqb→eq (bit_and w (row_mask r)) (row_match r) p))
found (r ∷ rs) t (suc i) w h p =
    let n : bit_and w (row_mask r) ≡ row_match r → ⊥ =
    λ e. not_both r (get_or rs i no_row) w (from r rs (and_l (apart_from r rs) (all_apart rs) t) i (le_of_suc-le-suc h)) (yes_eqb e) p in
    rw (ne_eqb _ _ n) (found rs (and_r (apart_from r rs) (all_apart rs) t) i w (le_of_suc-le-suc h) p)

-- a word that matches a row apart from each of a table's matches none of them
pub beside : (r : Row) (t : List Row) (w : ℕ) → T (apart_from r t) → T (matches r w) → find_row t w ≡ None
unfolding find_row apart_from
beside r [] w t p = refl
beside r (s ∷ rs) w t p =
    let n : bit_and w (row_mask s) ≡ row_match s → ⊥ = λ e. not_both r s w (and_l (apart r s) (apart_from r rs) t) p (yes_eqb e) in
    rw (ne_eqb _ _ n) (beside r rs w (and_r (apart r s) (apart_from r rs) t) p)

pub standing_apart : StandingApart
unfolding all_apart apart_from standing_rows rows_from listing fixed mask_of match_of
standing_apart = tt

pub standing_one : OneRow
standing_one i j w l h = one_row standing_rows standing_apart i j w (l, h)

-- row i stands
pub stands : (i : ℕ) → T (ltb i operation_count) → Stands (get_or standing_rows i no_row)
unfolding standing_rows rows_from listing
stands i t = (i, ltb→lt i operation_count t, refl)

-- a row is one of these, as a test
abbrev same : Row → Row → Bool
same r s = eqb (row_mask r) (row_mask s) && (eqb (row_match r) (row_match s) && eqb (row_number r) (row_number s))

abbrev pub among : Row → List Row → Bool
among r [] = false
among r (s ∷ rs) = same s r || among r rs

abbrev row : ℕ → ℕ → ℕ → Row
row mask value number = record { 0 = mask; 1 = value; 2 = number }

same_row : (r s : Row) → T (same r s) → r ≡ s
same_row r s t =
    let rest = and_r (eqb (row_mask r) (row_mask s)) (eqb (row_match r) (row_match s) && eqb (row_number r) (row_number s)) t in
    ap (λ (x : ℕ). row x r.1 r.2) (eqb→eq r.0 s.0 (and_l (eqb (row_mask r) (row_mask s)) (eqb (row_match r) (row_match s) && eqb (row_number r) (row_number s)) t))
    ∙ ap₂ (λ (x y : ℕ). row s.0 x y) (eqb→eq r.1 s.1 (and_l (eqb (row_match r) (row_match s)) (eqb (row_number r) (row_number s)) rest))
    (eqb→eq r.2 s.2 (and_r (eqb (row_match r) (row_match s)) (eqb (row_number r) (row_number s)) rest))

found_among : (r : Row) (rs : List Row) → T (among r rs) → (i : ℕ) × (i < length rs) × (get_or rs i no_row ≡ r)
found_among r [] t = absurd t
found_among r (s ∷ rs) t = go (same s r) refl (found_among r rs) t
  where
    go : (b : Bool) → same s r ≡ b → (T (among r rs) → (i : ℕ) × (i < length rs) × (get_or rs i no_row ≡ r)) → T (b || among r rs)
        → (i : ℕ) × (i < suc (length rs)) × (get_or (s ∷ rs) i no_row ≡ r)
    go true e later u = (0, omega arith, same_row s r (subst T (sym e) tt))
    go false e later u = let q = later u in (suc q.0, omega (arith, q.1), q.2)

-- a row that the test finds in the standing table stands there
pub among_standing : (r : Row) → T (among r standing_rows) → Stands r
among_standing r t = found_among r standing_rows t

-- a row that stands is the one that is found for a word that matches it
pub by_row : (r : Row) (w : ℕ) → Stands r → matches r w ≡ true → Some r ≡ find_row standing_rows w
by_row r w s e =
    let q : T (matches (get_or standing_rows s.0 no_row) w) = subst T (sym (ap (λ (x : Row). matches x w) s.2 ∙ e)) tt in
    ap (λ (x : Row). Some x) (sym s.2) ∙ sym (found standing_rows standing_apart s.0 w s.1 q)
