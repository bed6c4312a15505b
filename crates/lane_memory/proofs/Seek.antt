-- The loop of `find`, and what its answer says of the rows. Assumes nothing.
use Rattle.std.specs.Prelude.{Some}
use Rattle.std.specs.Simd.{first_chunks}
use Rattle.std.proofs.Common.{◌≡◌, ℕ, zero, suc, ◌+◌, ◌-◌, ◌*◌, ◌<◌, ◌≤◌, ◌⊎◌, ⊎_elim, List, [], length, get_or, take, drop, sym, ap, ◌∙◌, arith, drop-drop}
use Rattle.lane_memory.specs.LentRows.{row_bytes, row_count}
use Rattle.lane_memory.specs.Search.{probe, onward, ending, scan}
use Rattle.lane_memory.specs.Rows.{row_holds, held, row_of, write_row, store_row, written}
use Rattle.lane_memory.specs.declared.Probe.{Probe}
use Rattle.lane_memory.specs.declared.Probe.TheVariants.{Empty, Match, Other}
use Rattle.lane_memory.specs.declared.Found.{Found}
use Rattle.lane_memory.specs.declared.Found.TheVariants.{At, Free, Full}
use Rattle.lane_memory.proofs.Search.{onward_below, scan_step}
use Rattle.lane_memory.proofs.HashTables.{at_has, free_none}

-- the rows as arrays
chunk_at : (n k : ℕ) (l : List ℕ) (s : ℕ) → s < k → get_or (first_chunks n k l) s [] ≡ take n (drop (s * n) l)
chunk_at n zero l s h = absurd (omega arith)
chunk_at n (suc k) l zero h = let e : 0 * n ≡ 0 = omega arith in rw e
chunk_at n (suc k) l (suc s) h =
    let e : n + s * n ≡ suc s * n = omega arith in
    chunk_at n k (drop n l) s (omega arith) ∙ ap (λ (r : List ℕ). take n r) (drop-drop (s * n) n l ∙ rw e)

-- the whole rows of the memory l, as arrays
abbrev pub rows_of : List ℕ → List (List ℕ)
rows_of l = first_chunks row_bytes (row_count l) l

-- what is left of the search has the whole's answer
pub record Seeking (l : List ℕ) (n a s left : ℕ) : Type 0 where
  pub count : n ≡ row_count l
  pub below : s < n
  pub rest : row_of l a ≡ scan (λ x. probe (held l x) a) n left s

pub seek_none : (l : List ℕ) {n : ℕ} (a : ℕ) → n ≡ row_count l → n ≡ 0 → Full ≡ row_of l a
unfolding scan
seek_none l a e z = let k : row_count l ≡ 0 = sym e ∙ z in rw k

module _ {l : List ℕ} {n a s left : ℕ} (k : Seeking l n a s left) where
  pub seek_full : left ≤ 0 → Full ≡ row_of l a
  unfolding scan
  seek_full h = let z : left ≡ 0 = omega arith in sym (k.rest ∙ rw z)

  module _ (h : 0 < left) {whole : List (List ℕ)} (f : whole ≡ rows_of l) {p : Probe} (e : p ≡ probe (row_holds (get_or whole s [])) a) where
    seen : p ≡ probe (held l s) a
    unfolding held
    seen = e ∙ rw (f, chunk_at row_bytes (row_count l) l s (omega (arith, k.below, k.count)))

    turn : row_of l a ≡ ending p s (scan (λ x. probe (held l x) a) n (left - 1) (onward n (left - 1) s))
    turn = k.rest ∙ scan_step (λ x. probe (held l x) a) n left s h ∙ rw seen

    pub seek_empty : p ≡ Empty → Free s ≡ row_of l a
    seek_empty q = sym (turn ∙ rw q)

    pub seek_match : p ≡ Match → At s ≡ row_of l a
    seek_match q = sym (turn ∙ rw q)

    pub seek_on : {t : ℕ} → p ≡ Other → t ≡ onward n (left - 1) s → Seeking l n a t (left - 1)
    seek_on q z = rw z (record { count = k.count; below = onward_below n (left - 1) s k.below; rest = turn ∙ rw q })

-- the row that a store takes
module _ (l : List ℕ) (a : ℕ) {r : Found} (e : r ≡ row_of l a) {s : ℕ} where
  pub at_inside : r ≡ At s → s * row_bytes + row_bytes ≤ length l
  at_inside q = omega (arith, (at_has (held l) a (row_count l) s (sym e ∙ q)).1)

  pub free_inside : r ≡ Free s → s * row_bytes + row_bytes ≤ length l
  free_inside q = omega (arith, (free_none (held l) a (row_count l) s (sym e ∙ q)).1)

  module _ (q : (r ≡ At s) ⊎ (r ≡ Free s)) where
    pub takes_inside : s * row_bytes + row_bytes ≤ length l
    takes_inside = ⊎_elim at_inside free_inside q

    pub takes_row : (row : List ℕ) → write_row l s row ≡ store_row l a row
    unfolding store_row
    takes_row row = ⊎_elim (λ (p : r ≡ At s). rw (← e, p)) (λ (p : r ≡ Free s). rw (← e, p)) q

-- the row that is found
module _ (l : List ℕ) (a : ℕ) {r : Found} (e : r ≡ row_of l a) {s : ℕ} (q : r ≡ At s) where
  pub found_inside : s < row_count l
  found_inside = (at_has (held l) a (row_count l) s (sym e ∙ q)).1

  pub found_row : {whole : List (List ℕ)} → whole ≡ rows_of l → Some (get_or whole s []) ≡ written l a
  unfolding written
  found_row f = rw (f, chunk_at row_bytes (row_count l) l s found_inside, ← e, q)
