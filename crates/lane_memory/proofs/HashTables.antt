-- Laws of `HashTable`: what a search says of the memory, and the memory after a row is written. Assumes nothing.
use Rattle.std.proofs.Common.{◌≡◌, ℕ, zero, suc, ◌%◌, ◌<◌, Bool, true, false, cond, eqb, ◌⊎◌, List, [], sym, refl, ap, ◌∙◌, subst, ⊎_elim, mod-lt, arith, eq-eqb, ne_eqb, eqb-true}
use Rattle.std.proofs.lemmas.Bool.{cases_eq}
use mathlib.Core.Option.{Option, none, some}
use Rattle.lane_word.specs.declared.LaneWord.{LaneWord}
use Rattle.predicate_semantics.specs.Memory.{Written, put}
use Rattle.lane_memory.specs.Search.{probe, scan, tries, find_in}
use Rattle.lane_memory.specs.Holds.{lookup, content, one, used, HashTable}
use Rattle.lane_memory.specs.declared.Probe.TheVariants.{Empty, Match, Other}
use Rattle.lane_memory.specs.declared.Found.{Found}
use Rattle.lane_memory.specs.declared.Found.TheVariants.{At, Free, Full}
use Rattle.lane_memory.proofs.Search.{Ends, scan_ends, scan_full, scan_same, Grown, scan_keep, scan_new}
use Rattle.lane_memory.proofs.Memory.{entry, lookup_put, length_put, used_all, used_none, used_change}

-- ---- what a probe says of its row

pub record Has (o : Option Written) (a : ℕ) : Type 0 where
  pub what : Written
  pub is : o ≡ some what
  pub its : what.address ≡ a

empty_none : (o : Option Written) (a : ℕ) → probe o a ≡ Empty → o ≡ none
empty_none none a e = refl
empty_none (some w) a e = go (eqb w.address a) e
  where
    go : (t : Bool) → cond t Match Other ≡ Empty → some w ≡ none
    go true e = cc
    go false e = cc

match_has : (o : Option Written) (a : ℕ) → probe o a ≡ Match → Has o a
match_has none a e = cc
match_has (some w) a e = go (eqb w.address a) refl e
  where
    go : (t : Bool) → eqb w.address a ≡ t → cond t Match Other ≡ Match → Has (some w) a
    go true p e = record { what = w; is = refl; its = eqb-true w.address a p }
    go false p e = cc

other_used : (o : Option Written) (a : ℕ) → probe o a ≡ Other → one o ≡ 1
other_used none a e = cc
other_used (some w) a e = refl

-- ---- what a search says of the rows, of which there may be none

module _ (T : ℕ → Option Written) (a : ℕ) where
  ended : (n : ℕ) → 0 < n → {r : Found} → find_in T n a ≡ r → Ends (λ s. probe (T s) a) n r
  ended n h e = subst (Ends (λ s. probe (T s) a) n) e (scan_ends (λ s. probe (T s) a) n (tries n) (a % n) (mod-lt a h))

  pub at_has : (n s : ℕ) → find_in T n a ≡ At s → Has (T s) a × (s < n)
  unfolding scan
  at_has zero s e = cc
  at_has (suc n) s e = let p : Ends (λ x. probe (T x) a) (suc n) (At s) = ended (suc n) (omega arith) e in (match_has (T s) a p.0, p.1)

  pub free_none : (n s : ℕ) → find_in T n a ≡ Free s → (T s ≡ none) × (s < n)
  unfolding scan
  free_none zero s e = cc
  free_none (suc n) s e = let p : Ends (λ x. probe (T x) a) (suc n) (Free s) = ended (suc n) (omega arith) e in (empty_none (T s) a p.0, p.1)

  pub full_used : (n : ℕ) → find_in T n a ≡ Full → used T n ≡ n
  full_used n e =
      used_all T n
      (λ t h. other_used (T t) a (scan_full (λ x. probe (T x) a) n (a % n) t (mod-lt a (omega arith)) h e))

-- ---- no row is used

pub table_none : (T : ℕ → Option Written) (n : ℕ) → ((s : ℕ) → s < n → T s ≡ none) → HashTable T n []
unfolding lookup
table_none T n e = record {
  finds = λ s w h p. let q : T s ≡ none = e s h in cc;
  same = λ a. go a (find_in T n a) refl;
  count = used_none T n e;
}
  where
    go : (a : ℕ) (r : Found) → find_in T n a ≡ r → content T r ≡ none
    go a (At s) q =
        let p : Has (T s) a × (s < n) = at_has T a n s q in
        let y : T s ≡ none = e s p.1 in let z : T s ≡ some p.0.what = p.0.is in cc
    go a (Free s) q = refl
    go a Full q = refl

-- ---- a row is written

-- T' is T with the byte b of address a in row s of n, the address's row or a free one
pub record Writes (T T' : ℕ → Option Written) (n s a : ℕ) (b : LaneWord) : Type 0 where
  pub takes : (find_in T n a ≡ At s) ⊎ (find_in T n a ≡ Free s)
  pub new : T' s ≡ some (entry a b)
  pub kept : (t : ℕ) → (t ≡ s → ⊥) → T' t ≡ T t

-- a search finds each used row by its address
abbrev Finds : (ℕ → Option Written) → ℕ → Type 0
Finds T n = (t : ℕ) (v : Written) → t < n → T t ≡ some v → find_in T n v.address ≡ At t

module _ {T T' : ℕ → Option Written} {n s a : ℕ} {b : LaneWord} (w : Writes T T' n s a b) where
  below : s < n
  below = ⊎_elim (λ e. (at_has T a n s e).1) (λ e. (free_none T a n s e).1) w.takes

  -- what the row held was the address's
  own : (v : Written) → T s ≡ some v → v.address ≡ a
  own v p =
      ⊎_elim
      (λ e. let i : Has (T s) a = (at_has T a n s e).0 in let i' : T s ≡ some i.what = i.is in let z : i.what ≡ v = cc in rw (← z) i.its)
      (λ e. let q : T s ≡ none = (free_none T a n s e).0 in cc)
      w.takes

  is_new : (t : ℕ) (v : Written) → t ≡ s → T' t ≡ some v → entry a b ≡ v
  is_new t v z p = let p' : T' s ≡ some v = subst (λ (x : ℕ). T' x ≡ some v) z p in let q : T' s ≡ some (entry a b) = w.new in cc

  -- a search for another address sees what it saw
  module _ (f : Finds T n) (f' : Finds T' n) (x : ℕ) (other : a ≡ x → ⊥) where
    gone : (r : Found) → find_in T n x ≡ r → ((t : ℕ) → find_in T' n x ≡ At t → ⊥) → content T r ≡ none
    gone (At t) e k =
        let p : Has (T t) x × (t < n) = at_has T x n t e in
        let i : Has (T t) x = p.0 in
        let d : t ≡ s → ⊥ = λ z. other (sym (own i.what (subst (λ (y : ℕ). T y ≡ some i.what) z i.is)) ∙ i.its) in
        absurd (k t (subst (λ (y : ℕ). find_in T' n y ≡ At t) i.its (f' t i.what p.1 (w.kept t d ∙ i.is))))
    gone (Free t) e k = refl
    gone Full e k = refl

    others : (r : Found) → find_in T' n x ≡ r → content T' r ≡ content T (find_in T n x)
    others (At t) e =
        let p : Has (T' t) x × (t < n) = at_has T' x n t e in
        let i : Has (T' t) x = p.0 in
        let d : t ≡ s → ⊥ = λ (z : t ≡ s). other (ap (λ (v : Written). v.address) (is_new t i.what z i.is) ∙ i.its) in
        let g : find_in T n x ≡ At t = subst (λ (y : ℕ). find_in T n y ≡ At t) i.its (f t i.what p.1 (sym (w.kept t d) ∙ i.is)) in
        rw (g, w.kept t d)
    others (Free t) e = sym (gone (find_in T n x) refl (λ u q. cc))
    others Full e = sym (gone (find_in T n x) refl (λ u q. cc))

  module _ {m : List Written} (H : HashTable T n m) where
    -- the search found no row of the address, and a free one
    finds_new : find_in T n a ≡ Free s → Finds T' n
    finds_new e t v h p =
        let q : T s ≡ none = (free_none T a n s e).0 in
        let g : (x : ℕ) → Grown (λ y. probe (T y) x) (λ y. probe (T' y) x) =
        λ x. record { kept = λ y d. ap (λ (o : Option Written). probe o x) (w.kept y (λ (z : y ≡ s). d (rw (z, q)))) } in
        ⊎_elim
        (λ (z : t ≡ s). rw (← is_new t v z p, z) (scan_new (g a) n (tries n) (a % n) s (rw (w.new, eq-eqb a a refl)) e))
        (λ (d : t ≡ s → ⊥). scan_keep (g v.address) n (tries n) (v.address % n) t (H.finds t v h (sym (w.kept t d) ∙ p)))
        (cases_eq t s)

    -- the search found the address's row
    finds_old : find_in T n a ≡ At s → Finds T' n
    finds_old e t v h p =
        let i : Has (T s) a = (at_has T a n s e).0 in
        let q : (x y : ℕ) → probe (T' y) x ≡ probe (T y) x = λ x y.
        ⊎_elim
        (λ (z : y ≡ s). rw (z, w.new, i.is, i.its))
        (λ (d : y ≡ s → ⊥). ap (λ (o : Option Written). probe o x) (w.kept y d))
        (cases_eq y s) in
        scan_same (λ y. probe (T y) v.address) (λ y. probe (T' y) v.address) n (q v.address) (tries n) (v.address % n) ∙
        ⊎_elim
        (λ (z : t ≡ s). rw (← is_new t v z p, z) e)
        (λ (d : t ≡ s → ⊥). H.finds t v h (sym (w.kept t d) ∙ p))
        (cases_eq t s)

    finds_all : Finds T' n
    finds_all = ⊎_elim finds_old finds_new w.takes

    same_put : (x : ℕ) → content T' (find_in T' n x) ≡ lookup x (put a b m)
    same_put x =
        ⊎_elim
        (λ (z : a ≡ x).
        let g : find_in T' n x ≡ At s = subst (λ (y : ℕ). find_in T' n y ≡ At s) z (finds_all s (entry a b) below w.new) in
        rw (lookup_put a b x m, g, w.new, eq-eqb a x z))
        (λ (d : a ≡ x → ⊥). rw (lookup_put a b x m, ne_eqb a x d) (others H.finds finds_all x d (find_in T' n x) refl ∙ H.same x))
        (cases_eq a x)

    row_was : lookup a m ≡ T s
    row_was = ⊎_elim (λ e. sym (H.same a) ∙ rw e) (λ e. sym (H.same a) ∙ rw e (sym (free_none T a n s e).0)) w.takes

    pub put_table : HashTable T' n (put a b m)
    put_table =
        record {
          finds = finds_all;
          same = same_put;
          count = omega (arith, length_put a b m, ap one row_was, H.count, used_change T T' s w.kept n below, ap one w.new);
        }
