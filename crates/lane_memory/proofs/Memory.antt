-- Laws of the list of written bytes, and of the count of used rows. Assumes nothing.
use Rattle.std.proofs.Common.{◌≡◌, ℕ, zero, suc, ◌+◌, ◌/◌, ◌%◌, ◌<◌, ◌≤◌, Bool, true, false, cond, eqb, List, [], ◌∷◌, length, sym, refl, ap, ◌∙◌, ⊎_elim, arith, ne_eqb, eqb-true}
use Rattle.std.proofs.lemmas.Bool.{cases_eq}
use mathlib.Core.Option.{Option, none, some}
use borrow.Author.Tests.{eqb-false}
use Rattle.lane_word.specs.declared.LaneWord.{LaneWord}
use Rattle.lane_word.specs.Word.{unary}
use Rattle.predicate_semantics.specs.Choice.{choose}
use Rattle.predicate_semantics.specs.Memory.{Written, byte_at, put, write}
use Rattle.lane_memory.specs.Rows.{word_byte}
use Rattle.lane_memory.specs.Holds.{lookup, one, used}
use Rattle.lane_memory.proofs.Bytes.{of_above, of_lowest}

-- ---- one entry for an address

-- the byte of an entry, or the one given
abbrev pub byte_or : LaneWord → Option Written → LaneWord
byte_or other none = other
byte_or other (some w) = w.byte

pub byte_lookup : (other : LaneWord) (a : ℕ) (m : List Written) → byte_at other a m ≡ byte_or other (lookup a m)
unfolding byte_at lookup choose
byte_lookup other a [] = refl
byte_lookup other a (w ∷ m) = go (eqb w.address a) (byte_lookup other a m)
  where
    go : (t : Bool) → byte_at other a m ≡ byte_or other (lookup a m) → choose t (λ _. w.byte) (λ _. byte_at other a m) ≡ byte_or other (cond t (some w) (lookup a m))
    go true k = refl
    go false k = k

one_most : (o : Option Written) → one o ≤ 1
one_most none = omega arith
one_most (some w) = omega arith

abbrev pub entry : ℕ → LaneWord → Written
entry a b = record { address = a; byte = b }

module _ (a : ℕ) (b : LaneWord) where
  put_case : (x : ℕ) (w : Written) (m : List Written) (t : Bool) → eqb w.address a ≡ t
      → lookup x (put a b m) ≡ cond (eqb a x) (some (entry a b)) (lookup x m)
      → lookup x (choose t (λ _. entry a b ∷ m) (λ _. w ∷ put a b m)) ≡ cond (eqb a x) (some (entry a b)) (cond (eqb w.address x) (some w) (lookup x m))
  unfolding lookup choose
  put_case x w m true e k = go (eqb a x) (eqb w.address x) (ap (λ (y : ℕ). eqb y x) (eqb-true w.address a e))
    where
      go : (s t : Bool) → t ≡ s → cond s (some (entry a b)) (lookup x m) ≡ cond s (some (entry a b)) (cond t (some w) (lookup x m))
      go true t p = refl
      go false true p = cc
      go false false p = refl
  put_case x w m false e k = rw k (go (eqb w.address x) (eqb a x) refl refl)
    where
      go : (s t : Bool) → eqb w.address x ≡ s → eqb a x ≡ t
          → cond s (some w) (cond t (some (entry a b)) (lookup x m)) ≡ cond t (some (entry a b)) (cond s (some w) (lookup x m))
      go true true p q = absurd (eqb-false w.address a e (eqb-true w.address x p ∙ sym (eqb-true a x q)))
      go true false p q = refl
      go false true p q = refl
      go false false p q = refl

  pub lookup_put : (x : ℕ) (m : List Written) → lookup x (put a b m) ≡ cond (eqb a x) (some (entry a b)) (lookup x m)
  unfolding lookup put choose
  lookup_put x [] = refl
  lookup_put x (w ∷ m) = put_case x w m (eqb w.address a) refl (lookup_put x m)

  pub length_put : (m : List Written) → length (put a b m) + one (lookup a m) ≡ length m + 1
  unfolding lookup put choose
  length_put [] = refl
  length_put (w ∷ m) = go (eqb w.address a) (length_put m)
    where
      go : (t : Bool) → length (put a b m) + one (lookup a m) ≡ length m + 1
          → length (choose t (λ _. entry a b ∷ m) (λ _. w ∷ put a b m)) + one (cond t (some w) (lookup a m)) ≡ suc (length m) + 1
      go true k = omega arith
      go false k = omega arith

  pub put_most : (m : List Written) → length m ≤ length (put a b m)
  put_most m = omega (arith, length_put m, one_most (lookup a m))

-- ---- a word is stored byte by byte

-- the last byte of a store is stored last
pub write_suc : (n a : ℕ) (w : LaneWord) (m : List Written) → write m (suc n) a w ≡ put (a + n) (word_byte n w) (write m n a w)
unfolding write
write_suc zero a w m = let e : a + 0 ≡ a = omega arith in rw (e, of_lowest w)
write_suc (suc n) a w m =
    let e : suc a + n ≡ a + suc n = omega arith in
    write_suc n (suc a) (unary (λ v. v / 256) w) (put a (unary (λ v. v % 256) w) m) ∙ rw (e, of_above n w)

-- it leaves the addresses behind it
pub lookup_write : (n a : ℕ) (w : LaneWord) (m : List Written) (x : ℕ) → a + n ≤ x → lookup x (write m n a w) ≡ lookup x m
unfolding write
lookup_write zero a w m x h = refl
lookup_write (suc n) a w m x h =
    rw (write_suc n a w m, lookup_put (a + n) (word_byte n w) x (write m n a w), ne_eqb (a + n) x (λ z. omega arith))
    (lookup_write n a w m x (omega arith))

-- ---- how many rows are used

module _ (T : ℕ → Option Written) where
  pub used_most : (n : ℕ) → used T n ≤ n
  unfolding used
  used_most zero = omega arith
  used_most (suc n) = go (T n) (used_most n)
    where
      go : (o : Option Written) → used T n ≤ n → one o + used T n ≤ suc n
      go none k = omega arith
      go (some w) k = omega arith

  pub used_all : (n : ℕ) → ((s : ℕ) → s < n → one (T s) ≡ 1) → used T n ≡ n
  unfolding used
  used_all zero f = refl
  used_all (suc n) f = omega (arith, used_all n (λ s h. f s (omega arith)), f n (omega arith))

  pub used_none : (n : ℕ) → ((s : ℕ) → s < n → T s ≡ none) → used T n ≡ 0
  unfolding used
  used_none zero f = refl
  used_none (suc n) f = rw (f n (omega arith)) (omega (arith, used_none n (λ s h. f s (omega arith))))

-- one row changes
module _ (T T' : ℕ → Option Written) (s : ℕ) (kept : (t : ℕ) → (t ≡ s → ⊥) → T' t ≡ T t) where
  used_kept : (n : ℕ) → n ≤ s → used T' n ≡ used T n
  unfolding used
  used_kept zero h = refl
  used_kept (suc n) h = rw (kept n (λ z. omega arith)) (omega (arith, used_kept n (omega arith)))

  pub used_change : (n : ℕ) → s < n → used T' n + one (T s) ≡ used T n + one (T' s)
  unfolding used
  used_change zero h = omega arith
  used_change (suc n) h =
      ⊎_elim
      (λ (z : n ≡ s). let k : used T' n ≡ used T n = used_kept n (omega arith) in rw (k, z) (omega arith))
      (λ d. rw (kept n d) (omega (arith, used_change n (omega arith))))
      (cases_eq n s)
