-- What two runs have in common, over any relation of their values: registers one by one, what a step changes, and the step. Assumes nothing.
use mathlib.Core.Bool.{Bool, true, false}
use mathlib.Core.List.{List, [], ◌∷◌}
use Prim.Native.Nat.{ℕ, zero, suc}
use lib.Dec.{eqb}
use lib.ListN.{get_or, set}
use Rattle.riscv_decode.specs.declared.Fetched.{Fetched}
use Rattle.predicate_semantics.specs.Choice.{choose}
use Rattle.predicate_semantics.specs.State.{Effect, goes, sets, stores, Attempted, assign, fill, at_start}

module _ {A B : Type 0} (R : A → B → Type 0) where
  -- registers, each with its own
  pub data Pairs : List A → List B → Type 0 where
    empty : Pairs [] []
    more : {a : A} {b : B} {xs : List A} {ys : List B} → R a b → Pairs xs ys → Pairs (a ∷ xs) (b ∷ ys)

  pub data SameEffect : Effect A → Effect B → Type 0 where
    same_goes : (next : ℕ) → SameEffect (goes next) (goes next)
    same_sets : (rd : ℕ) {a : A} {b : B} (next : ℕ) → R a b → SameEffect (sets rd a next) (sets rd b next)
    same_stores : (address n : ℕ) {a : A} {b : B} (next : ℕ) → R a b → SameEffect (stores address n a next) (stores address n b next)

  pub data SameAttempt : Attempted A → Attempted B → Type 0 where
    same_attempt : (f : Fetched) {e : Effect A} {d : Effect B} → SameEffect e d
        → SameAttempt (record { fetched = f; effect = e }) (record { fetched = f; effect = d })

  -- one of two values on either side
  pub related_choose : (b : Bool) (f g : Unit {0} → A) (u v : Unit {0} → B) → R (f tt) (u tt) → R (g tt) (v tt) → R (choose b f g) (choose b u v)
  unfolding choose
  related_choose true f g u v x y = x
  related_choose false f g u v x y = y

  pub pairs_at : {a : A} {b : B} → R a b → {xs : List A} {ys : List B} → Pairs xs ys → (i : ℕ) → R (get_or xs i a) (get_or ys i b)
  pairs_at o empty i = o
  pairs_at o (more h r) zero = h
  pairs_at o (more h r) (suc i) = pairs_at o r i

  pairs_set : {xs : List A} {ys : List B} → Pairs xs ys → (i : ℕ) {a : A} {b : B} → R a b → Pairs (set xs i a) (set ys i b)
  pairs_set empty i x = empty
  pairs_set (more h r) zero x = more x r
  pairs_set (more h r) (suc i) x = more h (pairs_set r i x)

  pub pairs_assign : {xs : List A} {ys : List B} → Pairs xs ys → (i : ℕ) {a : A} {b : B} → R a b → Pairs (assign xs i a) (assign ys i b)
  unfolding assign
  pairs_assign r zero x = r
  pairs_assign r (suc i) x = pairs_set r (suc i) x

  pub pairs_fill : (count i : ℕ) (f : ℕ → A) (g : ℕ → B) → ((j : ℕ) → R (f j) (g j)) → Pairs (fill count i f) (fill count i g)
  unfolding fill
  pairs_fill zero i f g h = empty
  pairs_fill (suc count) i f g h = more (h i) (pairs_fill count (suc i) f g h)

  pub related_start : {a b c d : A} {o : ℕ → A} {t u v w : B} {q : ℕ → B}
      → R a t → R b u → R c v → R d w → ((j : ℕ) → R (o j) (q j)) → (i : ℕ) → R (at_start a b c d o i) (at_start t u v w q i)
  unfolding at_start
  related_start ha hb hc hd ho i =
      related_choose (eqb i 0) _ _ _ _ ha
      (related_choose (eqb i 1) _ _ _ _ hb
      (related_choose (eqb i 2) _ _ _ _ hc
      (related_choose (eqb i 10) _ _ _ _ hd (ho i))))
