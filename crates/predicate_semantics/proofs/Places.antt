-- Values at places: what a list with the lanes of another at given places, some of them more than once, has in common with it. Assumes nothing.
use mathlib.Core.Path.{◌≡◌, refl, sym, ◌∙◌, ap, subst}
use mathlib.Core.Bool.{Bool, true, false}
use mathlib.Core.List.{List, [], ◌∷◌, ◌++◌, map}
use Prim.Native.Nat.{ℕ, zero, suc, ◌+◌, ◌<◌, ◌≤◌}
use native.Mathlib.Omega.{arith}
use lib.Dec.{T, eqb, eqb→eq}
use lib.ListN.{get_or, length, replicate, get_or-replicate, length-append, get_or-append}
use borrow.Author.Tests.{eq-eqb}
use Rattle.lane_word.specs.Word.{zip, every}
use Rattle.lane_word.specs.Range.{inputs}
use Rattle.lane_word.proofs.Lists.{get_d_map, get_d_zip, length_inputs, get_d_inputs}
use Rattle.predicate_semantics.proofs.Lists.{both_left, both_right}

-- the values of a list at places
pub pick : List ℕ → List ℕ → List ℕ
pick [] xs = []
pick (k ∷ ks) xs = get_or xs k 0 ∷ pick ks xs

-- places of a list of n values
pub Below : ℕ → List ℕ → Type 0
Below n [] = Unit {0}
Below n (k ∷ ks) = (k < n) × Below n ks

cons : {x y : ℕ} {xs ys : List ℕ} → x ≡ y → xs ≡ ys → ◌≡◌ {A = List ℕ} (x ∷ xs) (y ∷ ys)
cons {y = y} {xs} e f = ap (λ (z : ℕ). z ∷ xs) e ∙ ap (λ (zs : List ℕ). y ∷ zs) f

pub pick_map : (f : ℕ → ℕ) (n : ℕ) (ks xs : List ℕ) → Below n ks → length xs ≡ n → map f (pick ks xs) ≡ pick ks (map f xs)
unfolding pick Below
pick_map f n [] xs b e = refl
pick_map f n (k ∷ ks) xs b e = cons (sym (get_d_map f xs k (omega (arith, b.0, e)))) (pick_map f n ks xs b.1 e)

pub pick_zip : (f : ℕ → ℕ → ℕ) (n : ℕ) (ks xs ys : List ℕ) → Below n ks → length xs ≡ n → length ys ≡ n
    → zip f (pick ks xs) (pick ks ys) ≡ pick ks (zip f xs ys)
unfolding pick Below zip
pick_zip f n [] xs ys b e g = refl
pick_zip f n (k ∷ ks) xs ys b e g = cons (sym (get_d_zip f xs ys k (omega (arith, b.0, e)) (e ∙ sym g))) (pick_zip f n ks xs ys b.1 e g)

pub pick_replicate : (n : ℕ) (ks : List ℕ) (v : ℕ) → Below n ks → pick ks (replicate n v) ≡ replicate (length ks) v
unfolding pick Below
pick_replicate n [] v b = refl
pick_replicate n (k ∷ ks) v b = cons (get_or-replicate n k v 0 b.0) (pick_replicate n ks v b.1)

pub length_pick : (ks xs : List ℕ) → length (pick ks xs) ≡ length ks
unfolding pick
length_pick [] xs = refl
length_pick (k ∷ ks) xs = ap suc (length_pick ks xs)

pub get_d_pick : (ks xs : List ℕ) (j : ℕ) → j < length ks → get_or (pick ks xs) j 0 ≡ get_or xs (get_or ks j 0) 0
unfolding pick
get_d_pick [] xs j h = absurd (omega arith)
get_d_pick (k ∷ ks) xs zero h = refl
get_d_pick (k ∷ ks) xs (suc j) h = get_d_pick ks xs j (omega arith)

below_at : (n : ℕ) (ks : List ℕ) → Below n ks → (j : ℕ) → j < length ks → get_or ks j 0 < n
unfolding Below
below_at n [] b j h = absurd (omega arith)
below_at n (k ∷ ks) b zero h = b.0
below_at n (k ∷ ks) b (suc j) h = below_at n ks b.1 j (omega arith)

-- places that leave out none of n values, the first of them first
pub record Covers (n : ℕ) (ks : List ℕ) : Type 0 where
  pub below : Below n ks
  pub first : get_or ks 0 0 ≡ 0
  pub some_place : 0 < length ks
  pub all : (k : ℕ) → k < n → (j : ℕ) × (j < length ks) × (get_or ks j 0 ≡ k)

-- ---- the test of all values is the same

every_all : (v : ℕ) (xs : List ℕ) → T (every v xs) → (k : ℕ) → k < length xs → get_or xs k 0 ≡ v
unfolding every
every_all v [] t k h = absurd (omega arith)
every_all v (x ∷ xs) t zero h = eqb→eq x v (both_left (eqb x v) (every v xs) t)
every_all v (x ∷ xs) t (suc k) h = every_all v xs (both_right (eqb x v) (every v xs) t) k (omega arith)

all_every : (v : ℕ) (xs : List ℕ) → ((k : ℕ) → k < length xs → get_or xs k 0 ≡ v) → every v xs ≡ true
unfolding every
all_every v [] h = refl
all_every v (x ∷ xs) h = rw (eq-eqb x v (h 0 (omega arith)), all_every v xs (λ k b. h (suc k) (omega arith)))

same_bool : (a b : Bool) → (T a → b ≡ true) → (T b → a ≡ true) → a ≡ b
same_bool true b f g = sym (f tt)
same_bool false true f g = g tt
same_bool false false f g = refl

pub every_pick : (n : ℕ) (ks xs : List ℕ) → Covers n ks → length xs ≡ n → (v : ℕ) → every v (pick ks xs) ≡ every v xs
every_pick n ks xs c e v = same_bool (every v (pick ks xs)) (every v xs)
    (λ t. all_every v xs (λ k h. let w = c.all k (omega (arith, e)) in
    ap (λ (z : ℕ). get_or xs z 0) (sym w.2) ∙ sym (get_d_pick ks xs w.0 w.1) ∙ every_all v (pick ks xs) t w.0 (rw (length_pick ks xs) w.1)))
    (λ t. all_every v (pick ks xs) (λ j h. let b : j < length ks = subst (λ (z : ℕ). j < z) (length_pick ks xs) h in
    get_d_pick ks xs j b ∙ every_all v xs t (get_or ks j 0) (rw e (below_at n ks c.below j b))))

-- ---- each place in its order, then the first again so many times

abbrev pub spots : ℕ → ℕ → List ℕ
spots count spare = inputs 0 count ++ replicate spare 0

pick_append : (ks js xs : List ℕ) → pick (ks ++ js) xs ≡ pick ks xs ++ pick js xs
unfolding pick
pick_append [] js xs = refl
pick_append (k ∷ ks) js xs = ap (λ (l : List ℕ). get_or xs k 0 ∷ l) (pick_append ks js xs)

pick_inputs : (first n i m : ℕ) → i + m ≤ n → pick (inputs i m) (inputs first n) ≡ inputs (first + i) m
unfolding pick inputs
pick_inputs first n i zero h = refl
pick_inputs first n i (suc m) h =
    let next : first + suc i ≡ suc (first + i) = omega arith in
    rw (get_d_inputs first n i (omega arith), pick_inputs first n (suc i) m (omega arith), next)

pick_first : (m : ℕ) (xs : List ℕ) → pick (replicate m 0) xs ≡ replicate m (get_or xs 0 0)
unfolding pick
pick_first zero xs = refl
pick_first (suc m) xs = ap (λ (l : List ℕ). get_or xs 0 0 ∷ l) (pick_first m xs)

below_append : (n : ℕ) (ks js : List ℕ) → Below n ks → Below n js → Below n (ks ++ js)
unfolding Below
below_append n [] js b d = d
below_append n (k ∷ ks) js b d = (b.0, below_append n ks js b.1 d)

below_inputs : (n i m : ℕ) → i + m ≤ n → Below n (inputs i m)
unfolding Below inputs
below_inputs n i zero h = tt
below_inputs n i (suc m) h = (omega arith, below_inputs n (suc i) m (omega arith))

below_first : (n m : ℕ) → 0 < n → Below n (replicate m 0)
unfolding Below
below_first n zero h = tt
below_first n (suc m) h = (h, below_first n m h)

module _ (count spare : ℕ) (some_input : 0 < count) where
  spot : (k : ℕ) → k < count → get_or (spots count spare) k 0 ≡ k
  spot k h =
      get_or-append (inputs 0 count) (replicate spare 0) 0 k (rw (length_inputs 0 count) h) ∙ get_d_inputs 0 count k h ∙ omega arith

  long : count ≤ length (spots count spare)
  long = omega (arith, length-append (inputs 0 count) (replicate spare 0), length_inputs 0 count)

  pub spots_cover : Covers count (spots count spare)
  spots_cover = record {
    below = below_append count _ _ (below_inputs count 0 count (omega arith)) (below_first count spare some_input);
    first = spot 0 some_input;
    some_place = omega (arith, long);
    all = λ k h. (k, omega (arith, long), spot k h);
  }

  pub pick_spots : (first : ℕ) → inputs first count ++ replicate spare first ≡ pick (spots count spare) (inputs first count)
  pick_spots first =
      let all : pick (inputs 0 count) (inputs first count) ≡ inputs first count = pick_inputs first count 0 count (omega arith) ∙ ap (λ (x : ℕ). inputs x count) (omega arith) in
      let one : get_or (inputs first count) 0 0 ≡ first = get_d_inputs first count 0 some_input ∙ omega arith in
      rw (pick_append (inputs 0 count) (replicate spare 0) (inputs first count), all, pick_first spare (inputs first count), one)
