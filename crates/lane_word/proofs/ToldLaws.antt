-- Laws of words that one value tells, and of their sizes. Assumes nothing.
use Rattle.std.specs.Prelude.{Err, None, Ok, Option, Some, ℕ}
use mathlib.Core.Bool.{Bool, true, false, cond, ◌&&◌, true≢false}
use mathlib.Core.List.{List, [], ◌∷◌, map}
use mathlib.Core.Path.{◌≡◌, refl, ap, ap₂, sym, ◌∙◌}
use Prim.Native.Nat.{ℕ, zero, suc, ◌<◌}
use native.Mathlib.Omega.{arith}
use borrow.Author.Tests.{eq-eqb, eqb-true}
use lib.Dec.{eqb}
use lib.ListN.{length, get_or, replicate, length-replicate, length-map}
use Rattle.lane_word.specs.declared.LaneWord.{LaneWord}
use Rattle.lane_word.specs.Word.{lanes, constant, zip, unary, binary, every, uniform_of}
use Rattle.lane_word.specs.Told.{word_of, told_by}
use Rattle.lane_word.proofs.Clash.{clash}
use Rattle.lane_word.proofs.Lists.{length_zip}
use Rattle.lane_word.specs.declared.UniformError.TheVariants.{Unknown, Uneven}

-- ---- sizes

pub constant_size : (n v : ℕ) → length (constant n v).values ≡ n
unfolding constant
constant_size n v = length-replicate n v

pub unary_size : (f : ℕ → ℕ) (w : LaneWord) → length (unary f w).values ≡ length w.values
unfolding unary
unary_size f w = length-map w.values f

pub binary_size : (f : ℕ → ℕ → ℕ) (a b : LaneWord) {n : ℕ} → length a.values ≡ n → length b.values ≡ n → length (binary f a b).values ≡ n
unfolding binary
binary_size f a b e d = length_zip f a.values b.values (e ∙ sym d) ∙ e

pub word_size : (u : Option ℕ) (w : LaneWord) → length w.values ≡ lanes → length (word_of u w).values ≡ lanes
word_size (Some v) w e = constant_size lanes v
word_size None w e = e

-- ---- one value in every lane

zip_replicates : (f : ℕ → ℕ → ℕ) (n a b : ℕ) → zip f (replicate n a) (replicate n b) ≡ replicate n (f a b)
unfolding zip
zip_replicates f zero a b = refl
zip_replicates f (suc n) a b = ap (λ (l : List ℕ). f a b ∷ l) (zip_replicates f n a b)

pub binary_constants : (f : ℕ → ℕ → ℕ) (n a b : ℕ) → binary f (constant n a) (constant n b) ≡ constant n (f a b)
unfolding binary constant
binary_constants f n a b = rw (zip_replicates f n a b)

map_replicate : (f : ℕ → ℕ) (n a : ℕ) → map f (replicate n a) ≡ replicate n (f a)
map_replicate f zero a = refl
map_replicate f (suc n) a = ap (λ (l : List ℕ). f a ∷ l) (map_replicate f n a)

pub unary_constant : (f : ℕ → ℕ) (n a : ℕ) → unary f (constant n a) ≡ constant n (f a)
unfolding unary constant
unary_constant f n a = rw (map_replicate f n a)

zip_replicate : (f : ℕ → ℕ → ℕ) (k : ℕ) (l : List ℕ) (n : ℕ) → length l ≡ n → zip f l (replicate n k) ≡ map (λ v. f v k) l
unfolding zip
zip_replicate f k [] n e = refl
zip_replicate f k (x ∷ l) zero e = absurd (omega arith)
zip_replicate f k (x ∷ l) (suc n) e = ap (λ (m : List ℕ). f x k ∷ m) (zip_replicate f k l n (omega arith))

and_true : (b : Bool) → (b && true) ≡ b
and_true true = refl
and_true false = refl

-- an operand that is one value
pub binary_constant : (f : ℕ → ℕ → ℕ) (n k : ℕ) (w : LaneWord) → length w.values ≡ n → binary f w (constant n k) ≡ unary (λ v. f v k) w
unfolding binary unary constant
binary_constant f n k w e = rw (zip_replicate f k w.values n e, and_true w.known)

every_replicate : (n v : ℕ) → every v (replicate n v) ≡ true
unfolding every
every_replicate zero v = refl
every_replicate (suc n) v = rw (eq-eqb v v refl, every_replicate n v)

pub uniform_constant : (n v : ℕ) → 0 < n → uniform_of (constant n v) ≡ Ok v
unfolding uniform_of constant
uniform_constant zero v h = absurd (omega arith)
uniform_constant (suc n) v h = rw (every_replicate (suc n) v)

-- ---- what a told value says

and_both : (a b : Bool) → (a && b) ≡ true → (a ≡ true) × (b ≡ true)
and_both true b e = (refl, e)
and_both false b e = absurd (true≢false (sym e))

all_same : (v : ℕ) (l : List ℕ) → every v l ≡ true → l ≡ replicate (length l) v
unfolding every
all_same v [] e = refl
all_same v (x ∷ l) e =
    let p = and_both (eqb x v) (every v l) e in rw (eqb-true x v p.0) (ap (λ (m : List ℕ). v ∷ m) (all_same v l p.1))

abbrev word : List ℕ → Bool → LaneWord
word values known = record { values = values; known = known }

constant_by : (w : LaneWord) (n v : ℕ) → w.known ≡ true → w.values ≡ replicate n v → w ≡ constant n v
unfolding constant
constant_by w n v k l = ap₂ word l k

-- a word that is uniform is that value in every lane
pub told_is : (w : LaneWord) (v : ℕ) → length w.values ≡ lanes → uniform_of w ≡ Ok v → w ≡ constant lanes v
unfolding uniform_of
told_is w v e h = go w.known refl (every (get_or w.values 0 0) w.values) refl h
  where
    go : (b : Bool) → w.known ≡ b → (c : Bool) → every (get_or w.values 0 0) w.values ≡ c
        → cond b (cond c (Ok (get_or w.values 0 0)) (Err Uneven)) (Err Unknown) ≡ Ok v → w ≡ constant lanes v
    go true k true s q =
        let z : get_or w.values 0 0 ≡ v = cc in
        constant_by w lanes v k (all_same _ w.values s ∙ rw (e, z))
    go true k false s q = absurd (clash (cc))
    go false k c s q = absurd (clash (cc))

-- two told values tell of their operation what its lanes would
pub told_by_value : (f : ℕ → ℕ → ℕ) (l r : Option ℕ) (x y : LaneWord) {v : ℕ} → told_by f l r ≡ Some v → uniform_of (binary f (word_of l x) (word_of r y)) ≡ Ok v
told_by_value f (Some a) (Some b) x y {v} e =
    let z : f a b ≡ v = cc in ap uniform_of (binary_constants f lanes a b) ∙ uniform_constant lanes (f a b) (omega arith) ∙ ap Ok z
told_by_value f (Some a) None x y e = absurd (clash (cc))
told_by_value f None r x y e = absurd (clash (cc))
