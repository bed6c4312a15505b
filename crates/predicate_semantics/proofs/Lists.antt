-- The element of a list at a place, and tests of numbers.
use mathlib.Core.Path.{◌≡◌, refl, sym, ◌∙◌}
use mathlib.Core.Bool.{Bool, true, false, ◌&&◌}
use mathlib.Core.Option.{some, some-injective}
use mathlib.Core.List.{List, [], ◌∷◌, map}
use Prim.Native.Nat.{ℕ, zero, suc}
use lib.Dec.{T, eqb, eqb→eq}
use lib.ListN.{get_elem?, replicate, length}
use Rattle.lane_word.specs.Word.{zip, every}

pub map_at : (f : ℕ → ℕ) (xs : List ℕ) (k : ℕ) {x : ℕ} → get_elem? xs k ≡ some x → get_elem? (map f xs) k ≡ some (f x)
map_at f [] k e = cc
map_at f (y ∷ ys) zero e = cc
map_at f (y ∷ ys) (suc k) e = map_at f ys k e

pub zip_at : (f : ℕ → ℕ → ℕ) (xs ys : List ℕ) (k : ℕ) {x y : ℕ}
    → get_elem? xs k ≡ some x → get_elem? ys k ≡ some y → get_elem? (zip f xs ys) k ≡ some (f x y)
unfolding zip
zip_at f [] ys k d e = cc
zip_at f (x ∷ xs) [] k d e = cc
zip_at f (x ∷ xs) (y ∷ ys) zero d e = cc
zip_at f (x ∷ xs) (y ∷ ys) (suc k) d e = zip_at f xs ys k d e

pub replicate_at : (xs : List ℕ) (v k : ℕ) {x : ℕ} → get_elem? xs k ≡ some x → get_elem? (replicate (length xs) v) k ≡ some v
replicate_at [] v k e = cc
replicate_at (y ∷ ys) v zero e = refl
replicate_at (y ∷ ys) v (suc k) e = replicate_at ys v k e

pub both_left : (a b : Bool) → T (a && b) → T a
both_left true b t = tt
both_left false b t = t

pub both_right : (a b : Bool) → T (a && b) → T b
both_right true b t = t
both_right false b t = absurd t

pub every_at : (v : ℕ) (xs : List ℕ) (k : ℕ) {x : ℕ} → T (every v xs) → get_elem? xs k ≡ some x → v ≡ x
unfolding every
every_at v [] k t e = cc
every_at v (y ∷ ys) zero t e = sym (eqb→eq y v (both_left (eqb y v) (every v ys) t)) ∙ some-injective _ _ e
every_at v (y ∷ ys) (suc k) t e = every_at v ys k (both_right (eqb y v) (every v ys) t) e
