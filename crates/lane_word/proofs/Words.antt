-- Lane words by their lanes. Assumes nothing.
use mathlib.Core.Path.{◌≡◌, refl, ap, ap₂}
use mathlib.Core.List.{List, [], ◌∷◌, map}
use Prim.Native.Nat.{ℕ}
use Rattle.lane_word.specs.declared.LaneWord.{LaneWord}
use Rattle.lane_word.specs.Word.{unary}

-- a load that extends nothing
map_id : (l : List ℕ) → map (λ v. v) l ≡ l
map_id [] = refl
map_id (x ∷ l) = ap (λ (m : List ℕ). x ∷ m) (map_id l)

pub unary_id : (w : LaneWord) → unary (λ v. v) w ≡ w
unfolding unary
unary_id w = rw (map_id w.values)

-- an operation that gives the same of each value
map_same : {f g : ℕ → ℕ} → ((v : ℕ) → f v ≡ g v) → (l : List ℕ) → map f l ≡ map g l
map_same e [] = refl
map_same e (x ∷ l) = ap₂ (λ (v : ℕ) (m : List ℕ). v ∷ m) (e x) (map_same e l)

pub unary_same : {f g : ℕ → ℕ} → ((v : ℕ) → f v ≡ g v) → (w : LaneWord) → unary f w ≡ unary g w
unfolding unary
unary_same e w = rw (map_same e w.values)
