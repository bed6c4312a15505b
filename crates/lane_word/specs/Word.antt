-- Lane words (document 01, "Lane word"), over any number of lanes.
use Rattle.std.specs.Prelude.{Bool, true, false, cond, ◌&&◌, List, [], ◌∷◌, map, ℕ, eqb, get_or, replicate, Err, Ok, Result}
use Rattle.lane_word.specs.declared.LaneWord.{LaneWord}
use Rattle.lane_word.specs.Range.{most_inputs}
use Rattle.lane_word.specs.declared.UniformError.TheVariants.{Unknown, Uneven}
use Rattle.lane_word.specs.declared.UniformError.{UniformError}

-- how many a word of the code has: one for every input that there can be
abbrev pub lanes : ℕ
lanes = most_inputs

-- a word of which nothing is known, one value in every lane, and each lane its own input
unfoldable pub unknown : ℕ → LaneWord
unknown lanes = record { values = replicate lanes 0; known = false }

unfoldable pub constant : ℕ → ℕ → LaneWord
constant lanes v = record { values = replicate lanes v; known = true }

unfoldable pub domain : List ℕ → LaneWord
domain inputs = record { values = inputs; known = true }

-- two lists as one, element by element
unfoldable pub zip : (ℕ → ℕ → ℕ) → List ℕ → List ℕ → List ℕ
zip f [] ys = []
zip f (x ∷ xs) [] = []
zip f (x ∷ xs) (y ∷ ys) = f x y ∷ zip f xs ys

-- an operation lane by lane; one unknown operand makes the whole result unknown
unfoldable pub unary : (ℕ → ℕ) → LaneWord → LaneWord
unary f a = record { values = map f a.values; known = a.known }

unfoldable pub binary : (ℕ → ℕ → ℕ) → LaneWord → LaneWord → LaneWord
binary f a b = record { values = zip f a.values b.values; known = a.known && b.known }

-- every value is v
unfoldable pub every : ℕ → List ℕ → Bool
every v [] = true
every v (x ∷ xs) = eqb x v && every v xs

-- the uniform test: an unknown word is not compared; a known one has one value or is uneven
unfoldable pub uniform_of : LaneWord → Result ℕ UniformError
uniform_of w =
    cond w.known
    (cond (every (get_or w.values 0 0) w.values) (Ok (get_or w.values 0 0)) (Err Uneven))
    (Err Unknown)
