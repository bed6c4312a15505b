-- What a function that is passed computes, where P is what its contract says of a call: the arguments and the result.
use Rattle.std.specs.Prelude.{◌≡◌, ℕ}

-- an operation of one value
abbrev pub OfValue : (ℕ → ℕ → Type 0) → (ℕ → ℕ) → Type 0
OfValue P f = (v r : ℕ) → P v r → r ≡ f v

-- an operation of two values
abbrev pub OfTwoValues : (ℕ → ℕ → ℕ → Type 0) → (ℕ → ℕ → ℕ) → Type 0
OfTwoValues P f = (a b r : ℕ) → P a b r → r ≡ f a b
