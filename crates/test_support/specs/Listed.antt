-- What a list has next.
use Rattle.std.specs.Prelude.{◌≡◌, ℕ, Bool, List, take, drop, nat_le, ⊤, Option, None, Some}
use Rattle.little_endian.specs.Number.{value}

-- the next number; past the end its bytes are zeros
abbrev pub number_at : List ℕ → ℕ
number_at left = value (take 4 left)

-- whether the bytes that are next are at most as many
abbrev pub fits : List ℕ → ℕ → Bool
fits left limit = nat_le (number_at left) limit

-- the bytes that are next, as far as the list has them
abbrev pub bytes_at : List ℕ → List ℕ
bytes_at left = take (number_at left) (drop 4 left)

-- of known bytes that a reader has left, f leaves these
abbrev pub Leaves : (List ℕ → List ℕ) → Option (List ℕ) → Option (List ℕ) → Type 0
Leaves f None new = ⊤
Leaves f (Some xs) None = ⊥
Leaves f (Some xs) (Some ys) = ys ≡ f xs
