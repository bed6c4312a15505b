-- Numbers that the image holds whole, so that one reading gives what joining their bytes would.
use Rattle.std.specs.Prelude.{List, ◌≡◌, ℕ, ◌+◌, ◌≤◌, length, take, drop, None, Option, Some}
use Rattle.little_endian.specs.Number.{value}
use Rattle.lane_access.specs.Seen.{offset_of}

-- v is the number in n bytes of the image
pub record Lies (v : ℕ) (image : List ℕ) (a n : ℕ) : Type 0 where
  pub small : n ≤ 4
  pub fits : offset_of a + n ≤ length image
  pub is : v ≡ value (take n (drop (offset_of a) image))

abbrev pub FromImage : Option ℕ → List ℕ → ℕ → ℕ → Type 0
FromImage (Some v) image a n = Lies v image a n
FromImage None image a n = Unit {0}
