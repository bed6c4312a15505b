-- The scan of a table, one row after the other. Assumes nothing.
use Rattle.std.specs.Prelude.{None, Some}
use mathlib.Core.Bool.{true, false}
use mathlib.Core.Path.{◌≡◌}
use mathlib.Core.List.{List}
use Prim.Native.Nat.{ℕ, ◌+◌, ◌≤◌, ◌<◌}
use native.Mathlib.Numerals.{add-one}
use lib.ListN.{length, get_or, drop, drop_of_length-le}
use lib.Seq.{drop-cons}
use Rattle.riscv_decode.specs.declared.Row.{Row}
use Rattle.riscv_decode.specs.Rows.{no_row, matches, find_row}

module _ (rows : List Row) (w i : ℕ) where
  pub hit : i < length rows → matches (get_or rows i no_row) w ≡ true → Some (get_or rows i no_row) ≡ find_row (drop i rows) w
  unfolding find_row
  hit h e = rw (drop-cons rows i no_row h, e)

  pub miss : i < length rows → matches (get_or rows i no_row) w ≡ false → find_row (drop i rows) w ≡ find_row (drop (i + 1) rows) w
  unfolding find_row
  miss h e = rw (add-one, drop-cons rows i no_row h, e)

  pub done : length rows ≤ i → None ≡ find_row (drop i rows) w
  unfolding find_row
  done h = rw (drop_of_length-le rows h)
