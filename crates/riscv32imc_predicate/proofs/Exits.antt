-- What the exit of a `?` returns. Assumes nothing.
use Rattle.std.specs.Prelude.{Err, IsErrAnd, Ok, Result}
use mathlib.Core.Path.{◌≡◌, ap}

-- the error that was given, or what it converts to
pub exit : {T E : Type 0} {e : E} (r : Result T E) → IsErrAnd r (λ y. y ≡ e) → r ≡ Err e
exit (Err x) h = ap Err h
exit (Ok x) h = absurd h
