-- Lent memory after something was written at its start.
use Rattle.std.specs.Prelude.{List, ◌++◌, length, drop}

-- the new elements, then what was there
abbrev pub over : {A : Type 0} → List A → List A → List A
over xs l = xs ++ drop (length xs) l
