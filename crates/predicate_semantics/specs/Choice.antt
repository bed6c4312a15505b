-- A choice whose two answers wait until the test is known, so that a run computes no further than it goes.
use Rattle.std.specs.Prelude.{Bool, true, false}

unfoldable pub choose : {A : Type 0} → Bool → (Unit {0} → A) → (Unit {0} → A) → A
choose true f g = f tt
choose false f g = g tt
