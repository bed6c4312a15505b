-- What a part of the lane run gives: a value, or the refusal that ends the run.
use Rattle.std.specs.Prelude.{Bool, true, false, ℕ, Err, Ok, Result}
use Rattle.std.proofs.Math.Option.{Option, none, some}
use Rattle.predicate_answer.specs.Refusal.{Refusal, of_run, of_call}
use Rattle.predicate_answer.specs.declared.CallError.{CallError}

-- a value that passed its tests, or a refusal
pub data Tested (A : Type 0) : Type 0 where
  passed : A → Tested A
  refused : Refusal → Tested A

-- the first refusal ends the run
infixl 10 ◌>>=◌
unfoldable pub ◌>>=◌ : {A B : Type 0} → Tested A → (A → Tested B) → Tested B
◌>>=◌ (passed a) f = f a
◌>>=◌ (refused r) f = refused r

-- .. and what is asked of it alone has no answer then
unfoldable pub if_passed : {A B : Type 0} → Tested A → (A → Option B) → Option B
if_passed (passed a) f = f a
if_passed (refused r) f = none

-- a run's refusal by its number and role
unfoldable pub refuse : {A : Type 0} → ℕ → ℕ → Tested A
refuse number role = refused (of_run (record { number = number; role = role }))

-- a test, and the refusal if it fails
unfoldable pub require : ℕ → Bool → Tested (Unit {0})
require number true = passed tt
require number false = refuse number 0

-- what the caller chose, and the call's refusal if it is not taken
unfoldable pub allow : Result (Unit {0}) CallError → Tested (Unit {0})
allow (Ok tt) = passed tt
allow (Err e) = refused (of_call e)

-- a value, and the refusal if there is none
unfoldable pub found : {A : Type 0} → ℕ → Option A → Tested A
found number none = refuse number 0
found number (some a) = passed a
