-- What always holds of a part of the lane run: P of the value that it passes, and R of its refusal.
use mathlib.Core.Path.{◌≡◌, refl, sym, subst}
use mathlib.Core.Bool.{Bool, true, false}
use mathlib.Core.Option.{Option, none, some}
use Prim.Native.Nat.{ℕ}
use lib.Dec.{T}
use Rattle.predicate_semantics.specs.Choice.{choose}
use Rattle.predicate_semantics.specs.Tested.{Tested, passed, refused, refuse, require, found, ◌>>=◌}
use Rattle.predicate_answer.specs.Refusal.{Refusal, of_run}

pub data Always {A : Type 0} (R : Refusal → Type 0) (P : A → Type 0) : Tested A → Type 0 where
  stops : (r : Refusal) → R r → Always R P (refused r)
  gives : {a : A} → P a → Always R P (passed a)

-- a refusal passes nothing
abbrev Passes : {A : Type 0} → Tested A → Type 0
Passes (passed a) = Unit {0}
Passes (refused r) = ⊥

pub no_pass : {A : Type 0} {r : Refusal} {a : A} → refused r ≡ passed a → ⊥
no_pass q = subst Passes (sym q) tt

-- the refusal of a number without a role
abbrev pub plain : ℕ → Refusal
plain number = of_run (record { number = number; role = 0 })

module _ {R : Refusal → Type 0} where
  pub bind : {A B : Type 0} {P : A → Type 0} {Q : B → Type 0} {m : Tested A} {f : A → Tested B}
      → Always R P m → ((a : A) → P a → Always R Q (f a)) → Always R Q (m >>= f)
  unfolding ◌>>=◌
  bind (stops r t) h = stops r t
  bind (gives x) h = h _ x

  pub weaken : {A : Type 0} {P Q : A → Type 0} {m : Tested A} → Always R P m → ((a : A) → P a → Q a) → Always R Q m
  weaken (stops r t) h = stops r t
  weaken (gives x) h = gives (h _ x)

  pub always_require : (number : ℕ) (b : Bool) → R (plain number) → Always R (λ _. T b) (require number b)
  unfolding require refuse
  always_require number true t = gives tt
  always_require number false t = stops _ t

  pub always_found : {A : Type 0} (number : ℕ) (o : Option A) → R (plain number) → Always R (λ a. o ≡ some a) (found number o)
  unfolding found refuse
  always_found number none t = stops _ t
  always_found number (some a) t = gives refl

  pub always_choose : {A : Type 0} {P : A → Type 0} (b : Bool) {f g : Unit {0} → Tested A}
      → ((u : Unit {0}) → Always R P (f u)) → ((u : Unit {0}) → Always R P (g u)) → Always R P (choose b f g)
  unfolding choose
  always_choose true x y = x tt
  always_choose false x y = y tt

  pub passes : {A : Type 0} {P : A → Type 0} {a : A} → Always R P (passed a) → P a
  passes (gives x) = x

  pub refuses : {A : Type 0} {P : A → Type 0} {r : Refusal} → Always R P (refused r) → R r
  refuses (stops r t) = t
