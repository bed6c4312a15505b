-- Simulation: where a part of the lane run passes, the scalar run's part has an answer, and the two are related.
use mathlib.Core.Path.{◌≡◌, refl, sym, ap, subst}
use mathlib.Core.Bool.{Bool, true, false}
use mathlib.Core.Option.{Option, none, some}
use Prim.Native.Nat.{ℕ}
use Rattle.predicate_semantics.specs.Choice.{choose}
use Rattle.predicate_semantics.specs.State.{RunResult}
use Rattle.predicate_semantics.specs.Tested.{Tested, passed, refused, refuse, require, found}
use Rattle.predicate_answer.specs.Refusal.{Refusal}
use Rattle.predicate_semantics.specs.Tested as Lane
use Rattle.predicate_semantics.specs.Lane.{LaneState, Ended, on}
use Rattle.predicate_semantics.specs.Scalar as Scalar

pub data Sim {A B : Type 0} (R : A → B → Type 0) : Tested A → Option B → Type 0 where
  stops : {r : Refusal} {o : Option B} → Sim R (refused r) o
  agrees : {a : A} {b : B} → R a b → Sim R (passed a) (some b)

pub bind : {A B C D : Type 0} {R : A → B → Type 0} {S : C → D → Type 0} {m : Tested A} {o : Option B} {f : A → Tested C} {g : B → Option D}
    → Sim R m o → ((a : A) (b : B) → R a b → Sim S (f a) (g b)) → Sim S (Lane.◌>>=◌ m f) (Scalar.◌>>=◌ o g)
unfolding Lane.◌>>=◌ Scalar.◌>>=◌
bind stops h = stops
bind (agrees r) h = h _ _ r

-- the same, where the two answers are equal
pub bind_same : {A C D : Type 0} {S : C → D → Type 0} {m : Tested A} {o : Option A} {f : A → Tested C} {g : A → Option D}
    → Sim ◌≡◌ m o → ((a : A) → Sim S (f a) (g a)) → Sim S (Lane.◌>>=◌ m f) (Scalar.◌>>=◌ o g)
bind_same {S = S} {f} {g} s h = bind s (λ a b e. subst (λ b. Sim S (f a) (g b)) e (h a))

-- a test that only the lane run makes
pub bind_lane : {A C D : Type 0} {S : C → D → Type 0} (m : Tested A) {o : Option D} {f : A → Tested C}
    → ((a : A) → Sim S (f a) o) → Sim S (Lane.◌>>=◌ m f) o
unfolding Lane.◌>>=◌
bind_lane (passed a) h = h a
bind_lane (refused r) h = stops

-- a test of the lane run whose answer is a value that the scalar run has already
pub bind_value : {A C D : Type 0} {S : C → D → Type 0} {m : Tested A} {b : A} (f : A → Tested C) {o : Option D}
    → Sim ◌≡◌ m (some b) → Sim S (f b) o → Sim S (Lane.◌>>=◌ m f) o
unfolding Lane.◌>>=◌
bind_value f stops h = stops
bind_value {S = S} f {o} (agrees e) h = subst (λ a. Sim S (f a) o) (sym e) h

-- a test of the lane run on what the scalar run answers
pub bind_into : {A B C : Type 0} {R : A → B → Type 0} {S : C → B → Type 0} {m : Tested A} {o : Option B} {f : A → Tested C}
    → Sim R m o → ((a : A) (b : B) → R a b → Sim S (f a) (some b)) → Sim S (Lane.◌>>=◌ m f) o
unfolding Lane.◌>>=◌
bind_into stops h = stops
bind_into (agrees r) h = h _ _ r

pub sim_require : (number : ℕ) (b : Bool) → Sim ◌≡◌ (require number b) (Scalar.require b)
unfolding require refuse Scalar.require
sim_require number true = agrees refl
sim_require number false = stops

-- a last test that only the lane run makes
pub sim_last : (m : Tested (Unit {0})) (v : Unit {0}) → Sim ◌≡◌ m (some v)
sim_last (passed u) v = agrees refl
sim_last (refused r) v = stops

pub sim_found : {A : Type 0} (number : ℕ) (o : Option A) → Sim ◌≡◌ (found number o) o
unfolding found refuse
sim_found number none = stops
sim_found number (some a) = agrees refl

pub sim_choose : {A B : Type 0} {R : A → B → Type 0} (b : Bool) {f g : Unit {0} → Tested A} {h k : Unit {0} → Option B}
    → ((u : Unit {0}) → Sim R (f u) (h u)) → ((u : Unit {0}) → Sim R (g u) (k u)) → Sim R (choose b f g) (choose b h k)
unfolding choose
sim_choose true x y = x tt
sim_choose false x y = y tt

-- the same for runs, which also hand back the state that they end in
pub sim_ended : {B : Type 0} {R : RunResult → B → Type 0} (b : Bool) (f g : Unit {0} → Ended) {h k : Unit {0} → Option B}
    → ((u : Unit {0}) → Sim R (f u).answer (h u)) → ((u : Unit {0}) → Sim R (g u).answer (k u))
    → Sim R (choose b f g).answer (choose b h k)
unfolding choose
sim_ended true f g x y = x tt
sim_ended false f g x y = y tt

pub bind_ended : {B D : Type 0} {R : LaneState → B → Type 0} {S : RunResult → D → Type 0} (s : LaneState) {m : Tested LaneState} {o : Option B}
    (f : LaneState → Ended) {g : B → Option D}
    → Sim R m o → ((a : LaneState) (b : B) → R a b → Sim S (f a).answer (g b)) → Sim S (on s m f).answer (Scalar.◌>>=◌ o g)
unfolding on Scalar.◌>>=◌
bind_ended s f stops h = stops
bind_ended s f (agrees r) h = h _ _ r

-- what it says of a lane part that passed
pub answered : {A : Type 0} {a : A} {o : Option A} → Sim ◌≡◌ (passed a) o → o ≡ some a
answered (agrees e) = ap some (sym e)
