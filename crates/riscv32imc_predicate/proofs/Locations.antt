-- The first event locations are kept, the others counted. Assumes nothing.
use mathlib.Core.Path.{◌≡◌, refl, sym, ap, ◌∙◌}
use mathlib.Core.Bool.{Bool, true, false, ◌&&◌}
use mathlib.Core.List.{List, [], ◌∷◌, ◌++◌}
use Prim.Native.Nat.{ℕ, suc, ◌+◌, ◌%◌, ◌^◌, ◌≤◌, ◌<◌}
use native.Mathlib.Nat.{mod-eq_of_lt}
use native.Mathlib.Omega.{arith}
use lib.Dec.{eqb}
use borrow.Author.Tests.{eq-eqb, eqb-true}
use lib.ListN.{length, length-append, take, set}
use lib.Seq.{take_all, take-append-le, take-suc-set}
use Rattle.predicate_answer.specs.Blank.{max_events}
use Rattle.predicate_semantics.specs.Choice.{choose}
use Rattle.predicate_semantics.specs.State.{recorded}

module _ (pc : ℕ) (kept ls : List ℕ) (size : length kept ≡ max_events) (h : take (length ls) kept ≡ take max_events ls) where
  longer : length (ls ++ pc ∷ []) ≡ suc (length ls)
  longer = simp length-append (omega arith)

  pub counted : length ls + 1 < 2 ^ 32 → (length ls + 1) % 2 ^ 32 ≡ length (ls ++ pc ∷ [])
  counted b = mod-eq_of_lt (omega (arith, b)) ∙ omega (arith, longer)

  -- one more of the first
  pub kept_first : length ls < max_events → take (length (ls ++ pc ∷ [])) (set kept (length ls) pc) ≡ take max_events (ls ++ pc ∷ [])
  kept_first b =
      ap (λ (k : ℕ). take k (set kept (length ls) pc)) longer
      ∙ take-suc-set kept (length ls) pc (omega (arith, size, b))
      ∙ ap (λ (x : List ℕ). x ++ pc ∷ []) (h ∙ take_all max_events ls (omega (arith, b)))
      ∙ sym (take_all max_events (ls ++ pc ∷ []) (omega (arith, longer, b)))

  -- one of the others
  pub kept_others : max_events ≤ length ls → take (length (ls ++ pc ∷ [])) kept ≡ take max_events (ls ++ pc ∷ [])
  kept_others b =
      take_all (length (ls ++ pc ∷ [])) kept (omega (arith, longer, size, b))
      ∙ sym (take_all (length ls) kept (omega (arith, size, b)))
      ∙ h
      ∙ sym (take-append-le max_events ls (pc ∷ []) b)

-- an SW exactly at the event count's address, and every other step
pub recorded_here : (c pc a n : ℕ) (ls : List ℕ) → n ≡ 4 → a ≡ c → recorded c pc a n ls ≡ ls ++ pc ∷ []
unfolding recorded choose
recorded_here c pc a n ls e f = rw (e, f, eq-eqb c c refl)

pub recorded_elsewhere : (c pc a n : ℕ) (ls : List ℕ) → (n ≡ 4 → a ≡ c → ⊥) → recorded c pc a n ls ≡ ls
unfolding recorded choose
recorded_elsewhere c pc a n ls h = go (eqb n 4) (eqb a c) refl refl
  where
    go : (x y : Bool) → eqb n 4 ≡ x → eqb a c ≡ y → choose (x && y) (λ _. ls ++ pc ∷ []) (λ _. ls) ≡ ls
    go true true e f = absurd (h (eqb-true _ _ e) (eqb-true _ _ f))
    go true false e f = refl
    go false y e f = refl
