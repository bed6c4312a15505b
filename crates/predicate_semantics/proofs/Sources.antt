-- What is fetched is what its word decodes to, so that its sources are registers of the run. Assumes nothing.
use Rattle.std.specs.Prelude.{None, Option, Some}
use mathlib.Core.Bool.{Bool, true, false}
use mathlib.Core.Option as Math
use mathlib.Core.Option.{none, some, none-ne-some}
use mathlib.Core.Path.{◌≡◌, refl, ap, ◌∙◌, subst}
use Prim.Native.Nat.{ℕ, ◌%◌}
use lib.Dec.{eqb}
use Rattle.riscv_decode.specs.declared.Fetched.{Fetched}
use Rattle.riscv_decode.specs.declared.Operation.{Operation}
use Rattle.riscv_decode.specs.Decode.{decode_of}
use Rattle.predicate_action.specs.Meaning.{meaning}
use Rattle.predicate_action.specs.Reading.{reading_of, ReadsBelow}
use Rattle.predicate_action.proofs.Sources.{sources_below}
use Rattle.predicate_semantics.specs.Choice.{choose}
use Rattle.predicate_semantics.specs.Program.{Core}
use Rattle.predicate_semantics.specs.Memory.{LaneBytes}
use Rattle.predicate_semantics.specs.Tested.{Tested, passed, refused, refuse, found, ◌>>=◌}
use Rattle.predicate_semantics.specs.Lane.{decode_word, expand_halfword, access_agreed, fetch_four, fetch}
use Rattle.predicate_semantics.specs.Standing.{decoded_operation, standing_core}

-- what was fetched is what its word decodes to
abbrev Decodes : Core → ℕ → Tested Fetched → Type 0
Decodes core steps (passed f) = core.decode steps f.word ≡ some f.operation
Decodes core steps (refused r) = Unit {0}

module _ (core : Core) (steps : ℕ) where
  word_decodes : (word n : ℕ) → Decodes core steps (decode_word core steps word n)
  unfolding decode_word ◌>>=◌ found refuse
  word_decodes word n = go (core.decode steps word) refl
    where
      go : (d : Math.Option Operation) → core.decode steps word ≡ d
          → Decodes core steps (found 9 d >>= λ o. passed (record { operation = o; length = n; word = word }))
      go (some o) e = e
      go none e = tt

  from_tested : (t : Tested ℕ) (f : ℕ → Tested Fetched) → ((v : ℕ) → Decodes core steps (f v)) → Decodes core steps (t >>= f)
  unfolding ◌>>=◌
  from_tested (passed v) f h = h v
  from_tested (refused r) f h = tt

  from_either : (b : Bool) (f g : Unit {0} → Tested Fetched) → Decodes core steps (f tt) → Decodes core steps (g tt) → Decodes core steps (choose b f g)
  unfolding choose
  from_either true f g x y = x
  from_either false f g x y = y

  fetch_decodes : (lanes : ℕ) (m : LaneBytes) (pc : ℕ) → Decodes core steps (fetch lanes core m steps pc)
  unfolding fetch fetch_four expand_halfword
  fetch_decodes lanes m pc =
      from_tested (access_agreed lanes 1 m 2 pc) _ (λ half.
      from_either (eqb (half % 4) 3) _ _
      (from_tested (access_agreed lanes 1 m 4 pc) _ (λ word. word_decodes word 4))
      (from_tested (found 8 (core.expand half)) _ (λ word. word_decodes word 2)))

  pub fetched_decodes : (lanes : ℕ) (m : LaneBytes) (pc : ℕ) {f : Fetched} → fetch lanes core m steps pc ≡ passed f → core.decode steps f.word ≡ some f.operation
  fetched_decodes lanes m pc e = subst (Decodes core steps) e (fetch_decodes lanes m pc)

-- the standing table's operations name registers of the run, at any program counter
pub standing_names : (steps word at : ℕ) (o : Operation) → standing_core.decode steps word ≡ some o → ReadsBelow standing_core.registers (reading_of (meaning o at))
unfolding standing_core decoded_operation
standing_names steps word at o = go (decode_of word) refl
  where
    go : (d : Option Operation) → decode_of word ≡ d → decoded_operation d ≡ some o → ReadsBelow standing_core.registers (reading_of (meaning o at))
    go (Some k) e q = let h : k ≡ o = cc q in sources_below word at o (e ∙ ap (λ (x : Operation). Some x) h)
    go None e q = absurd (none-ne-some o q)
