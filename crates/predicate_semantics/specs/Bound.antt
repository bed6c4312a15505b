-- The bound on a run's steps (refusal 3): how many they are, and that nothing else of a run that arrives hangs on it.
use Rattle.std.specs.Prelude.{◌≡◌, true, List, [], ◌∷◌, ℕ, ◌≤◌, ◌<◌}
use Rattle.std.proofs.Math.Option.{none, some}
use Rattle.riscv32imc.specs.Constants.{image_base}
use Rattle.lane_word.specs.Range.{invalid_channels}
use Rattle.predicate_semantics.specs.Program.{Program, stop}
use Rattle.predicate_semantics.specs.State.{RunResult}
use Rattle.predicate_semantics.specs.Tested.{refuse}
use Rattle.predicate_semantics.specs.Scalar.{scalar_run}
use Rattle.predicate_semantics.specs.Lane.{Setup, lane_run}
use Rattle.predicate_semantics.specs.Cases.{refuses, holds}

-- Refusal 3 comes after so many completed steps and no other number, with any rows from four on and any trace entries from so many on.
-- The number is spelled here, and not named, because this statement is what fixes it.
abbrev pub RefusedAtBound : List ℕ → Type 0
RefusedAtBound image =
    (rows entries : ℕ) → 4 ≤ rows → 1000000 ≤ entries
    → holds (record { image = image; entry = image_base; range = invalid_channels; rows = rows; entries = entries; outcome = refuses 3 0 1000000 }) ≡ true

-- so are the images that jump to themselves: JAL x0, 0, and C.J 0
abbrev pub StepBound : Type 0
StepBound = RefusedAtBound (0x6F ∷ 0x00 ∷ 0x00 ∷ 0x00 ∷ []) × RefusedAtBound (0x01 ∷ 0xA0 ∷ [])

module _ (p : Program) (l : Setup) where
  -- A lane run that ended at stop, accepted or refused there, is the same with every limit from its steps on.
  abbrev pub LimitEnough : Type 0
  LimitEnough =
      (limit other : ℕ) → (lane_run p l limit).state.pc ≡ stop → (lane_run p l limit).state.steps ≤ other
      → lane_run p l other ≡ lane_run p l limit

  -- With a limit below the steps that a lane run completes, it is refused by 3 after as many steps as that limit.
  abbrev pub LimitShort : Type 0
  LimitShort =
      (limit other : ℕ) → other < (lane_run p l limit).state.steps
      → ((lane_run p l other).answer ≡ refuse 3 0) × ((lane_run p l other).state.steps ≡ other)

-- A scalar run that answers gives the same answer with every limit from its steps on, and none with a smaller one.
abbrev pub ScalarLimit : Program → Type 0
ScalarLimit p =
    (limit other input : ℕ) (others : ℕ → ℕ) (r : RunResult) → scalar_run p limit input others ≡ some r
    → (r.steps ≤ other → scalar_run p other input others ≡ some r) × (other < r.steps → scalar_run p other input others ≡ none)
