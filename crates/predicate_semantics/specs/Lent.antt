-- What lent space decides of a run: more rows lift refusal 13 and change nothing else, more trace entries 14; and how much is enough.
use Rattle.std.specs.Prelude.{◌≡◌, List, ◌++◌, ℕ, ◌≤◌, ◌<◌}
use Rattle.predicate_trace.specs.declared.PredicateControlStep.{PredicateControlStep}
use Rattle.predicate_semantics.specs.Program.{Program}
use Rattle.predicate_semantics.specs.State.{RunResult}
use Rattle.predicate_semantics.specs.Tested.{passed, refuse}
use Rattle.predicate_semantics.specs.Lane.{Setup, Ended, lane_run, written_bytes}

-- the same inputs and choice, with so many rows and trace entries lent
abbrev pub lending : Setup → ℕ → ℕ → Setup
lending l rows entries = record { inputs = l.inputs; choice = l.choice; rows = rows; entries = entries }

-- How a run ends with less lent and with more: the same, state and answer, unless that refusal ended it with less.
-- Even then more completes as many steps at least, and its trace begins with the other's.
pub record OnlyLifts (number : ℕ) (less more : Ended) : Type 0 where
  pub same : (less.answer ≡ refuse number 0 → ⊥) → more ≡ less
  pub steps : less.state.steps ≤ more.state.steps
  pub trace : (rest : List PredicateControlStep) × (more.state.trace ≡ less.state.trace ++ rest)

-- With as many lent as are needed a run ends the same, and with fewer that refusal ends it.
pub record Needs (number needed : ℕ) (end : Ended) (lent : ℕ → Ended) : Type 0 where
  pub enough : (n : ℕ) → needed ≤ n → lent n ≡ end
  pub short : (n : ℕ) → n < needed → (lent n).answer ≡ refuse number 0

module _ (p : Program) (l : Setup) (limit : ℕ) where
  -- the run with other rows, and with other trace entries
  abbrev pub with_rows : ℕ → Ended
  with_rows rows = lane_run p (lending l rows l.entries) limit

  abbrev pub with_entries : ℕ → Ended
  with_entries entries = lane_run p (lending l l.rows entries) limit

  -- More rows lift 13 and change nothing else, whatever the program, inputs, choice, limit and trace entries.
  abbrev pub MoreRows : Type 0
  MoreRows = (rows : ℕ) → l.rows ≤ rows → OnlyLifts 13 (lane_run p l limit) (with_rows rows)

  -- More trace entries lift 14 and change nothing else.
  abbrev pub MoreEntries : Type 0
  MoreEntries = (entries : ℕ) → l.entries ≤ entries → OnlyLifts 14 (lane_run p l limit) (with_entries entries)

  -- So a run that neither ended is the same with more of both.
  abbrev pub MoreLent : Type 0
  MoreLent =
      (rows entries : ℕ) → l.rows ≤ rows → l.entries ≤ entries
      → ((lane_run p l limit).answer ≡ refuse 13 0 → ⊥) → ((lane_run p l limit).answer ≡ refuse 14 0 → ⊥)
      → lane_run p (lending l rows entries) limit ≡ lane_run p l limit

  -- An accepted run needs a row for each written byte, and a trace entry for each step.
  abbrev pub RowsNeeded : Type 0
  RowsNeeded = (r : RunResult) → (lane_run p l limit).answer ≡ passed r → Needs 13 (written_bytes p l (lane_run p l limit).state) (lane_run p l limit) with_rows

  abbrev pub EntriesNeeded : Type 0
  EntriesNeeded = (r : RunResult) → (lane_run p l limit).answer ≡ passed r → Needs 14 r.steps (lane_run p l limit) with_entries
