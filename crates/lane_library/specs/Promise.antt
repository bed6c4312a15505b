-- Demand 3 over a record's bytes: what a loader may count on. Nothing here speaks of the lane run.
use Rattle.std.specs.Prelude.{◌≡◌, List, ℕ, ◌+◌, ◌≤◌, ◌<◌, take, Ok}
use Rattle.std.proofs.Math.Option.{some}
use Rattle.predicate_answer.specs.declared.RecordOutcome.{RecordOutcome}
use Rattle.predicate_semantics.specs.declared.Rv32Program.{Rv32Program}
use Rattle.predicate_semantics.specs.State.{result_read}
use Rattle.predicate_semantics.specs.Standing.{scalar_answer}
use Rattle.lane_record.specs.Decode.{decode_record}
use Rattle.lane_record.specs.Answers.{Said, wrote, Reads}

-- Demand 3 of the bytes themselves: what read_record gives of an accepted record is the scalar run of each input of the range that the record
-- itself carries, whatever the other registers hold
abbrev pub Promise : List ℕ → Rv32Program → Said → List ℕ → Type 0
Promise image program said output =
    (n : ℕ) → said ≡ wrote n
    → (t : List ℕ) (outcome : RecordOutcome) (t' : List ℕ) → Reads (decode_record (take n output)) t (Ok outcome) t'
    → outcome.answer ≡ Ok tt
    → (i : ℕ) → outcome.execution.first_input ≤ i → i < outcome.execution.first_input + outcome.execution.lane_count
    → (others : ℕ → ℕ) → scalar_answer image program i others ≡ some (result_read outcome t')
