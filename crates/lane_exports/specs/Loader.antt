-- Demand 3 over the words that lane_read_record leaves, which a loader in C reads as a struct lane_outcome (include/lane.h).
use Rattle.std.specs.Prelude.{◌≡◌, List, ℕ, ◌+◌, ◌≤◌, ◌<◌, get_or, take, drop}
use Rattle.std.proofs.Math.Option.{some}
use Rattle.predicate_trace.specs.Trace.{steps_at}
use Rattle.predicate_semantics.specs.declared.Rv32Program.{Rv32Program}
use Rattle.predicate_semantics.specs.State.{RunResult}
use Rattle.predicate_semantics.specs.Standing.{scalar_answer}
use Rattle.lane_record.specs.Decode.{decode_record}
use Rattle.lane_record.specs.Answers.{Said, wrote}
use Rattle.lane_library.specs.Promise.{Promise}
use Rattle.lane_exports.specs.Boundary.{events_from, ReadsWords}

-- the fields by the places of their words; an event has four words, from the twelfth on
abbrev pub kind : List ℕ → ℕ
kind ws = get_or ws 0 0

abbrev pub first_input : List ℕ → ℕ
first_input ws = get_or ws 4 0

abbrev pub count_of_lanes : List ℕ → ℕ
count_of_lanes ws = get_or ws 5 0

abbrev pub return_value : List ℕ → ℕ
return_value ws = get_or ws 6 0

abbrev pub steps : List ℕ → ℕ
steps ws = get_or ws 7 0

abbrev pub event_count : List ℕ → ℕ
event_count ws = get_or ws 10 0

-- Scalar run: the result that the words and the trace beside them say
abbrev pub result_words : List ℕ → List ℕ → RunResult
result_words ws t = record {
  return_value = return_value ws;
  steps = steps ws;
  trace = steps_at 0 (steps ws) t;
  events = events_from (event_count ws) (drop 11 ws);
}

-- where 0 is answered and the kind is LANE_ACCEPTED, the words say what the scalar run of each input answers that they name, whatever the
-- other registers hold
abbrev pub WordsPromise : List ℕ → Rv32Program → Said → List ℕ → Type 0
WordsPromise image program said output =
    (n : ℕ) → said ≡ wrote n
    → (t ws t' ws' : List ℕ) → ReadsWords (decode_record (take n output)) t ws 0 t' ws'
    → kind ws' ≡ 0x01
    → (i : ℕ) → first_input ws' ≤ i → i < first_input ws' + count_of_lanes ws'
    → (others : ℕ → ℕ) → scalar_answer image program i others ≡ some (result_words ws' t')

-- the promise over bytes gives it
abbrev pub WordsPromised : Type 0
WordsPromised =
    (image : List ℕ) (program : Rv32Program) (said : Said) (output : List ℕ)
    → Promise image program said output → WordsPromise image program said output
