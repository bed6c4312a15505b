-- What stands at the C boundary: an answer as a number, and an outcome as words (include/lane.h).
use Rattle.std.specs.Prelude.{◌≡◌, Bool, true, false, cond, ◌&&◌, ◌||◌, List, [], ◌∷◌, ◌++◌, ℕ, zero, suc, ◌+◌, ◌*◌, ◌^◌, ◌≤◌, eqb, ltb, length, get_or, drop, Err, Ok, Result}
use Rattle.std.proofs.Math.Option.{Option, none}
use Rattle.little_endian.specs.Number.{AllBytes}
use Rattle.little_endian.specs.Pack.{Fits}
use Rattle.little_endian.specs.Lent.{over}
use Rattle.lane_word.specs.declared.InputRange.{InputRange}
use Rattle.predicate_semantics.specs.declared.Rv32Program.{Rv32Program}
use Rattle.predicate_answer.specs.declared.CompiledMmioEvent.{CompiledMmioEvent}
use Rattle.predicate_answer.specs.Blank.{no_events}
use Rattle.predicate_answer.specs.declared.RecordOutcome.{RecordOutcome}
use Rattle.lane_record.specs.Format.{heading, event, refusal, kind_byte, widths, Record, execution_values, execution_from, event_values, event_from, refusal_values, refusal_from}
use Rattle.lane_record.specs.Decode.{decode_record}
use Rattle.lane_record.specs.Answers.{Said, wrote, done, refuses, write_said, read_answer, read_outcome, read_trace, given, Writes}
use Rattle.predicate_answer.specs.Outcome.{no_outcome}
use Rattle.lane_library.specs.Outcome.{code, count}
use Rattle.predicate_answer.specs.declared.RecordRefusal.{RecordRefusal}

-- a program by its symbols, and a range by its first input and its last
abbrev pub program_by : ℕ → ℕ → ℕ → Rv32Program
program_by entry event_count events = record { symbols = record { entry = entry; event_count = event_count; events = events } }

abbrev pub range_by : ℕ → ℕ → InputRange
range_by first last = record { first = first; last = last }

-- an answer of the writer, or of a call, as two numbers
pub record Coded {A : Type 0} (said : A → Said) (holds : A → Type 0) (r written : ℕ) : Type 0 where
  pub answer : A
  pub held : holds answer
  pub code_is : r ≡ code (said answer)
  pub count_is : written ≡ count (said answer)

-- ---- an outcome as words

-- where the first item's fields begin, after a kind and a refusal's numbers
abbrev pub heading_at : ℕ
heading_at = 1 + length (widths refusal)

-- where the events begin
abbrev pub event_words_at : ℕ
event_words_at = heading_at + length (widths heading)

-- how many words there are
abbrev pub outcome_size : ℕ
outcome_size = event_words_at + length no_events * length (widths event)

-- Record: the kind that begins one, then what a refusal says, which an acceptance leaves 0
abbrev pub answer_words : Result (Unit {0}) RecordRefusal → List ℕ
answer_words (Ok tt) = kind_byte heading ∷ 0 ∷ 0 ∷ 0 ∷ []
answer_words (Err f) = kind_byte refusal ∷ refusal_values f

-- Record: an event after another, a word for each of its fields
abbrev pub event_words : List CompiledMmioEvent → List ℕ
event_words [] = []
event_words (e ∷ es) = event_values e ++ event_words es

-- Record: an outcome is the answer, then the first item's fields, then the events
abbrev pub outcome_words : RecordOutcome → List ℕ
outcome_words o = answer_words o.answer ++ (execution_values o.execution ++ event_words o.events)

-- Who causes a refusal: the lent words after a reading, as they were where nothing is read
abbrev pub words_after : Said → RecordOutcome → List ℕ → List ℕ
words_after done o ws = outcome_words o
words_after (wrote n) o ws = ws
words_after (refuses k) o ws = ws

-- what lane_read_record answers and leaves, of bytes that are a record or none
pub record ReadsWords (q : Option Record) (t ws : List ℕ) (r : ℕ) (t' ws' : List ℕ) : Type 0 where
  pub answer : r ≡ code (read_answer q (length t))
  pub outcome : ws' ≡ words_after (read_answer q (length t)) (read_outcome q (length t)) ws
  pub trace : t' ≡ read_trace q t

-- ---- the outcome that words stand for

-- Record: each word, from a place on, fits the bytes that an item has for it
abbrev pub fit : List ℕ → ℕ → List ℕ → Bool
fit [] at ws = true
fit (width ∷ widths) at ws = ltb (get_or ws at 0) (256 ^ width) && fit widths (suc at) ws

-- a kind that an answer has, and no word too large for its place
abbrev pub formed : List ℕ → Bool
formed ws =
    (eqb (get_or ws 0 0) (kind_byte heading) || eqb (get_or ws 0 0) (kind_byte refusal))
    && fit (widths refusal) 1 ws
    && fit (widths heading) heading_at ws

-- Record: the answer by its kind
abbrev pub answer_from : List ℕ → Result (Unit {0}) RecordRefusal
answer_from ws = cond (eqb (get_or ws 0 0) (kind_byte heading)) (Ok tt) (Err (refusal_from (drop 1 ws)))

-- Record: so many events, one after another
abbrev pub events_from : ℕ → List ℕ → List CompiledMmioEvent
events_from zero ws = []
events_from (suc n) ws = event_from ws ∷ events_from n (drop (length (widths event)) ws)

-- Record: the outcome of words that are so formed
abbrev pub outcome_formed : List ℕ → RecordOutcome
outcome_formed ws = record {
  answer = answer_from ws;
  execution = execution_from (drop heading_at ws);
  events = events_from (length no_events) (drop event_words_at ws);
}

-- Who causes a refusal: words that are not so formed stand for no outcome, and no record has a refusal numbered 0
abbrev pub outcome_from : List ℕ → RecordOutcome
outcome_from ws = cond (formed ws) (outcome_formed ws) no_outcome

-- what lane_write_record answers and leaves
abbrev pub WritesWords : List ℕ → List ℕ → List ℕ → ℕ → List ℕ → ℕ → Type 0
WritesWords ws t out r out' written = Coded write_said (λ a. Writes (given (outcome_from ws) t) out a out') r written

-- ---- what holds of the two

-- a word too large for its place, or another kind, breaks the rules by itself: no test of what it would stand for
abbrev pub BreaksRules : Type 0
BreaksRules = (ws t : List ℕ) → formed ws ≡ false → given (outcome_from ws) t ≡ none

-- a refusal's numbers fit their types
abbrev pub FitsAnswer : Result (Unit {0}) RecordRefusal → Type 0
FitsAnswer (Ok tt) = Unit
FitsAnswer (Err f) = Fits (widths refusal) (refusal_values f)

-- an outcome's do
pub record FitsTypes (o : RecordOutcome) : Type 0 where
  pub answer : FitsAnswer o.answer
  pub execution : Fits (widths heading) (execution_values o.execution)
  pub events : length o.events ≡ length no_events

-- an outcome's words read back as that outcome
abbrev pub WordsBack : Type 0
WordsBack = (o : RecordOutcome) → FitsTypes o → outcome_from (outcome_words o) ≡ o

-- what lane_read_record took, lane_write_record writes again byte for byte
abbrev pub Rewrites : Type 0
Rewrites =
    (bs t ws t' ws' : List ℕ) → AllBytes bs → ReadsWords (decode_record bs) t ws 0 t' ws'
    → (out : List ℕ) (r : ℕ) (out' : List ℕ) (written : ℕ) → length bs ≤ length out → WritesWords ws' t' out r out' written
    → (r ≡ 0) × (written ≡ length bs) × (out' ≡ over bs out)
