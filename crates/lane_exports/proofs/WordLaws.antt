-- An outcome put into words at their places, and words taken as an outcome. Assumes nothing.
use Rattle.std.specs.Prelude.{Err, Ok, Result}
use mathlib.Core.Path.{◌≡◌, refl, sym, ap, ◌∙◌, subst}
use mathlib.Core.List.{List, [], ◌∷◌, ◌++◌, map, append-nil}
use mathlib.Core.Option.{Option}
use Prim.Native.Nat.{ℕ, zero, suc, ◌+◌, ◌*◌, ◌-◌, ◌≤◌, ◌<◌}
use native.Mathlib.Omega.{arith}
use native.Mathlib.Numerals.{add-one}
use native.Mathlib.Nat.{add-zero}
use lib.ListN.{length, get_or, take, drop, set, length-set, length-append, length-map, drop_of_length-le}
use Rattle.std.proofs.Common.{append_assoc}
use Rattle.std.proofs.lemmas.Slice.{put_mid-paste}
use Rattle.std.proofs.lemmas.List.Edits.{paste_all, sets-eq}
use borrow.Rule.Slice.PartMut.{put_mid}
use lib.Seq.{sets, drop-drop, get_or-drop}
use Rattle.little_endian.proofs.SetLaws.{sets_append, sets_step, sets_over}
use Rattle.predicate_answer.specs.declared.CompiledMmioEvent.{CompiledMmioEvent}
use Rattle.predicate_answer.specs.Blank.{max_events}
use Rattle.predicate_answer.specs.declared.RecordRefusal.{RecordRefusal}
use Rattle.predicate_answer.specs.declared.RecordOutcome.{RecordOutcome}
use Rattle.lane_record.specs.declared.ReadError.{ReadError}
use Rattle.lane_record.specs.declared.WriteError.{WriteError}
use Rattle.lane_record.specs.Format.{Record, execution_values, event_from}
use Rattle.lane_record.specs.Answers.{Said, read_number, read_outcome, given, Reads, Writes}
use Rattle.lane_library.specs.Outcome.{code}
use Rattle.lane_exports.specs.Boundary.{heading_at, event_words_at, outcome_size, answer_words, event_words, outcome_words, words_after, ReadsWords, events_from, outcome_from}

-- what is copied to a place
pub placed : (l : List ℕ) (at k : ℕ) (ys vs : List ℕ) → ys ≡ vs → k ≡ length vs → at + length vs ≤ length l → put_mid at k l ys ≡ sets l at vs
placed l at k ys vs e n h =
    put_mid-paste at k l ys vs (length vs) e (sym n) refl ∙ paste_all l at vs (length vs) refl ∙ sym (append_assoc (take at l) vs (drop (at + length vs) l)) ∙ sym (sets-eq vs l at h)

-- how `search` finds the length of a field that is an array of structs
pub unmapped : (X Y : Type 0) (f : X → Y) (l : List X) (n : ℕ) → length (map f l) ≡ n → length l ≡ n
unmapped X Y f l n h = sym (length-map l f) ∙ h

whole : {A : Type 0} (vs l : List A) → length vs ≡ length l → sets l 0 vs ≡ vs
whole {A = A} vs l e =
    sets_over vs l (omega (arith, e))
    ∙ ap (λ (r : List A). vs ++ r) (drop_of_length-le l {i = length vs} (omega (arith, e)))
    ∙ append-nil vs

length_answer : (a : Result (Unit {0}) RecordRefusal) → length (answer_words a) ≡ heading_at
length_answer (Ok tt) = refl
length_answer (Err f) = refl

length_words : (es : List CompiledMmioEvent) → length (event_words es) ≡ length es * 4
length_words [] = refl
length_words (e ∷ es) = omega (arith, length_words es)

-- the three parts put one after another are the whole outcome
pub outcome_put : (o : RecordOutcome) (l : List ℕ) → length l ≡ outcome_size → length o.events ≡ max_events
    → sets (sets (sets l 0 (answer_words o.answer)) heading_at (execution_values o.execution)) event_words_at (event_words o.events) ≡ outcome_words o
outcome_put o l h n =
    let A : List ℕ = answer_words o.answer in
    let B : List ℕ = execution_values o.execution in
    let C : List ℕ = event_words o.events in
    let a : length A ≡ heading_at = length_answer o.answer in
    sets_append B C (sets l 0 A) heading_at
    ∙ sym (sets_step l (sets l 0 A) 0 heading_at A (B ++ C) refl a)
    ∙ whole (A ++ (B ++ C)) l (omega (arith, a, length-append A (B ++ C), length_words o.events, n, h))

-- ---- words as an outcome

pub event_words_law : (ws : List ℕ) (at : ℕ)
    → ◌≡◌ {A = CompiledMmioEvent} (record { operation = get_or ws at 0; offset = get_or ws (at + 1) 0; value = get_or ws (at + 2) 0; location = get_or ws (at + 3) 0 }) (event_from (drop at ws))
event_words_law ws at = rw (get_or-drop at ws 0 0, get_or-drop at ws 1 0, get_or-drop at ws 2 0, get_or-drop at ws 3 0, add-zero at)

length_from : (n : ℕ) (ws : List ℕ) → length (events_from n ws) ≡ n
length_from zero ws = refl
length_from (suc n) ws = ap (λ (k : ℕ). suc k) (length_from n (drop 4 ws))

-- the events from k on are still to be taken
pub record Gathering (ws : List ℕ) (es : List CompiledMmioEvent) (k : ℕ) : Type 0 where
  pub long : length es ≡ max_events
  pub rest : events_from max_events (drop event_words_at ws) ≡ sets es k (events_from (max_events - k) (drop (event_words_at + k * 4) ws))

pub gathering_start : (ws : List ℕ) (es : List CompiledMmioEvent) → length es ≡ max_events → Gathering ws es 0
gathering_start ws es h =
    record { long = h; rest = sym (whole (events_from max_events (drop event_words_at ws)) es (length_from max_events (drop event_words_at ws) ∙ sym h)) }

module _ {ws : List ℕ} {es : List CompiledMmioEvent} {k : ℕ} (c : Gathering ws es k) where
  pub gathering_step : (e : CompiledMmioEvent) → k < max_events → e ≡ event_from (drop (event_words_at + k * 4) ws) → Gathering ws (set es k e) (k + 1)
  gathering_step e h q =
      let e1 : max_events - k ≡ suc (max_events - (k + 1)) = omega arith in
      let e2 : event_words_at + (k + 1) * 4 ≡ event_words_at + k * 4 + 4 = omega arith in
      record {
        long = simp length-set c.long;
        rest = c.rest ∙ rw (e1, e2, ← drop-drop 4 (event_words_at + k * 4) ws, ← q, add-one k);
      }

  pub gathering_exit : max_events ≤ k → es ≡ events_from max_events (drop event_words_at ws)
  gathering_exit h = let e : max_events - k ≡ 0 = omega arith in sym (c.rest ∙ rw e)

-- ---- the reader and the writer

-- the words after a reading, and where nothing is read
pub reads_words : {t' : List ℕ} (q : Option Record) (t ws : List ℕ) (o : RecordOutcome) → Reads q t (Ok o) t' → ReadsWords q t ws 0 t' (outcome_words o)
reads_words q t ws o h = record {
  answer = ap code h.answer;
  outcome = ap outcome_words h.outcome ∙ ap (λ (a : Said). words_after a (read_outcome q (length t)) ws) h.answer;
  trace = h.trace;
}

pub reads_nothing : {t' : List ℕ} (q : Option Record) (t ws : List ℕ) (e : ReadError) → Reads q t (Err e) t' → ReadsWords q t ws (read_number e) t' ws
reads_nothing q t ws e h = record {
  answer = ap code h.answer;
  outcome = ap (λ (a : Said). words_after a (read_outcome q (length t)) ws) h.answer;
  trace = h.trace;
}

pub writes_from : {out out' : List ℕ} {o : RecordOutcome} {w : Result ℕ WriteError} (ws t : List ℕ)
    → o ≡ outcome_from ws → Writes (given o t) out w out' → Writes (given (outcome_from ws) t) out w out'
writes_from {out} {out'} {o} {w} ws t p v = subst (λ (x : RecordOutcome). Writes (given x t) out w out') p v
