-- An outcome's words read back as that outcome, and what was read is written again byte for byte. Assumes nothing.
use Rattle.std.specs.Prelude.{Err, Ok, Result}
use mathlib.Core.Path.{◌≡◌, refl, ap, ◌∙◌}
use mathlib.Core.Bool.{Bool, true, false, cond}
use mathlib.Core.Option.{Option, none, some}
use mathlib.Core.List.{List, [], ◌∷◌, ◌++◌}
use Prim.Native.Nat.{ℕ, zero, suc, ◌*◌, ◌≤◌}
use native.Mathlib.Omega.{arith}
use borrow.Author.Tests.{lt-ltb}
use lib.Dec.{leb}
use lib.ListN.{length, drop, length-append, length-drop}
use Rattle.little_endian.specs.Number.{AllBytes}
use Rattle.little_endian.specs.Pack.{Fits}
use Rattle.little_endian.specs.Lent.{over}
use Rattle.predicate_answer.specs.declared.CompiledMmioEvent.{CompiledMmioEvent}
use Rattle.predicate_trace.specs.declared.PredicateControlStep.{PredicateControlStep}
use Rattle.predicate_answer.specs.declared.PredicateTransducerExecution.{PredicateTransducerExecution}
use Rattle.predicate_answer.specs.Blank.{max_events, no_execution, no_events}
use Rattle.predicate_trace.specs.Trace.{entry_bytes}
use Rattle.predicate_answer.specs.declared.RecordOutcome.{RecordOutcome}
use Rattle.lane_record.specs.Format.{heading, widths, Record, accepted, refused, execution_values, FitsRecord}
use Rattle.lane_record.specs.Rules.{valid}
use Rattle.lane_record.specs.Decode.{decode_record}
use Rattle.lane_record.specs.Answers.{Said, done, wrote, refuses, write_said, read_answer, read_outcome, read_trace, given, write_answer, write_output}
use Rattle.predicate_answer.specs.Outcome.{no_outcome, accepted_outcome}
use Rattle.lane_record.proofs.TestLaws.{yes}
use Rattle.lane_record.proofs.DecodeLaws.{rules, decode_same}
use Rattle.lane_record.proofs.AnswerLaws.{few_events}
use Rattle.lane_record.proofs.Theorems.{rewritten}
use Rattle.lane_library.specs.Outcome.{code, count}
use Rattle.lane_exports.specs.Boundary.{heading_at, answer_words, event_words, words_after, fit, formed, events_from, outcome_from, FitsAnswer, FitsTypes, ReadsWords, WritesWords, BreaksRules, WordsBack, Rewrites}
use Rattle.predicate_answer.specs.declared.RecordRefusal.{RecordRefusal}

-- ---- words that stand for no outcome
none_by : (b : Bool) (o : RecordOutcome) (t : List ℕ) → b ≡ false → given (cond b o no_outcome) t ≡ none
none_by true o t e = let z : ◌≡◌ {A = ℕ} 0 1 = cc in absurd (omega arith)
none_by false o t e = refl

pub breaks_rules : BreaksRules
breaks_rules ws t e = none_by (formed ws) _ t e

-- ---- there and back
events_back : (n : ℕ) (es : List CompiledMmioEvent) → length es ≡ n → events_from n (event_words es) ≡ es
events_back zero [] h = refl
events_back zero (e ∷ es) h = absurd (omega arith)
events_back (suc n) [] h = absurd (omega arith)
events_back (suc n) (e ∷ es) h = ap (λ (r : List CompiledMmioEvent). e ∷ r) (events_back n es (omega arith))

execution_fits : (e : PredicateTransducerExecution) → Fits (widths heading) (execution_values e) → fit (widths heading) 0 (execution_values e) ≡ true
execution_fits e f =
    let f2 = f.1 in let f3 = f2.1 in let f4 = f3.1 in let f5 = f4.1 in let f6 = f5.1 in
    yes (lt-ltb e.first_input 256 f.0) (yes (lt-ltb e.lane_count 65536 f2.0) (yes (lt-ltb e.return_value 4294967296 f3.0)
    (yes (lt-ltb e.symbolic_transitions 4294967296 f4.0) (yes (lt-ltb e.lane_value_operations 4294967296 f5.0)
    (yes (lt-ltb e.sparse_memory_bytes 4294967296 f6.0) (yes (lt-ltb e.event_count 256 f6.1.0) refl))))))

-- an execution's words, after those of an answer
heading_fits : (a : Result (Unit {0}) RecordRefusal) (e : PredicateTransducerExecution) (rest : List ℕ) → Fits (widths heading) (execution_values e)
    → fit (widths heading) heading_at (answer_words a ++ (execution_values e ++ rest)) ≡ true
heading_fits (Ok tt) e rest f = execution_fits e f
heading_fits (Err r) e rest f = execution_fits e f

answer_formed : (a : Result (Unit {0}) RecordRefusal) (e : PredicateTransducerExecution) (rest : List ℕ) → FitsAnswer a → Fits (widths heading) (execution_values e)
    → formed (answer_words a ++ (execution_values e ++ rest)) ≡ true
answer_formed (Ok tt) e rest f g = heading_fits (Ok tt) e rest g
answer_formed (Err r) e rest f g =
    yes (yes (lt-ltb r.number 256 f.0) (yes (lt-ltb r.role 256 f.1.0) (yes (lt-ltb r.steps 4294967296 f.1.1.0) refl)))
    (heading_fits (Err r) e rest g)

picked : (b : Bool) (x y : RecordOutcome) → b ≡ true → cond b x y ≡ x
picked true x y e = refl
picked false x y e = let z : ◌≡◌ {A = ℕ} 0 1 = cc in absurd (omega arith)

back_by : (a : Result (Unit {0}) RecordRefusal) (e : PredicateTransducerExecution) (es : List CompiledMmioEvent)
    → FitsAnswer a → Fits (widths heading) (execution_values e) → length es ≡ max_events
    → outcome_from (answer_words a ++ (execution_values e ++ event_words es)) ≡ record { answer = a; execution = e; events = es }
back_by (Ok tt) e es f g h =
    picked (formed (answer_words (Ok tt) ++ (execution_values e ++ event_words es))) _ _ (answer_formed (Ok tt) e (event_words es) f g)
    ∙ ap (λ (x : List CompiledMmioEvent). record { answer = (Ok tt); execution = e; events = x }) (events_back max_events es h)
back_by (Err r) e es f g h =
    picked (formed (answer_words (Err r) ++ (execution_values e ++ event_words es))) _ _ (answer_formed (Err r) e (event_words es) f g)
    ∙ ap (λ (x : List CompiledMmioEvent). record { answer = Err r; execution = e; events = x }) (events_back max_events es h)

pub words_back : WordsBack
words_back o f = back_by o.answer o.execution o.events f.answer f.execution f.events

-- ---- read, then written
no_execution_fits : Fits (widths heading) (execution_values no_execution)
no_execution_fits = (omega arith, (omega arith, (omega arith, (omega arith, (omega arith, (omega arith, (omega arith, tt)))))))

module _ (e : PredicateTransducerExecution) (es : List CompiledMmioEvent) (ss : List PredicateControlStep)
    (f : FitsRecord (accepted e es ss)) (v : valid (accepted e es ss) ≡ true) where
  accepted_fits : (b : Bool) → cond {A = Said} b done (refuses 14) ≡ done → FitsTypes (cond b (accepted_outcome e es) no_outcome)
  accepted_fits true d = record {
    answer = tt;
    execution = f.0;
    events =
        let r = rules e es ss v in
        omega (arith, few_events e r.0, r.1, length-append es (drop (length es) no_events), length-drop (length es) no_events);
  }
  accepted_fits false d = let z : ◌≡◌ {A = ℕ} 0 1 = cc in absurd (omega arith)

read_fits : (x : Record) (n : ℕ) → FitsRecord x → valid x ≡ true → read_answer (some x) n ≡ done → FitsTypes (read_outcome (some x) n)
read_fits (refused r) n f v d = record { answer = f; execution = no_execution_fits; events = refl }
read_fits (accepted e es ss) n f v d = accepted_fits e es ss f v (leb (e.symbolic_transitions * entry_bytes) n) d

-- 0 is the answer only where the record was read
done_by : (b : Bool) → 0 ≡ code (cond b done (refuses 14)) → cond {A = Said} b done (refuses 14) ≡ done
done_by true e = refl
done_by false e = absurd (omega arith)

is_done : (x : Record) (n : ℕ) → 0 ≡ code (read_answer (some x) n) → read_answer (some x) n ≡ done
is_done (refused f) n e = refl
is_done (accepted e es ss) n q = done_by (leb (e.symbolic_transitions * entry_bytes) n) q

-- what lane_write_record is given and leaves, after a record's bytes were read
record Rewriting : Type 0 where
  bs : List ℕ
  t : List ℕ
  ws : List ℕ
  t' : List ℕ
  ws' : List ℕ
  all_bytes : AllBytes bs
  out : List ℕ
  r : ℕ
  out' : List ℕ
  written : ℕ
  room : length bs ≤ length out
  writes : WritesWords ws' t' out r out' written

module _ (c : Rewriting) where
  abbrev Same : Type 0
  Same = (c.r ≡ 0) × (c.written ≡ length c.bs) × (c.out' ≡ over c.bs c.out)

  again : (x : Record) → decode_record c.bs ≡ some x → ReadsWords (some x) c.t c.ws 0 c.t' c.ws' → Same
  again x e h =
      let n : ℕ = length c.t in
      let o : RecordOutcome = read_outcome (some x) n in
      let s = decode_same c.bs c.all_bytes x e in
      let d = is_done x n h.answer in
      let back : outcome_from c.ws' ≡ o =
      ap outcome_from (h.outcome ∙ ap (λ (a : Said). words_after a o c.ws) d) ∙ words_back o (read_fits x n s.fits s.rules d) in
      let g : given (outcome_from c.ws') c.t' ≡ given o (read_trace (some x) c.t) =
      ap (λ (y : RecordOutcome). given y c.t') back ∙ ap (λ (u : List ℕ). given o u) h.trace in
      let y = rw e at (rewritten c.bs c.t c.all_bytes (rw e d) c.out c.room) in
      let w = c.writes in
      let said : write_said w.answer ≡ wrote (length c.bs) =
      w.held.answer ∙ ap (λ (q : Option Record). write_answer q (length c.out)) g ∙ y.0 in
      (w.code_is ∙ ap code said, w.count_is ∙ ap count said, w.held.output ∙ ap (λ (q : Option Record). write_output q c.out) g ∙ y.1)

  again_by : (q : Option Record) → decode_record c.bs ≡ q → ReadsWords q c.t c.ws 0 c.t' c.ws' → Same
  again_by none e h = let z : ◌≡◌ {A = ℕ} 0 15 = h.answer in absurd (omega arith)
  again_by (some x) e h = again x e h

pub rewrites : Rewrites
rewrites bs t ws t' ws' b h out r out' written l w =
    again_by
    (record {
      bs = bs;
      t = t;
      ws = ws;
      t' = t';
      ws' = ws';
      all_bytes = b;
      out = out;
      r = r;
      out' = out';
      written = written;
      room = l;
      writes = w;
    })
    (decode_record bs) refl h
