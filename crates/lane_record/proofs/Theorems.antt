-- What is written reads back as itself, and what is read is written again byte for byte. Assumes nothing.
use Rattle.std.specs.Prelude.{Err, Ok, Result}
use mathlib.Core.Path.{◌≡◌, refl, ap, ◌∙◌, subst}
use mathlib.Core.Bool.{Bool, true, false, cond, ◌&&◌}
use mathlib.Core.Option.{Option, none, some}
use mathlib.Core.List.{List, [], ◌∷◌, ◌++◌, map}
use Prim.Native.Nat.{ℕ, zero, suc, ◌*◌, ◌≤◌}
use native.Mathlib.Omega.{arith}
use lib.Dec.{leb}
use lib.ListN.{length, take, drop, length-append}
use lib.Seq.{length-take-le, take-append_seam}
use borrow.Author.Tests.{leb-true, le-leb}
use Rattle.little_endian.specs.Number.{AllBytes}
use Rattle.little_endian.specs.Pack.{AllFit}
use Rattle.little_endian.specs.Lent.{over}
use Rattle.little_endian.proofs.PackLaws.{Led, packs_unpacks}
use Rattle.predicate_trace.specs.declared.PredicateControlStep.{PredicateControlStep}
use Rattle.predicate_answer.specs.declared.CompiledMmioEvent.{CompiledMmioEvent}
use Rattle.predicate_answer.specs.declared.PredicateTransducerExecution.{PredicateTransducerExecution}
use Rattle.predicate_answer.specs.Blank.{no_events}
use Rattle.predicate_trace.specs.Trace.{entry_bytes, step_widths, step_values, trace_bytes, steps_at}
use Rattle.predicate_trace.proofs.TraceLaws.{length_trace, trace_back}
use Rattle.predicate_answer.specs.declared.RecordRefusal.{RecordRefusal}
use Rattle.predicate_answer.specs.declared.RecordOutcome.{RecordOutcome}
use Rattle.lane_record.specs.Format.{step, widths, Record, accepted, refused, encode, FitsRecord}
use Rattle.lane_record.specs.Rules.{link, linked, valid}
use Rattle.lane_record.specs.Decode.{ruled, decode_record}
use Rattle.lane_record.specs.Answers.{Said, done, wrote, refuses, read_answer, read_outcome, read_trace, accepted_given, given_accepted, given_refused, given_by, given, write_answer, write_output}
use Rattle.predicate_answer.specs.Outcome.{no_outcome, refused_outcome, accepted_outcome}
use Rattle.lane_record.specs.RoundTrip.{what_counts_by, entries_by, FitsBy, ReadBack, Rewritten}
use Rattle.lane_record.proofs.TestLaws.{both, yes}
use Rattle.lane_record.proofs.DecodeLaws.{ruled_some, values_steps, steps_fit, rules, decode_encode, decode_same}

-- ---- entries of a trace
led_nil : (z n : ℕ) (bs : List ℕ) → Led [] z n bs
led_nil z zero bs = tt
led_nil z (suc n) bs = (refl, led_nil z n (drop z bs))

-- entries read and written again
entries_same : (n : ℕ) (t : List ℕ) → AllBytes t → n * entry_bytes ≤ length t → trace_bytes (steps_at 0 n t) ≡ take (n * entry_bytes) t
entries_same n t b l = rw (values_steps 0 n t) (packs_unpacks [] step_widths n t b l (led_nil entry_bytes n t))

-- an accepted result whose steps stand in the trace is their record, if that keeps the rules
pub given_trace : (e : PredicateTransducerExecution) (es : List CompiledMmioEvent) (ss : List PredicateControlStep) (t : List ℕ)
    → AllFit (widths step) (map step_values ss) → valid (accepted e (take e.event_count es) ss) ≡ true
    → given_accepted e es (over (trace_bytes ss) t) ≡ some (accepted e (take e.event_count es) ss)
given_trace e es ss t f v =
    let T : List ℕ = over (trace_bytes ss) t in
    let n = (rules e (take e.event_count es) ss v).2 in
    let same : accepted_given e es T ≡ accepted e (take e.event_count es) ss =
    ap (λ (x : List PredicateControlStep). accepted e (take e.event_count es) x) (rw (← n) (trace_back ss t f)) in
    let l : e.symbolic_transitions * entry_bytes ≤ length T = omega (arith, length-append (trace_bytes ss) (drop (length (trace_bytes ss)) t), length_trace ss, n) in
    ap (λ (x : Record). ruled (leb (e.symbolic_transitions * entry_bytes) (length T) && valid x) x) same
    ∙ ap (λ (w : Bool). ruled w (accepted e (take e.event_count es) ss)) (yes (le-leb _ _ l) v)

-- a trace that ends at a step's counter stays linked when the step is added
pub linked_snoc : (end : ℕ) (ss : List PredicateControlStep) (s : PredicateControlStep) → linked s.program_counter ss ≡ true → link s end ≡ true
    → linked end (ss ++ (s ∷ [])) ≡ true
linked_snoc end [] s l k = yes k refl
linked_snoc end (x ∷ []) s l k = yes (both (link x s.program_counter) true l).0 (yes k refl)
linked_snoc end (x ∷ y ∷ ss) s l k =
    let b = both (link x y.program_counter) (linked s.program_counter (y ∷ ss)) l in
    yes b.0 (linked_snoc end (y ∷ ss) s b.1 k)

-- ---- written, then read
-- what an accepted outcome and a trace that keep the rules stand for
given_accepted_law : (e : PredicateTransducerExecution) (es : List CompiledMmioEvent) (t : List ℕ) (x : Record) → given_accepted e es t ≡ some x
    → (e.symbolic_transitions * entry_bytes ≤ length t) × (valid (accepted_given e es t) ≡ true) × (accepted_given e es t ≡ x)
given_accepted_law e es t x g =
    let r : Record = accepted_given e es t in
    let u = ruled_some (leb (e.symbolic_transitions * entry_bytes) (length t) && valid r) r x g in
    let w = both (leb (e.symbolic_transitions * entry_bytes) (length t)) (valid r) u.0 in
    (leb-true _ _ w.0, w.1, u.1)

given_refused_law : (f : RecordRefusal) (x : Record) → given_refused f ≡ some x → (valid (refused f) ≡ true) × (refused f ≡ x)
given_refused_law f x g = ruled_some (valid (refused f)) (refused f) x g

given_valid : (a : Result (Unit {0}) RecordRefusal) (e : PredicateTransducerExecution) (es : List CompiledMmioEvent) (t : List ℕ) (x : Record) → given_by a e es t ≡ some x
    → valid x ≡ true
given_valid (Ok tt) e es t x g = let u = given_accepted_law e es t x g in subst (λ (y : Record). valid y ≡ true) u.2 u.1
given_valid (Err f) e es t x g = let u = given_refused_law f x g in subst (λ (y : Record). valid y ≡ true) u.1 u.0

given_fits : (a : Result (Unit {0}) RecordRefusal) (e : PredicateTransducerExecution) (es : List CompiledMmioEvent) (t : List ℕ) (x : Record) → given_by a e es t ≡ some x
    → FitsBy a e es → AllBytes t → FitsRecord x
given_fits (Ok tt) e es t x g f b =
    let u = given_accepted_law e es t x g in subst FitsRecord u.2 (f.0, f.1, steps_fit 0 e.symbolic_transitions t b u.0)
given_fits (Err r) e es t x g f b = subst FitsRecord (given_refused_law r x g).1 f

-- the bytes that the writer wrote are those of the record that it was given
wrote_bytes : (x : Record) (out : List ℕ) (n : ℕ) (w : Bool) → cond {A = Said} w (wrote (length (encode x))) (refuses 16) ≡ wrote n
    → take n (cond w (over (encode x) out) out) ≡ encode x
wrote_bytes x out n true e = let m : length (encode x) ≡ n = cc in rw (← m) (take-append_seam (encode x) (drop (length (encode x)) out))
wrote_bytes x out n false e = let z : ◌≡◌ {A = ℕ} 0 1 = cc in absurd (omega arith)

wrote_given : (q : Option Record) (out : List ℕ) (n : ℕ) → write_answer q (length out) ≡ wrote n
    → (x : Record) × (q ≡ some x) × (take n (write_output q out) ≡ encode x)
wrote_given none out n e = let z : ◌≡◌ {A = ℕ} 0 1 = cc in absurd (omega arith)
wrote_given (some x) out n e = (x, refl, wrote_bytes x out n (leb (length (encode x)) (length out)) e)

-- of that record the reader gives what counts of the outcome, and the entries
given_read : (a : Result (Unit {0}) RecordRefusal) (e : PredicateTransducerExecution) (es : List CompiledMmioEvent) (t t2 : List ℕ) {x : Record} → given_by a e es t ≡ some x
    → AllBytes t → length (entries_by a e t) ≤ length t2
    → (read_answer (some x) (length t2) ≡ done) × (read_outcome (some x) (length t2) ≡ what_counts_by a e es) × (read_trace (some x) t2 ≡ over (entries_by a e t) t2)
given_read (Ok tt) e es t t2 {x} g b l =
    let u = given_accepted_law e es t x g in
    let n = le-leb (e.symbolic_transitions * entry_bytes) (length t2) (omega (arith, length-take-le (e.symbolic_transitions * entry_bytes) t u.0)) in
    subst (λ (y : Record).
    (read_answer (some y) (length t2) ≡ done)
    × (read_outcome (some y) (length t2) ≡ accepted_outcome e (take e.event_count es))
    × (read_trace (some y) t2 ≡ over (take (e.symbolic_transitions * entry_bytes) t) t2))
    u.2 (rw n, rw n, rw (n, entries_same e.symbolic_transitions t b u.0))
given_read (Err f) e es t t2 {x} g b l =
    subst (λ (y : Record).
    (read_answer (some y) (length t2) ≡ done) × (read_outcome (some y) (length t2) ≡ refused_outcome f) × (read_trace (some y) t2 ≡ t2))
    (given_refused_law f x g).1 (refl, refl, refl)

pub read_back : ReadBack
read_back o t out f b n w t2 l =
    let s = wrote_given (given o t) out n w in
    let v = given_valid o.answer o.execution o.events t s.0 s.1 in
    let d : decode_record (take n (write_output (given o t) out)) ≡ some s.0 =
    ap decode_record s.2 ∙ decode_encode s.0 (given_fits o.answer o.execution o.events t s.0 s.1 f b) v in
    rw d (given_read o.answer o.execution o.events t t2 s.1 b l)

-- ---- read, then written
module _ (e : PredicateTransducerExecution) (es : List CompiledMmioEvent) (ss : List PredicateControlStep) (t : List ℕ)
    (f : FitsRecord (accepted e es ss)) (v : valid (accepted e es ss) ≡ true) where
  given_again : given_accepted e (over es no_events) (over (trace_bytes ss) t) ≡ some (accepted e es ss)
  given_again =
      let p : take e.event_count (over es no_events) ≡ es = rw (← (rules e es ss v).1) (take-append_seam es (drop (length es) no_events)) in
      subst (λ (x : List CompiledMmioEvent). valid (accepted e x ss) ≡ true → given_accepted e (over es no_events) (over (trace_bytes ss) t) ≡ some (accepted e x ss)) p
      (given_trace e (over es no_events) ss t f.2) v

  again : (w : Bool) → cond {A = Said} w done (refuses 14) ≡ done
      → given (cond {A = RecordOutcome} w (accepted_outcome e es) no_outcome) (cond w (over (trace_bytes ss) t) t) ≡ some (accepted e es ss)
  again true d = given_again
  again false d = let z : ◌≡◌ {A = ℕ} 0 1 = cc in absurd (omega arith)

-- what was read stands for the record that was read
read_write : (bs t : List ℕ) (x : Record) → AllBytes bs → decode_record bs ≡ some x → read_answer (some x) (length t) ≡ done
    → given (read_outcome (some x) (length t)) (read_trace (some x) t) ≡ some x
read_write bs t (refused f) b e d = let s = decode_same bs b (refused f) e in rw s.rules
read_write bs t (accepted h es ss) b e d =
    let s = decode_same bs b (accepted h es ss) e in again h es ss t s.fits s.rules (leb (h.symbolic_transitions * entry_bytes) (length t)) d

-- so it is written again byte for byte
record_rewritten : (bs t out : List ℕ) (x : Record) → AllBytes bs → decode_record bs ≡ some x → read_answer (some x) (length t) ≡ done → length bs ≤ length out
    → (write_answer (given (read_outcome (some x) (length t)) (read_trace (some x) t)) (length out) ≡ wrote (length bs))
    × (write_output (given (read_outcome (some x) (length t)) (read_trace (some x) t)) out ≡ over bs out)
record_rewritten bs t out x b e d l =
    let s = decode_same bs b x e in
    let g = read_write bs t x b e d in
    let n = le-leb (length bs) (length out) l in (
      ap (λ (q : Option Record). write_answer q (length out)) g
          ∙ ap (λ (y : List ℕ). cond {A = Said} (leb (length y) (length out)) (wrote (length y)) (refuses 16)) s.bytes
          ∙ ap (λ (w : Bool). cond {A = Said} w (wrote (length bs)) (refuses 16)) n,
      ap (λ (q : Option Record). write_output q out) g
          ∙ ap (λ (y : List ℕ). cond (leb (length y) (length out)) (over y out) out) s.bytes
          ∙ ap (λ (w : Bool). cond w (over bs out) out) n,
    )

-- bytes that the reader takes are a record
taken : (q : Option Record) (n : ℕ) → read_answer q n ≡ done → (x : Record) × (q ≡ some x)
taken none n d = let z : ◌≡◌ {A = ℕ} 0 1 = cc in absurd (omega arith)
taken (some x) n d = (x, refl)

pub rewritten : Rewritten
rewritten bs t b d out l =
    let s = taken (decode_record bs) (length t) d in
    let e = s.1 in
    rw e (record_rewritten bs t out s.0 b e (rw e at d) l)
