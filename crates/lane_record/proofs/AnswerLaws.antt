-- From what the parts of the reader and the writer ensure to what the whole answers and leaves. Assumes nothing.
use Rattle.std.specs.Prelude.{Err, Ok}
use mathlib.Core.Path.{◌≡◌, refl, ap, sym, ◌∙◌, subst}
use mathlib.Core.Bool.{Bool, true, false, cond, ◌&&◌, and-false}
use mathlib.Core.Option.{Option, none, some}
use mathlib.Core.List.{List, [], ◌∷◌, ◌++◌, map, append_assoc}
use Prim.Native.Nat.{ℕ, ◌+◌, ◌*◌, ◌≤◌, ◌<◌}
use native.Mathlib.Omega.{arith}
use lib.Dec.{eqb, leb}
use lib.ListN.{length, get_or, take, drop, length-append}
use lib.Seq.{sets, length-take-le, take-append_seam}
use borrow.Author.Tests.{eq-eqb, ne_eqb, leb-true, le-leb, lt-leb}
use Rattle.little_endian.specs.Number.{AllBytes}
use Rattle.little_endian.specs.Lent.{over}
use Rattle.little_endian.proofs.SetLaws.{sets_append, sets_over}
use Rattle.predicate_trace.specs.declared.PredicateControlStep.{PredicateControlStep}
use Rattle.predicate_answer.specs.declared.CompiledMmioEvent.{CompiledMmioEvent}
use Rattle.predicate_answer.specs.declared.PredicateTransducerExecution.{PredicateTransducerExecution}
use Rattle.predicate_answer.specs.Blank.{no_events, max_events}
use Rattle.predicate_semantics.specs.Program.{stop}
use Rattle.predicate_trace.specs.Trace.{entry_bytes, step_values, trace_bytes, steps_at}
use Rattle.predicate_trace.proofs.TraceLaws.{length_trace}
use Rattle.predicate_answer.specs.declared.RecordRefusal.{RecordRefusal}
use Rattle.predicate_answer.specs.declared.RecordOutcome.{RecordOutcome}
use Rattle.predicate_answer.specs.Outcome.{refused_outcome}
use Rattle.lane_record.specs.declared.ReadError.TheVariants as read
use Rattle.lane_record.specs.declared.WriteError.TheVariants as write
use Rattle.lane_record.specs.Format.{heading, event, step, refusal, kind_byte, size, item, items, Record, accepted, refused, execution_values, event_values, encode, FitsRecord}
use Rattle.lane_record.specs.Rules.{execution_valid, linked, refusal_valid, valid}
use Rattle.lane_record.specs.Decode.{execution_at, events_at, refusal_at, steps_from, accepted_at, accepted_form, ruled, refused_in, accepted_in, decode_record}
use Rattle.lane_record.specs.Answers.{Said, wrote, refuses, Reads, Exact, accepted_given, given_accepted, Writes}
use Rattle.lane_record.proofs.TestLaws.{both, always}
use Rattle.lane_record.proofs.DecodeLaws.{length_events_at, length_steps_at, decode_encode, rules, form, decode_same, decode_only}

few_cases : (e : PredicateTransducerExecution) (w : Bool) → leb e.event_count max_events ≡ w → execution_valid e ≡ true → e.event_count ≤ max_events
few_cases e true p v = leb-true _ _ p
few_cases e false p v = let h : false ≡ true = rw (p, and-false) at v in let z : ◌≡◌ {A = ℕ} 0 1 = cc in absurd (omega arith)

pub few_events : (e : PredicateTransducerExecution) → execution_valid e ≡ true → e.event_count ≤ max_events
few_events e v = few_cases e (leb e.event_count max_events) refl v

-- ---- lengths
length_events : (es : List CompiledMmioEvent) → length (items event (map event_values es)) ≡ length es * size event
length_events [] = refl
length_events (e ∷ es) = omega (arith, length_events es)

length_steps : (ss : List PredicateControlStep) → length (items step (map step_values ss)) ≡ length ss * size step
length_steps [] = refl
length_steps (s ∷ ss) = omega (arith, length_steps ss)

pub length_encode : (e : PredicateTransducerExecution) (es : List CompiledMmioEvent) (ss : List PredicateControlStep)
    → length (encode (accepted e es ss)) ≡ size heading + length es * size event + length ss * size step
length_encode e es ss =
    omega (arith, length-append (items event (map event_values es)) (items step (map step_values ss)), length_events es, length_steps ss)

-- ---- the record that bytes are
module _ (bs : List ℕ) (f : RecordRefusal) (ef : f ≡ refusal_at bs) where
  pub refused_in_law : length bs ≡ size refusal → refusal_valid f ≡ true → refused_in bs ≡ some (refused f)
  refused_in_law l v =
      ap (λ (x : RecordRefusal). ruled (eqb (length bs) (size refusal) && refusal_valid x) (refused x)) (sym ef) ∙ rw (eq-eqb _ _ l, v)

  pub refused_out : refusal_valid f ≡ false → refused_in bs ≡ none
  refused_out v =
      ap (λ (x : RecordRefusal). ruled (eqb (length bs) (size refusal) && refusal_valid x) (refused x)) (sym ef) ∙ rw (v, and-false)

pub refused_long : (bs : List ℕ) → (length bs ≡ size refusal → ⊥) → refused_in bs ≡ none
refused_long bs h = rw (ne_eqb _ _ h)

module _ (e : PredicateTransducerExecution) (bs : List ℕ) where
  abbrev steps_in : List PredicateControlStep
  steps_in = steps_at 1 e.symbolic_transitions (drop (steps_from e) bs)

  -- the rules but those that hold of what is read, whatever the bytes
  pub valid_linked : execution_valid e ≡ true → linked stop steps_in ≡ valid (accepted_at e bs)
  valid_linked v =
      sym (always (execution_valid e) (linked stop steps_in)
      (eq-eqb _ _ (length_events_at e.event_count (drop (size heading) bs))) (eq-eqb _ _ (length_steps_at 1 e.symbolic_transitions (drop (steps_from e) bs)))
      ∙ ap (λ (w : Bool). w && linked stop steps_in) v)

  accepted_out : (accepted_form e bs && valid (accepted_at e bs)) ≡ false → accepted_in e bs ≡ none
  accepted_out w = ap (λ (t : Bool). ruled t (accepted_at e bs)) w

  accepted_in_law : (accepted_form e bs && valid (accepted_at e bs)) ≡ true → accepted_in e bs ≡ some (accepted_at e bs)
  accepted_in_law w = ap (λ (t : Bool). ruled t (accepted_at e bs)) w

-- ---- what the reader answers
module _ (q : Option Record) (t : List ℕ) where
  pub reads_broken : q ≡ none → Reads q t (Err read.RulesBroken) t
  reads_broken p = rw p (record { answer = refl; outcome = tt; trace = refl })

  pub reads_refused : {o : RecordOutcome} (f : RecordRefusal) → q ≡ some (refused f) → o ≡ refused_outcome f → Reads q t (Ok o) t
  reads_refused f p e = rw p (record { answer = refl; outcome = e; trace = refl })

-- where they fail, 15; where they pass and the trace is short, 14
module _ (e : PredicateTransducerExecution) (bs : List ℕ) where
  pub reads_not : (t : List ℕ) → (accepted_form e bs && valid (accepted_at e bs)) ≡ false → Reads (accepted_in e bs) t (Err read.RulesBroken) t
  reads_not t w = reads_broken (accepted_in e bs) t (accepted_out e bs w)

  pub reads_short : (t : List ℕ) → (accepted_form e bs && valid (accepted_at e bs)) ≡ true → length t < e.symbolic_transitions * entry_bytes
      → Reads (accepted_in e bs) t (Err read.TraceTooShort) t
  reads_short t w l = rw (accepted_in_law e bs w) (record { answer = rw (lt-leb _ _ l); outcome = tt; trace = rw (lt-leb _ _ l) })

-- where the tests of an accepted record pass
module _ (e : PredicateTransducerExecution) (bs : List ℕ) (w : (accepted_form e bs && valid (accepted_at e bs)) ≡ true) where
  parts : (accepted_form e bs ≡ true) × (valid (accepted_at e bs) ≡ true)
  parts = both (accepted_form e bs) (valid (accepted_at e bs)) w

  pub exact_length : length bs ≡ steps_from e + e.symbolic_transitions * size step
  exact_length = (form e bs parts.0).exact

  pub events_fit : e.event_count ≤ max_events
  events_fit = few_events e (rules e (events_at e.event_count (drop (size heading) bs)) (steps_in e bs) parts.1).0

  pub reads_done : (t : List ℕ) {t' : List ℕ} {list : List CompiledMmioEvent} → e.symbolic_transitions * entry_bytes ≤ length t
      → list ≡ sets no_events 0 (events_at e.event_count (drop (size heading) bs)) → t' ≡ sets t 0 (trace_bytes (steps_in e bs))
      → Reads (accepted_in e bs) t (Ok (record { answer = (Ok tt); execution = e; events = list })) t'
  reads_done t l p q =
      let m : length (events_at e.event_count (drop (size heading) bs)) ≤ max_events = rw length_events_at events_fit in
      let n : length (trace_bytes (steps_in e bs)) ≤ length t = rw (length_trace, length_steps_at) l in
      let p' = p ∙ sets_over (events_at e.event_count (drop (size heading) bs)) no_events m in
      rw (accepted_in_law e bs w)
      (record { answer = rw (le-leb _ _ l); outcome = rw (le-leb _ _ l, p'); trace = rw (le-leb _ _ l) (q ∙ sets_over (trace_bytes (steps_in e bs)) t n) })

-- the two kinds of record, by the first byte
module _ (bs : List ℕ) where
  pub decode_refused : get_or bs 0 0 ≡ kind_byte refusal → decode_record bs ≡ refused_in bs
  unfolding decode_record
  decode_refused h = rw (eq-eqb _ _ h)

  pub decode_accepted : (get_or bs 0 0 ≡ kind_byte refusal → ⊥) → decode_record bs ≡ accepted_in (execution_at bs) bs
  unfolding decode_record
  decode_accepted h = rw (ne_eqb _ _ h)

  pub exact : AllBytes bs → Exact bs
  exact b = record { only_records = λ x e. let s = decode_same bs b x e in (s.bytes, s.rules, s.fits); every_record = decode_only bs }

-- ---- what the writer answers
module _ (q : Option Record) (out : List ℕ) where
  pub writes_broken : q ≡ none → Writes q out (Err write.RulesBroken) out
  writes_broken p = rw p (record { answer = refl; output = refl; back = λ x e. let z : ◌≡◌ {A = ℕ} 0 1 = cc in absurd (omega arith) })

  module _ (x : Record) (p : q ≡ some x) where
    same : (y : Record) → some x ≡ some y → x ≡ y
    same y e = cc

    pub writes_full : length out < length (encode x) → Writes q out (Err write.OutputTooShort) out
    writes_full l =
        let n : leb (length (encode x)) (length out) ≡ false = lt-leb _ _ l in
        rw p
        (record {
          answer = ap (λ (t : Bool). cond {A = Said} t (wrote (length (encode x))) (refuses 16)) (sym n);
          output = ap (λ (t : Bool). cond t (over (encode x) out) out) (sym n);
          back = λ y e m. absurd (omega (arith, ap (λ (z : Record). length (encode z)) (same y e)));
        })

    pub writes_done : {out' : List ℕ} {n : ℕ} → n ≡ length (encode x) → length (encode x) ≤ length out → (valid x ≡ true) × FitsRecord x → out' ≡ over (encode x) out
        → Writes q out (Ok n) out'
    writes_done {out'} {n} en l f o =
        let m : leb (length (encode x)) (length out) ≡ true = le-leb _ _ l in
        rw p
        (record {
          answer = ap wrote en ∙ ap (λ (t : Bool). cond {A = Said} t (wrote (length (encode x))) (refuses 16)) (sym m);
          output = o ∙ ap (λ (t : Bool). cond t (over (encode x) out) out) (sym m);
          back = λ y e k.
              subst (λ (z : Record). decode_record (take (length (encode z)) out') ≡ some z) (same y e)
              (ap (λ (z : List ℕ). decode_record (take (length (encode x)) z)) o
              ∙ ap decode_record (take-append_seam (encode x) (drop (length (encode x)) out)) ∙ decode_encode x f.1 f.0);
        })

-- ---- the record that a result is
module _ (e : PredicateTransducerExecution) (es : List CompiledMmioEvent) (t : List ℕ) (len : length es ≡ max_events) where
  abbrev steps_given : List PredicateControlStep
  steps_given = steps_at 0 e.symbolic_transitions t

  abbrev tests : Bool
  tests = leb (e.symbolic_transitions * entry_bytes) (length t) && (execution_valid e && linked stop steps_given)

  events_taken : execution_valid e ≡ true → length (take e.event_count es) ≡ e.event_count
  events_taken v = length-take-le e.event_count es (omega (arith, few_events e v))

  -- the tests in the code's order
  valid_given : (w : Bool) → execution_valid e ≡ w → (execution_valid e && linked stop steps_given) ≡ valid (accepted_given e es t)
  valid_given false v = rw v
  valid_given true v =
      sym (always (execution_valid e) (linked stop steps_given)
      (eq-eqb _ _ (events_taken v)) (eq-eqb _ _ (length_steps_at 0 e.symbolic_transitions t)))

  given_is : (w : Bool) → tests ≡ w → given_accepted e es t ≡ ruled w (accepted_given e es t)
  given_is w h =
      ap (λ (u : Bool). ruled u (accepted_given e es t))
      (ap (λ (u : Bool). leb (e.symbolic_transitions * entry_bytes) (length t) && u) (sym (valid_given (execution_valid e) refl)) ∙ h)

  pub given_out : tests ≡ false → given_accepted e es t ≡ none
  given_out h = given_is false h

  pub given_in : tests ≡ true → given_accepted e es t ≡ some (accepted_given e es t)
  given_in h = given_is true h

  -- what the tests say when they pass
  pub record Passed : Type 0 where
    pub enough : e.symbolic_transitions * entry_bytes ≤ length t
    pub few : e.event_count ≤ max_events
    pub valid_record : valid (accepted_given e es t) ≡ true
    pub long : steps_from e + e.symbolic_transitions * size step ≡ length (encode (accepted_given e es t))

  pub passed : tests ≡ true → Passed
  passed h =
      let u = both (leb (e.symbolic_transitions * entry_bytes) (length t)) (execution_valid e && linked stop steps_given) h in
      let v = (both (execution_valid e) (linked stop steps_given) u.1).0 in
      record {
        enough = leb-true _ _ u.0;
        few = few_events e v;
        valid_record = sym (valid_given true v) ∙ u.1;
        long = sym (length_encode e (take e.event_count es) steps_given ∙ rw (events_taken v, length_steps_at 0 e.symbolic_transitions t));
      }

  -- the three parts one after another
  pub record Parts (out o1 o2 o3 : List ℕ) : Type 0 where
    pub headed : o1 ≡ sets out 0 (item heading (execution_values e))
    pub listed : o2 ≡ sets o1 (size heading) (items event (map event_values (take e.event_count es)))
    pub traced : o3 ≡ sets o2 (steps_from e) (items step (map step_values steps_given))

  pub written : {out o1 o2 o3 : List ℕ} → Passed → steps_from e + e.symbolic_transitions * size step ≤ length out → Parts out o1 o2 o3
      → o3 ≡ over (encode (accepted_given e es t)) out
  written {out} {o1} {o2} {o3} f l p =
      let H : List ℕ = item heading (execution_values e) in
      let E : List ℕ = items event (map event_values (take e.event_count es)) in
      let S : List ℕ = items step (map step_values steps_given) in
      let n : 0 + length (H ++ E) ≡ steps_from e = omega (arith, length_events (take e.event_count es), length-take-le e.event_count es (omega (arith, f.few))) in
      let q' : o2 ≡ sets out 0 (H ++ E) = p.listed ∙ ap (λ (x : List ℕ). sets x (size heading) E) p.headed ∙ sets_append H E out 0 in
      p.traced
      ∙ ap (λ (x : List ℕ). sets x (steps_from e) S) q'
      ∙ ap (λ (k : ℕ). sets (sets out 0 (H ++ E)) k S) (sym n)
      ∙ sets_append (H ++ E) S out 0
      ∙ ap (sets out 0) (append_assoc H E S)
      ∙ sets_over (encode (accepted_given e es t)) out (omega (arith, f.long))
