-- A record's bytes read back as the record; bytes that read as a record are its bytes, and its rules hold. Assumes nothing.
use mathlib.Core.Path.{◌≡◌, refl, ap, sym, ◌∙◌, subst}
use mathlib.Core.Bool.{Bool, true, false, cond, ◌&&◌}
use mathlib.Core.Option.{some}
use mathlib.Core.List.{List, [], ◌∷◌, ◌++◌, map, append_assoc, append-nil}
use Prim.Native.Nat.{ℕ, zero, suc, ◌+◌, ◌*◌, ◌≤◌, ◌<◌}
use native.Mathlib.Numerals.{one-add}
use native.Mathlib.Nat.{suc-mul}
use native.Mathlib.Omega.{arith}
use lib.Dec.{eqb}
use lib.ListN.{length, get_or, take, drop, length-append, length-drop, length-map}
use lib.Seq.{drop_at, take-add, drop-drop, take_all}
use borrow.Author.Tests.{eq-eqb, eqb-true}
use Rattle.little_endian.specs.Number.{AllBytes}
use Rattle.little_endian.specs.Pack.{unpack, unpacks, AllFit}
use Rattle.little_endian.proofs.NumberLaws.{below_drop}
use Rattle.little_endian.proofs.PackLaws.{Led, unpack_pack, pack_unpack, unpack_fits, length_packs, past_row, unpacks_packs, packs_unpacks, unpacks_fit, length_unpacks}
use Rattle.predicate_trace.specs.declared.PredicateControlStep.{PredicateControlStep}
use Rattle.predicate_answer.specs.declared.CompiledMmioEvent.{CompiledMmioEvent}
use Rattle.predicate_answer.specs.declared.PredicateTransducerExecution.{PredicateTransducerExecution}
use Rattle.predicate_semantics.specs.Program.{stop}
use Rattle.predicate_trace.specs.Trace.{entry_bytes, step_widths, step_values, step_of, steps_at}
use Rattle.predicate_trace.proofs.TraceLaws.{steps_values}
use Rattle.predicate_answer.specs.declared.RecordRefusal.{RecordRefusal}
use Rattle.lane_record.specs.Format.{Kind, heading, event, step, refusal, kind_byte, widths, size, item, items, Record, accepted, refused, execution_values, execution_from, event_values, event_from, refusal_values, refusal_from, encode, FitsRecord}
use Rattle.lane_record.specs.Rules.{execution_valid, linked, refusal_valid, valid}
use Rattle.lane_record.specs.Decode.{execution_at, events_at, refusal_at, steps_from, accepted_at, kinds_are, items_are, accepted_form, ruled, refused_in, accepted_in, decode_record}
use Rattle.lane_record.proofs.TestLaws.{both, yes}

-- ---- a record or none
pub ruled_some : (w : Bool) (r x : Record) → ruled w r ≡ some x → (w ≡ true) × (r ≡ x)
ruled_some true r x e = (refl, (cc))
ruled_some false r x e = let z : ◌≡◌ {A = ℕ} 0 1 = cc in absurd (omega arith)

-- ---- structs and their numbers
events_values : (es : List CompiledMmioEvent) → map event_from (map event_values es) ≡ es
events_values [] = refl
events_values (e ∷ es) = ap (λ (r : List CompiledMmioEvent). e ∷ r) (events_values es)

values_events : (n : ℕ) (bs : List ℕ) → map event_values (events_at n bs) ≡ unpacks 1 (widths event) n bs
values_events zero bs = refl
values_events (suc n) bs = ap (λ (r : List (List ℕ)). unpack (widths event) (drop 1 bs) ∷ r) (values_events n (drop (size event) bs))

pub values_steps : (p n : ℕ) (bs : List ℕ) → map step_values (steps_at p n bs) ≡ unpacks p step_widths n bs
values_steps p zero bs = refl
values_steps p (suc n) bs = ap (λ (r : List (List ℕ)). unpack step_widths (drop p bs) ∷ r) (values_steps p n (drop (p + entry_bytes) bs))

pub length_events_at : (n : ℕ) (bs : List ℕ) → length (events_at n bs) ≡ n
length_events_at n bs = length-map (unpacks 1 (widths event) n bs) event_from ∙ length_unpacks 1 (widths event) n bs

pub length_steps_at : (p n : ℕ) (bs : List ℕ) → length (steps_at p n bs) ≡ n
length_steps_at p n bs = length-map (unpacks p step_widths n bs) step_of ∙ length_unpacks p step_widths n bs

pub steps_fit : (p n : ℕ) (bs : List ℕ) → AllBytes bs → n * (p + entry_bytes) ≤ length bs → AllFit (widths step) (map step_values (steps_at p n bs))
steps_fit p n bs b h = subst (AllFit (widths step)) (sym (values_steps p n bs)) (unpacks_fit p step_widths n bs b h)

-- ---- items of one kind
module _ (k : Kind) where
  items_are_law : (vss : List (List ℕ)) (rest : List ℕ) → AllFit (widths k) vss → items_are k (length vss) (items k vss ++ rest) ≡ true
  items_are_law [] rest f = refl
  items_are_law (vs ∷ vss) rest f =
      rw (eq-eqb (kind_byte k) (kind_byte k) refl, append_assoc, past_row (kind_byte k ∷ []) (widths k) vs (items k vss ++ rest) f.0, items_are_law vss rest f.1)

  -- an item read and written again
  item_at : (bs : List ℕ) → AllBytes bs → size k ≤ length bs → get_or bs 0 0 ≡ kind_byte k → item k (unpack (widths k) (drop 1 bs)) ≡ take (size k) bs
  item_at [] h l e = absurd (omega arith)
  item_at (b ∷ bs) h l e = rw (pack_unpack (widths k) bs (λ i. h (suc i)) (omega arith), one-add, ← e)

first_led : (m : ℕ) (bs : List ℕ) → 0 < length bs → get_or bs 0 0 ≡ m → take 1 bs ≡ m ∷ []
first_led m [] h e = absurd (omega arith)
first_led m (b ∷ bs) h e = rw e

kinds_led : (m z n : ℕ) (bs : List ℕ) → 0 < z → n * z ≤ length bs → kinds_are m z n bs ≡ true → Led (m ∷ []) z n bs
kinds_led m z zero bs p l t = tt
kinds_led m z (suc n) bs p l t =
    let k : n * z + z ≤ length bs = rw suc-mul at l in
    let u = both (eqb (get_or bs 0 0) m) (kinds_are m z n (drop z bs)) t in
    (first_led m bs (omega arith) (eqb-true _ _ u.0), kinds_led m z n (drop z bs) p (simp length-drop (omega arith)) u.1)

-- ---- written, then read
-- what the rules say of an accepted record's parts
pub rules : (e : PredicateTransducerExecution) (es : List CompiledMmioEvent) (ss : List PredicateControlStep) → valid (accepted e es ss) ≡ true
    → (execution_valid e ≡ true) × (length es ≡ e.event_count) × (length ss ≡ e.symbolic_transitions)
rules e es ss v =
    let t3 = both _ (linked stop ss) v in
    let t2 = both _ (eqb (length ss) e.symbolic_transitions) t3.0 in
    let t1 = both (execution_valid e) (eqb (length es) e.event_count) t2.0 in
    (t1.0, eqb-true _ _ t1.1, eqb-true _ _ t2.1)

module _ (e : PredicateTransducerExecution) (es : List CompiledMmioEvent) (ss : List PredicateControlStep)
    (f : FitsRecord (accepted e es ss)) (v : valid (accepted e es ss) ≡ true) where
  abbrev B : List ℕ
  B = encode (accepted e es ss)

  abbrev E : List ℕ
  E = items event (map event_values es)

  abbrev S : List ℕ
  S = items step (map step_values ss)

  events_counted : length es ≡ e.event_count
  events_counted = (rules e es ss v).1

  steps_counted : length ss ≡ e.symbolic_transitions
  steps_counted = (rules e es ss v).2

  execution_back : execution_at B ≡ e
  execution_back = ap execution_from (unpack_pack (widths heading) (execution_values e) (E ++ S) f.0)

  long_events : length E ≡ e.event_count * size event
  long_events = length_packs (kind_byte event ∷ []) (widths event) (map event_values es) f.1 ∙ rw (length-map es event_values, events_counted)

  long_steps : length S ≡ e.symbolic_transitions * size step
  long_steps = length_packs (kind_byte step ∷ []) (widths step) (map step_values ss) f.2 ∙ rw (length-map ss step_values, steps_counted)

  past_events : drop (steps_from e) B ≡ S
  past_events = sym (drop-drop (e.event_count * size event) (size heading) B) ∙ drop_at E S (e.event_count * size event) long_events

  long : length B ≡ steps_from e + e.symbolic_transitions * size step
  long = omega (arith, length-append E S, long_events, long_steps)

  events_back : events_at e.event_count (drop (size heading) B) ≡ es
  events_back =
      rw (← events_counted, ← length-map es event_values) (ap (map event_from) (unpacks_packs (kind_byte event ∷ []) (widths event) (map event_values es) S f.1) ∙ events_values es)

  steps_in : steps_at 1 e.symbolic_transitions S ≡ ss
  steps_in =
      rw (← steps_counted, ← length-map ss step_values, ← append-nil S)
      (ap (map step_of) (unpacks_packs (kind_byte step ∷ []) (widths step) (map step_values ss) [] f.2) ∙ steps_values ss)

  same_record : accepted_at e B ≡ accepted e es ss
  same_record =
      ap (λ (x : List CompiledMmioEvent). accepted e x (steps_at 1 e.symbolic_transitions (drop (steps_from e) B))) events_back
      ∙ ap (λ (x : List PredicateControlStep). accepted e es x) (ap (steps_at 1 e.symbolic_transitions) past_events ∙ steps_in)

  events_are : items_are event e.event_count (drop (size heading) B) ≡ true
  events_are = rw (← events_counted, ← length-map es event_values) (items_are_law event (map event_values es) S f.1)

  steps_are : items_are step e.symbolic_transitions (drop (steps_from e) B) ≡ true
  steps_are =
      ap (items_are step e.symbolic_transitions) past_events
      ∙ rw (← steps_counted, ← length-map ss step_values, ← append-nil S) (items_are_law step (map step_values ss) [] f.2)

  formed : accepted_form e B ≡ true
  formed = yes (yes (yes (eq-eqb (length B) (steps_from e + e.symbolic_transitions * size step) long) refl) events_are) steps_are

  accepted_back : decode_record B ≡ some (accepted e es ss)
  unfolding decode_record
  accepted_back =
      ap (λ (x : PredicateTransducerExecution). accepted_in x B) execution_back
      ∙ ap (λ (x : Record). ruled (accepted_form e B && valid x) x) same_record
      ∙ ap (λ (t : Bool). ruled t (accepted e es ss)) (yes formed v)

refused_back : (f : RecordRefusal) → FitsRecord (refused f) → valid (refused f) ≡ true → decode_record (encode (refused f)) ≡ some (refused f)
unfolding decode_record
refused_back f fits v =
    ap (λ (x : RecordRefusal). ruled (valid (refused x)) (refused x)) (ap refusal_from (unpack_pack (widths refusal) (refusal_values f) [] fits))
    ∙ ap (λ (t : Bool). ruled t (refused f)) v

pub decode_encode : (x : Record) → FitsRecord x → valid x ≡ true → decode_record (encode x) ≡ some x
decode_encode (accepted e es ss) f v = accepted_back e es ss f v
decode_encode (refused r) f v = refused_back r f v

-- ---- read, then written
-- what the tests of an accepted record's form say
pub record Formed (e : PredicateTransducerExecution) (bs : List ℕ) : Type 0 where
  pub exact : length bs ≡ steps_from e + e.symbolic_transitions * size step
  pub kind : get_or bs 0 0 ≡ kind_byte heading
  pub events_are : items_are event e.event_count (drop (size heading) bs) ≡ true
  pub steps_are : items_are step e.symbolic_transitions (drop (steps_from e) bs) ≡ true

pub form : (e : PredicateTransducerExecution) (bs : List ℕ) → accepted_form e bs ≡ true → Formed e bs
form e bs f =
    let t3 = both _ (items_are step e.symbolic_transitions (drop (steps_from e) bs)) f in
    let t2 = both _ (items_are event e.event_count (drop (size heading) bs)) t3.0 in
    let t1 = both (eqb (length bs) (steps_from e + e.symbolic_transitions * size step)) (eqb (get_or bs 0 0) (kind_byte heading)) t2.0 in
    record { exact = eqb-true _ _ t1.0; kind = eqb-true _ _ t1.1; events_are = t2.1; steps_are = t3.1 }

three_parts : (x y z : ℕ) (bs : List ℕ) → length bs ≡ x + y + z → take x bs ++ (take y (drop x bs) ++ take z (drop (x + y) bs)) ≡ bs
three_parts x y z bs e =
    rw (← drop-drop y x bs, ← take-add y z (drop x bs), ← take-add x (y + z) bs) (take_all (x + (y + z)) bs (omega arith))

-- bytes that read as a record are that record's, which keeps the rules
pub record Same (bs : List ℕ) (x : Record) : Type 0 where
  pub bytes : encode x ≡ bs
  pub rules : valid x ≡ true
  pub fits : FitsRecord x

module _ (bs : List ℕ) (b : AllBytes bs) where
  accepted_same : accepted_form (execution_at bs) bs ≡ true → valid (accepted_at (execution_at bs) bs) ≡ true → Same bs (accepted_at (execution_at bs) bs)
  accepted_same t v =
      let g = form (execution_at bs) bs t in
      let n : ℕ = (execution_at bs).event_count in
      let s : ℕ = (execution_at bs).symbolic_transitions in
      let E : List ℕ = drop (size heading) bs in
      let S : List ℕ = drop (size heading + n * size event) bs in
      let lE : n * size event ≤ length E = simp length-drop (omega (arith, g.exact)) in
      let lS : s * size step ≤ length S = simp length-drop (omega (arith, g.exact)) in
      let bE : AllBytes E = below_drop (size heading) bs b in
      let bS : AllBytes S = below_drop (size heading + n * size event) bs b in
      let pE : items event (map event_values (events_at n E)) ≡ take (n * size event) E =
      ap (items event) (values_events n E) ∙ packs_unpacks (kind_byte event ∷ []) (widths event) n E bE lE (kinds_led (kind_byte event) (size event) n E (omega arith) lE g.events_are) in
      let pS : items step (map step_values (steps_at 1 s S)) ≡ take (s * size step) S =
      ap (items step) (values_steps 1 s S) ∙ packs_unpacks (kind_byte step ∷ []) step_widths s S bS lS (kinds_led (kind_byte step) (size step) s S (omega arith) lS g.steps_are) in
      let pH : item heading (execution_values (execution_at bs)) ≡ take (size heading) bs = item_at heading bs b (omega (arith, g.exact)) g.kind in
      record {
        bytes = ap (λ (x : List ℕ). x ++ (items event (map event_values (events_at n E)) ++ items step (map step_values (steps_at 1 s S)))) pH
            ∙ ap (λ (x : List ℕ). take (size heading) bs ++ (x ++ items step (map step_values (steps_at 1 s S)))) pE
            ∙ ap (λ (x : List ℕ). take (size heading) bs ++ (take (n * size event) E ++ x)) pS
            ∙ three_parts (size heading) (n * size event) (s * size step) bs g.exact;
        rules = v;
        fits = (
          unpack_fits (widths heading) (drop 1 bs) (below_drop 1 bs b) (simp length-drop (omega (arith, g.exact))),
          subst (AllFit (widths event)) (sym (values_events n E)) (unpacks_fit 1 (widths event) n E bE lE),
          steps_fit 1 s S bS lS,
        );
      }

  refused_same : get_or bs 0 0 ≡ kind_byte refusal → length bs ≡ size refusal → refusal_valid (refusal_at bs) ≡ true → Same bs (refused (refusal_at bs))
  refused_same m l v =
      record {
        bytes = item_at refusal bs b (omega arith) m ∙ take_all (size refusal) bs (omega arith);
        rules = v;
        fits = unpack_fits (widths refusal) (drop 1 bs) (below_drop 1 bs b) (simp length-drop (omega arith));
      }

  same_cases : (x : Record) (m : Bool) → eqb (get_or bs 0 0) (kind_byte refusal) ≡ m → cond m (refused_in bs) (accepted_in (execution_at bs) bs) ≡ some x → Same bs x
  same_cases x true p e =
      let u = ruled_some (eqb (length bs) (size refusal) && valid (refused (refusal_at bs))) (refused (refusal_at bs)) x e in
      let t = both (eqb (length bs) (size refusal)) (valid (refused (refusal_at bs))) u.0 in
      subst (Same bs) u.1 (refused_same (eqb-true _ _ p) (eqb-true _ _ t.0) t.1)
  same_cases x false p e =
      let u = ruled_some (accepted_form (execution_at bs) bs && valid (accepted_at (execution_at bs) bs)) (accepted_at (execution_at bs) bs) x e in
      let t = both (accepted_form (execution_at bs) bs) (valid (accepted_at (execution_at bs) bs)) u.0 in
      subst (Same bs) u.1 (accepted_same t.0 t.1)

  pub decode_same : (x : Record) → decode_record bs ≡ some x → Same bs x
  unfolding decode_record
  decode_same x e = same_cases x (eqb (get_or bs 0 0) (kind_byte refusal)) refl e

-- whatever they are, what they read as keeps the rules
pub decode_valid : (bs : List ℕ) (x : Record) → decode_record bs ≡ some x → valid x ≡ true
unfolding decode_record
decode_valid bs x e = go (eqb (get_or bs 0 0) (kind_byte refusal)) e
  where
    go : (m : Bool) → cond m (refused_in bs) (accepted_in (execution_at bs) bs) ≡ some x → valid x ≡ true
    go true e =
        let u = ruled_some (eqb (length bs) (size refusal) && valid (refused (refusal_at bs))) (refused (refusal_at bs)) x e in
        subst (λ (y : Record). valid y ≡ true) u.1 (both (eqb (length bs) (size refusal)) (valid (refused (refusal_at bs))) u.0).1
    go false e =
        let u = ruled_some (accepted_form (execution_at bs) bs && valid (accepted_at (execution_at bs) bs)) (accepted_at (execution_at bs) bs) x e in
        subst (λ (y : Record). valid y ≡ true) u.1 (both (accepted_form (execution_at bs) bs) (valid (accepted_at (execution_at bs) bs)) u.0).1

-- and the bytes of a record that keeps the rules read as it
pub decode_only : (bs : List ℕ) (x : Record) → encode x ≡ bs → valid x ≡ true → FitsRecord x → decode_record bs ≡ some x
decode_only bs x e v f = subst (λ (y : List ℕ). decode_record y ≡ some x) e (decode_encode x f v)
