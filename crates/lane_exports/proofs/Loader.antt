-- What a loader reads of the words is what a reader has of the record. Assumes nothing.
use mathlib.Core.Path.{◌≡◌, refl, sym, ap, ◌∙◌}
use mathlib.Core.Bool.{Bool, true, false}
use mathlib.Core.Option.{Option, none, some}
use mathlib.Core.List.{List, [], ◌∷◌}
use Prim.Native.Nat.{ℕ, zero, suc, ◌+◌, ◌*◌, ◌≤◌, ◌<◌}
use native.Mathlib.Omega.{arith}
use lib.Dec.{leb}
use lib.ListN.{length, take, drop, length-append, length-drop}
use Rattle.little_endian.specs.Lent.{over}
use Rattle.predicate_trace.specs.declared.PredicateControlStep.{PredicateControlStep}
use Rattle.predicate_trace.specs.Trace.{entry_bytes, steps_at}
use Rattle.predicate_answer.specs.declared.CompiledMmioEvent.{CompiledMmioEvent}
use Rattle.predicate_answer.specs.declared.PredicateTransducerExecution.{PredicateTransducerExecution}
use Rattle.predicate_answer.specs.Blank.{no_events}
use Rattle.predicate_semantics.specs.declared.Rv32Program.{Rv32Program}
use Rattle.predicate_semantics.specs.State.{RunResult, result_read}
use Rattle.predicate_semantics.specs.Standing.{scalar_answer}
use Rattle.lane_record.specs.Format.{Record, accepted, refused}
use Rattle.lane_record.specs.Rules.{valid}
use Rattle.lane_record.specs.Decode.{decode_record}
use Rattle.lane_record.specs.Answers.{Said, wrote}
use Rattle.predicate_answer.specs.Outcome.{accepted_outcome}
use Rattle.lane_record.proofs.DecodeLaws.{rules, decode_valid}
use Rattle.lane_record.proofs.AnswerLaws.{few_events}
use Rattle.lane_library.specs.Promise.{Promise}
use Rattle.lane_exports.specs.Boundary.{event_words, events_from, outcome_words, ReadsWords}
use Rattle.lane_exports.specs.Loader.{kind, first_input, count_of_lanes, result_words, WordsPromised}

-- the first events of a list, from its words
events_first : (n : ℕ) (es : List CompiledMmioEvent) → n ≤ length es → events_from n (event_words es) ≡ take n es
events_first zero es h = refl
events_first (suc n) [] h = absurd (omega arith)
events_first (suc n) (e ∷ es) h = ap (λ (r : List CompiledMmioEvent). e ∷ r) (events_first n es (omega arith))

module _ (e : PredicateTransducerExecution) (es : List CompiledMmioEvent) (ss : List PredicateControlStep) (v : valid (accepted e es ss) ≡ true) where
  few : e.event_count ≤ length (over es no_events)
  few =
      let r = rules e es ss v in
      omega (arith, few_events e r.0, r.1, length-append es (drop (length es) no_events), length-drop (length es) no_events)

-- a promise over bytes, and the words that were read of them
module _ (image : List ℕ) (program : Rv32Program) (said : Said) (output : List ℕ) (p : Promise image program said output)
    (n : ℕ) (w : said ≡ wrote n) (t ws t' ws' : List ℕ) (k : kind ws' ≡ 0x01)
    (i : ℕ) (low : first_input ws' ≤ i) (high : i < first_input ws' + count_of_lanes ws') (others : ℕ → ℕ) where
  abbrev Answers : Type 0
  Answers = scalar_answer image program i others ≡ some (result_words ws' t')

  by_room : (x : PredicateTransducerExecution) (es : List CompiledMmioEvent) (ss : List PredicateControlStep)
      → decode_record (take n output) ≡ some (accepted x es ss) → (b : Bool) → leb (x.symbolic_transitions * entry_bytes) (length t) ≡ b
      → ReadsWords (some (accepted x es ss)) t ws 0 t' ws' → Answers
  by_room x es ss e true l h =
      let words : ws' ≡ outcome_words (accepted_outcome x es) = rw l at h.outcome in
      let first : first_input ws' ≡ x.first_input = ap first_input words in
      let many : count_of_lanes ws' ≡ x.lane_count = ap count_of_lanes words in
      let same : result_words ws' t' ≡ result_read (accepted_outcome x es) t'
      = ap (λ (v : List ℕ). result_words v t') words
      ∙ ap (λ (v : List CompiledMmioEvent). record {
        return_value = x.return_value;
        steps = x.symbolic_transitions;
        trace = steps_at 0 x.symbolic_transitions t';
        events = v;
      }) (events_first x.event_count (over es no_events) (few x es ss (decode_valid (take n output) (accepted x es ss) e))) in
      p n w t (accepted_outcome x es) t'
      (rw e (record { answer = rw l; outcome = rw l; trace = h.trace }))
      refl i (omega (arith, low, first)) (omega (arith, high, first, many)) others
      ∙ ap (λ (r : RunResult). some r) (sym same)
  by_room x es ss e false l h = let z : ◌≡◌ {A = ℕ} 0 14 = rw l at h.answer in absurd (omega arith)

  by_record : (q : Option Record) → decode_record (take n output) ≡ q → ReadsWords q t ws 0 t' ws' → Answers
  by_record none e h = let z : ◌≡◌ {A = ℕ} 0 15 = h.answer in absurd (omega arith)
  by_record (some (refused f)) e h = let z : ◌≡◌ {A = ℕ} 0x7F 0x01 = sym (ap kind h.outcome) ∙ k in absurd (omega arith)
  by_record (some (accepted x es ss)) e h = by_room x es ss e (leb (x.symbolic_transitions * entry_bytes) (length t)) refl h

pub words_promised : WordsPromised
words_promised image program said output p n w t ws t' ws' h k i low high others =
    by_record image program said output p n w t ws t' ws' k i low high others (decode_record (take n output)) refl h
