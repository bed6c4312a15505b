-- What each contract says of what is seen: the record, the rows and the trace of the definition's run. Assumes nothing.
use Rattle.std.specs.Prelude.{Ok, Result}
use Rattle.std.specs.Result.{result_and}
use mathlib.Core.Path.{◌≡◌, refl, ap, ◌∙◌}
use mathlib.Core.Bool.{Bool, true, false, cond, ◌&&◌, ◌||◌}
use mathlib.Core.Option.{Option, some}
use mathlib.Core.List.{List}
use Prim.Native.Nat.{ℕ, ◌≤◌}
use native.Mathlib.Omega.{arith}
use borrow.Author.Tests.{le-leb, leb-true, eqb-true}
use lib.Dec.{T, eqb, leb}
use lib.ListN.{length, drop}
use lib.Seq.{take-append_seam}
use Rattle.little_endian.specs.Lent.{over}
use Rattle.riscv32imc.specs.Constants.{max_steps}
use Rattle.predicate_trace.specs.declared.PredicateControlStep.{PredicateControlStep}
use Rattle.predicate_answer.specs.declared.CompiledMmioEvent.{CompiledMmioEvent}
use Rattle.predicate_answer.specs.declared.PredicateTransducerExecution.{PredicateTransducerExecution}
use Rattle.predicate_answer.specs.declared.RecordRefusal.{RecordRefusal}
use Rattle.predicate_answer.specs.Blank.{last_refusal, last_role}
use Rattle.predicate_answer.specs.Refusal.{RunRefusal, Refusal, of_run, of_call, number_of, refusal_after}
use Rattle.predicate_semantics.specs.State.{RunResult}
use Rattle.predicate_semantics.specs.Tested.{Tested, passed}
use Rattle.predicate_semantics.specs.Lane.{execution}
use Rattle.predicate_semantics.specs.RecordRules.{proper}
use Rattle.predicate_semantics.specs.Call.{Call, program_in, setup_of, run_of}
use Rattle.predicate_semantics.specs.Outcome.{verdict_in, verdict_on, outcome_in}
use Rattle.predicate_semantics.proofs.RecordRules.{refused_proper}
use Rattle.predicate_semantics.proofs.TraceFits.{call_completed, call_accepted, read_back}
use Rattle.lane_memory.specs.LentRows.{cleared}
use Rattle.lane_record.specs.Format.{Record, accepted, refused, encode}
use Rattle.lane_record.specs.Rules.{within, role_valid, refusal_valid, valid}
use Rattle.lane_record.specs.Decode.{execution_at, accepted_at, accepted_form, ruled, decode_record}
use Rattle.lane_record.specs.Answers.{wrote, refuses, write_output}
use Rattle.lane_record.specs.Runs.{record_in, record_of}
use Rattle.lane_record.proofs.TestLaws.{both, yes}
use Rattle.lane_record.proofs.DecodeLaws.{decode_encode}
use Rattle.riscv32imc_predicate.specs.Outcome.{trace_after}
use Rattle.lane_library.specs.Outcome.{answer_by}
use Rattle.wrong_programs.specs.Inputs.{Input, call_at}
use Rattle.wrong_programs.specs.Behaviours.{Observed, no_space_at_once}
use Rattle.wrong_programs.specs.Refuted.{NeverAtOnce, RunOutput, record_seen, seen_of_run, RunMeets, LibraryOutput, written, seen_of, LibraryMeets}
use Rattle.predicate_answer.specs.declared.CallError.{CallError}

abbrev pub record_at : Input → Option Record
record_at x = record_of (call_at x)

abbrev pub trace_at : Input → List ℕ
trace_at x = trace_after (call_at x) x.trace

pub record Right (x : Input) (o : Observed) : Type 0 where
  pub recorded : o.recorded ≡ record_at x
  pub rows : o.rows ≡ cleared x.rows
  pub trace : o.trace ≡ trace_at x

-- ---- the run

-- what is seen of a call's own answer is the call's record
seen_by : (c : Call) (t : List ℕ) (a : Tested RunResult) → (run_of c).answer ≡ a
    → record_seen (result_and (verdict_in a) (Ok (outcome_in c (run_of c).state a))) (trace_after c t) ≡ record_in c (run_of c).state a
seen_by c t (passed r) q =
    rw (call_accepted c r q).trace
    (ap (λ (y : RunResult). some (accepted (execution (program_in c) (setup_of c) (run_of c).state r) y.events y.trace)) (read_back c r q t))
seen_by c t (Tested.refused (of_run f)) q = refl
seen_by c t (Tested.refused (of_call e)) q = refl

pub run_right : (x : Input) (o : RunOutput) → RunMeets x o → Right x (seen_of_run o)
run_right x o h = record {
  recorded = rw (h.answer, h.entries) (seen_by (call_at x) x.trace (run_of (call_at x)).answer refl);
  rows = h.zero;
  trace = h.entries;
}

-- an answer that is no refusal for want of space
abbrev HasSpace : Tested RunResult → Type 0
HasSpace a = (r : Refusal) → a ≡ Tested.refused r → (eqb (number_of r) 13 || eqb (number_of r) 14) ≡ false

-- .. has no record that is one
record_no_space : (c : Call) (a : Tested RunResult) → HasSpace a → no_space_at_once (record_in c (run_of c).state a) ≡ false
record_no_space c (passed r) h = refl
record_no_space c (Tested.refused (of_run q)) h = ap (λ (b : Bool). b && eqb (run_of c).state.steps 0) (h (of_run q) refl)
record_no_space c (Tested.refused (of_call e)) h = refl

pub run_never : NeverAtOnce RunOutput seen_of_run RunMeets
run_never x h o m = ap no_space_at_once (run_right x o m).recorded ∙ record_no_space (call_at x) (run_of (call_at x)).answer h

-- ---- the library

-- what is written of a verdict and a record with so much output, read again
abbrev written_of : Result (Unit {0}) CallError → Option Record → List ℕ → Option Record
written_of v q output = written (answer_by v q (length output)) (write_output q output)

library_written : (x : Input) (o : LibraryOutput) → LibraryMeets x o → (seen_of o).recorded ≡ written_of (verdict_on (call_at x)) (record_at x) x.output
library_written x o h = rw (h.answer, h.output)

-- the record is written, and its bytes read as it
abbrev pub Served : Input → Type 0
Served x = written_of (verdict_on (call_at x)) (record_at x) x.output ≡ record_at x

pub library_right : (x : Input) → Served x → (o : LibraryOutput) → LibraryMeets x o → Right x (seen_of o)
library_right x s o h = record { recorded = library_written x o h ∙ s; rows = h.zero; trace = h.entries }

-- ---- .. and finds no want of space where the run does not

-- the bytes of an accepted record read as no refusal
ruled_no_space : (b : Bool) (x : Record) → no_space_at_once (some x) ≡ false → no_space_at_once (ruled b x) ≡ false
ruled_no_space true x e = e
ruled_no_space false x e = refl

accepted_reads : (e : PredicateTransducerExecution) (es : List CompiledMmioEvent) (ss : List PredicateControlStep)
    → no_space_at_once (decode_record (encode (accepted e es ss))) ≡ false
unfolding decode_record
accepted_reads e es ss =
    let bs : List ℕ = encode (accepted e es ss) in
    ruled_no_space (accepted_form (execution_at bs) bs && valid (accepted_at (execution_at bs) bs)) (accepted_at (execution_at bs) bs) refl

-- those of a refusal that keeps the rules read as itself
role_small : (b : Bool) (role : ℕ) → cond b (within 1 role last_role) (eqb role 0) ≡ true → role ≤ last_role
role_small true role h = leb-true role last_role (both (leb 1 role) (leb role last_role) h).1
role_small false role h = omega (arith, eqb-true role 0 h)

refused_reads : (f : RecordRefusal) → refusal_valid f ≡ true → decode_record (encode (refused f)) ≡ some (refused f)
refused_reads f v =
    let t = both (within 1 f.number last_refusal && role_valid f.number f.role) (leb f.steps max_steps) v in
    let u = both (within 1 f.number last_refusal) (role_valid f.number f.role) t.0 in
    let number = leb-true f.number last_refusal (both (leb 1 f.number) (leb f.number last_refusal) u.0).1 in
    let role = role_small (eqb f.number 6 || eqb f.number 7) f.role u.1 in
    let steps = leb-true f.steps max_steps t.1 in
    decode_encode (refused f) (omega (arith, number), (omega (arith, role), (omega (arith, steps), tt))) v

-- .. as a run's does
holds : (b : Bool) → T b → b ≡ true
holds true t = refl
holds false t = absurd t

run_refusal_valid : (c : Call) (q : RunRefusal) → (run_of c).answer ≡ Tested.refused (of_run q) → refusal_valid (refusal_after q (run_of c).state.steps) ≡ true
unfolding run_of proper
run_refusal_valid c q h =
    yes {t = proper q} (holds (proper q) (refused_proper (program_in c) (setup_of c) max_steps (of_run q) h))
    (le-leb (run_of c).state.steps max_steps (call_completed c).bound)

-- what is written of a record, by whether it fits
written_by : (x : Record) (output : List ℕ) → no_space_at_once (decode_record (encode x)) ≡ false → (b : Bool)
    → no_space_at_once (written (cond b (wrote (length (encode x))) (refuses 16)) (cond b (over (encode x) output) output)) ≡ false
written_by x output e true = ap (λ (bs : List ℕ). no_space_at_once (decode_record bs)) (take-append_seam (encode x) (drop (length (encode x)) output)) ∙ e
written_by x output e false = refl

written_no_space : (c : Call) (output : List ℕ) (a : Tested RunResult) → (run_of c).answer ≡ a → HasSpace a
    → no_space_at_once (written_of (verdict_in a) (record_in c (run_of c).state a) output) ≡ false
written_no_space c output (passed r) q h =
    let e = execution (program_in c) (setup_of c) (run_of c).state r in
    written_by (accepted e r.events r.trace) output (accepted_reads e r.events r.trace) (leb _ (length output))
written_no_space c output (Tested.refused (of_run f)) q h =
    written_by (refused (refusal_after f (run_of c).state.steps)) output
    (ap no_space_at_once (refused_reads (refusal_after f (run_of c).state.steps) (run_refusal_valid c f q)) ∙ record_no_space c (Tested.refused (of_run f)) h) (leb _ (length output))
written_no_space c output (Tested.refused (of_call e)) q h = refl

pub library_never : NeverAtOnce LibraryOutput seen_of LibraryMeets
library_never x h o m = ap no_space_at_once (library_written x o m) ∙ written_no_space (call_at x) x.output (run_of (call_at x)).answer refl h
