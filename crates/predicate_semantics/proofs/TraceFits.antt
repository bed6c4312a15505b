-- The numbers of a run's trace fit their places, and an accepted run's result reads back from what it gives. Assumes nothing.
use mathlib.Core.Path.{◌≡◌, refl, sym, ap, ◌∙◌, subst}
use mathlib.Core.Logic.{⊎_elim}
use mathlib.Core.List.{List, [], ◌∷◌, map}
use Prim.Native.Nat.{ℕ, ◌<◌}
use native.Mathlib.Omega.{arith}
use lib.ListN.{length, take, drop}
use lib.Seq.{take-append_seam}
use Rattle.little_endian.specs.Lent.{over}
use Rattle.little_endian.specs.Pack.{AllFit}
use Rattle.riscv32imc.specs.Constants.{max_steps}
use Rattle.predicate_answer.specs.Blank.{no_events}
use Rattle.predicate_trace.specs.declared.PredicateControlStep.{PredicateControlStep}
use Rattle.predicate_semantics.specs.State.{RunResult, result_read}
use Rattle.predicate_semantics.specs.Tested.{passed}
use Rattle.predicate_semantics.specs.Lane.{execution}
use Rattle.predicate_semantics.specs.RecordRules.{Chain, Words, Completed, Accepted}
use Rattle.predicate_semantics.specs.Standing.{program_of}
use Rattle.predicate_semantics.specs.Call.{Call, program_in, setup_of, run_of}
use Rattle.predicate_semantics.specs.Outcome.{outcome_in}
use Rattle.predicate_trace.specs.Trace.{step_widths, step_values, trace_bytes, steps_at}
use Rattle.predicate_trace.proofs.TraceLaws.{trace_back}
use Rattle.predicate_semantics.proofs.RecordRules.{completed, accepted}
use Rattle.predicate_semantics.proofs.ExpandedWords.{standing_expands_to_words}

-- the numbers of a chain of steps fit their places
fits_chain : (from to : ℕ) (ss : List PredicateControlStep) → Chain from ss to → Words ss → AllFit step_widths (map step_values ss)
fits_chain from to [] h w = tt
fits_chain from to (s ∷ ss) h w =
    let b : s.instruction_bytes < 256 = ⊎_elim (λ e. omega arith) (λ e. omega arith) h.1 in
    ((w.0, (w.1, (b, (w.2, tt)))), fits_chain s.next_program_counter to ss h.2 w.3)

-- so do those of a run's trace, accepted or refused
module _ (c : Call) where
  pub call_completed : Completed (program_in c) (setup_of c) max_steps (run_of c).state
  unfolding run_of
  call_completed = completed (program_in c) (setup_of c) max_steps

  pub trace_fits : AllFit step_widths (map step_values (run_of c).state.trace)
  unfolding program_of
  trace_fits = fits_chain _ _ (run_of c).state.trace call_completed.chain (call_completed.words standing_expands_to_words)

  -- an accepted run's result, read off its numbers, its events, and its trace over any other bytes
  module _ (r : RunResult) (q : (run_of c).answer ≡ passed r) where
    pub call_accepted : Accepted (setup_of c) (run_of c).state r
    unfolding run_of
    call_accepted = accepted (program_in c) (setup_of c) max_steps r q

    same_trace : (t : List ℕ) → steps_at 0 r.steps (over (trace_bytes r.trace) t) ≡ r.trace
    same_trace t =
        subst (λ (ss : List PredicateControlStep). steps_at 0 r.steps (over (trace_bytes ss) t) ≡ ss) call_accepted.trace
        (ap (λ (k : ℕ). steps_at 0 k (over (trace_bytes (run_of c).state.trace) t)) (sym (call_completed.counted ∙ call_accepted.steps))
        ∙ trace_back (run_of c).state.trace t trace_fits)

    same_events : take (length r.events) (over r.events no_events) ≡ r.events
    same_events = take-append_seam r.events (drop (length r.events) no_events)

    pub read_back : (t : List ℕ) → result_read (outcome_in c (run_of c).state (passed r)) (over (trace_bytes r.trace) t) ≡ r
    unfolding execution
    read_back t = rw (same_trace t, same_events) refl
