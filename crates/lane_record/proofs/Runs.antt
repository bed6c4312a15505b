-- What the lane run gives the writer keeps the record's rules. Assumes nothing.
use mathlib.Core.Path.{◌≡◌, refl, sym, ap, ◌∙◌, subst}
use mathlib.Core.Bool.{Bool, true, false, cond, ◌||◌}
use mathlib.Core.Logic.{◌⊎◌, ⊎_elim}
use mathlib.Core.Option.{some}
use mathlib.Core.List.{List, [], ◌∷◌}
use Prim.Native.Nat.{ℕ, ◌+◌, ◌*◌, ◌≤◌, ◌<◌}
use native.Mathlib.Omega.{arith}
use lib.Dec.{T, eqb, leb}
use lib.ListN.{length, take, drop}
use lib.Seq.{take-append_seam}
use borrow.Author.Tests.{le-leb, eq-eqb}
use Rattle.little_endian.specs.Lent.{over}
use Rattle.riscv32imc.specs.Constants.{max_steps}
use Rattle.lane_word.specs.Word.{lanes}
use Rattle.predicate_answer.specs.declared.CompiledMmioEvent.{CompiledMmioEvent}
use Rattle.predicate_trace.specs.declared.PredicateControlStep.{PredicateControlStep}
use Rattle.lane_word.specs.declared.InputRange.{InputRange}
use Rattle.lane_word.specs.Range.{input_count}
use Rattle.predicate_semantics.specs.Program.{Program}
use Rattle.predicate_answer.specs.Blank.{max_events, no_events}
use Rattle.predicate_semantics.specs.State.{RunResult}
use Rattle.predicate_semantics.specs.Tested.{Tested, passed}
use Rattle.predicate_answer.specs.Refusal.{RunRefusal, of_run, of_call, refusal_after}
use Rattle.predicate_semantics.specs.Lane.{LaneState, Setup, Ended}
use Rattle.predicate_semantics.specs.RecordRules.{Chain, Completed, Accepted, numbers_over, proper}
use Rattle.predicate_semantics.specs.Call.{Call, program_in, setup_of, run_of}
use Rattle.predicate_semantics.specs.Outcome.{outcome_in}
use Rattle.predicate_trace.specs.Trace.{trace_bytes}
use Rattle.predicate_semantics.proofs.RecordRules.{chosen, ordered, execution_over, refused_proper, takes_step}
use Rattle.predicate_semantics.proofs.RecordRules as Rules
use Rattle.predicate_semantics.proofs.TraceFits.{call_completed, trace_fits}
use Rattle.lane_record.specs.Format.{accepted, refused}
use Rattle.lane_record.specs.Rules.{min_written_bytes, max_written_bytes, fewest_steps, begins, linked, refusal_valid, valid}
use Rattle.lane_record.specs.Decode.{ruled}
use Rattle.lane_record.specs.Answers.{given}
use Rattle.lane_record.specs.Runs.{record_in, KeepsRules}
use Rattle.lane_record.proofs.TestLaws.{yes}
use Rattle.lane_record.proofs.Theorems.{given_trace}

holds : (b : Bool) → T b → b ≡ true
holds true t = refl
holds false t = absurd t

-- a chain of steps is linked
begins_at : (from to : ℕ) (ss : List PredicateControlStep) → Chain from ss to → from ≡ begins to ss
begins_at from to [] h = h
begins_at from to (s ∷ ss) h = sym h.0

either : (n : ℕ) → (n ≡ 2) ⊎ (n ≡ 4) → (eqb n 2 || eqb n 4) ≡ true
either n = ⊎_elim (λ e. rw e) (λ e. rw e)

linked_chain : (from to : ℕ) (ss : List PredicateControlStep) → Chain from ss to → linked to ss ≡ true
linked_chain from to [] h = refl
linked_chain from to (s ∷ ss) h =
    yes (yes (either s.instruction_bytes h.1) (eq-eqb _ _ (begins_at _ to ss h.2)))
    (linked_chain s.next_program_counter to ss h.2)

some_steps : (count steps : ℕ) → 1 ≤ steps → leb (fewest_steps count) steps ≡ true
some_steps count steps h = go (eqb count 1)
  where
    go : (b : Bool) → leb (cond b 0 1) steps ≡ true
    go true = le-leb 0 steps (omega arith)
    go false = le-leb 1 steps h

module _ (c : Call) where
  abbrev range : InputRange
  range = c.range

  abbrev p : Program
  p = program_in c

  abbrev l : Setup
  l = setup_of c

  abbrev e : Ended
  e = run_of c

  done : Completed p l max_steps e.state
  done = call_completed c

  abbrev s : LaneState
  s = e.state

  module _ (byte : range.last < lanes) (r : RunResult) (q : e.answer ≡ passed r) where
    ended : Accepted l s r
    unfolding run_of
    ended = Rules.accepted p l max_steps r q

    in_order : range.first ≤ range.last
    unfolding run_of setup_of
    in_order = ordered range (chosen p l max_steps r q)

    -- the events by value, zeros after the last
    events : List CompiledMmioEvent
    events = take (length r.events) (over r.events no_events)

    same_events : events ≡ r.events
    unfolding events
    same_events = take-append_seam r.events (drop (length r.events) no_events)

    least : leb (fewest_steps (input_count range)) r.steps ≡ true
    least = ⊎_elim (some_steps (input_count range) r.steps) (λ one. rw one (le-leb 0 r.steps (omega arith))) (takes_step c r q)

    rules : valid (accepted (numbers_over range s.steps (length s.memory) r) events s.trace) ≡ true
    rules =
        yes (yes (yes
        (yes (yes (yes (yes
        (yes (le-leb 1 (input_count range) (omega (arith, in_order))) (le-leb (range.first + input_count range) lanes (omega (arith, in_order, byte))))
        (yes least (le-leb r.steps max_steps (omega (arith, done.bound, ended.steps)))))
        (eq-eqb (input_count range * s.steps) (input_count range * r.steps) (ap (λ (n : ℕ). input_count range * n) ended.steps)))
        (yes (le-leb min_written_bytes (length s.memory) ended.written_least)
        (le-leb (length s.memory) max_written_bytes (omega (arith, ended.written_most)))))
        (le-leb (length r.events) max_events ended.events))
        (eq-eqb (length events) (length r.events) (ap length same_events)))
        (eq-eqb (length s.trace) r.steps (done.counted ∙ ended.steps)))
        (subst (λ (x : ℕ). linked x s.trace ≡ true) ended.arrived (linked_chain _ _ s.trace done.chain))

    kept_accepted : (t : List ℕ)
        → given (outcome_in c s (passed r)) (over (trace_bytes s.trace) t) ≡ record_in c s (passed r)
    unfolding events
    kept_accepted t =
        rw (execution_over c s r in_order)
        (given_trace (numbers_over range s.steps (length s.memory) r) (over r.events no_events) s.trace t (trace_fits c) rules
        ∙ ap (λ (x : List CompiledMmioEvent). some (accepted (numbers_over range s.steps (length s.memory) r) x s.trace)) same_events
        ∙ ap (λ (x : List PredicateControlStep). some (accepted (numbers_over range s.steps (length s.memory) r) r.events x)) ended.trace)

  kept_refused : (q : RunRefusal) → e.answer ≡ Tested.refused (of_run q) → refusal_valid (refusal_after q s.steps) ≡ true
  unfolding run_of proper
  kept_refused q h = yes {t = proper q} (holds (proper q) (refused_proper p l max_steps (of_run q) h)) (le-leb s.steps max_steps (omega (arith, done.bound)))

  kept : range.last < lanes → (a : Tested RunResult) → e.answer ≡ a → (t : List ℕ) → given (outcome_in c s a) (over (trace_bytes s.trace) t) ≡ record_in c s a
  kept byte (passed r) q t = kept_accepted byte r q t
  kept byte (Tested.refused (of_run f)) q t = ap (λ (w : Bool). ruled w (refused (refusal_after f s.steps))) (kept_refused f q)
  kept byte (Tested.refused (of_call x)) q t = refl

  pub keeps_rules : KeepsRules c
  keeps_rules byte t = kept byte e.answer refl t
