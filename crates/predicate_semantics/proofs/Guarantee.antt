-- Demand 3: while the run goes on and where it accepts, over any list of inputs, and then for a range of them.
use mathlib.Core.Path.{◌≡◌, refl, ◌∙◌, ap}
use mathlib.Core.Bool.{Bool, true, false}
use mathlib.Core.Option.{some}
use Prim.Native.Nat.{ℕ, zero, suc, ◌+◌, ◌-◌, ◌<◌}
use native.Mathlib.Omega.{arith}
use lib.Dec.{eqb}
use lib.ListN.{get_elem?}
use Rattle.riscv32imc.specs.Constants.{max_steps}
use Rattle.lane_word.specs.Range.{inputs, input_count}
use Rattle.predicate_semantics.specs.Program.{Program, stop}
use Rattle.predicate_semantics.specs.Choice.{choose}
use Rattle.predicate_semantics.specs.Tested.{Tested, passed, refused, if_passed}
use Rattle.predicate_semantics.specs.Lane.{LaneState, Setup, on, count_of_lanes, memory_of, step, run, after, begin, start, reached, lane_run}
use Rattle.predicate_semantics.specs.Scalar.{ScalarState}
use Rattle.predicate_semantics.specs.Standing.{scalar_answer}
use Rattle.predicate_semantics.specs.Call.{program_in, setup_of, run_of}
use Rattle.predicate_semantics.specs.Guarantee.{SameAsLane, PrefixGuarantee, CompletedGuarantee, AcceptanceGuarantee, Guarantee}
use Rattle.predicate_semantics.proofs.Sim.{answered}
use Rattle.predicate_semantics.proofs.Laws.{run_stop, run_out, run_next, run_refused, step_steps}
use Rattle.predicate_semantics.proofs.Values.{OneLane}
use Rattle.predicate_semantics.proofs.Steps.{Related, related, at_reg, sim_reached, sim_lane_run}

module _ (p : Program) (l : Setup) where
  followed : (x : OneLane p l) {s : LaneState} {t : ScalarState} → Related x s t → SameAsLane p l x.number s t
  unfolding count_of_lanes memory_of
  followed x (related b) = record {
    pc = refl;
    steps = refl;
    trace = refl;
    locations = refl;
    registers = λ i. (at_reg x b i).value;
    memory = λ a. (b.mem.byte a).value;
  }

  pub prefix_guarantee : PrefixGuarantee p l
  prefix_guarantee n s e k input here others =
      let x : OneLane p l = record { number = k; input = input; here = here } in
      let along = sim_reached x n others s e in
      (along.0, along.1, followed x along.2)

  -- a state is so many steps on from another
  abbrev On : LaneState → LaneState → Type 0
  On s u = (m : ℕ) × (u.steps ≡ s.steps + m) × (after p l m s ≡ some u)

  on_none : (s : LaneState) → On s s
  unfolding after
  on_none s = (0, omega arith, refl)

  on_next : (s t u : LaneState) → eqb s.pc stop ≡ false → step p l s ≡ passed t → On t u → On s u
  unfolding after choose if_passed
  on_next s t u b e (m, n, h) = (suc m, omega (arith, step_steps p l s t e), rw (b, e) h)

  -- a run ends in a state that it has reached
  on_run : (n : ℕ) (s : LaneState) → On s (run p l n s).state
  on_run zero s = go (eqb s.pc stop) refl
    where
      go : (b : Bool) → eqb s.pc stop ≡ b → On s (run p l zero s).state
      go true b = rw (run_stop p l zero s b) (on_none s)
      go false b = rw (run_out p l s b) (on_none s)
  on_run (suc n) s = go (eqb s.pc stop) refl (step p l s) refl (λ t. on_run n t)
    where
      go : (b : Bool) → eqb s.pc stop ≡ b → (m : Tested LaneState) → step p l s ≡ m → ((t : LaneState) → On t (run p l n t).state)
          → On s (run p l (suc n) s).state
      go true b m e h = rw (run_stop p l (suc n) s b) (on_none s)
      go false b (passed t) e h = rw (run_next p l n s t b e) (on_next s t _ b e (h t))
      go false b (refused r) e h = rw (run_refused p l n s r b e) (on_none s)

  reached_end : (limit : ℕ) → start p l ≡ passed (begin p l) → reached p l (lane_run p l limit).state.steps ≡ some (lane_run p l limit).state
  unfolding lane_run on reached if_passed begin
  reached_end limit e = rw e (go (on_run limit (begin p l)))
    where
      go : {u : LaneState} → On (begin p l) u → after p l u.steps (begin p l) ≡ some u
      go {u} (m, n, h) = ap (λ (x : ℕ). after p l x (begin p l)) (omega (arith, n)) ∙ h

  pub completed_guarantee : (limit : ℕ) → CompletedGuarantee p l limit
  completed_guarantee limit e = prefix_guarantee _ _ (reached_end limit e)

  pub acceptance_guarantee : (limit : ℕ) → AcceptanceGuarantee p l limit
  acceptance_guarantee limit r e k input here others =
      let x : OneLane p l = record { number = k; input = input; here = here } in
      answered (rw e at (sim_lane_run x limit others))

inputs_at : (first count k : ℕ) → k < count → get_elem? (inputs first count) k ≡ some (first + k)
unfolding inputs
inputs_at first zero k h = absurd (omega arith)
inputs_at first (suc count) zero h = ap some (omega arith)
inputs_at first (suc count) (suc k) h = inputs_at (suc first) count k (omega arith) ∙ ap some (omega arith)

pub guarantee : Guarantee
unfolding setup_of run_of scalar_answer
guarantee c r e input low high others =
    acceptance_guarantee (program_in c) (setup_of c) max_steps r e (input - c.range.first) input
    (inputs_at c.range.first (input_count c.range) (input - c.range.first) (omega arith) ∙ ap some (omega arith)) others
