-- What comes at a place: stop, the pause, the limit, a refused fetch, or a fetched instruction. Assumes nothing.
use Rattle.std.specs.Prelude.{Err, Ok, Result}
use mathlib.Core.Path.{◌≡◌, refl, sym, ap, ◌∙◌}
use mathlib.Core.Bool.{false}
use mathlib.Core.List.{List}
use Prim.Native.Nat.{ℕ, suc, ◌-◌, ◌≤◌, ◌<◌}
use native.Mathlib.Omega.{arith}
use lib.Dec.{eqb}
use borrow.Author.Tests.{eq-eqb, ne_eqb}
use Rattle.riscv_decode.specs.declared.Fetched.{Fetched}
use Rattle.lane_word.specs.Word.{lanes}
use Rattle.predicate_semantics.specs.declared.Rv32SymbolLayout.{Rv32SymbolLayout}
use Rattle.predicate_semantics.specs.Program.{Core, stop}
use Rattle.predicate_semantics.specs.Tested.{Tested, passed, refused, ◌>>=◌, refuse}
use Rattle.predicate_semantics.specs.Lane.{LaneState, count_of_lanes, memory_of, fetch, attempt, step}
use Rattle.predicate_semantics.specs.Standing.{standing_core}
use Rattle.predicate_semantics.proofs.Laws.{run_out, run_refused}
use Rattle.predicate_semantics.proofs.Sources.{fetched_decodes, standing_names}
use Rattle.predicate_action.specs.Meaning.{meaning}
use Rattle.predicate_action.specs.Reading.{reading_of, ReadsBelow}
use Rattle.predicate_answer.specs.declared.Rv32Error.{Rv32Error}
use Rattle.predicate_answer.specs.declared.Rv32Error.TheVariants as error
use Rattle.predicate_answer.specs.Refusal.{refusal_of}
use Rattle.lane_access.specs.Seen.{seen}
use Rattle.lane_access.specs.InForce.{InForce}
use Rattle.riscv32imc_predicate.specs.declared.Bounds.{Bounds}
use Rattle.riscv32imc_predicate.specs.declared.Place.{Place}
use Rattle.riscv32imc_predicate.specs.declared.Ending.{Ending}
use Rattle.riscv32imc_predicate.specs.declared.Ending.TheVariants as ending
use Rattle.riscv32imc_predicate.specs.declared.Progress.{Progress}
use Rattle.riscv32imc_predicate.specs.Setting.{Setting, core_in_force, environment, Serves, register_count}
use Rattle.riscv32imc_predicate.specs.Coming.{Ends, IsAt, Readied}
use Rattle.riscv32imc_predicate.proofs.LaneCount.{lane_count}

-- what is fetched at a pc by every core that is in force there
abbrev Fetches : List ℕ → List ℕ → ℕ → Tested Fetched → Type 0
Fetches image rows pc t = (core : Core) (steps : ℕ) → InForce core_in_force core steps → t ≡ fetch lanes core (seen image rows) steps pc

-- the code's own core is in force at every step
pub own_in_force : (steps : ℕ) → InForce core_in_force core_in_force steps
own_in_force steps = record { expands = λ half. refl; decodes = λ word. refl }

-- so whatever is fetched reads places that there are
fetched_reads : (image rows : List ℕ) (pc : ℕ) {f : Fetched} → Fetches image rows pc (passed f) → ReadsBelow register_count (reading_of (meaning f.operation pc))
unfolding standing_core
fetched_reads image rows pc {f} h =
    standing_names 0 f.word pc f.operation (fetched_decodes core_in_force 0 lanes (seen image rows) pc (sym (h core_in_force 0 (own_in_force 0))))

-- a fetched instruction, as the code has it
pub record Has (f : Fetched) (pc : ℕ) (r : Progress) : Type 0 where
  pub same_word : r.word ≡ f.word
  pub same_length : r.length ≡ f.length
  pub same_action : r.action ≡ meaning f.operation pc
  pub reads : r.reading ≡ reading_of r.action

module _ (image rows : List ℕ) (bounds : Bounds) (place : Place) where
  -- how the call ends in every state that is there
  abbrev EndsBy : Ending → Type 0
  EndsBy q = (c : Setting) (symbols : Rv32SymbolLayout) → Serves c (environment image symbols bounds) → (s : LaneState) → IsAt c image rows place s → Ends c bounds.pause q s

  -- without an instruction
  ends : (q : Ending) → EndsBy q → Readied image rows bounds place (Err q)
  ends q h = record { comes = h; below = tt; reads = tt }

  pub comes_stop : {r : Result Progress Ending} → r ≡ Err ending.Arrived → place.pc ≡ stop → Readied image rows bounds place r
  comes_stop e h = rw e (ends ending.Arrived (λ c symbols v s a. eq-eqb _ _ (sym a.at_pc ∙ h)))

  module _ (moving : place.pc ≡ stop → ⊥) where
    off_stop : (s : LaneState) → place.pc ≡ s.pc → eqb s.pc stop ≡ false
    off_stop s a = ne_eqb _ _ (λ q. moving (a ∙ q))

    pub comes_pause : {r : Result Progress Ending} → r ≡ Err ending.Paused → place.steps ≡ bounds.pause → Readied image rows bounds place r
    comes_pause e h = rw e (ends ending.Paused (λ c symbols v s a. (off_stop s a.at_pc, sym a.at_steps ∙ h)))

    pub comes_limit : bounds.limit ≤ place.steps → Readied image rows bounds place (Err (ending.Refused error.StepLimit))
    unfolding refuse
    comes_limit h =
        ends (ending.Refused error.StepLimit) (λ c symbols v s a.
        let none : c.limit - s.steps ≡ 0 = omega (arith, a.at_steps, v.same_limit, h) in
        rw none (run_out c.program c.setup s (off_stop s a.at_pc)))

    module _ (short : place.steps < bounds.limit) where
      pub comes_refused : {x : Rv32Error} → Fetches image rows place.pc (refused (refusal_of x)) → Readied image rows bounds place (Err (ending.Refused x))
      unfolding step attempt ◌>>=◌
      comes_refused {x} f =
          ends (ending.Refused x) (λ c symbols v s a.
          let fuel : c.limit - s.steps ≡ suc (c.limit - suc s.steps) = omega (arith, a.at_steps, v.same_limit, short) in
          let q : fetch (count_of_lanes c.program c.setup) c.program.core (memory_of c.program c.setup s) s.steps s.pc ≡ refused (refusal_of x)
          = rw (a.shown, ← a.at_pc, lane_count c v.same_lanes) (sym (f c.program.core s.steps (v.in_force s.steps))) in
          let t : step c.program c.setup s ≡ refused (refusal_of x) = rw q in
          rw fuel (run_refused c.program c.setup (c.limit - suc s.steps) s (refusal_of x) (off_stop s a.at_pc) t))

      pub comes_next : {r : Progress} (f : Fetched) → Fetches image rows place.pc (passed f) → Has f place.pc r → Readied image rows bounds place (Ok r)
      comes_next {r} f q h = record {
        comes = λ c symbols v s a. record {
          moving = off_stop s a.at_pc;
          below = omega (arith, a.at_steps, v.same_limit, short);
          instruction = f;
          fetched = rw (a.shown, ← a.at_pc, lane_count c v.same_lanes) (sym (q c.program.core s.steps (v.in_force s.steps)));
          same_word = h.same_word;
          same_length = h.same_length;
          same_action = h.same_action ∙ ap (meaning f.operation) a.at_pc;
          reads = h.reads;
        };
        below = short;
        reads = rw (h.reads, h.same_action) (fetched_reads image rows place.pc q);
      }
