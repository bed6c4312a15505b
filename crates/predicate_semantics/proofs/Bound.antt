-- The bound on steps: an image that jumps to itself, by induction on the limit and not by computing so many steps.
use mathlib.Core.Path.{◌≡◌, refl}
use mathlib.Core.Bool.{true}
use mathlib.Core.List.{List, [], ◌∷◌, ◌++◌}
use Prim.Native.Nat.{ℕ, zero, suc, ◌+◌, ◌≤◌, ◌<◌}
use native.Mathlib.Omega.{arith}
use lib.ListN.{length}
use borrow.Author.Tests.{lt-ltb, le-leb, eq-eqb}
use Rattle.rv32_arithmetic.specs.Arithmetic.{add}
use Rattle.riscv32imc.specs.Constants.{image_base}
use Rattle.riscv_decode.specs.declared.Fetched.{Fetched}
use Rattle.riscv_decode.specs.declared.Operation.TheVariants.{Jal}
use Rattle.lane_word.specs.Word.{constant}
use Rattle.lane_word.specs.Range.{invalid_channels}
use Rattle.predicate_trace.specs.declared.PredicateControlStep.{PredicateControlStep}
use Rattle.predicate_semantics.specs.Program.{Program, sized, in_memory, symbols_placed}
use Rattle.predicate_semantics.specs.State.{sets, assign, advanced, apply}
use Rattle.predicate_semantics.specs.Tested.{passed, refuse, require, allow, ◌>>=◌}
use Rattle.predicate_semantics.specs.Lane.{LaneState, Setup, Ended, on, count_of_lanes, attempt, step, run, start_tests, begin, start, lane_run}
use Rattle.predicate_semantics.specs.Standing.{program_of}
use Rattle.predicate_semantics.specs.Call.{Call, range_test, program_in, setup_of, run_of}
use Rattle.predicate_semantics.specs.Cases.{symbols, calling, refuses, meets, holds}
use Rattle.predicate_semantics.specs.Bound.{RefusedAtBound, StepBound}
use Rattle.predicate_semantics.proofs.Laws.{run_out, run_next}
use Rattle.predicate_semantics.proofs.Computing.{expansion, decoding, words, running}
use Rattle.predicate_semantics.proofs.Computing as Computing

-- JAL x0, 0, in so many bytes
abbrev jump_to_itself : ℕ → Fetched
jump_to_itself bytes = record { operation = Jal (record { rd = 0; imm = 0 }); length = bytes; word = 0x6F }

module _ (image : List ℕ) (rows entries : ℕ) where
  abbrev called : Call
  called = calling image image_base invalid_channels rows entries

  abbrev p : Program
  p = program_in called

  abbrev l : Setup
  l = setup_of called

  -- the run's first state, some steps and their trace later
  abbrev spun : ℕ → List PredicateControlStep → LaneState
  spun n trace = record {
    pc = image_base;
    registers = (begin p l).registers;
    memory = (begin p l).memory;
    steps = n;
    trace = trace;
    locations = [];
  }

  -- there the image jumps to itself
  record Spins (bytes : ℕ) : Type 0 where
    again : (n : ℕ) (trace : List PredicateControlStep)
        → attempt p l (spun n trace) ≡ passed (record { fetched = jump_to_itself bytes; effect = sets 0 (constant (count_of_lanes p l) (add image_base bytes)) image_base })

  starts : sized (length image) ≡ true → 4 ≤ rows → start p l ≡ passed (spun 0 [])
  unfolding start start_tests symbols_placed in_memory require ◌>>=◌ allow begin program_of range_test setup_of calling symbols
  starts small lent = rw (small, le-leb 4 rows lent)

  module _ {bytes : ℕ} (spins : Spins bytes) where
    abbrev entry : PredicateControlStep
    entry = record {
      program_counter = image_base;
      instruction_word = 0x6F;
      instruction_bytes = bytes;
      next_program_counter = image_base;
    }

    step_spun : (n : ℕ) (trace : List PredicateControlStep) → n < entries → step p l (spun n trace) ≡ passed (spun (suc n) (trace ++ entry ∷ []))
    unfolding step require ◌>>=◌ apply advanced assign setup_of calling
    step_spun n trace h = rw (spins.again n trace, lt-ltb n entries h)

    run_spun : (limit n : ℕ) (trace : List PredicateControlStep) → n + limit ≤ entries
        → ((run p l limit (spun n trace)).answer ≡ refuse 3 0) × ((run p l limit (spun n trace)).state.steps ≡ n + limit)
    run_spun zero n trace h = rw (run_out p l (spun n trace) refl) (refl, omega arith)
    run_spun (suc limit) n trace h =
        let rest = run_spun limit (suc n) (trace ++ entry ∷ []) (omega arith) in
        rw (run_next p l limit (spun n trace) _ refl (step_spun n trace (omega arith))) (rest.0, omega (arith, rest.1))

-- an outcome of the table, from the run's own end
refused_after : (e : Ended) (steps : ℕ) → e.answer ≡ refuse 3 0 → e.state.steps ≡ steps → meets (refuses 3 0 steps) e.state.steps e.answer ≡ true
unfolding meets refuse
refused_after e steps answer counted = rw (answer, counted, eq-eqb steps steps refl)

refused_at_bound : (image : List ℕ) (bytes : ℕ) → sized (length image) ≡ true → ((rows entries : ℕ) → Spins image rows entries bytes) → RefusedAtBound image
unfolding holds run_of lane_run on
refused_at_bound image bytes small spins rows entries lent enough =
    let ends = run_spun image rows entries (spins rows entries) 1000000 0 [] (omega arith) in
    rw (starts image rows entries small lent)
    (refused_after (run (p image rows entries) (l image rows entries) 1000000 (spun image rows entries 0 [])) 1000000 ends.0 (omega (arith, ends.1)))

jal_spins : (rows entries : ℕ) → Spins (0x6F ∷ 0x00 ∷ 0x00 ∷ 0x00 ∷ []) rows entries 4
unfolding expansion decoding words running Computing.calls symbols calling
jal_spins rows entries = record { again = λ n trace. refl }

c_j_spins : (rows entries : ℕ) → Spins (0x01 ∷ 0xA0 ∷ []) rows entries 2
unfolding expansion decoding words running Computing.calls symbols calling
c_j_spins rows entries = record { again = λ n trace. refl }

pub step_bound : StepBound
unfolding sized
step_bound = (refused_at_bound _ 4 refl jal_spins, refused_at_bound _ 2 refl c_j_spins)
