-- The run over all of a word's lanes, of which those without an input of their own repeat lane 0's, is the run over a range's inputs. Assumes nothing.
use Rattle.std.specs.Prelude.{Err, Ok, Result}
use mathlib.Core.Path.{◌≡◌, refl, sym, ◌∙◌}
use mathlib.Core.Bool.{Bool, true, false}
use Prim.Native.Nat.{ℕ, ◌-◌, ◌≤◌}
use native.Mathlib.Omega.{arith}
use lib.ListN.{length}
use Rattle.lane_word.specs.declared.InputRange.{InputRange}
use Rattle.lane_word.specs.Word.{lanes}
use Rattle.lane_word.specs.Range.{input_count}
use Rattle.lane_word.specs.Spare.{lane_inputs}
use Rattle.lane_word.proofs.Lists.{length_inputs}
use Rattle.predicate_answer.specs.declared.CallError.{CallError}
use Rattle.predicate_answer.specs.Refusal.{of_call}
use Rattle.predicate_semantics.specs.declared.Rv32SymbolLayout.{Rv32SymbolLayout}
use Rattle.predicate_semantics.specs.Program.{Program, sized, symbols_placed}
use Rattle.predicate_semantics.specs.Tested.{Tested, passed, refused, refuse, require, allow, ◌>>=◌}
use Rattle.predicate_semantics.specs.Lane.{Setup, on, begin, start_tests, start, lane_run}
use Rattle.predicate_semantics.specs.Call.{Call, range_test, setup_of}
use Rattle.predicate_semantics.proofs.Always.{no_pass}
use Rattle.predicate_semantics.proofs.RecordRules.{four, ordered}
use Rattle.predicate_semantics.proofs.Places.{spots_cover, pick_spots}
use Rattle.predicate_semantics.proofs.Repeated.{SameRun, same_run}

-- a call's inputs, in all of a word's lanes
unfoldable pub lane_setup : Call → Setup
lane_setup c = record { inputs = lane_inputs c.range; choice = range_test c.range; rows = c.rows; entries = c.entries }

-- a run that its caller's choice refuses never starts
never_starts : (size : ℕ) (symbols : Rv32SymbolLayout) (e : CallError) (rows : ℕ) (u : Unit {0}) → start_tests size symbols (Err e) rows ≡ passed u → ⊥
unfolding start_tests ◌>>=◌ require refuse allow
never_starts size symbols e rows u = go (sized size) (symbols_placed symbols)
  where
    stopped : Tested (Unit {0})
    stopped = refused (of_call e)

    go : (a b : Bool) → (require 1 a >>= λ _. require 2 b >>= λ _. stopped) ≡ passed u → ⊥
    go true true q = no_pass q
    go true false q = no_pass q
    go false b q = no_pass q

module _ (p : Program) (c : Call) (limit : ℕ) where
  abbrev range : InputRange
  range = c.range

  abbrev Spared : Type 0
  Spared = SameRun (lane_run p (setup_of c) limit) (lane_run p (lane_setup c) limit)

  ordered_run : range.first ≤ range.last → Spared
  unfolding setup_of lane_setup lane_inputs
  ordered_run h = same_run p (record {
    covers = rw (length_inputs range.first (input_count range)) (spots_cover (input_count range) (lanes - input_count range) (omega arith));
    placed = pick_spots (input_count range) (lanes - input_count range) (omega arith) range.first;
    same_choice = refl;
    same_rows = refl;
    same_entries = refl;
  }) limit

  refused_run_spared : (e : CallError) → range_test range ≡ Err e → Spared
  unfolding setup_of lane_setup lane_run start on ◌>>=◌ begin
  refused_run_spared e h = go (start_tests (length p.image) p.symbols (range_test range) c.rows) refl
    where
      go : (t : Tested (Unit {0})) → start_tests (length p.image) p.symbols (range_test range) c.rows ≡ t → Spared
      go (passed u) q = absurd (never_starts (length p.image) p.symbols e c.rows u (rw h at q))
      go (refused x) q = rw q (record { answer = refl; steps = refl; trace = refl; written = four _ ∙ sym (four _) })

  pub spare_run : SameRun (lane_run p (setup_of c) limit) (lane_run p (lane_setup c) limit)
  spare_run = go (range_test range) refl
    where
      go : (t : Result (Unit {0}) CallError) → range_test range ≡ t → Spared
      go (Ok tt) h = ordered_run (ordered range h)
      go (Err e) h = refused_run_spared e h
