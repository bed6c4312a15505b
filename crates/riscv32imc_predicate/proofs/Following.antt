-- The last test, and what a state that the code stands at gives it. Assumes nothing.
use Rattle.std.specs.Prelude.{Option}
use mathlib.Core.Path.{◌≡◌, refl, sym, ap, subst}
use mathlib.Core.Bool.{Bool, true, false}
use Prim.Native.Nat.{ℕ, ◌+◌, ◌^◌, ◌<◌}
use native.Mathlib.Omega.{arith}
use lib.ListN.{get_or}
use Rattle.lane_word.specs.declared.LaneWord.{LaneWord}
use Rattle.lane_word.specs.Told.{word_of}
use Rattle.predicate_answer.specs.Refusal.{Refusal}
use Rattle.predicate_semantics.specs.declared.Rv32SymbolLayout.{Rv32SymbolLayout}
use Rattle.predicate_semantics.specs.State.{Effect, recorded}
use Rattle.predicate_semantics.specs.Tested.{Tested, passed, refused, ◌>>=◌, refuse, require}
use Rattle.predicate_semantics.specs.Lane.{LaneState, memory_of, reg}
use Rattle.predicate_semantics.proofs.Always.{no_pass}
use Rattle.lane_memory.proofs.Laws.{holds_new}
use Rattle.lane_access.specs.Seen.{seen}
use Rattle.lane_access.proofs.Laws.{seen_holds}
use Rattle.riscv32imc_predicate.specs.declared.Recorded.{Recorded}
use Rattle.riscv32imc_predicate.specs.Setting.{Setting, Environment}
use Rattle.riscv32imc_predicate.specs.Changes.{Given}
use Rattle.riscv32imc_predicate.specs.Coming.{IsAt}
use Rattle.riscv32imc_predicate.specs.Tracking.{Machine, Stands, Located, Keeps}
use Rattle.riscv32imc_predicate.proofs.LaneCount.{lane_count}
use Rattle.riscv32imc_predicate.proofs.Filing.{held_source}

-- where there is an entry the last test changes nothing
pub last_open : (m : Tested (Effect LaneWord)) → m ≡ (m >>= λ x. require 14 true >>= λ _. passed x)
unfolding ◌>>=◌ require
last_open (passed x) = refl
last_open (refused r) = refl

-- a passed last test: the operation passed before it, and there is an entry
pub last_passed : (m : Tested (Effect LaneWord)) (b : Bool) (e : Effect LaneWord)
    → (m >>= λ x. require 14 b >>= λ _. passed x) ≡ passed e → (m ≡ passed e) × (b ≡ true)
unfolding ◌>>=◌ require refuse
last_passed (passed x) true e q = (q, refl)
last_passed (passed x) false e q = absurd (no_pass q)
last_passed (refused r) b e q = absurd (no_pass q)

pub last_refused : (m : Tested (Effect LaneWord)) (b : Bool) (f : Effect LaneWord → LaneState) (r : Refusal)
    → (m >>= λ x. require 14 b >>= λ _. passed x) ≡ refused r → (m >>= λ x. require 14 b >>= λ _. passed (f x)) ≡ refused r
unfolding ◌>>=◌ require refuse
last_refused (passed x) true f r q = absurd (no_pass (sym q))
last_refused (passed x) false f r q = cc q
last_refused (refused x) b f r q = cc q

module _ {c : Setting} {g : Environment} {m : Machine} {s : LaneState} (h : Stands c g m s) where
  -- what the code is given
  pub sees : memory_of c.program c.setup s ≡ seen g.image m.rows
  unfolding memory_of
  sees =
      rw (lane_count c h.serves.same_lanes, ← h.serves.same_image)
      (sym (seen_holds c.program.image m.rows c.setup.rows s.memory h.tracks.holds h.tracks.above))

  pub given : Given c s g.image m.rows m.place.written
  given = record {
    same_lanes = h.serves.same_lanes;
    is_image = h.serves.same_image;
    lent = sym h.tracks.holds.rows;
    bytes = sees;
    room = λ k a w q. rw h.tracks.same_written (holds_new h.tracks.holds k a w q);
  }

  pub is_at : IsAt c g.image m.rows m.place s
  is_at = record { at_pc = h.tracks.same_pc; at_steps = h.tracks.same_steps; shown = sees }

  -- the locations after a store, of which no run has more than steps
  pub located_after : (new : Recorded) (address width : ℕ) → s.steps + 1 < 2 ^ 32 → Located m.noted m.place.pc address width g.symbols.event_count new
      → Keeps new (recorded c.program.symbols.event_count s.pc address width s.locations)
  located_after new address width b q =
      rw (ap (λ (x : Rv32SymbolLayout). x.event_count) h.serves.same_symbols)
      (subst (λ (x : ℕ). Keeps new (recorded g.symbols.event_count x address width s.locations)) h.tracks.same_pc
      (q s.locations (omega (arith, h.tracks.kept.located, b)) h.keeps))

  -- the word at stop's return value
  pub return_word : (u : Option ℕ) (d : LaneWord) → reg c.program c.setup s 10 ≡ word_of (get_or m.tags 10 u) (get_or m.words 10 d)
  unfolding reg
  return_word u d = held_source h.held 10 _ u d h.serves.least_registers
