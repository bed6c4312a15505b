-- A step of the code is the semantics' step: a law for those that go on, and one for those that are refused. Assumes nothing.
use Rattle.std.specs.Prelude.{Err, Result}
use mathlib.Core.Path.{◌≡◌, refl, sym, ap, ◌∙◌}
use mathlib.Core.Bool.{true}
use mathlib.Core.List.{List, [], ◌∷◌, ◌++◌}
use Prim.Native.Nat.{ℕ, suc, ◌+◌, ◌-◌, ◌*◌, ◌%◌, ◌^◌, ◌≤◌, ◌<◌}
use native.Mathlib.Nat.{mod-eq_of_lt}
use native.Mathlib.Omega.{arith}
use lib.Dec.{ltb}
use lib.ListN.{length}
use Rattle.rv32_arithmetic.specs.Arithmetic.{add}
use Rattle.riscv32imc.specs.Constants.{max_memory_bytes}
use Rattle.riscv_decode.specs.declared.Fetched.{Fetched}
use Rattle.lane_word.specs.declared.LaneWord.{LaneWord}
use Rattle.predicate_trace.specs.declared.PredicateControlStep.{PredicateControlStep}
use Rattle.predicate_trace.specs.Trace.{entry_bytes, put_entry, put_entries}
use Rattle.predicate_trace.proofs.TraceLaws.{entry_byte, entries_add}
use Rattle.predicate_semantics.specs.Program.{image_end}
use Rattle.predicate_semantics.specs.State.{Effect, Attempted, goes, sets, stores, advanced, apply}
use Rattle.predicate_semantics.specs.Memory.{write}
use Rattle.predicate_semantics.specs.Tested.{Tested, passed, refused, ◌>>=◌, require}
use Rattle.predicate_semantics.specs.Lane.{LaneState, count_of_lanes, memory_of, fetch, execute, attempt, step}
use Rattle.predicate_semantics.specs.Kept.{Kept}
use Rattle.predicate_semantics.proofs.Laws.{run_refused}
use Rattle.predicate_semantics.proofs.RecordRules.{Clear, effect_clear, kept_step, room}
use Rattle.predicate_action.specs.declared.Action.{Action}
use Rattle.predicate_action.specs.Meaning.{meaning}
use Rattle.predicate_answer.specs.declared.Rv32Error.{Rv32Error}
use Rattle.predicate_answer.specs.Refusal.{refusal_of}
use Rattle.lane_memory.specs.Holds.{Holds}
use Rattle.lane_memory.proofs.Laws.{holds_new}
use Rattle.lane_access.specs.Seen.{seen, Above}
use Rattle.lane_access.proofs.Laws.{above_write}
use Rattle.riscv32imc_predicate.specs.declared.Step.{Step}
use Rattle.riscv32imc_predicate.specs.declared.Ending.TheVariants as ending
use Rattle.riscv32imc_predicate.specs.declared.Place.{Place}
use Rattle.riscv32imc_predicate.specs.declared.Progress.{Progress}
use Rattle.riscv32imc_predicate.specs.declared.Recorded.{Recorded}
use Rattle.riscv32imc_predicate.specs.Setting.{Setting, Environment}
use Rattle.riscv32imc_predicate.specs.Changes.{decision_of, last_tested}
use Rattle.riscv32imc_predicate.specs.Coming.{Continues, Ends}
use Rattle.riscv32imc_predicate.specs.Register.{Stores}
use Rattle.riscv32imc_predicate.specs.Tracking.{Tracks, Keeps, Machine, Stands, moved_to, entry_by, Located}
use Rattle.riscv32imc_predicate.proofs.Following.{last_passed, last_refused, located_after}

-- ---- what a step changes

abbrev pub next_of : Effect LaneWord → ℕ
next_of (goes next) = next
next_of (sets rd value next) = next
next_of (stores address width value next) = next

-- the state after a step
abbrev pub after : Setting → LaneState → Fetched → Effect LaneWord → LaneState
after c s f z = apply write c.program.symbols.event_count s f z

abbrev entry_of : LaneState → Fetched → ℕ → PredicateControlStep
entry_of s f next = entry_by s.pc f.word f.length next

same_entry : {bs bs' : List ℕ} (i : ℕ) {j : ℕ} (e : PredicateControlStep) {e' : PredicateControlStep} → bs ≡ bs' → i ≡ j → e ≡ e'
    → put_entry bs (i * entry_bytes) e ≡ put_entry bs' (j * entry_bytes) e'
same_entry i e p q r = rw (p, q, r)

-- pc, steps and trace change alike, whatever the effect is
moved : (c : Setting) (s : LaneState) (f : Fetched) (z : Effect LaneWord)
    → ((after c s f z).pc ≡ next_of z) × ((after c s f z).steps ≡ suc s.steps) × ((after c s f z).trace ≡ s.trace ++ entry_of s f (next_of z) ∷ [])
unfolding apply advanced
moved c s f (goes next) = (refl, refl, refl)
moved c s f (sets rd value next) = (refl, refl, refl)
moved c s f (stores address width value next) = (refl, refl, refl)

-- what the code left of a step with an effect: rows, and locations
pub record Leaves (c : Setting) (s : LaneState) (f : Fetched) (z : Effect LaneWord) (new : ℕ) (noted : Recorded) (rows : List ℕ) : Type 0 where
  pub counted : length (after c s f z).memory ≡ length s.memory + new
  pub holds : Holds rows c.setup.rows (after c s f z).memory
  pub above : Above (image_end c.program) (after c s f z).memory
  pub keeps : Keeps noted (after c s f z).locations

-- a completed step's place and trace
pub record Completes (m : Machine) (progress : Progress) (next new : ℕ) (place : Place) (trace : List ℕ) : Type 0 where
  pub moves : place ≡ moved_to m.place next new
  pub entry : trace ≡ put_entry m.trace (m.place.steps * entry_bytes) (entry_by m.place.pc progress.word (progress.length % 256) next)

-- ---- from a state with a fetched instruction

-- what the step comes to, as the code decides, with the computed word and the second source's
abbrev pub Decided : Setting → Environment → Machine → Progress → LaneState → LaneWord → LaneWord → Result Step Rv32Error → Type 0
Decided c g m progress s w x y =
    decision_of (seen g.image m.rows) w x y
    ≡ last_tested (execute c.program c.setup s (add m.place.pc progress.length) progress.action) m.place.steps g.bounds.entries

-- the operation in the semantics
abbrev pub operates : Setting → LaneState → Fetched → Tested (Effect LaneWord)
operates c s f = execute c.program c.setup s (add s.pc f.length) (meaning f.operation s.pc)

-- a step whose fetch is known: its operation, the trace space, its change
step_is : (c : Setting) (s : LaneState) (f : Fetched)
    → fetch (count_of_lanes c.program c.setup) c.program.core (memory_of c.program c.setup s) s.steps s.pc ≡ passed f
    → step c.program c.setup s ≡ (operates c s f >>= λ e. require 14 (ltb s.steps c.setup.entries) >>= λ _. passed (after c s f e))
unfolding step attempt ◌>>=◌
step_is c s f q = rw q (go (operates c s f))
  where
    go : (m : Tested (Effect LaneWord))
        → ((m >>= λ e. let l : Attempted LaneWord = record { fetched = f; effect = e } in passed l)
        >>= λ x. require 14 (ltb s.steps c.setup.entries) >>= λ _. passed (after c s x.fetched x.effect))
        ≡ (m >>= λ e. require 14 (ltb s.steps c.setup.entries) >>= λ _. passed (after c s f e))
    go (passed e) = refl
    go (refused r) = refl

module _ {c : Setting} {g : Environment} {m : Machine} {progress : Progress} {s : LaneState} (h : Stands c g m s) (k : Continues c progress s) where
  abbrev f : Fetched
  f = k.instruction

  -- the operation passes with an effect, and there is an entry
  abbrev pub Passes : Effect LaneWord → Type 0
  Passes z = (operates c s f ≡ passed z) × (ltb s.steps c.setup.entries ≡ true)

  module _ (w x : LaneWord) (y : Result Step Rv32Error) (d : Decided c g m progress s w x y) where
    tested : decision_of (seen g.image m.rows) w x y ≡ (operates c s f >>= λ z. require 14 (ltb s.steps c.setup.entries) >>= λ _. passed z)
    tested =
        d
        ∙ ap (λ (n : ℕ). last_tested (execute c.program c.setup s (add n progress.length) progress.action) m.place.steps g.bounds.entries) h.tracks.same_pc
        ∙ ap (λ (n : ℕ). last_tested (execute c.program c.setup s (add s.pc n) progress.action) m.place.steps g.bounds.entries) k.same_length
        ∙ ap (λ (a : Action). last_tested (execute c.program c.setup s (add s.pc f.length) a) m.place.steps g.bounds.entries) k.same_action
        ∙ ap (λ (n : ℕ). last_tested (operates c s f) n g.bounds.entries) h.tracks.same_steps
        ∙ ap (λ (n : ℕ). last_tested (operates c s f) s.steps n) (sym h.serves.same_entries)

    pub passes : (z : Effect LaneWord) → decision_of (seen g.image m.rows) w x y ≡ passed z → Passes z
    passes z same = last_passed (operates c s f) (ltb s.steps c.setup.entries) z (sym tested ∙ same)

  -- a refused step ends the run
  pub on_refused : (w x : LaneWord) (e : Rv32Error) → Decided c g m progress s w x (Err e) → Ends c g.bounds.pause (ending.Refused e) s
  on_refused w x e d =
      let z : step c.program c.setup s ≡ refused (refusal_of e)
      = step_is c s f k.fetched ∙ last_refused (operates c s f) _ _ (refusal_of e) (sym (tested w x (Err e) d)) in
      let fuel : c.limit - s.steps ≡ suc (c.limit - suc s.steps) = omega (arith, k.below) in
      rw fuel (run_refused c.program c.setup (c.limit - suc s.steps) s (refusal_of e) k.moving z)

  module _ (z : Effect LaneWord) (b : Passes z) where
    abbrev u : LaneState
    u = after c s f z

    pub stepped : step c.program c.setup s ≡ passed u
    unfolding ◌>>=◌ require
    stepped = step_is c s f k.fetched ∙ rw (b.0, b.1)

    pub clear : Clear c.program c.setup s z
    clear = effect_clear c.program c.setup s (add s.pc f.length) s.pc f.operation (omega arith) b.0

    module _ {new : ℕ} {noted : Recorded} {place : Place} {rows trace : List ℕ} (l : Leaves c s f z new noted rows) (o : Completes m progress (next_of z) new place trace) where
      entered : trace ≡ put_entries c.lent 0 u.trace
      entered =
          let t = h.tracks in
          let at : m.place.steps ≡ 0 + length s.trace = omega (arith, t.same_steps, t.kept.traced.counted) in
          o.entry
          ∙ entry_byte m.trace (m.place.steps * entry_bytes) m.place.pc progress.word progress.length (next_of z)
          ∙ same_entry m.place.steps (entry_by m.place.pc progress.word progress.length (next_of z)) t.traced at
          (ap (λ (x : ℕ). entry_by x progress.word progress.length (next_of z)) t.same_pc
          ∙ ap (λ (x : ℕ). entry_by s.pc x progress.length (next_of z)) k.same_word
          ∙ ap (λ (x : ℕ). entry_by s.pc f.word x (next_of z)) k.same_length)
          ∙ sym (entries_add c.lent 0 s.trace (entry_of s f (next_of z)))
          ∙ ap (put_entries c.lent 0) (sym (moved c s f z).2)

      -- a completed step leads to the state that the code tracks next
      pub on_passed : Tracks c place rows trace u
      on_passed =
          let t = h.tracks in
          let kept : Kept c.program c.setup u = kept_step c.program c.setup s u t.kept stepped in
          let few : length u.memory < max_memory_bytes = room c.program c.setup kept.fits kept.stored.distinct in
          record {
            kept = kept;
            same_pc = ap (λ (x : Place). x.pc) o.moves ∙ sym (moved c s f z).0;
            same_steps =
                ap (λ (x : Place). x.steps) o.moves
                ∙ mod-eq_of_lt (omega (arith, t.same_steps, k.below, h.serves.small_limit)) ∙ omega (arith, t.same_steps, (moved c s f z).1);
            bounded = omega (arith, (moved c s f z).1, k.below);
            holds = l.holds;
            above = l.above;
            same_written = ap (λ (x : Place). x.written) o.moves ∙ mod-eq_of_lt (omega (arith, t.same_written, l.counted, few)) ∙ omega (arith, t.same_written, l.counted);
            traced = entered;
          }

  -- nothing is stored
  pub leaves_going : (next new : ℕ) → new ≡ 0 → Leaves c s f (goes next) new m.noted m.rows
  unfolding apply advanced
  leaves_going next new e = record { counted = omega (arith, e); holds = h.tracks.holds; above = h.tracks.above; keeps = h.keeps }

  pub leaves_setting : (rd next new : ℕ) (v : LaneWord) → new ≡ 0 → Leaves c s f (sets rd v next) new m.noted m.rows
  unfolding apply advanced
  leaves_setting rd next new v e = record { counted = omega (arith, e); holds = h.tracks.holds; above = h.tracks.above; keeps = h.keeps }

  -- bytes are
  pub leaves_storing : (a n next : ℕ) (x : LaneWord) → Passes (stores a n x next) → {new : ℕ} {noted : Recorded} {rows : List ℕ}
      → Stores m.rows a n x new rows × Located m.noted m.place.pc a n g.symbols.event_count noted → Leaves c s f (stores a n x next) new noted rows
  unfolding apply advanced
  leaves_storing a n next x b {new} {noted} {rows} (o, j) =
      let t = h.tracks in
      let q : Clear c.program c.setup s (stores a n x next) = clear (stores a n x next) b in
      let fits : a + n ≤ 2 ^ 32 = omega (arith, q.2) in
      record {
        counted = holds_new t.holds n a x fits ∙ ap (λ (i : ℕ). length s.memory + i) (sym o.fresh);
        holds = o.holds c.setup.rows s.memory t.holds fits q.3;
        above = above_write (image_end c.program) n a x s.memory q.1 t.above;
        keeps = located_after h noted a n (omega (arith, k.below, h.serves.small_limit)) j;
      }
