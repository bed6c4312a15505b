-- The lane run simulates each scalar run: each part of a step, the step, n steps, and the whole run.
use Rattle.std.specs.Prelude.{Result}
use mathlib.Core.Path.{◌≡◌, refl, subst}
use mathlib.Core.Bool.{Bool, true, false}
use mathlib.Core.Option.{Option, none, some, none-ne-some}
use mathlib.Core.List.{List, [], ◌∷◌}
use Prim.Native.Nat.{ℕ, zero, suc, ◌+◌, ◌%◌}
use lib.Dec.{leb, eqb}
use lib.ListN.{length}
use Rattle.rv32_arithmetic.specs.Arithmetic.{add, target}
use Rattle.riscv32imc.specs.Constants.{image_base}
use Rattle.rv32_arithmetic.specs.Value.{value_of}
use Rattle.riscv_decode.specs.declared.Fetched.{Fetched}
use Rattle.lane_word.specs.declared.LaneWord.{LaneWord}
use Rattle.predicate_action.specs.declared.Action.{Action}
use Rattle.predicate_action.specs.declared.Action.TheVariants.{Nothing, Literal, Compute, ComputeImmediate, Jump, JumpTo, Branch, Load, Store}
use Rattle.predicate_action.specs.Meaning.{extension_of}
use Rattle.predicate_answer.specs.declared.CompiledMmioEvent.{CompiledMmioEvent}
use Rattle.predicate_semantics.specs.declared.Rv32SymbolLayout.{Rv32SymbolLayout}
use Rattle.predicate_semantics.specs.Choice.{choose}
use Rattle.predicate_semantics.specs.Program.{Program, memory_end, stop, stop_word, stack_pointer}
use Rattle.predicate_semantics.specs.State.{Effect, Attempted, advanced, apply}
use Rattle.predicate_semantics.specs.Memory.{Written, LaneBytes, lane_bytes}
use Rattle.predicate_semantics.specs.Memory as Memory
use Rattle.predicate_semantics.specs.Tested.{Tested, refuse, require, if_passed}
use Rattle.predicate_semantics.specs.Lane.{LaneState, Setup, count_of_lanes, reg}
use Rattle.predicate_semantics.specs.Lane as Lane
use Rattle.predicate_semantics.specs.Scalar.{Bytes, ScalarState}
use Rattle.predicate_semantics.specs.Scalar as Scalar
use Rattle.predicate_semantics.proofs.Sim.{Sim, stops, agrees, bind, bind_same, bind_lane, bind_value, bind_into, sim_require, sim_last, sim_found, sim_choose, sim_ended, bind_ended}
use Rattle.predicate_semantics.proofs.Related.{Pairs, SameEffect, same_goes, same_sets, same_stores, SameAttempt, same_attempt, pairs_at, pairs_assign, pairs_fill, related_start}
use Rattle.predicate_semantics.proofs.Values.{at_unary, at_binary, at_unknown, sim_agreed, OneLane, In, Mem, at_constant, at_domain, at_read, mem_write, mem_initial}
use Rattle.predicate_answer.specs.declared.CallError.{CallError}

-- the scalar state with a lane state's progress
abbrev pub view : LaneState → List ℕ → Bytes → ScalarState
view s rs m = record { pc = s.pc; registers = rs; memory = m; steps = s.steps; trace = s.trace; locations = s.locations }

pub sim_inside : (a n : ℕ) → Sim ◌≡◌ (Lane.inside a n) (Scalar.inside a n)
unfolding Lane.inside Scalar.inside
sim_inside a n = bind_same (sim_require 4 (leb image_base a)) (λ _. sim_require 5 (leb (a + n) memory_end))

sim_room_for : (end rows a n written : ℕ) → Sim ◌≡◌ (Lane.room_for end rows a n written) (Scalar.room_for end a n)
unfolding Lane.room_for Scalar.room_for
sim_room_for end rows a n written = bind_same (sim_inside a n) (λ _. bind_into (sim_require 11 _) (λ u v e. sim_last _ v))

sim_start_tests : (size : ℕ) (symbols : Rv32SymbolLayout) (choice : Result (Unit {0}) CallError) (rows : ℕ)
    → Sim ◌≡◌ (Lane.start_tests size symbols choice rows) (Scalar.start_tests size symbols)
unfolding Lane.start_tests Scalar.start_tests
sim_start_tests size symbols choice rows = bind_same (sim_require 1 _) (λ _. bind_into (sim_require 2 _) (λ u v e. bind_lane _ (λ _. sim_last _ v)))

module _ {p : Program} {l : Setup} (x : OneLane p l) where
  -- registers and memory of a scalar run, as the lane has those of a lane state
  pub record Beside (s : LaneState) (rs : List ℕ) (m : Bytes) : Type 0 where
    pub regs : Pairs (In x) s.registers rs
    pub mem : Mem x s.memory m

  -- a scalar state that goes with a lane state
  pub data Related : LaneState → ScalarState → Type 0 where
    related : {s : LaneState} {rs : List ℕ} {m : Bytes} → Beside s rs m → Related s (view s rs m)

  module _ {ws : List Written} {m : Bytes} (mem : Mem x ws m) where
    abbrev bytes : LaneBytes
    bytes = lane_bytes p.image (length l.inputs) ws

    sim_access : (n a : ℕ) → Sim (In x) (Lane.access (length l.inputs) bytes n a) (Scalar.access m n a)
    unfolding Lane.access Scalar.access
    sim_access n a = bind_same (sim_inside a n) (λ _. agrees (at_read x mem n a))

    sim_access_agreed : (role n a : ℕ) → Sim ◌≡◌ (Lane.access_agreed (length l.inputs) role bytes n a) (Scalar.access m n a)
    unfolding Lane.access_agreed
    sim_access_agreed role n a = bind_into (sim_access n a) (λ w v h. sim_agreed role h)

    sim_event_at : (a location : ℕ) → Sim ◌≡◌ (Lane.event_at (length l.inputs) bytes a location) (Scalar.event_at m a location)
    unfolding Lane.event_at Scalar.event_at
    sim_event_at a location =
        bind_same (sim_access_agreed 8 4 a) (λ o.
        bind_same (sim_access_agreed 9 4 _) (λ f.
        bind_same (sim_access_agreed 10 4 _) (λ v. agrees refl)))

    sim_events : (from i : ℕ) (done : List CompiledMmioEvent) (ls : List ℕ)
        → Sim ◌≡◌ (Lane.events (length l.inputs) from bytes i done ls) (Scalar.events from m i done ls)
    unfolding Lane.events Scalar.events
    sim_events from i done [] = agrees refl
    sim_events from i done (location ∷ ls) = bind_same (sim_event_at _ location) (λ e. sim_events from (suc i) _ ls)

  module _ {s : LaneState} {rs : List ℕ} {m : Bytes} (h : Beside s rs m) where
    sim_decode_word : (word n : ℕ) → Sim ◌≡◌ (Lane.decode_word p.core s.steps word n) (Scalar.decode_word p (view s rs m) word n)
    unfolding Lane.decode_word Scalar.decode_word
    sim_decode_word word n = bind_same (sim_found 9 _) (λ operation. agrees refl)

    sim_fetch : Sim ◌≡◌ (Lane.fetch (count_of_lanes p l) p.core (Lane.memory_of p l s) s.steps s.pc) (Scalar.fetch p (view s rs m))
    unfolding Lane.fetch Scalar.fetch Lane.fetch_four Scalar.fetch_four Lane.expand_halfword Scalar.expand_halfword Lane.memory_of count_of_lanes
    sim_fetch = bind_same (sim_access_agreed h.mem 1 2 _) (λ half.
        sim_choose (eqb (half % 4) 3)
        (λ _. bind_same (sim_access_agreed h.mem 1 4 _) (λ word. sim_decode_word word 4))
        (λ _. bind_same (sim_found 8 (p.core.expand half)) (λ word. sim_decode_word word 2)))

    pub at_reg : (i : ℕ) → In x (reg p l s i) (Scalar.reg (view s rs m) i)
    unfolding reg Scalar.reg count_of_lanes
    at_reg i = pairs_at (In x) (at_unknown _ x.number 0) h.regs i

    sim_execute : (next : ℕ) (a : Action) → Sim (SameEffect (In x)) (Lane.execute p l s next a) (Scalar.execute p (view s rs m) next a)
    unfolding Lane.execute Scalar.execute Lane.memory_of count_of_lanes
    sim_execute next Nothing = agrees (same_goes next)
    sim_execute next (Literal rd v) = agrees (same_sets rd next (at_constant x v))
    sim_execute next (Compute rd f a b) = agrees (same_sets rd next (at_binary (value_of f) (at_reg a) (at_reg b)))
    sim_execute next (ComputeImmediate rd f a n) = agrees (same_sets rd next (at_binary (value_of f) (at_reg a) (at_constant x n)))
    sim_execute next (Jump rd to) = agrees (same_sets rd to (at_constant x next))
    sim_execute next (JumpTo rd a offset) =
        bind_value _ (sim_agreed 2 (at_unary (λ v. target v offset) (at_reg a)))
        (bind_same (sim_require 10 _) (λ _. agrees (same_sets rd _ (at_constant x next))))
    sim_execute next (Branch f a b to) =
        bind_value _ (sim_agreed 5 (at_binary (value_of f) (at_reg a) (at_reg b))) (agrees (same_goes _))
    sim_execute next (Load rd a offset n e) =
        bind_value _ (sim_agreed 3 (at_unary (λ v. add v offset) (at_reg a)))
        (bind (sim_access h.mem n _) (λ w v g. agrees (same_sets rd next (at_unary (extension_of e) g))))
    sim_execute next (Store a b offset n) =
        bind_value _ (sim_agreed 4 (at_unary (λ v. add v offset) (at_reg a)))
        (bind_same (sim_room_for _ _ _ n _) (λ _. agrees (same_stores _ n next (at_reg b))))

    sim_attempt : Sim (SameAttempt (In x)) (Lane.attempt p l s) (Scalar.attempt p (view s rs m))
    unfolding Lane.attempt Scalar.attempt
    sim_attempt =
        bind_same sim_fetch (λ fetched.
        bind (sim_execute _ _) (λ e d g. agrees (same_attempt fetched g)))

    apply_related : (c : ℕ) (f : Fetched) {e : Effect LaneWord} {d : Effect ℕ} → SameEffect (In x) e d
        → Related (apply Memory.write c s f e) (apply Scalar.write c (view s rs m) f d)
    unfolding apply advanced
    apply_related c f (same_goes n) = related (record { regs = h.regs; mem = h.mem })
    apply_related c f (same_sets rd n g) = related (record { regs = pairs_assign (In x) h.regs rd g; mem = h.mem })
    apply_related c f (same_stores a z n g) = related (record { regs = h.regs; mem = mem_write x z h.mem a g })

    seen_related : (c : ℕ) {a : Attempted LaneWord} {b : Attempted ℕ} → SameAttempt (In x) a b
        → Related (apply Memory.write c s a.fetched a.effect) (apply Scalar.write c (view s rs m) b.fetched b.effect)
    seen_related c (same_attempt f g) = apply_related c f g

    sim_step : Sim (Related) (Lane.step p l s) (Scalar.step p (view s rs m))
    unfolding Lane.step Scalar.step
    sim_step = bind sim_attempt (λ a b g. bind_lane (require 14 _) (λ _. agrees (seen_related _ g)))

    sim_finish : Sim ◌≡◌ (Lane.finish p l s) (Scalar.finish p (view s rs m))
    unfolding Lane.finish Lane.finish_events Scalar.finish Lane.memory_of count_of_lanes
    sim_finish =
        bind_value _ (sim_agreed 6 (at_reg 10))
        (bind_same (sim_access_agreed h.mem 7 4 _) (λ count.
        bind_same (sim_require 12 _) (λ _.
        bind_same (sim_events h.mem _ _ _ _) (λ es. agrees refl))))

  -- where the lane run reaches a state, the scalar run reaches one that goes with it
  abbrev Along : LaneState → Option ScalarState → Type 0
  Along u o = (v : ScalarState) × (o ≡ some v) × Related u v

  along : {t : Tested LaneState} {o : Option ScalarState} (f : LaneState → Option LaneState) (g : ScalarState → Option ScalarState) (u : LaneState)
      → Sim (Related) t o → ((s : LaneState) (t : ScalarState) → Related s t → f s ≡ some u → Along u (g t)) → if_passed t f ≡ some u → Along u (Scalar.◌>>=◌ o g)
  unfolding if_passed Scalar.◌>>=◌
  along f g u stops h q = absurd (none-ne-some u q)
  along f g u (agrees r) h q = h _ _ r q

  -- n completed steps of the lane run are n completed steps of the scalar run
  sim_after : (n : ℕ) {s : LaneState} {t : ScalarState} → Related s t → (u : LaneState) → Lane.after p l n s ≡ some u → Along u (Scalar.after p n t)
  unfolding Lane.after Scalar.after choose
  sim_after zero {s} {t} r u q = let e : s ≡ u = cc q in (t, refl, subst (λ (y : LaneState). Related y t) e r)
  sim_after (suc n) (related {s} {rs} {m} b) u q = go (eqb s.pc stop) (λ s t r. sim_after n r u) q
    where
      go : (c : Bool) → ((s : LaneState) (t : ScalarState) → Related s t → Lane.after p l n s ≡ some u → Along u (Scalar.after p n t))
          → choose c (λ _. none) (λ _. if_passed (Lane.step p l s) (λ t. Lane.after p l n t)) ≡ some u
          → Along u (choose c (λ _. none) (λ _. Scalar.◌>>=◌ (Scalar.step p (view s rs m)) (λ t. Scalar.after p n t)))
      go true h q = absurd (none-ne-some u q)
      go false h q = along _ _ u (sim_step b) h q

  sim_run : (n : ℕ) {s : LaneState} {t : ScalarState} → Related s t → Sim ◌≡◌ (Lane.run p l n s).answer (Scalar.run p n t)
  unfolding Lane.run Scalar.run refuse
  sim_run zero (related {s} b) = sim_ended (eqb s.pc stop) _ _ (λ _. sim_finish b) (λ _. stops)
  sim_run (suc n) (related {s} b) =
      sim_ended (eqb s.pc stop) _ _ (λ _. sim_finish b)
      (λ _. bind_ended s _ (sim_step b) (λ s t r. sim_run n r))

  sim_start : (others : ℕ → ℕ) → Sim (Related) (Lane.start p l) (Scalar.start p x.input others)
  unfolding Lane.start Scalar.start Lane.begin count_of_lanes
  sim_start others =
      bind_same (sim_start_tests _ _ _ _) (λ _. agrees (related (record {
        regs = pairs_fill (In x) _ 0 _ _ (related_start (In x) (at_constant x 0) (at_constant x stop) (at_constant x stack_pointer) (at_domain x) (λ j. at_unknown _ x.number _));
        mem = mem_write x 4 (mem_initial x) stop (at_constant x stop_word);
      })))

  pub sim_reached : (n : ℕ) (others : ℕ → ℕ) (u : LaneState) → Lane.reached p l n ≡ some u → Along u (Scalar.reached p n x.input others)
  unfolding Lane.reached Scalar.reached
  sim_reached n others u q = along _ _ u (sim_start others) (λ s t r. sim_after n r u) q

  pub sim_lane_run : (limit : ℕ) (others : ℕ → ℕ) → Sim ◌≡◌ (Lane.lane_run p l limit).answer (Scalar.scalar_run p limit x.input others)
  unfolding Lane.lane_run Scalar.scalar_run
  sim_lane_run limit others = bind_ended _ _ (sim_start others) (λ s t r. sim_run limit r)
