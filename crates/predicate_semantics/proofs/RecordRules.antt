-- The record's rules hold of every run.
use Rattle.std.specs.Prelude.{Err, Ok, Result}
use mathlib.Core.Path.{◌≡◌, refl, sym, ◌∙◌, subst}
use mathlib.Core.Bool.{Bool, true, false, ◌&&◌, cond}
use mathlib.Core.Logic.{◌⊎◌, inl, inr}
use mathlib.Core.List.{List, [], ◌∷◌, ◌++◌, map}
use Prim.Native.Nat.{ℕ, zero, suc, ◌+◌, ◌-◌, ◌≤◌, ◌<◌, ◌%◌, ◌^◌}
use native.Mathlib.Nat.{le_trans}
use native.Mathlib.Omega.{arith}
use lib.Dec.{T, leb, ltb, eqb, leb→le, ltb→lt, eqb→eq}
use lib.ListN.{get_or, length, length-append}
use borrow.Author.Tests.{eqb-true, eqb-false, eq-eqb, ne_eqb, ltb-true, ltb-false, leb-true}
use Rattle.riscv32imc.specs.Constants.{image_base, max_image_bytes, max_memory_bytes, max_steps}
use Rattle.rv32_arithmetic.specs.Arithmetic.{target}
use Rattle.rv32_arithmetic.specs.Bits.{join}
use Rattle.riscv_decode.specs.declared.Fetched.{Fetched}
use Rattle.riscv_decode.specs.declared.Operation.{Operation}
use Rattle.lane_word.specs.declared.LaneWord.{LaneWord}
use Rattle.lane_word.specs.Word.{constant, domain, zip, unary, binary, every, uniform_of}
use Rattle.lane_word.specs.Range.{inputs, input_count}
use Rattle.lane_word.specs.declared.InputRange.{InputRange}
use Rattle.lane_word.proofs.Lists.{length_inputs, get_d_inputs}
use Rattle.predicate_action.specs.declared.Action.{Action}
use Rattle.predicate_action.specs.declared.Action.TheVariants.{Nothing, Literal, Compute, ComputeImmediate, Jump, JumpTo, Branch, Load, Store}
use Rattle.predicate_action.specs.Meaning.{meaning}
use Rattle.predicate_action.proofs.Targets.{Leads, meaning_leads}
use Rattle.predicate_answer.specs.declared.CompiledMmioEvent.{CompiledMmioEvent}
use Rattle.predicate_trace.specs.declared.PredicateControlStep.{PredicateControlStep}
use Rattle.predicate_answer.specs.declared.CallError.TheVariants as call
use Rattle.predicate_semantics.specs.Choice.{choose}
use Rattle.predicate_semantics.specs.Program.{Program, memory_end, stop, stop_word, image_end, sized, in_memory, symbols_placed}
use Rattle.predicate_answer.specs.Blank.{max_events}
use Rattle.predicate_semantics.specs.State.{RunResult, Effect, goes, sets, stores, Attempted, fill, at_start, recorded, advanced, apply}
use Rattle.predicate_semantics.specs.Memory.{Written, LaneBytes, put, read, write}
use Rattle.predicate_semantics.specs.Tested.{Tested, passed, refused, refuse, ◌>>=◌}
use Rattle.predicate_answer.specs.Refusal.{Refusal, of_call}
use Rattle.predicate_semantics.specs.Lane.{LaneState, Setup, Ended, on, inside, count_of_lanes, memory_of, agreed_as, agreed, reg, access, access_agreed, room_for, decode_word, expand_halfword, fetch_four, fetch, event_at, execute, attempt, step, events, finish_events, finish, run, begin, start, lane_run, lane_operations, written_bytes, execution}
use Rattle.predicate_semantics.specs.Standing.{standing_core, program_of}
use Rattle.predicate_semantics.specs.Call.{Call, range_test, program_in, setup_of, run_of}
use Rattle.predicate_semantics.specs.Order.{StartOrder}
use Rattle.predicate_semantics.specs.Kept.{Distinct, Sized, Stored, Traced, Kept}
use Rattle.predicate_semantics.specs.RecordRules.{Chain, Words, ExpandsToWords, Completed, Accepted, numbers_over, TakesStep, proper, ProperRefusal}
use Rattle.predicate_semantics.proofs.Lists.{both_left, both_right}
use Rattle.predicate_semantics.proofs.Laws.{run_stop, steps_apply, write_grows}
use Rattle.predicate_semantics.proofs.Order.{start_order}
use Rattle.predicate_semantics.proofs.Always.{no_pass, Always, stops, gives, bind, weaken, always_require, always_found, always_choose, passes, refuses}
use Rattle.predicate_semantics.proofs.Written.{distinct_none, distinct_write, distinct_fits}
use Rattle.lane_word.specs.declared.UniformError.TheVariants.{Unknown, Uneven}
use Rattle.predicate_answer.specs.declared.CallError.{CallError}

-- a trace goes on from where it leads
chain_add : (from to : ℕ) (t : List PredicateControlStep) (c : PredicateControlStep) → Chain from t to → c.program_counter ≡ to
    → (c.instruction_bytes ≡ 2) ⊎ (c.instruction_bytes ≡ 4) → Chain from (t ++ c ∷ []) c.next_program_counter
chain_add from to [] c h e b = (e ∙ sym h, b, refl)
chain_add from to (d ∷ t) c h e b = (h.0, h.1, chain_add d.next_program_counter to t c h.2 e b)

-- the stop word's four bytes
pub four : (w : LaneWord) → length (write [] 4 stop w) ≡ 4
unfolding write put choose
four w = refl

words_add : (t : List PredicateControlStep) (c : PredicateControlStep) → Words t
    → c.program_counter < 2 ^ 32 → c.instruction_word < 2 ^ 32 → c.next_program_counter < 2 ^ 32 → Words (t ++ c ∷ [])
words_add [] c h x y z = (x, y, z, tt)
words_add (d ∷ t) c h x y z = (h.0, h.1, h.2, words_add t c h.3 x y z)

-- lane 0 of a lane word that is joined from bytes, or moved to a target
first_zip : (xs ys : List ℕ) → get_or (zip join xs ys) 0 0 < 2 ^ 32
unfolding zip
first_zip [] ys = omega arith
first_zip (x ∷ xs) [] = omega arith
first_zip (x ∷ xs) (y ∷ ys) = omega arith

first_read : (lanes : ℕ) (m : LaneBytes) (n a : ℕ) → get_or (read lanes m n a).values 0 0 < 2 ^ 32
unfolding read constant binary
first_read zero m zero a = omega arith
first_read (suc lanes) m zero a = omega arith
first_read zero m (suc n) a = first_zip _ _
first_read (suc lanes) m (suc n) a = first_zip _ _

first_target : (offset : ℕ) (xs : List ℕ) → get_or (map (λ v. target v offset) xs) 0 0 < 2 ^ 32
first_target offset [] = omega arith
first_target offset (x ∷ xs) = omega arith

either_fits : (b : Bool) (x y : ℕ) → x < 2 ^ 32 → y < 2 ^ 32 → choose b (λ _. x) (λ _. y) < 2 ^ 32
unfolding choose
either_fits true x y h g = h
either_fits false x y h g = g

-- a step adds at most one location
recorded_few : (c pc a n : ℕ) (ls : List ℕ) → length (recorded c pc a n ls) ≤ suc (length ls)
unfolding recorded choose
recorded_few c pc a n ls = go (eqb n 4 && eqb a c)
  where
    go : (b : Bool) → length (choose b (λ _. ls ++ pc ∷ []) (λ _. ls)) ≤ suc (length ls)
    go true = simp length-append (omega arith)
    go false = omega arith

module _ (p : Program) (l : Setup) where
  fit : T (sized (length p.image)) → Sized p l
  unfolding sized
  fit t =
      let some : Bool = ltb 0 (length p.image) in
      let few : Bool = leb (length p.image) max_image_bytes in
      (ltb→lt _ _ (both_left some few t), leb→le _ _ (both_right some few t))

  -- no refusal 2
  entry_fits : T (symbols_placed p.symbols) → p.symbols.entry < 2 ^ 32
  unfolding symbols_placed in_memory
  entry_fits t =
      let e : ℕ = p.symbols.entry in
      let inside_memory : Bool = leb image_base e && ltb e memory_end in
      omega (arith, ltb→lt e memory_end (both_right (leb image_base e) (ltb e memory_end) (both_left inside_memory _ (both_left (inside_memory && _) _ t))))

  -- a fetched instruction
  record Short (f : Fetched) : Type 0 where
    size : (f.length ≡ 2) ⊎ (f.length ≡ 4)
    word_fits : ExpandsToWords p.core → f.word < 2 ^ 32

  -- where a step leads, and what it stores
  abbrev pub Clear : LaneState → Effect LaneWord → Type 0
  Clear s (goes next) = next < 2 ^ 32
  Clear s (sets rd value next) = next < 2 ^ 32
  Clear s (stores a n value next) =
      (next < 2 ^ 32) × (image_end p ≤ a) × (a + n ≤ memory_end) × (length (write s.memory n a value) ≤ l.rows)

  pub room : {ws : List Written} → Sized p l → Distinct (image_end p) memory_end ws → length ws < max_memory_bytes
  room {ws} h d =
      omega (arith, distinct_fits (image_end p) (max_memory_bytes - length p.image) ws (subst (λ (x : ℕ). Distinct (image_end p) x ws) (omega arith) d))

  -- a step from a kept state that has a trace entry
  record Enters (s : LaneState) (f : Fetched) : Type 0 where
    kept : Kept p l s
    instruction : Short f
    lent : s.steps < l.entries

  kept_advanced : {s : LaneState} {f : Fetched} {next : ℕ} (registers : List LaneWord) {ws : List Written} (locations : List ℕ)
      → Enters s f → next < 2 ^ 32 → Stored p l ws → length locations ≤ suc (length s.locations) → Kept p l (advanced s f next registers ws locations)
  unfolding advanced
  kept_advanced {s} registers locations h n stored few = record {
    fits = h.kept.fits;
    small = n;
    traced = record {
      counted = simp length-append (omega (arith, h.kept.traced.counted));
      entered = h.lent;
      chained = chain_add p.symbols.entry s.pc s.trace _ h.kept.traced.chained refl h.instruction.size;
      words = λ x. words_add s.trace _ (h.kept.traced.words x) h.kept.small (h.instruction.word_fits x) n;
    };
    stored = stored;
    located = omega (arith, few, h.kept.located);
  }

  kept_apply : {s : LaneState} {f : Fetched} (e : Effect LaneWord) → Enters s f → Clear s e → Kept p l (apply write p.symbols.event_count s f e)
  unfolding apply
  kept_apply (goes next) h c = kept_advanced _ _ h c h.kept.stored (omega arith)
  kept_apply (sets rd value next) h c = kept_advanced _ _ h c h.kept.stored (omega arith)
  kept_apply {s} (stores a n value next) h c = kept_advanced _ _ h c.0 (record {
    least = le_trans h.kept.stored.least (write_grows n s.memory a value);
    most = c.3;
    distinct = distinct_write n a value c.1 c.2 h.kept.stored.distinct;
  }) (recorded_few p.symbols.event_count s.pc a n s.locations)

  abbrev Proper : Refusal → Type 0
  Proper = ProperRefusal l

  -- the value that lanes agree on is lane 0's
  always_agreed : (role : ℕ) (w : LaneWord) → T (leb 1 role && leb role 10) → Always Proper (λ v. v ≡ get_or w.values 0 0) (agreed role w)
  unfolding agreed uniform_of refuse proper
  always_agreed role w t = go w.known (every (get_or w.values 0 0) w.values)
    where
      go : (b c : Bool)
          → Always Proper (λ v. v ≡ get_or w.values 0 0) (agreed_as role (cond b (cond c (Ok (get_or w.values 0 0)) (Err Uneven)) (Err Unknown)))
      go true true = gives refl
      go true false = stops _ t
      go false c = stops _ t

  always_inside : (a n : ℕ) → Always Proper (λ _. a + n ≤ memory_end) (inside a n)
  unfolding inside proper
  always_inside a n =
      bind (always_require 4 _ tt) (λ u t.
      weaken (always_require 5 _ tt) (λ u t. leb→le _ _ t))

  always_room_for : (end rows a n written : ℕ) → Always Proper (λ _. (end ≤ a) × (a + n ≤ memory_end) × (written ≤ rows)) (room_for end rows a n written)
  unfolding room_for proper
  always_room_for end rows a n written =
      bind (always_inside a n) (λ u high.
      bind (always_require 11 _ tt) (λ u low.
      weaken (always_require 13 _ tt) (λ u few. (leb→le _ _ low, high, leb→le _ _ few))))

  always_access : (m : LaneBytes) (n a : ℕ) → Always Proper (λ w. w ≡ read (count_of_lanes p l) m n a) (access (count_of_lanes p l) m n a)
  unfolding access
  always_access m n a = bind (always_inside a n) (λ u t. gives refl)

  always_access_agreed : (role : ℕ) (m : LaneBytes) (n a : ℕ) → T (leb 1 role && leb role 10)
      → Always Proper (λ v. v < 2 ^ 32) (access_agreed (count_of_lanes p l) role m n a)
  unfolding access_agreed
  always_access_agreed role m n a t =
      bind (always_access m n a) (λ w e.
      weaken (always_agreed role w t) (λ v f. rw (f, e) (first_read (count_of_lanes p l) m n a)))

  always_decode_word : (steps word n : ℕ) → (n ≡ 2) ⊎ (n ≡ 4) → (ExpandsToWords p.core → word < 2 ^ 32) → Always Proper Short (decode_word p.core steps word n)
  unfolding decode_word proper
  always_decode_word steps word n h x = bind (always_found 9 _ tt) (λ operation _. gives (record { size = h; word_fits = x }))

  always_fetch : (m : LaneBytes) (steps pc : ℕ) → Always Proper Short (fetch (count_of_lanes p l) p.core m steps pc)
  unfolding fetch fetch_four expand_halfword proper
  always_fetch m steps pc =
      bind (always_access_agreed 1 m 2 pc tt) (λ half _.
      always_choose (eqb (half % 4) 3)
      (λ _. bind (always_access_agreed 1 m 4 pc tt) (λ word h. always_decode_word steps word 4 (inr refl) (λ x. h)))
      (λ _. bind (always_found 8 (p.core.expand half) tt) (λ word e. always_decode_word steps word 2 (inl refl) (λ x. x half word e))))

  always_execute : (s : LaneState) (next : ℕ) (d : Action) → next < 2 ^ 32 → Leads d → Always Proper (Clear s) (execute p l s next d)
  unfolding execute proper unary
  always_execute s next Nothing h g = gives h
  always_execute s next (Literal rd v) h g = gives h
  always_execute s next (Compute rd f a b) h g = gives h
  always_execute s next (ComputeImmediate rd f a n) h g = gives h
  always_execute s next (Jump rd to) h g = gives g
  always_execute s next (JumpTo rd a offset) h g =
      bind (always_agreed 2 _ tt) (λ to e.
      bind (always_require 10 _ tt) (λ u t. gives (rw e (first_target offset (reg p l s a).values))))
  always_execute s next (Branch f a b to) h g = bind (always_agreed 5 _ tt) (λ direction _. gives (either_fits (eqb direction 0) next to h g))
  always_execute s next (Load rd a offset n e) h g =
      bind (always_agreed 3 _ tt) (λ address _.
      bind (always_access (memory_of p l s) n address) (λ w _. gives h))
  always_execute s next (Store a b offset n) h g =
      bind (always_agreed 4 _ tt) (λ address _.
      bind (always_room_for (image_end p) l.rows address n _) (λ u room. gives (h, room.0, room.1, room.2)))

  always_attempt : (s : LaneState) → Always Proper (λ (seen : Attempted LaneWord). Short seen.fetched × Clear s seen.effect) (attempt p l s)
  unfolding attempt
  always_attempt s =
      bind (always_fetch _ _ _) (λ fetched b.
      bind (always_execute s _ _ (omega arith) (meaning_leads fetched.operation s.pc)) (λ effect c. gives (b, c)))

  always_step : (s : LaneState) → Kept p l s → Always Proper (λ t. Kept p l t × (t.steps ≡ suc s.steps)) (step p l s)
  unfolding step proper
  always_step s k =
      bind (always_attempt s) (λ seen h.
      bind (always_require 14 _ tt) (λ u t.
      gives (kept_apply seen.effect (record { kept = k; instruction = h.0; lent = ltb→lt _ _ t }) h.1, steps_apply write _ s seen.fetched seen.effect)))

  always_event_at : (m : LaneBytes) (a location : ℕ) → Always Proper (λ _. Unit {0}) (event_at (count_of_lanes p l) m a location)
  unfolding event_at
  always_event_at m a location =
      bind (always_access_agreed 8 m 4 a tt) (λ o _.
      bind (always_access_agreed 9 m 4 _ tt) (λ f _.
      bind (always_access_agreed 10 m 4 _ tt) (λ v _. gives tt)))

  always_events : (from : ℕ) (m : LaneBytes) (i : ℕ) (done : List CompiledMmioEvent) (ls : List ℕ)
      → Always Proper (λ es. length es ≡ length done + length ls) (events (count_of_lanes p l) from m i done ls)
  unfolding events
  always_events from m i done [] = gives {a = done} (omega arith)
  always_events from m i done (x ∷ ls) =
      bind (always_event_at m _ x) (λ e _.
      weaken (always_events from m (suc i) _ ls) (λ es e. e ∙ simp length-append (omega arith)))

  -- what an answer has from the state at stop
  record Answered (s : LaneState) (r : RunResult) : Type 0 where
    same_steps : s.steps ≡ r.steps
    same_trace : s.trace ≡ r.trace
    few : length r.events ≤ max_events
    as_located : length r.events ≡ length s.locations

  always_finish : (s : LaneState) → Always Proper (Answered s) (finish p l s)
  unfolding finish finish_events proper
  always_finish s =
      bind (always_agreed 6 _ tt) (λ value _.
      bind (always_access_agreed 7 (memory_of p l s) 4 _ tt) (λ count _.
      bind (always_require 12 _ tt) (λ u t.
      bind (always_events _ (memory_of p l s) 0 [] s.locations) (λ es e. gives (record {
        same_steps = refl;
        same_trace = refl;
        few = bounded count (length s.locations) (length es) t e;
        as_located = omega (arith, e);
      })))))
    where
      bounded : (count n m : ℕ) → T (leb count max_events && eqb count n) → m ≡ 0 + n → m ≤ max_events
      bounded count n m t e =
          let few : Bool = leb count max_events in
          omega (arith, leb→le count max_events (both_left few (eqb count n) t), eqb→eq count n (both_right few (eqb count n) t))

  -- an event for each location, and no more than are kept
  pub events_located : (s : LaneState) (r : RunResult) → finish p l s ≡ passed r → (length r.events ≡ length s.locations) × (length r.events ≤ max_events)
  events_located s r q = let a : Answered s r = passes (rw q at (always_finish s)) in (a.as_located, a.few)

  -- what holds where a run ends: of its trace, its steps, and an answer at stop
  abbrev Ends : ℕ → Ended → Type 0
  Ends most e =
      Traced p l e.state
      × (e.state.steps ≤ most)
      × Always Proper (λ r. Kept p l e.state × Answered e.state r × (e.state.pc ≡ stop)) e.answer

  ends_choose : (most : ℕ) (b : Bool) (f g : Unit {0} → Ended) → (b ≡ true → Ends most (f tt)) → (b ≡ false → Ends most (g tt))
      → Ends most (choose b f g)
  unfolding choose
  ends_choose most true f g x y = x refl
  ends_choose most false f g x y = y refl

  ends_on : {P : LaneState → Type 0} (most : ℕ) {s : LaneState} {m : Tested LaneState} (f : LaneState → Ended)
      → Traced p l s → s.steps ≤ most → Always Proper P m → ((t : LaneState) → P t → Ends most (f t)) → Ends most (on s m f)
  unfolding on
  ends_on most f k b (stops r t) h = (k, b, stops r t)
  ends_on most f k b (gives x) h = h _ x

  ends_stop : (most : ℕ) (s : LaneState) → Kept p l s → s.steps ≤ most → eqb s.pc stop ≡ true
      → Ends most (record { state = s; answer = finish p l s })
  ends_stop most s k b e = (k.traced, b, weaken (always_finish s) (λ r a. (k, a, eqb-true _ _ e)))

  ends_run : (n most : ℕ) (s : LaneState) → Kept p l s → s.steps + n ≤ most → Ends most (run p l n s)
  unfolding run refuse proper
  ends_run zero most s k b =
      ends_choose most (eqb s.pc stop) _ _ (ends_stop most s k (omega arith)) (λ e. (k.traced, omega arith, stops _ tt))
  ends_run (suc n) most s k b =
      ends_choose most (eqb s.pc stop) _ _ (ends_stop most s k (omega arith))
      (λ e. ends_on most _ k.traced (omega arith) (always_step s k) (λ t h. ends_run n most t h.0 (omega (arith, h.1))))

  begin_traced : Traced p l (begin p l)
  unfolding begin
  begin_traced = record { counted = refl; entered = omega arith; chained = refl; words = λ x. tt }

  begin_kept : Sized p l → p.symbols.entry < 2 ^ 32 → 4 ≤ l.rows → Kept p l (begin p l)
  unfolding begin
  begin_kept h small rows = record {
    fits = h;
    small = small;
    traced = begin_traced;
    stored = record {
      least = omega (arith, four (constant (count_of_lanes p l) stop_word));
      most = omega (arith, four (constant (count_of_lanes p l) stop_word));
      distinct = distinct_write 4 stop _ (omega arith) (omega arith) (distinct_none _ _);
    };
    located = omega arith;
  }

  -- where a completed operation leads, and what it stores
  pub effect_clear : (s : LaneState) (next pc : ℕ) (o : Operation) {e : Effect LaneWord} → next < 2 ^ 32
      → execute p l s next (meaning o pc) ≡ passed e → Clear s e
  effect_clear s next pc o h q = passes (rw q at (always_execute s next (meaning o pc) h (meaning_leads o pc)))

  pub kept_step : (s t : LaneState) → Kept p l s → step p l s ≡ passed t → Kept p l t
  kept_step s t k q = (passes (rw q at (always_step s k))).0

  always_start : Always Proper (λ s. Kept p l s × (s ≡ begin p l)) (start p l)
  unfolding refuse proper
  always_start = go (sized (length p.image)) (symbols_placed p.symbols) l.choice (leb 4 l.rows) refl refl refl refl
    where
      order : StartOrder p l
      order = start_order p l

      go : (a b : Bool) (t : Result (Unit {0}) CallError) (d : Bool) → sized (length p.image) ≡ a → symbols_placed p.symbols ≡ b → l.choice ≡ t → leb 4 l.rows ≡ d
          → Always Proper (λ s. Kept p l s × (s ≡ begin p l)) (start p l)
      go false b t d e f c r = rw (order.image e) (stops _ tt)
      go true false t d e f c r = rw (order.symbols e f) (stops _ tt)
      go true true (Err q) d e f c r = rw (order.choice e f q c) (stops (of_call q) c)
      go true true (Ok tt) false e f c r = rw (order.rows e f c r) (stops _ tt)
      go true true (Ok tt) true e f c r =
          rw (order.none e f c r)
          (gives (begin_kept (fit (subst T (sym e) tt)) (entry_fits (subst T (sym f) tt)) (leb→le 4 l.rows (subst T (sym r) tt)), refl))

  pub kept_start : (s : LaneState) → start p l ≡ passed s → Kept p l s × (s ≡ begin p l)
  kept_start s q = passes (rw q at always_start)

  ends_lane_run : (limit : ℕ) → Ends limit (lane_run p l limit)
  unfolding lane_run begin
  ends_lane_run limit =
      ends_on limit _ begin_traced (omega arith) always_start (λ s h. ends_run limit limit s h.0 (rw h.1 (omega arith)))

  pub completed : (limit : ℕ) → Completed p l limit (lane_run p l limit).state
  completed limit = shown _ (ends_lane_run limit).0 (ends_lane_run limit).1
    where
      shown : (s : LaneState) → Traced p l s → s.steps ≤ limit → Completed p l limit s
      shown s t b = record { counted = t.counted; lent = t.entered; bound = b; chain = t.chained; words = t.words }

  pub accepted : (limit : ℕ) (r : RunResult) → (lane_run p l limit).answer ≡ passed r → Accepted l (lane_run p l limit).state r
  accepted limit r e = shown _ (passes (rw e at (ends_lane_run limit).2))
    where
      shown : (s : LaneState) → Kept p l s × Answered s r × (s.pc ≡ stop) → Accepted l s r
      shown s (k, a, at) = record {
        steps = a.same_steps;
        trace = a.same_trace;
        arrived = at;
        events = a.few;
        written_least = k.stored.least;
        written_most = room k.fits k.stored.distinct;
        lent = k.stored.most;
      }

  pub refused_proper : (limit : ℕ) (r : Refusal) → (lane_run p l limit).answer ≡ refused r → ProperRefusal l r
  refused_proper limit r e = refuses (rw e at (ends_lane_run limit).2)

-- where the run accepts, the caller's choice passed
module _ (p : Program) (l : Setup) (limit : ℕ) (r : RunResult) (e : (lane_run p l limit).answer ≡ passed r) where
  pub chosen : l.choice ≡ Ok tt
  unfolding lane_run on refuse
  chosen = go (sized (length p.image)) (symbols_placed p.symbols) l.choice refl refl refl
    where
      order : StartOrder p l
      order = start_order p l

      go : (a b : Bool) (t : Result (Unit {0}) CallError) → sized (length p.image) ≡ a → symbols_placed p.symbols ≡ b → l.choice ≡ t → t ≡ Ok tt
      go false b t f g c = absurd (no_pass (rw (order.image f) at e))
      go true false t f g c = absurd (no_pass (rw (order.symbols f g) at e))
      go true true (Err q) f g c = absurd (no_pass (rw (order.choice f g q c) at e))
      go true true (Ok tt) f g c = refl

-- a refused choice is not taken
abbrev Taken : Result (Unit {0}) CallError → Type 0
Taken (Ok tt) = Unit {0}
Taken (Err e) = ⊥

-- .. so the first input of its range is not above the last
pub ordered : (range : InputRange) → range_test range ≡ Ok tt → range.first ≤ range.last
unfolding range_test
ordered range = go (leb range.first range.last) refl
  where
    go : (b : Bool) → leb range.first range.last ≡ b → cond b (Ok (tt {0})) (Err call.FirstAboveLast) ≡ Ok tt → range.first ≤ range.last
    go true b q = leb-true range.first range.last b
    go false b q = absurd (subst Taken (sym q) tt)

-- the numbers are those of its inputs
pub execution_over : (c : Call) (s : LaneState) (r : RunResult) → c.range.first ≤ c.range.last
    → execution (program_in c) (setup_of c) s r ≡ numbers_over c.range s.steps (length s.memory) r
unfolding execution setup_of count_of_lanes lane_operations written_bytes
execution_over c s r h =
    let range = c.range in
    let first : get_or (inputs range.first (input_count range)) 0 0 ≡ range.first = get_d_inputs range.first (input_count range) 0 (omega arith) ∙ omega arith in
    rw (first, length_inputs range.first (input_count range))

-- inputs that are more than one differ
differ : (first count : ℕ) → 1 < count → uniform_of (domain (inputs first count)) ≡ Err Uneven
unfolding uniform_of domain inputs every
differ first zero h = absurd (omega arith)
differ first (suc zero) h = absurd (omega arith)
differ first (suc (suc n)) h = rw (eq-eqb first first refl, ne_eqb (suc first) first (λ q. omega (arith, q)))

always_on : {R : Refusal → Type 0} {P : LaneState → Type 0} {Q : RunResult → Type 0} (s : LaneState) {m : Tested LaneState} (f : LaneState → Ended)
    → Always R P m → ((t : LaneState) → P t → Always R Q (f t).answer) → Always R Q (on s m f).answer
unfolding on
always_on s f (stops r t) h = stops r t
always_on s f (gives k) h = h _ k

module _ (c : Call) where
  abbrev p : Program
  p = program_in c

  abbrev l : Setup
  l = setup_of c

  abbrev entry : ℕ
  entry = c.program.symbols.entry

  -- x10 is the input: at entry = stop the return value is not uniform
  uneven : 1 < input_count c.range → finish p l (begin p l) ≡ refuse 7 6
  unfolding finish begin program_of setup_of standing_core fill at_start choose reg agreed refuse ◌>>=◌
  uneven h = rw (differ c.range.first (input_count c.range) h)

  refused_at_stop : 1 < input_count c.range → eqb entry stop ≡ true → Always (ProperRefusal l) (λ _. ⊥) (run_of c).answer
  unfolding run_of lane_run begin program_of refuse proper
  refused_at_stop h b =
      always_on _ _ (always_start p l)
      (λ t k. rw (k.1, run_stop p l max_steps (begin p l) b, uneven h) (stops _ tt))

  module _ (r : RunResult) (e : (run_of c).answer ≡ passed r) where
    some_input : 1 ≤ input_count c.range
    unfolding run_of setup_of
    some_input = omega (arith, ordered c.range (chosen p l max_steps r e))

    positive : (t : List PredicateControlStep) {to : ℕ} → eqb entry stop ≡ false → to ≡ stop → Chain entry t to → 1 ≤ length t
    positive [] b a k = absurd (eqb-false _ _ b (k ∙ a))
    positive (d ∷ t) b a k = omega arith

    one_input : (b : Bool) → eqb entry stop ≡ true → ltb 1 (input_count c.range) ≡ b → input_count c.range ≡ 1
    one_input true a b = absurd (passes (rw e at (refused_at_stop (ltb-true 1 (input_count c.range) b) a)))
    one_input false a b = omega (arith, some_input, ltb-false 1 (input_count c.range) b)

    steps_by : (b : Bool) → eqb entry stop ≡ b → (1 ≤ r.steps) ⊎ (input_count c.range ≡ 1)
    unfolding run_of program_of
    steps_by true b = inr (one_input (ltb 1 (input_count c.range)) b refl)
    steps_by false b =
        let a : Accepted l (run_of c).state r = accepted p l max_steps r e in
        let k : Completed p l max_steps (run_of c).state = completed p l max_steps in
        inl (omega (arith, positive (run_of c).state.trace b a.arrived k.chain, k.counted, a.steps))

pub takes_step : TakesStep
takes_step c r e = steps_by c r e (eqb (entry c) stop) refl
