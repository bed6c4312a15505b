-- Lanes that repeat others change nothing: over the same inputs at other places, some of them more than once, the lane run gives the same
-- answer, steps, trace and number of written bytes. Assumes nothing.
use mathlib.Core.Path.{◌≡◌, refl, sym, ◌∙◌, ap, subst}
use mathlib.Core.Bool.{Bool, ◌&&◌}
use mathlib.Core.List.{List, [], ◌∷◌, ◌++◌, map}
use Prim.Native.Nat.{ℕ, zero, suc, ◌%◌, ◌/◌}
use lib.Dec.{eqb}
use lib.ListN.{get_or, length, length-map, length-replicate}
use Rattle.rv32_arithmetic.specs.Arithmetic.{add, target}
use Rattle.rv32_arithmetic.specs.Bits.{join}
use Rattle.rv32_arithmetic.specs.Value.{value_of}
use Rattle.lane_word.specs.declared.LaneWord.{LaneWord}
use Rattle.lane_word.specs.Word.{unknown, constant, domain, unary, binary, every, zip, uniform_of}
use Rattle.lane_word.proofs.Lists.{length_zip}
use Rattle.predicate_action.specs.declared.Action.{Action}
use Rattle.predicate_action.specs.declared.Action.TheVariants.{Nothing, Literal, Compute, ComputeImmediate, Jump, JumpTo, Branch, Load, Store}
use Rattle.predicate_action.specs.Meaning.{extension_of}
use Rattle.predicate_answer.specs.Refusal.{Refusal}
use Rattle.predicate_answer.specs.declared.CompiledMmioEvent.{CompiledMmioEvent}
use Rattle.predicate_semantics.specs.Choice.{choose}
use Rattle.predicate_semantics.specs.Program.{Program, stop, stop_word, stack_pointer, image_end, initial}
use Rattle.predicate_semantics.specs.State.{RunResult, Attempted, advanced, apply}
use Rattle.predicate_semantics.specs.Memory.{Written, LaneBytes, byte_at, put, lane_bytes, read, write}
use Rattle.predicate_semantics.specs.Tested.{Tested, passed, refused, ◌>>=◌}
use Rattle.predicate_semantics.specs.Lane.{LaneState, Setup, Ended, count_of_lanes, agreed, room_for, access, access_agreed, fetch_four, fetch, event_at, events, reg, execute, memory_of, attempt, step, finish_events, finish, run, begin, start_tests, start, lane_run, on}
use Rattle.predicate_semantics.proofs.Places.{pick, pick_map, pick_zip, pick_replicate, length_pick, get_d_pick, Covers, every_pick}
use Rattle.predicate_semantics.proofs.Related.{related_choose, Pairs, SameEffect, same_goes, same_sets, same_stores, SameAttempt, same_attempt, pairs_at, pairs_assign, pairs_fill, related_start}

-- ---- two parts of lane runs that refuse alike, or pass with related values
pub data Both {A B : Type 0} (R : A → B → Type 0) : Tested A → Tested B → Type 0 where
  refuse_alike : {r : Refusal} → Both R (refused r) (refused r)
  pass : {a : A} {b : B} → R a b → Both R (passed a) (passed b)

bind : {A B C D : Type 0} {R : A → B → Type 0} {S : C → D → Type 0} {m : Tested A} {o : Tested B} {f : A → Tested C} {g : B → Tested D}
    → Both R m o → ((a : A) (b : B) → R a b → Both S (f a) (g b)) → Both S (m >>= f) (o >>= g)
unfolding ◌>>=◌
bind refuse_alike h = refuse_alike
bind (pass r) h = h _ _ r

-- the same part on both sides
both_refl : {A : Type 0} (m : Tested A) → Both ◌≡◌ m m
both_refl (passed a) = pass refl
both_refl (refused r) = refuse_alike

bind_equal : {A C D : Type 0} {S : C → D → Type 0} {m o : Tested A} {f : A → Tested C} {g : A → Tested D}
    → m ≡ o → ((a : A) → Both S (f a) (g a)) → Both S (m >>= f) (o >>= g)
bind_equal {S = S} {m} {o} {f} {g} e h =
    subst (λ (t : Tested _). Both S (m >>= f) (t >>= g)) e (bind (both_refl m) (λ a b q. subst (λ b. Both S (f a) (g b)) q (h a)))

both_choose : {A B : Type 0} {R : A → B → Type 0} (b : Bool) {f g : Unit {0} → Tested A} {h k : Unit {0} → Tested B}
    → ((u : Unit {0}) → Both R (f u) (h u)) → ((u : Unit {0}) → Both R (g u) (k u)) → Both R (choose b f g) (choose b h k)
both_choose {R = R} b x y = related_choose (Both R) b _ _ _ _ (x tt) (y tt)

-- related by equality, they are one
pub equal : {A : Type 0} {m o : Tested A} → Both ◌≡◌ m o → m ≡ o
equal refuse_alike = refl
equal (pass e) = ap passed e

both_equal : {A : Type 0} {m o : Tested A} → m ≡ o → Both ◌≡◌ m o
both_equal {m = m} e = subst (Both ◌≡◌ m) e (both_refl m)

-- ---- words, written bytes and states
module _ (n : ℕ) (ks : List ℕ) where
  -- a word of n lanes, and one that has them at these places
  pub record Spread (w u : LaneWord) : Type 0 where
    pub size : length w.values ≡ n
    pub flag : u.known ≡ w.known
    pub values : u.values ≡ pick ks w.values

  -- written bytes at the same addresses
  pub data SpreadBytes : List Written → List Written → Type 0 where
    none_yet : SpreadBytes [] []
    one_more : (a : ℕ) {b d : LaneWord} {ws us : List Written} → Spread b d → SpreadBytes ws us
        → SpreadBytes (record { address = a; byte = b } ∷ ws) (record { address = a; byte = d } ∷ us)

  -- registers and written bytes that have those of a state at these places
  pub record Beside (s : LaneState) (rs : List LaneWord) (m : List Written) : Type 0 where
    pub regs : Pairs Spread s.registers rs
    pub mem : SpreadBytes s.memory m

  -- states that differ in their lanes alone
  pub data SpreadState : LaneState → LaneState → Type 0 where
    spread : {s : LaneState} {rs : List LaneWord} {m : List Written} → Beside s rs m
        → SpreadState s (record { pc = s.pc; registers = rs; memory = m; steps = s.steps; trace = s.trace; locations = s.locations })

pub bytes_length : {n : ℕ} {ks : List ℕ} {ws us : List Written} → SpreadBytes n ks ws us → length ws ≡ length us
bytes_length none_yet = refl
bytes_length (one_more a h r) = ap suc (bytes_length r)

module _ (n : ℕ) (ks : List ℕ) (c : Covers n ks) where
  spread_unary : (f : ℕ → ℕ) {w u : LaneWord} → Spread n ks w u → Spread n ks (unary f w) (unary f u)
  unfolding unary
  spread_unary f {w} h = record {
    size = length-map w.values f ∙ h.size;
    flag = h.flag;
    values = ap (map f) h.values ∙ pick_map f n ks w.values c.below h.size;
  }

  spread_binary : (f : ℕ → ℕ → ℕ) {a b x y : LaneWord} → Spread n ks a x → Spread n ks b y → Spread n ks (binary f a b) (binary f x y)
  unfolding binary
  spread_binary f {a} {b} {x} {y} h g = record {
    size = length_zip f a.values b.values (h.size ∙ sym g.size) ∙ h.size;
    flag = ap (λ (z : Bool). z && y.known) h.flag ∙ ap (λ (z : Bool). a.known && z) g.flag;
    values =
        ap (λ (z : List ℕ). zip f z y.values) h.values ∙ ap (zip f (pick ks a.values)) g.values
        ∙ pick_zip f n ks a.values b.values c.below h.size g.size;
  }

  spread_constant : (v : ℕ) → Spread n ks (constant n v) (constant (length ks) v)
  unfolding constant
  spread_constant v = record { size = length-replicate n v; flag = refl; values = sym (pick_replicate n ks v c.below) }

  spread_unknown : Spread n ks (unknown n) (unknown (length ks))
  unfolding unknown
  spread_unknown = record { size = length-replicate n 0; flag = refl; values = sym (pick_replicate n ks 0 c.below) }

  -- the uniform test finds the same
  same_agreed : (role : ℕ) {w u : LaneWord} → Spread n ks w u → agreed role w ≡ agreed role u
  unfolding agreed uniform_of
  same_agreed role {w} {u} h =
      let first : get_or u.values 0 0 ≡ get_or w.values 0 0
      = ap (λ (z : List ℕ). get_or z 0 0) h.values ∙ get_d_pick ks w.values 0 c.some_place ∙ ap (λ (z : ℕ). get_or w.values z 0) c.first in
      let even : every (get_or u.values 0 0) u.values ≡ every (get_or w.values 0 0) w.values
      = ap (λ (z : ℕ). every z u.values) first ∙ ap (every (get_or w.values 0 0)) h.values ∙ every_pick n ks w.values c h.size (get_or w.values 0 0) in
      rw (h.flag, even, first) refl

  bytes_at : {ws us : List Written} → SpreadBytes n ks ws us → (a : ℕ) {o q : LaneWord} → Spread n ks o q → Spread n ks (byte_at o a ws) (byte_at q a us)
  unfolding byte_at
  bytes_at none_yet a h = h
  bytes_at (one_more b x r) a h = related_choose (Spread n ks) (eqb b a) _ _ _ _ x (bytes_at r a h)

  bytes_put : {ws us : List Written} → SpreadBytes n ks ws us → (a : ℕ) {w u : LaneWord} → Spread n ks w u → SpreadBytes n ks (put a w ws) (put a u us)
  unfolding put
  bytes_put none_yet a h = one_more a h none_yet
  bytes_put (one_more e g r) a h = related_choose (SpreadBytes n ks) (eqb e a) _ _ _ _ (one_more a h r) (one_more e g (bytes_put r a h))

  bytes_write : (k : ℕ) {ws us : List Written} → SpreadBytes n ks ws us → (a : ℕ) {w u : LaneWord} → Spread n ks w u → SpreadBytes n ks (write ws k a w) (write us k a u)
  unfolding write
  bytes_write zero r a h = r
  bytes_write (suc k) r a h = bytes_write k (bytes_put r a (spread_unary (λ v. v % 256) h)) (suc a) (spread_unary (λ v. v / 256) h)

  spread_read : (image : List ℕ) {ws us : List Written} → SpreadBytes n ks ws us → (k a : ℕ)
      → Spread n ks (read n (lane_bytes image n ws) k a) (read (length ks) (lane_bytes image (length ks) us) k a)
  unfolding read lane_bytes
  spread_read image r zero a = spread_constant 0
  spread_read image r (suc k) a = spread_binary join (bytes_at r a (spread_constant (initial image a))) (spread_read image r k (suc a))

-- ---- the run, over two setups whose lanes are at other places
pub record AtPlaces (l o : Setup) (ks : List ℕ) : Type 0 where
  pub covers : Covers (length l.inputs) ks
  pub placed : o.inputs ≡ pick ks l.inputs
  pub same_choice : o.choice ≡ l.choice
  pub same_rows : o.rows ≡ l.rows
  pub same_entries : o.entries ≡ l.entries

module _ (p : Program) {l o : Setup} {ks : List ℕ} (e : AtPlaces l o ks) where
  abbrev n : ℕ
  n = length l.inputs

  abbrev c : Covers n ks
  c = e.covers

  abbrev S : LaneWord → LaneWord → Type 0
  S = Spread n ks

  count : length o.inputs ≡ length ks
  count = ap length e.placed ∙ length_pick ks l.inputs

  both_agreed : {C D : Type 0} {T : C → D → Type 0} (role : ℕ) {w u : LaneWord} {f : ℕ → Tested C} {g : ℕ → Tested D} → S w u
      → ((v : ℕ) → Both T (f v) (g v)) → Both T (agreed role w >>= f) (agreed role u >>= g)
  both_agreed role h = bind_equal (same_agreed n ks c role h)

  module _ {ws us : List Written} (mem : SpreadBytes n ks ws us) where
    abbrev bytes : LaneBytes
    bytes = lane_bytes p.image n ws

    abbrev spread_bytes : LaneBytes
    spread_bytes = lane_bytes p.image (length o.inputs) us

    both_access : (k a : ℕ) → Both S (access n bytes k a) (access (length o.inputs) spread_bytes k a)
    unfolding access
    both_access k a = bind_equal refl (λ _. pass (rw count (spread_read n ks c p.image mem k a)))

    same_access : (role k a : ℕ) → access_agreed n role bytes k a ≡ access_agreed (length o.inputs) role spread_bytes k a
    unfolding access_agreed
    same_access role k a = equal (bind (both_access k a) (λ w u h. both_equal (same_agreed n ks c role h)))

    same_fetch : (steps pc : ℕ) → fetch n p.core bytes steps pc ≡ fetch (length o.inputs) p.core spread_bytes steps pc
    unfolding fetch fetch_four
    same_fetch steps pc = rw (same_access 1 2 pc, same_access 1 4 pc)

    same_event_at : (a location : ℕ) → event_at n bytes a location ≡ event_at (length o.inputs) spread_bytes a location
    unfolding event_at
    same_event_at a location = rw (same_access 8 4 a, same_access 9 4 _, same_access 10 4 _)

    same_events : (from i : ℕ) (done : List CompiledMmioEvent) (ls : List ℕ) → events n from bytes i done ls ≡ events (length o.inputs) from spread_bytes i done ls
    unfolding events
    same_events from i done [] = refl
    same_events from i done (x ∷ ls) = equal (bind_equal (same_event_at _ x) (λ d. both_equal (same_events from (suc i) (done ++ d ∷ []) ls)))

  whole : (v : ℕ) → S (constant (length l.inputs) v) (constant (length o.inputs) v)
  whole v = rw count (spread_constant n ks c v)

  module _ {s : LaneState} {rs : List LaneWord} {m : List Written} (h : Beside n ks s rs m) where
    abbrev t : LaneState
    t = record { pc = s.pc; registers = rs; memory = m; steps = s.steps; trace = s.trace; locations = s.locations }

    spread_reg : (i : ℕ) → S (reg p l s i) (reg p o t i)
    unfolding reg count_of_lanes
    spread_reg i = rw count (pairs_at S (spread_unknown n ks c) h.regs i)

    same_room : (k a : ℕ) {w u : LaneWord} → S w u
        → room_for (image_end p) l.rows a k (length (write s.memory k a w)) ≡ room_for (image_end p) o.rows a k (length (write m k a u))
    same_room k a {w} {u} g =
        ap (λ (rows : ℕ). room_for (image_end p) rows a k (length (write s.memory k a w))) (sym e.same_rows)
        ∙ ap (λ (written : ℕ). room_for (image_end p) o.rows a k written) (bytes_length (bytes_write n ks c k h.mem a g))

    both_execute : (next : ℕ) (a : Action) → Both (SameEffect S) (execute p l s next a) (execute p o t next a)
    unfolding execute memory_of count_of_lanes
    both_execute next Nothing = pass (same_goes next)
    both_execute next (Literal rd v) = pass (same_sets rd next (whole v))
    both_execute next (Compute rd f a b) = pass (same_sets rd next (spread_binary n ks c (value_of f) (spread_reg a) (spread_reg b)))
    both_execute next (ComputeImmediate rd f a v) = pass (same_sets rd next (spread_binary n ks c (value_of f) (spread_reg a) (whole v)))
    both_execute next (Jump rd to) = pass (same_sets rd to (whole next))
    both_execute next (JumpTo rd a offset) =
        both_agreed 2 (spread_unary n ks c (λ v. target v offset) (spread_reg a)) (λ to.
        bind_equal refl (λ _. pass (same_sets rd to (whole next))))
    both_execute next (Branch f a b to) =
        both_agreed 5 (spread_binary n ks c (value_of f) (spread_reg a) (spread_reg b)) (λ direction. pass (same_goes _))
    both_execute next (Load rd a offset k x) =
        both_agreed 3 (spread_unary n ks c (λ v. add v offset) (spread_reg a)) (λ address.
        bind (both_access h.mem k address) (λ w u g. pass (same_sets rd next (spread_unary n ks c (extension_of x) g))))
    both_execute next (Store a b offset k) =
        both_agreed 4 (spread_unary n ks c (λ v. add v offset) (spread_reg a)) (λ address.
        bind_equal (same_room k address (spread_reg b)) (λ _. pass (same_stores address k next (spread_reg b))))

    both_attempt : Both (SameAttempt S) (attempt p l s) (attempt p o t)
    unfolding attempt memory_of count_of_lanes
    both_attempt = bind_equal (same_fetch h.mem s.steps s.pc) (λ f. bind (both_execute _ _) (λ x d g. pass (same_attempt f g)))

    apply_spread : (k : ℕ) {x y : Attempted LaneWord} → SameAttempt S x y
        → SpreadState n ks (apply write k s x.fetched x.effect) (apply write k t y.fetched y.effect)
    unfolding apply advanced
    apply_spread k (same_attempt f (same_goes next)) = spread (record { regs = h.regs; mem = h.mem })
    apply_spread k (same_attempt f (same_sets rd next g)) = spread (record { regs = pairs_assign S h.regs rd g; mem = h.mem })
    apply_spread k (same_attempt f (same_stores a z next g)) = spread (record { regs = h.regs; mem = bytes_write n ks c z h.mem a g })

    both_step : Both (SpreadState n ks) (step p l s) (step p o t)
    unfolding step
    both_step = bind both_attempt (λ a b g. bind_equal (rw e.same_entries refl) (λ _. pass (apply_spread _ g)))

    same_finish : finish p l s ≡ finish p o t
    unfolding finish finish_events memory_of count_of_lanes
    same_finish =
        equal (both_agreed 6 (spread_reg 10) (λ v.
        bind_equal (same_access h.mem 7 4 _) (λ counted.
        bind_equal refl (λ _.
        bind_equal (same_events h.mem _ 0 [] s.locations) (λ es. pass refl)))))

  -- what two such runs give
  record SpreadEnd (a b : Ended) : Type 0 where
    at_end : SpreadState n ks a.state b.state
    same_answer : a.answer ≡ b.answer

  end_on : {s t : LaneState} {a b : Tested LaneState} (f g : LaneState → Ended) → SpreadState n ks s t → Both (SpreadState n ks) a b
      → ((u v : LaneState) → SpreadState n ks u v → SpreadEnd (f u) (g v)) → SpreadEnd (on s a f) (on t b g)
  unfolding on
  end_on f g q refuse_alike h = record { at_end = q; same_answer = refl }
  end_on f g q (pass r) h = h _ _ r

  end_run : (k : ℕ) {s t : LaneState} → SpreadState n ks s t → SpreadEnd (run p l k s) (run p o k t)
  unfolding run
  end_run zero (spread {s} h) =
      related_choose SpreadEnd (eqb s.pc stop) _ _ _ _
      (record { at_end = spread h; same_answer = same_finish h })
      (record { at_end = spread h; same_answer = refl })
  end_run (suc k) (spread {s} h) =
      related_choose SpreadEnd (eqb s.pc stop) _ _ _ _
      (record { at_end = spread h; same_answer = same_finish h })
      (end_on _ _ (spread h) (both_step h) (λ u v r. end_run k r))

  spread_domain : S (domain l.inputs) (domain o.inputs)
  unfolding domain
  spread_domain = record { size = refl; flag = refl; values = e.placed }

  none_known : (j : ℕ) → S (unknown (length l.inputs)) (unknown (length o.inputs))
  none_known j = rw count (spread_unknown n ks c)

  begins : SpreadState n ks (begin p l) (begin p o)
  unfolding begin count_of_lanes
  begins = spread (record {
    regs = pairs_fill S p.core.registers 0 _ _ (related_start S (whole 0) (whole stop) (whole stack_pointer) spread_domain none_known);
    mem = bytes_write n ks c 4 none_yet stop (whole stop_word);
  })

  same_start : start_tests (length p.image) p.symbols l.choice l.rows ≡ start_tests (length p.image) p.symbols o.choice o.rows
  same_start = rw (e.same_choice, e.same_rows) refl

  end_lane_run : (limit : ℕ) → SpreadEnd (lane_run p l limit) (lane_run p o limit)
  unfolding lane_run start
  end_lane_run limit = end_on _ _ begins (bind_equal same_start (λ _. pass begins)) (λ u v r. end_run limit r)

-- ---- what is seen of a run beside its lanes
pub record SameRun (a b : Ended) : Type 0 where
  pub answer : a.answer ≡ b.answer
  pub steps : a.state.steps ≡ b.state.steps
  pub trace : a.state.trace ≡ b.state.trace
  pub written : length a.state.memory ≡ length b.state.memory

same_seen : {n : ℕ} {ks : List ℕ} {s t : LaneState} {a b : Tested RunResult} → SpreadState n ks s t → a ≡ b
    → SameRun (record { state = s; answer = a }) (record { state = t; answer = b })
same_seen (spread h) q = record { answer = q; steps = refl; trace = refl; written = bytes_length h.mem }

pub same_run : (p : Program) {l o : Setup} {ks : List ℕ} → AtPlaces l o ks → (limit : ℕ) → SameRun (lane_run p l limit) (lane_run p o limit)
same_run p e limit = let f = end_lane_run p e limit in same_seen f.at_end f.same_answer
