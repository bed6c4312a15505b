-- What more lent space makes of a run: proved once, over any refusal that it can lift, and then for rows and for trace entries.
use mathlib.Core.Path.{◌≡◌, refl, sym, ◌∙◌, ap, subst}
use mathlib.Core.Bool.{Bool, true, false}
use mathlib.Core.List.{List, [], ◌++◌, append-nil, append_assoc}
use Prim.Native.Nat.{ℕ, zero, suc, ◌≤◌, ◌<◌}
use native.Mathlib.Nat.{le_trans}
use native.Mathlib.Omega.{arith}
use lib.Dec.{leb, ltb, eqb}
use lib.ListN.{length}
use borrow.Author.Tests.{leb-true, leb-false, ltb-true, ltb-false}
use Rattle.riscv_decode.specs.declared.Fetched.{Fetched}
use Rattle.lane_word.specs.declared.LaneWord.{LaneWord}
use Rattle.lane_word.specs.Word.{constant}
use Rattle.predicate_action.specs.declared.Action.{Action}
use Rattle.predicate_action.specs.declared.Action.TheVariants.{Nothing, Literal, Compute, ComputeImmediate, Jump, JumpTo, Branch, Load, Store}
use Rattle.predicate_trace.specs.declared.PredicateControlStep.{PredicateControlStep}
use Rattle.predicate_answer.specs.Refusal.{Refusal}
use Rattle.predicate_semantics.specs.Program.{Program, stop, stop_word}
use Rattle.predicate_semantics.specs.State.{RunResult, Effect, goes, sets, stores, Attempted, advanced, apply}
use Rattle.predicate_semantics.specs.Memory.{write}
use Rattle.predicate_semantics.specs.Tested.{Tested, passed, refused, refuse, require, allow, ◌>>=◌}
use Rattle.predicate_semantics.specs.Lane.{LaneState, Setup, Ended, on, count_of_lanes, memory_of, reg, agreed, inside, room_for, fetch, execute, attempt, step, finish_events, finish, run, begin, start_tests, start, lane_run, written_bytes}
use Rattle.predicate_semantics.specs.Lent.{lending, OnlyLifts, Needs, MoreRows, MoreEntries, MoreLent, RowsNeeded, EntriesNeeded}
use Rattle.predicate_semantics.proofs.Related.{related_choose}
use Rattle.predicate_semantics.proofs.Always.{no_pass, plain}
use Rattle.predicate_semantics.proofs.Laws.{steps_apply, write_grows}
use Rattle.predicate_semantics.proofs.RecordRules.{four, kept_start, completed, accepted}

-- what a part of the run went through to pass
through : {A B : Type 0} {b : B} (m : Tested A) {f : A → Tested B} → (m >>= f) ≡ passed b → (a : A) × (m ≡ passed a) × (f a ≡ passed b)
unfolding ◌>>=◌
through (passed a) q = (a, refl, q)
through (refused r) q = absurd (no_pass q)

value : {A : Type 0} {a b : A} → passed a ≡ passed b → a ≡ b
value q = cc

-- ---- a later state of a run: no fewer steps, a trace that begins with the earlier one's, and no fewer written bytes
record Later (s t : LaneState) : Type 0 where
  steps : s.steps ≤ t.steps
  rest : List PredicateControlStep
  trace : t.trace ≡ s.trace ++ rest
  written : length s.memory ≤ length t.memory

now : (s : LaneState) → Later s s
now s = record { steps = omega arith; rest = []; trace = sym (append-nil s.trace); written = omega arith }

later : {s t u : LaneState} → Later s t → Later t u → Later s u
later {s} a b = record {
  steps = le_trans a.steps b.steps;
  rest = a.rest ++ b.rest;
  trace = b.trace ∙ ap (λ (x : List PredicateControlStep). x ++ b.rest) a.trace ∙ append_assoc s.trace a.rest b.rest;
  written = le_trans a.written b.written;
}

later_apply : (c : ℕ) (s : LaneState) (f : Fetched) (e : Effect LaneWord) → Later s (apply write c s f e)
unfolding apply advanced
later_apply c s f (goes next) = record { steps = omega arith; rest = _; trace = refl; written = omega arith }
later_apply c s f (sets rd value next) = record { steps = omega arith; rest = _; trace = refl; written = omega arith }
later_apply c s f (stores a n value next) = record { steps = omega arith; rest = _; trace = refl; written = write_grows n s.memory a value }

later_on : (s : LaneState) (m : Tested LaneState) (f : LaneState → Ended) → ((t : LaneState) → m ≡ passed t → Later s (f t).state)
    → Later s (on s m f).state
unfolding on
later_on s (passed t) f h = h t refl
later_on s (refused r) f h = now s

-- as a relation, for a choice of two ends
abbrev Ahead : LaneState → Ended → Unit {0} → Type 0
Ahead s e _ = Later s e.state

module _ (p : Program) (l : Setup) where
  later_step : (s t : LaneState) → step p l s ≡ passed t → Later s t
  unfolding step
  later_step s t q =
      let seen = through (attempt p l s) q in
      subst (Later s) (value (through (require 14 _) seen.2).2) (later_apply _ s seen.0.fetched seen.0.effect)

  later_run : (n : ℕ) (s : LaneState) → Later s (run p l n s).state
  unfolding run
  later_run zero s = related_choose (Ahead s) (eqb s.pc stop) _ _ (λ _. tt) (λ _. tt) (now s) (now s)
  later_run (suc n) s =
      related_choose (Ahead s) (eqb s.pc stop) _ _ (λ _. tt) (λ _. tt) (now s)
      (later_on s (step p l s) _ (λ t q. later (later_step s t q) (later_run n t)))

-- ---- a part of a run with less lent and with more: the same, or refused with less by that number, and then Q holds of what more gives
data Unless (number : ℕ) {A : Type 0} (Q : A → Type 0) : Tested A → Tested A → Type 0 where
  same : {m : Tested A} → Unless number Q m m
  lacks : {m : Tested A} → ((a : A) → m ≡ passed a → Q a) → Unless number Q (refused (plain number)) m

module _ {number : ℕ} where
  -- after the same part
  then : {A B : Type 0} {Q : B → Type 0} (m : Tested A) {f g : A → Tested B} → ((a : A) → Unless number Q (f a) (g a)) → Unless number Q (m >>= f) (m >>= g)
  unfolding ◌>>=◌
  then (passed a) h = h a
  then (refused r) h = same

  -- after a part that may differ
  bind : {A B : Type 0} {P : A → Type 0} {Q : B → Type 0} {m o : Tested A} {f g : A → Tested B}
      → Unless number P m o → ((a : A) → Unless number Q (f a) (g a)) → ((a : A) (b : B) → P a → g a ≡ passed b → Q b)
      → Unless number Q (m >>= f) (o >>= g)
  unfolding ◌>>=◌
  bind {m = m} same h w = then m h
  bind {o = o} {g = g} (lacks k) h w = lacks (λ b q. let x = through o {f = g} q in w x.0 b (k x.0 x.1) x.2)

-- so many rows and trace entries lift that refusal alone; where they do, the test with less tells what was wanted
record Lends (number : ℕ) (l : Setup) (rows entries : ℕ) : Type 0 where
  room : (written : ℕ) → Unless number (λ _. l.rows < written) (require 13 (leb written l.rows)) (require 13 (leb written rows))
  entry : (steps : ℕ) → Unless number (λ _. l.entries ≤ steps) (require 14 (ltb steps l.entries)) (require 14 (ltb steps entries))

-- a state that no run comes to with what is lent
data Beyond (l : Setup) (t : LaneState) : Type 0 where
  past_rows : l.rows < length t.memory → Beyond l t
  past_entries : l.entries < t.steps → Beyond l t

beyond_later : {l : Setup} {s t : LaneState} → Beyond l s → Later s t → Beyond l t
beyond_later (past_rows a) b = past_rows (omega (arith, b.written))
beyond_later (past_entries a) b = past_entries (omega (arith, b.steps))

module _ (number : ℕ) (p : Program) (l : Setup) (rows entries : ℕ) (h : Lends number l rows entries) where
  abbrev o : Setup
  o = lending l rows entries

  -- an effect that leads to one
  abbrev Wants : LaneState → Effect LaneWord → Type 0
  Wants s (goes next) = ⊥
  Wants s (sets rd value next) = ⊥
  Wants s (stores a n value next) = l.rows < length (write s.memory n a value)

  unless_room : (end a n written : ℕ) → Unless number (λ _. l.rows < written) (room_for end l.rows a n written) (room_for end rows a n written)
  unfolding room_for
  unless_room end a n written = then (inside a n) (λ _. then (require 11 _) (λ _. h.room written))

  unless_execute : (s : LaneState) (next : ℕ) (a : Action) → Unless number (Wants s) (execute p l s next a) (execute p o s next a)
  unfolding execute memory_of count_of_lanes reg
  unless_execute s next Nothing = same
  unless_execute s next (Literal rd v) = same
  unless_execute s next (Compute rd f a b) = same
  unless_execute s next (ComputeImmediate rd f a v) = same
  unless_execute s next (Jump rd to) = same
  unless_execute s next (JumpTo rd a offset) = same
  unless_execute s next (Branch f a b to) = same
  unless_execute s next (Load rd a offset n e) = same
  unless_execute s next (Store a b offset n) =
      then (agreed 4 _) (λ address. bind (unless_room _ address n _) (λ _. same) (λ _ e w q. subst (Wants s) (value q) w))

  unless_attempt : (s : LaneState) → Unless number (λ seen. Wants s seen.effect) (attempt p l s) (attempt p o s)
  unfolding attempt memory_of count_of_lanes
  unless_attempt s =
      then (fetch _ _ _ _ _) (λ f. bind (unless_execute s _ _) (λ _. same) (λ e seen w q. subst (λ (x : Attempted LaneWord). Wants s x.effect) (value q) w))

  beyond_apply : (c : ℕ) (s : LaneState) (f : Fetched) (e : Effect LaneWord) → Wants s e → Beyond l (apply write c s f e)
  unfolding apply advanced
  beyond_apply c s f (goes next) w = absurd w
  beyond_apply c s f (sets rd value next) w = absurd w
  beyond_apply c s f (stores a n value next) w = past_rows w

  unless_step : (s : LaneState) → Unless number (Beyond l) (step p l s) (step p o s)
  unfolding step
  unless_step s =
      bind (unless_attempt s)
      (λ seen. bind (h.entry s.steps) (λ _. same) (λ _ t w q.
      subst (Beyond l) (value q) (past_entries (omega (arith, w, steps_apply write p.symbols.event_count s seen.fetched seen.effect)))))
      (λ seen t w q. subst (Beyond l) (value (through (require 14 _) q).2) (beyond_apply _ s seen.fetched seen.effect w))

  unless_start : Unless number (Beyond l) (start p l) (start p o)
  unfolding start start_tests begin count_of_lanes
  unless_start =
      bind
      (then (require 1 _) (λ _. then (require 2 _) (λ _. then (allow l.choice) (λ _. h.room 4))))
      (λ _. same)
      (λ _ s w q. subst (Beyond l) (value q) (past_rows (omega (arith, w, four (constant (count_of_lanes p l) stop_word)))))

  -- ---- how the two runs end: the same, or refused with less
  data Lifted : Ended → Ended → Type 0 where
    alike : {e : Ended} → Lifted e e
    lifted : {s : LaneState} {e : Ended} → Later s e.state → ((r : RunResult) → e.answer ≡ passed r → Beyond l e.state)
        → Lifted (record { state = s; answer = refused (plain number) }) e

  lifted_on : (s : LaneState) {m t : Tested LaneState} {f g : LaneState → Ended} → Unless number (Beyond l) m t → ((u : LaneState) → Lifted (f u) (g u))
      → ((u : LaneState) → t ≡ passed u → Later s u) → ((u : LaneState) → Later u (g u).state) → Lifted (on s m f) (on s t g)
  unfolding on
  lifted_on s {m = passed u} same k a b = k u
  lifted_on s {m = refused r} same k a b = alike
  lifted_on s {t = passed u} (lacks w) k a b = lifted (later (a u refl) (b u)) (λ r q. beyond_later (w u refl) (b u))
  lifted_on s {t = refused r} (lacks w) k a b = lifted (now s) (λ r q. absurd (no_pass q))

  lifted_run : (n : ℕ) (s : LaneState) → Lifted (run p l n s) (run p o n s)
  unfolding run finish finish_events memory_of count_of_lanes reg
  lifted_run zero s = related_choose Lifted (eqb s.pc stop) _ _ _ _ alike alike
  lifted_run (suc n) s =
      related_choose Lifted (eqb s.pc stop) _ _ _ _ alike
      (lifted_on s (unless_step s) (lifted_run n) (later_step p o s) (later_run p o n))

  lifted_lane_run : (limit : ℕ) → Lifted (lane_run p l limit) (lane_run p o limit)
  unfolding lane_run begin count_of_lanes
  lifted_lane_run limit =
      lifted_on (begin p l) unless_start (lifted_run limit)
      (λ s q. subst (Later (begin p l)) (sym (kept_start p o s q).1) (now (begin p l)))
      (later_run p o limit)

  only_lifts : (limit : ℕ) → OnlyLifts number (lane_run p l limit) (lane_run p o limit)
  unfolding refuse
  only_lifts limit = go (lifted_lane_run limit)
    where
      go : {e f : Ended} → Lifted e f → OnlyLifts number e f
      go {e} alike = record { same = λ q. refl; steps = omega arith; trace = ([], sym (append-nil e.state.trace)) }
      go (lifted a b) = record { same = λ q. absurd (q refl); steps = a.steps; trace = (a.rest, a.trace) }

  -- beside an accepted run with more: the same, or refused where that one goes beyond what less has
  beside : {C : Type 0} (limit : ℕ) (r : RunResult) → (lane_run p o limit).answer ≡ passed r
      → (lane_run p l limit ≡ lane_run p o limit → C) → ((lane_run p l limit).answer ≡ refuse number 0 → Beyond l (lane_run p o limit).state → C) → C
  unfolding refuse
  beside {C} limit r q f g = go (lifted_lane_run limit) q f g
    where
      go : {e f : Ended} → Lifted e f → f.answer ≡ passed r → (e ≡ f → C) → (e.answer ≡ refused (plain number) → Beyond l f.state → C) → C
      go alike q f g = f refl
      go (lifted a b) q f g = g refl (b r q)

-- ---- rows, and trace entries
lends_rows : (l : Setup) (rows : ℕ) → l.rows ≤ rows → Lends 13 l rows l.entries
unfolding require refuse
lends_rows l rows h = record { room = λ w. go w (leb w l.rows) (leb w rows) refl refl; entry = λ _. same }
  where
    go : (w : ℕ) (a b : Bool) → leb w l.rows ≡ a → leb w rows ≡ b → Unless 13 (λ _. l.rows < w) (require 13 a) (require 13 b)
    go w true true d e = same
    go w true false d e = absurd (omega (arith, leb-true w l.rows d, leb-false w rows e))
    go w false b d e = lacks (λ _ _. leb-false w l.rows d)

lends_entries : (l : Setup) (entries : ℕ) → l.entries ≤ entries → Lends 14 l l.rows entries
unfolding require refuse
lends_entries l entries h = record { room = λ _. same; entry = λ n. go n (ltb n l.entries) (ltb n entries) refl refl }
  where
    go : (n : ℕ) (a b : Bool) → ltb n l.entries ≡ a → ltb n entries ≡ b → Unless 14 (λ _. l.entries ≤ n) (require 14 a) (require 14 b)
    go n true true d e = same
    go n true false d e = absurd (omega (arith, ltb-true n l.entries d, ltb-false n entries e))
    go n false b d e = lacks (λ _ _. ltb-false n l.entries d)

-- with each number lent: the same end, with as many as are needed, or that refusal, with fewer
data Decided (number needed : ℕ) (end : Ended) (lent : ℕ → Ended) (n : ℕ) : Type 0 where
  ends : lent n ≡ end → needed ≤ n → Decided number needed end lent n
  stops : (lent n).answer ≡ refuse number 0 → n < needed → Decided number needed end lent n

module _ {number needed : ℕ} {end : Ended} {lent : ℕ → Ended} where
  needs : ((n : ℕ) → Decided number needed end lent n) → Needs number needed end lent
  needs d = record { enough = λ n h. enough n h (d n); short = λ n h. short n h (d n) }
    where
      enough : (n : ℕ) → needed ≤ n → Decided number needed end lent n → lent n ≡ end
      enough n h (ends e g) = e
      enough n h (stops e g) = absurd (omega arith)

      short : (n : ℕ) → n < needed → Decided number needed end lent n → (lent n).answer ≡ refuse number 0
      short n h (ends e g) = absurd (omega arith)
      short n h (stops e g) = e

  -- by what was lent to the run that ended so
  decide : (had : ℕ) → needed ≤ had → ((n : ℕ) → had ≤ n → lent n ≡ end) → ((n : ℕ) → n ≤ had → Decided number needed end lent n)
      → (n : ℕ) → Decided number needed end lent n
  decide had fits more fewer n = go (leb had n) refl
    where
      go : (b : Bool) → leb had n ≡ b → Decided number needed end lent n
      go true b = ends (more n (leb-true had n b)) (le_trans fits (leb-true had n b))
      go false b = fewer n (omega (arith, leb-false had n b))

module _ (p : Program) (l : Setup) (limit : ℕ) where
  pub more_rows : MoreRows p l limit
  more_rows rows h = only_lifts 13 p l rows l.entries (lends_rows l rows h) limit

  pub more_entries : MoreEntries p l limit
  more_entries entries h = only_lifts 14 p l l.rows entries (lends_entries l entries h) limit

  module _ (r : RunResult) (q : (lane_run p l limit).answer ≡ passed r) where
    not_refused : {x : Refusal} → (lane_run p l limit).answer ≡ refused x → ⊥
    not_refused e = no_pass (sym e ∙ q)

    written_fits : (o : Setup) → lane_run p o limit ≡ lane_run p l limit → length (lane_run p l limit).state.memory ≤ o.rows
    written_fits o e =
        subst (λ (x : Ended). length x.state.memory ≤ o.rows) e (accepted p o limit r (ap (λ (x : Ended). x.answer) e ∙ q)).lent

    steps_fit : (o : Setup) → lane_run p o limit ≡ lane_run p l limit → r.steps ≤ o.entries
    steps_fit o e = omega (arith, ap (λ (x : Ended). x.state.steps) e, (completed p o limit).lent, (accepted p l limit r q).steps)

  pub rows_needed : RowsNeeded p l limit
  unfolding written_bytes refuse
  rows_needed r q =
      needs (decide l.rows (written_fits r q l refl) (λ n h. (more_rows n h).same (not_refused r q)) (λ n h.
      beside 13 p (lending l n l.entries) l.rows l.entries (lends_rows _ _ h) limit r q
      (λ e. ends e (written_fits r q _ e))
      (λ e b. stops e (past n b))))
    where
      past : (n : ℕ) → Beyond (lending l n l.entries) (lane_run p l limit).state → n < length (lane_run p l limit).state.memory
      past n (past_rows h) = h
      past n (past_entries h) = absurd (omega (arith, (completed p l limit).lent))

  pub entries_needed : EntriesNeeded p l limit
  unfolding refuse
  entries_needed r q =
      needs (decide l.entries (steps_fit r q l refl) (λ n h. (more_entries n h).same (not_refused r q)) (λ n h.
      beside 14 p (lending l l.rows n) l.rows l.entries (lends_entries _ _ h) limit r q
      (λ e. ends e (steps_fit r q _ e))
      (λ e b. stops e (past n b))))
    where
      past : (n : ℕ) → Beyond (lending l l.rows n) (lane_run p l limit).state → n < r.steps
      past n (past_rows h) = absurd (omega (arith, (accepted p l limit r q).lent))
      past n (past_entries h) = omega (arith, (accepted p l limit r q).steps)

pub more_lent : (p : Program) (l : Setup) (limit : ℕ) → MoreLent p l limit
more_lent p l limit rows entries a b f g =
    let d = (more_rows p l limit rows a).same f in
    (more_entries p (lending l rows l.entries) limit entries b).same (rw d g) ∙ d
