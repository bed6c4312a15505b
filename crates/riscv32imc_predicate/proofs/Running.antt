-- The run before its first step and after its last: tests 1, 2, 17 and 13, and what the outcome is. Assumes nothing.
use Rattle.std.specs.Prelude.{Ok, Result}
use mathlib.Core.Path.{◌≡◌, refl, sym, ap, ◌∙◌, subst}
use mathlib.Core.Bool.{Bool, true, false, ◌&&◌}
use mathlib.Core.List.{List, []}
use Prim.Native.Nat.{ℕ, zero, suc, ◌+◌, ◌-◌, ◌*◌, ◌%◌, ◌^◌, ◌≤◌, ◌<◌}
use native.Mathlib.Nat.{mod-eq_of_lt, mul-le-mul_right}
use native.Mathlib.Omega.{arith}
use lib.Dec.{leb, ltb}
use lib.ListN.{length}
use borrow.Author.Tests.{lt-ltb, ltb-true}
use Rattle.little_endian.specs.Lent.{over}
use Rattle.rv32_arithmetic.specs.Arithmetic.{mul}
use Rattle.riscv32imc.specs.Constants.{image_base}
use Rattle.lane_word.specs.declared.InputRange.{InputRange}
use Rattle.lane_word.specs.declared.LaneWord.{LaneWord}
use Rattle.lane_word.specs.Word.{constant, domain, lanes}
use Rattle.lane_word.specs.Range.{input_count}
use Rattle.lane_word.specs.Spare.{lane_inputs}
use Rattle.predicate_answer.specs.declared.CompiledMmioEvent.{CompiledMmioEvent}
use Rattle.predicate_answer.specs.declared.PredicateTransducerExecution.{PredicateTransducerExecution}
use Rattle.predicate_answer.specs.declared.Rv32Error.{Rv32Error}
use Rattle.predicate_answer.specs.declared.RecordOutcome.{RecordOutcome}
use Rattle.predicate_answer.specs.Refusal.{Refusal, refusal_of}
use Rattle.predicate_answer.specs.Blank.{max_events, no_events}
use Rattle.predicate_semantics.specs.declared.Rv32SymbolLayout.{Rv32SymbolLayout}
use Rattle.predicate_semantics.specs.declared.Rv32Program.{Rv32Program}
use Rattle.predicate_semantics.specs.Program.{stop, stop_word, event_stride, memory_end, image_end, sized, symbols_placed, in_memory}
use Rattle.predicate_semantics.specs.State.{RunResult}
use Rattle.predicate_semantics.specs.Tested.{Tested, passed, refused, ◌>>=◌, refuse, require, allow}
use Rattle.predicate_semantics.specs.Lane.{LaneState, Ended, count_of_lanes, on, begin, start_tests, start, lane_run, finish}
use Rattle.predicate_semantics.specs.Call.{range_test}
use Rattle.predicate_semantics.specs.RecordRules.{numbers_over}
use Rattle.predicate_semantics.specs.Kept.{Kept}
use Rattle.predicate_semantics.proofs.Always.{no_pass}
use Rattle.predicate_semantics.proofs.Laws.{run_stop}
use Rattle.predicate_semantics.proofs.RecordRules.{four, kept_start, events_located}
use Rattle.predicate_semantics.proofs.Reached.{run_after, steps_after}
use Rattle.predicate_trace.specs.Trace.{put_entries}
use Rattle.lane_memory.specs.Rows.{row_count, store_values, cleared}
use Rattle.lane_memory.specs.Holds.{Holds}
use Rattle.lane_memory.proofs.Laws.{holds_store_value}
use Rattle.lane_access.proofs.Laws.{above_write}
use Rattle.riscv32imc_predicate.specs.declared.Bounds.{Bounds}
use Rattle.riscv32imc_predicate.specs.declared.Place.{Place}
use Rattle.riscv32imc_predicate.specs.declared.Ending.{Ending}
use Rattle.riscv32imc_predicate.specs.declared.Ending.TheVariants as ending
use Rattle.riscv32imc_predicate.specs.declared.Recorded.{Recorded}
use Rattle.riscv32imc_predicate.specs.declared.Registers.{Registers}
use Rattle.riscv32imc_predicate.specs.declared.Reached.{Reached}
use Rattle.riscv32imc_predicate.specs.Setting.{Setting, Environment, environment, first_state, rest, registers_of}
use Rattle.riscv32imc_predicate.specs.Coming.{Ends}
use Rattle.riscv32imc_predicate.specs.Register.{Held, StartsWith}
use Rattle.riscv32imc_predicate.specs.Tracking.{machine, Stands, Arrives, Advances, start_place, start_recorded}
use Rattle.riscv32imc_predicate.specs.Reporting.{refused_run, reported, Counts, whole, never, whole_run, Calls, Reports}
use Rattle.riscv32imc_predicate.proofs.LaneCount.{lane_count}
use Rattle.predicate_answer.specs.declared.CallError.{CallError}

pub positive : (n : ℕ) → (n ≡ 0 → ⊥) → ltb 0 n ≡ true
positive zero h = absurd (h refl)
positive (suc n) h = lt-ltb 0 (suc n) (omega arith)

-- ---- what is reported of an answer

abbrev result_at : LaneState → ℕ → List CompiledMmioEvent → RunResult
result_at s value found = record { return_value = value; steps = s.steps; trace = s.trace; events = found }

-- the numbers of an accepted run, as the code has them
abbrev numbers_of : InputRange → Place → Recorded → ℕ → PredicateTransducerExecution
numbers_of range place noted value = record {
  first_input = range.first;
  lane_count = input_count range;
  return_value = value;
  symbolic_transitions = place.steps;
  lane_value_operations = mul (input_count range) place.steps;
  sparse_memory_bytes = place.written;
  event_count = noted.count % 256;
}

module _ (range : InputRange) (s : LaneState) where
  pub reports_refused : (t : Tested RunResult) (x : Rv32Error) (k : ℕ) → k ≡ s.steps → t ≡ refused (refusal_of x)
      → {r : RecordOutcome} → r ≡ refused_run x k → Ok r ≡ reported range s t
  reports_refused t x k e q h = ap Ok (h ∙ ap (refused_run x) e) ∙ ap (reported range s) (sym q)

  module _ {place : Place} {noted : Recorded} (byte : range.last < lanes) (at : Counts place noted s) where
    numbers_are : (value : ℕ) (found : List CompiledMmioEvent) → length found ≡ length s.locations → length found ≤ max_events
        → numbers_of range place noted value ≡ numbers_over range s.steps (length s.memory) (result_at s value found)
    numbers_are value found f few =
        let few_lanes : input_count range * s.steps ≤ lanes * s.steps = mul-le-mul_right s.steps (omega (arith, byte)) in
        let o : mul (input_count range) place.steps ≡ input_count range * s.steps
        = ap (mul (input_count range)) at.same_steps ∙ mod-eq_of_lt (omega (arith, few_lanes, at.countable)) in
        let n : noted.count % 256 ≡ length found = mod-eq_of_lt (omega (arith, at.same_count, f, few)) ∙ at.same_count ∙ sym f in
        rw (o, n, at.same_written, at.same_steps) refl

    pub reports_accepted : (c : Setting) (value : ℕ) (found events : List CompiledMmioEvent) → events ≡ over found no_events
        → finish c.program c.setup s ≡ passed (result_at s value found)
        → Ok (record { answer = Ok tt; execution = numbers_of range place noted value; events = events })
        ≡ reported range s (finish c.program c.setup s)
    reports_accepted c value found events z q =
        let f = events_located c.program c.setup s (result_at s value found) q in
        rw (q, numbers_are value found f.0 f.1, z) refl

-- ---- before any step

and_right : (a b : Bool) → (a && b) ≡ true → b ≡ true
and_right true b q = q
and_right false true q = refl
and_right false false q = q

placed_true : (size : ℕ) (symbols : Rv32SymbolLayout) (choice : Result (Unit {0}) CallError) (n : ℕ) → start_tests size symbols choice n ≡ passed tt → symbols_placed symbols ≡ true
unfolding start_tests ◌>>=◌ require refuse allow
placed_true size symbols choice n = go (sized size) (symbols_placed symbols)
  where
    go : (a b : Bool) → (require 1 a >>= λ _. require 2 b >>= λ _. allow choice >>= λ _. require 13 (leb 4 n)) ≡ passed tt → b ≡ true
    go true true q = refl
    go true false q = absurd (no_pass q)
    go false b q = absurd (no_pass q)

-- every event lies below 2^32
pub events_low : (size : ℕ) (symbols : Rv32SymbolLayout) (choice : Result (Unit {0}) CallError) (n : ℕ) → start_tests size symbols choice n ≡ passed tt → symbols.events + max_events * event_stride ≤ 2 ^ 32
unfolding symbols_placed in_memory
events_low size symbols choice n h =
    let e : ℕ = symbols.events in
    let m = and_right (in_memory symbols.entry && in_memory symbols.event_count) (leb image_base e && ltb e memory_end) (placed_true size symbols choice n h) in
    omega (arith, ltb-true e memory_end (and_right (leb image_base e) (ltb e memory_end) m))

module _ {c : Setting} {image : List ℕ} {program : Rv32Program} {range : InputRange} {limit : ℕ} {rows trace : List ℕ}
    (k : Calls c image program range limit rows trace) where
  abbrev symbols : Rv32SymbolLayout
  symbols = program.symbols

  -- what the loop is given
  abbrev pub loop_environment : Environment
  loop_environment = environment image symbols (whole_run limit trace)

  -- the tests before any step are the setting's
  same_tests : (t : Tested (Unit {0})) → start_tests (length image) symbols (range_test range) (row_count rows) ≡ t
      → start_tests (length c.program.image) c.program.symbols c.setup.choice c.setup.rows ≡ t
  same_tests t e = rw (k.serves.same_image, k.serves.same_symbols, k.same_choice, k.same_rows) e

  -- refused before any step
  pub run_refused_first : (q : Refusal) → start_tests (length image) symbols (range_test range) (row_count rows) ≡ refused q
      → whole c ≡ record { state = first_state c; answer = refused q }
  unfolding lane_run on start ◌>>=◌
  run_refused_first q h = rw (same_tests (refused q) h)

  module _ (h : start_tests (length image) symbols (range_test range) (row_count rows) ≡ passed tt) where
    started : start c.program c.setup ≡ passed (first_state c)
    unfolding start ◌>>=◌
    started = rw (same_tests (passed tt) h)

    run_is_rest : whole c ≡ rest c (first_state c)
    unfolding lane_run on begin
    run_is_rest = let e : c.limit - 0 ≡ c.limit = omega arith in rw (started, e)

    kept_first : Kept c.program c.setup (first_state c)
    kept_first = (kept_start c.program c.setup _ started).0

    -- the registers of the start
    begin_held : {r : Registers} → StartsWith (domain (lane_inputs range)) r → Held (registers_of c) r.tags r.words (first_state c).registers
    unfolding begin
    begin_held {r} w =
        rw (lane_count c k.serves.same_lanes, k.same_inputs) (w (registers_of c) k.serves.most_registers)

    -- the stop word is stored
    pub begin_stands : Holds rows (row_count rows) [] → {rows' : List ℕ} → rows' ≡ store_values rows 4 stop stop_word → {place : Place} → place ≡ start_place symbols.entry
        → {r : Registers} → StartsWith (domain (lane_inputs range)) r → {noted : Recorded} → noted ≡ start_recorded → Stands c loop_environment (machine place r noted rows' trace) (first_state c)
    unfolding begin put_entries
    begin_stands j {rows'} e {place} p {r} w {noted} n =
        let b : Holds rows c.setup.rows [] = rw k.same_rows j in
        rw (e, p, n) (record {
          serves = k.serves;
          tracks = record {
            kept = kept_first;
            same_pc = ap (λ (x : Rv32SymbolLayout). x.entry) (sym k.serves.same_symbols);
            same_steps = refl;
            bounded = omega arith;
            holds = rw (lane_count c k.serves.same_lanes) (holds_store_value b 4 stop stop_word (omega arith) (rw (lane_count c k.serves.same_lanes) at kept_first.stored.most));
            above = above_write (image_end c.program) 4 stop (constant (count_of_lanes c.program c.setup) stop_word) [] (omega (arith, kept_first.fits.1)) tt;
            same_written = sym (four (constant (count_of_lanes c.program c.setup) stop_word));
            traced = sym k.same_lent;
          };
          keeps = (refl, refl);
          held = begin_held w;
        })

    -- where a call of the loop from there ends
    pub begin_arrives : Holds rows (row_count rows) [] → {rows' : List ℕ} → rows' ≡ store_values rows 4 stop stop_word → {place : Place} → place ≡ start_place symbols.entry
        → {word : LaneWord} → word ≡ domain (lane_inputs range) → {r : Registers} → StartsWith word r → {noted : Recorded} → noted ≡ start_recorded
        → {bounds : Bounds} → bounds ≡ whole_run limit trace → {q : Reached} {rows'' trace' : List ℕ}
        → Advances (environment image symbols bounds) (machine place r noted rows' trace) q rows'' trace' → Arrives c loop_environment (first_state c) q rows'' trace'
    begin_arrives j {rows'} e {place} p i {r} w {noted} n b {q} {rows''} {trace'} a =
        subst (λ (x : Bounds). Advances (environment image symbols x) (machine place r noted rows' trace) q rows'' trace') b a c (first_state c)
        (begin_stands j e p (subst (λ (x : LaneWord). StartsWith x r) i w) n)

    -- ---- where the loop ended
    module _ {q : Reached} {rows' trace' : List ℕ} (a : Arrives c loop_environment (first_state c) q rows' trace') where
      arrived_rest : whole c ≡ rest c a.state
      unfolding begin
      arrived_rest =
          let s = steps_after c.program c.setup a.taken (first_state c) a.after in
          run_is_rest
          ∙ run_after c.program c.setup a.taken _ (c.limit - a.state.steps) (first_state c) (omega (arith, s, a.stands.tracks.bounded)) a.after

      ends_as : (y : Ending) → q.ending ≡ y → Ends c never y a.state
      ends_as y e = subst (λ (x : Ending). Ends c never x a.state) e a.ends

      pub ended_refused : (x : Rv32Error) → q.ending ≡ ending.Refused x → whole c ≡ record { state = a.state; answer = refused (refusal_of x) }
      ended_refused x e = arrived_rest ∙ ends_as (ending.Refused x) e

      pub ended_arrived : q.ending ≡ ending.Arrived → whole c ≡ record { state = a.state; answer = finish c.program c.setup a.state }
      ended_arrived e = arrived_rest ∙ run_stop c.program c.setup _ a.state (ends_as ending.Arrived e)

      few_steps : a.state.steps ≤ limit
      few_steps = omega (arith, a.stands.tracks.bounded, k.serves.same_limit)

      pub never_paused : q.ending ≡ ending.Paused → ⊥
      never_paused e = omega (arith, (ends_as ending.Paused e).1, few_steps, k.countable)

      pub counts : Counts q.place q.recorded a.state
      counts = record {
        same_steps = a.stands.tracks.same_steps;
        countable = omega (arith, few_steps, k.countable);
        same_written = a.stands.tracks.same_written;
        same_count = a.stands.keeps.0;
      }

  pub runs_as : {e : Ended} → whole c ≡ e → {r : Result RecordOutcome CallError} {rows' trace' : List ℕ}
      → r ≡ reported range e.state e.answer → trace' ≡ put_entries c.lent 0 e.state.trace → cleared rows' ≡ cleared rows → Reports c range r rows rows' trace'
  runs_as same t b z = record { said = rw same t; entries = rw same b; same_rows = z }
