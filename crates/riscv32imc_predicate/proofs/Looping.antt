-- The loop over the registers: its invariant, with laws for its start, its step and its end. Assumes nothing.
use Rattle.std.specs.Prelude.{Err, None, Ok, Option, Result, Some, ℕ}
use mathlib.Core.Path.{◌≡◌, refl, sym, ap, ◌∙◌, subst}
use mathlib.Core.Option.{some}
use mathlib.Core.List.{List}
use Prim.Native.Nat.{ℕ, suc, ◌+◌, ◌-◌, ◌^◌, ◌≤◌, ◌<◌}
use native.Mathlib.Nat.{mod-eq_of_lt}
use native.Mathlib.Omega.{arith}
use lib.ListN.{length, get_or, set}
use Rattle.rv32_arithmetic.specs.Value.{value_of}
use Rattle.lane_word.specs.declared.LaneWord.{LaneWord}
use Rattle.lane_word.specs.Word.{unknown, constant, binary, uniform_of, lanes}
use Rattle.lane_word.specs.Told.{word_of, told_by}
use Rattle.lane_word.proofs.ToldLaws.{binary_size, word_size, told_by_value}
use Rattle.predicate_semantics.specs.Tested.{passed}
use Rattle.predicate_semantics.specs.State.{Effect, goes, sets, stores, apply, advanced}
use Rattle.predicate_semantics.specs.Lane.{LaneState, count_of_lanes, memory_of, reg, step}
use Rattle.predicate_semantics.specs.Lane as Lane
use Rattle.predicate_semantics.proofs.Reached.{after_next}
use Rattle.predicate_semantics.proofs.Sources.{fetched_decodes}
use Rattle.predicate_action.specs.declared.Reading.{Reading}
use Rattle.predicate_action.specs.Reading.{reading_of, computed, ReadsBelow}
use Rattle.predicate_answer.specs.declared.Rv32Error.{Rv32Error}
use Rattle.lane_memory.specs.Rows.{cleared}
use Rattle.lane_access.specs.Seen.{seen}
use Rattle.riscv32imc_predicate.specs.declared.Change.{Change}
use Rattle.riscv32imc_predicate.specs.declared.Change.TheVariants as change
use Rattle.riscv32imc_predicate.specs.declared.Step.{Step}
use Rattle.riscv32imc_predicate.specs.declared.Ending.{Ending}
use Rattle.riscv32imc_predicate.specs.declared.Ending.TheVariants as ending
use Rattle.riscv32imc_predicate.specs.declared.Place.{Place}
use Rattle.riscv32imc_predicate.specs.declared.Progress.{Progress}
use Rattle.riscv32imc_predicate.specs.declared.Reached.{Reached}
use Rattle.riscv32imc_predicate.specs.declared.Recorded.{Recorded}
use Rattle.riscv32imc_predicate.specs.Setting.{Setting, Environment, registers_of, register_count}
use Rattle.riscv32imc_predicate.specs.Changes.{decision_of, Untold, Suits, Sources}
use Rattle.riscv32imc_predicate.specs.Coming.{Continues, Ends}
use Rattle.riscv32imc_predicate.specs.Register.{first_operand, second_operand, Held, blank, slot_of, operand_told, place_of, laid_out, Stores, LoadsLanes}
use Rattle.riscv32imc_predicate.specs.Tracking.{Machine, Stands, Arrives, reached_with, Located, Decides}
use Rattle.riscv32imc_predicate.proofs.Filing.{held_source, held_lanes, held_value, held_word, held_laid, laid_read, laid_other, place_apart, operand_word}
use Rattle.riscv32imc_predicate.proofs.Following.{given, return_word}
use Rattle.riscv32imc_predicate.proofs.Stepping.{after, next_of, Leaves, Completes, Decided, Passes, passes, stepped, on_passed, on_refused, leaves_going, leaves_setting, leaves_storing}
use Rattle.lane_word.specs.declared.UniformError.{UniformError}

abbrev pub with_words : Machine → List LaneWord → Machine
with_words m words = record { place = m.place; tags = m.tags; words = words; noted = m.noted; rows = m.rows; trace = m.trace }

-- the loop stands at a state that the run comes to from where the call began
pub record Looped (c : Setting) (g : Environment) (s : LaneState) (m : Machine) (word : LaneWord) : Type 0 where
  pub state : LaneState
  pub taken : ℕ
  pub came : Lane.after c.program c.setup taken s ≡ some state
  pub stands : Stands c g m state
  pub size : length word.values ≡ lanes

pub looped_start : {c : Setting} {g : Environment} {s : LaneState} {m : Machine} {word : LaneWord} → length word.values ≡ lanes → Stands c g m s → Looped c g s m word
unfolding Lane.after
looped_start {s = s} e h = record { state = s; taken = 0; came = refl; stands = h; size = e }

-- what the call then hands back
pub arrives_as : {c : Setting} {g : Environment} {s : LaneState} {m : Machine} {word : LaneWord} (i : Looped c g s m word) (b : Machine) → Stands c g b i.state
    → (q : Ending) → Ends c g.bounds.pause q i.state → {r : Reached} → r ≡ reached_with b.place q b.noted b.words b.tags
    → Arrives c g s r b.rows b.trace
arrives_as i b h q e z =
    rw z (record { state = i.state; taken = i.taken; after = i.came; stands = h; ends = e; return_word = sym (return_word h None blank) })

-- ---- the words of a step, by what the loop holds

abbrev pub told_first : Progress → Machine → Option ℕ
told_first progress m = get_or m.tags progress.reading.rs1 None

abbrev pub told_second : Progress → Machine → Option ℕ
told_second progress m = get_or m.tags progress.reading.rs2 None

abbrev pub told_operand : Progress → Machine → Option ℕ
told_operand progress m = operand_told progress.reading (told_second progress m)

abbrev pub word_first : Progress → Machine → LaneWord
word_first progress m = word_of (told_first progress m) (get_or m.words progress.reading.rs1 blank)

abbrev pub word_second : Progress → Machine → LaneWord
word_second progress m = word_of (told_second progress m) (get_or m.words progress.reading.rs2 blank)

abbrev pub result_of : Progress → Machine → LaneWord
result_of progress m = computed progress.reading (word_first progress m) (word_second progress m)

-- what the loop knows once the word is computed or told: its registers are held still, and its lanes are the result's where no value is
pub record Computed (n : ℕ) (m : Machine) (registers : List LaneWord) (result : LaneWord) (words : List LaneWord) (word : LaneWord) (tested : Result ℕ UniformError) : Type 0 where
  pub keeps : Held n m.tags words registers
  pub sized : length word.values ≡ lanes
  pub tells : tested ≡ uniform_of result
  pub by_lanes_word : Untold tested → word ≡ result

-- the words of the operands, laid out where one value is told
pub record Laid (progress : Progress) (m : Machine) (words₁ words₂ : List LaneWord) (place₁ place₂ : ℕ) : Type 0 where
  pub first_words : words₁ ≡ laid_out (told_first progress m) first_operand m.words
  pub second_words : words₂ ≡ laid_out (told_operand progress m) second_operand words₁
  pub first_place : place₁ ≡ place_of (told_first progress m) progress.reading.rs1 first_operand
  pub second_place : place₂ ≡ place_of (told_operand progress m) progress.reading.rs2 second_operand

-- how the loop came to the word: two told values, or lanes
pub data Works (progress : Progress) (m : Machine) (words : List LaneWord) (word₀ word : LaneWord) (tested : Result ℕ UniformError) : Type 0 where
  by_value : (v : ℕ) → told_by (value_of progress.reading.function) (told_first progress m) (told_operand progress m) ≡ Some v
      → words ≡ m.words → word ≡ word₀ → tested ≡ Ok v → Works progress m words word₀ word tested
  by_words : {words₁ : List LaneWord} {place₁ place₂ : ℕ} → Laid progress m words₁ words place₁ place₂
      → word ≡ binary (value_of progress.reading.function) (get_or words place₁ blank) (get_or words place₂ blank)
      → tested ≡ uniform_of word → Works progress m words word₀ word tested

-- ---- what the loop does with a change

abbrev pub Rests : Machine → Machine → ℕ → Type 0
Rests a b new = (b.noted ≡ a.noted) × (b.rows ≡ a.rows) × (new ≡ 0)

-- from one machine to another, with the computed word; `new` bytes get an address
abbrev pub Applied : Environment → Progress → LaneWord → Change → Machine → Machine → ℕ → Type 0
Applied g progress word change.Nothing a b new = (b.tags ≡ a.tags) × (b.words ≡ a.words) × Rests a b new
Applied g progress word (change.Sets rd z) a b new = (b.tags ≡ set a.tags (slot_of rd) (Some z)) × (b.words ≡ a.words) × Rests a b new
Applied g progress word (change.Computes rd) a b new =
    (b.tags ≡ set a.tags (slot_of rd) None) × (b.words ≡ set a.words (slot_of rd) word) × Rests a b new
Applied g progress word (change.Loads rd at n e) a b new =
    (loaded : LaneWord) × LoadsLanes g.image a.rows at n e loaded
    × (b.tags ≡ set a.tags (slot_of rd) None) × (b.words ≡ set a.words (slot_of rd) loaded) × Rests a b new
Applied g progress word (change.Stores at n) a b new =
    (b.tags ≡ a.tags) × (b.words ≡ a.words) × Stores a.rows at n (word_second progress a) new b.rows
    × Located a.noted a.place.pc at n g.symbols.event_count b.noted

-- the rows stay as many, whatever is stored
pub applied_rows : (g : Environment) (progress : Progress) (word : LaneWord) (x : Change) (a b : Machine) (new : ℕ) → Applied g progress word x a b new
    → cleared b.rows ≡ cleared a.rows
applied_rows g progress word change.Nothing a b new h = ap cleared h.2.1
applied_rows g progress word (change.Sets rd z) a b new h = ap cleared h.2.1
applied_rows g progress word (change.Computes rd) a b new h = ap cleared h.2.1
applied_rows g progress word (change.Loads rd at n e) a b new h = ap cleared h.4.1
applied_rows g progress word (change.Stores at n) a b new h = h.2.same_rows

pub stores_as : {rows : List ℕ} {a n : ℕ} {z x : LaneWord} {new new' : ℕ} {rows₁ rows₂ : List ℕ} → Stores rows a n z new rows₁
    → new' ≡ new → rows₂ ≡ rows₁ → z ≡ x → Stores rows a n x new' rows₂
stores_as o e f g = rw (e, f, ← g) o

-- a completed step leaves fewer
pub fewer_left : {m : Machine} {progress : Progress} {next new : ℕ} {place : Place} {trace : List ℕ} {limit : ℕ} → Completes m progress next new place trace
    → m.place.steps < limit → limit < 2 ^ 32 → limit - place.steps < limit - m.place.steps
fewer_left {m} o h s = omega (arith, ap (λ (x : Place). x.steps) o.moves ∙ mod-eq_of_lt {n = m.place.steps + 1} (omega (arith, h, s)), h)

-- ---- a turn, from a fetched instruction

module _ {c : Setting} {g : Environment} {s : LaneState} {m : Machine} {word : LaneWord} (i : Looped c g s m word) {progress : Progress} (k : Continues c progress i.state) where
  abbrev n : ℕ
  n = registers_of c

  sources : ReadsBelow n progress.reading
  sources =
      let o = k.instruction.operation in
      let d = fetched_decodes c.program.core i.state.steps (count_of_lanes c.program c.setup) (memory_of c.program c.setup i.state) i.state.pc k.fetched in
      let e : progress.reading ≡ reading_of progress.action = k.reads in
      rw (e, k.same_action) (i.stands.serves.names i.state.steps k.instruction.word i.state.pc o d)

  most : n ≤ register_count
  most = i.stands.held.most

  source : (j : ℕ) → j < n → reg c.program c.setup i.state j ≡ word_of (get_or m.tags j None) (get_or m.words j blank)
  unfolding reg
  source j h = held_source i.stands.held j _ None blank h

  size₁ : length (word_first progress m).values ≡ lanes
  size₁ = word_size (told_first progress m) _ (held_lanes i.stands.held progress.reading.rs1 blank (omega (arith, sources.0, most)))

  size₂ : (u : Option ℕ) → length (word_of u (get_or m.words progress.reading.rs2 blank)).values ≡ lanes
  size₂ u = word_size u _ (held_lanes i.stands.held progress.reading.rs2 blank (omega (arith, sources.1, most)))

  -- as the code computes it
  by_operands : binary (value_of progress.reading.function) (word_first progress m) (word_of (told_operand progress m) (get_or m.words progress.reading.rs2 blank)) ≡ result_of progress m
  by_operands = ap (binary (value_of progress.reading.function) (word_first progress m)) (operand_word progress.reading (told_second progress m) (get_or m.words progress.reading.rs2 blank))

  result_size : length (result_of progress m).values ≡ lanes
  result_size = ap (λ (x : LaneWord). length x.values) (sym by_operands) ∙ binary_size _ (word_first progress m) _ size₁ (size₂ (told_operand progress m))

  abbrev ComputedAt : List LaneWord → LaneWord → Result ℕ UniformError → Type 0
  ComputedAt words word tested = Computed n m i.state.registers (result_of progress m) words word tested

  -- two told values
  computed_told : (v : ℕ) → told_by (value_of progress.reading.function) (told_first progress m) (told_operand progress m) ≡ Some v
      → ComputedAt m.words word (Ok v)
  computed_told v e = record {
    keeps = i.stands.held;
    sized = i.size;
    tells =
        sym (told_by_value (value_of progress.reading.function) (told_first progress m) (told_operand progress m)
        (get_or m.words progress.reading.rs1 blank) (get_or m.words progress.reading.rs2 blank) e)
        ∙ ap uniform_of by_operands;
    by_lanes_word = λ x. absurd x;
  }

  -- lanes
  computed_lanes : {words₁ words₂ : List LaneWord} {place₁ place₂ : ℕ} {word' : LaneWord} {tested : Result ℕ UniformError} → Laid progress m words₁ words₂ place₁ place₂
      → word' ≡ binary (value_of progress.reading.function) (get_or words₂ place₁ blank) (get_or words₂ place₂ blank)
      → tested ≡ uniform_of word' → ComputedAt words₂ word' tested
  computed_lanes {words₁} {words₂} {place₁} {place₂} {word'} {tested} l h t =
      let u : Option ℕ = told_first progress m in
      let v : Option ℕ = told_operand progress m in
      let below₁ : progress.reading.rs1 < register_count = omega (arith, sources.0, most) in
      let below₂ : progress.reading.rs2 < register_count = omega (arith, sources.1, most) in
      let kept₁ : Held n m.tags words₁ i.state.registers = rw l.first_words (held_laid i.stands.held u first_operand (omega arith) (omega arith)) in
      let kept₂ : Held n m.tags words₂ i.state.registers = rw l.second_words (held_laid kept₁ v second_operand (omega arith) (omega arith)) in
      let one : get_or words₂ place₁ blank ≡ word_first progress m
      = rw (l.second_words, l.first_place) (laid_other words₁ v (place_of u progress.reading.rs1 first_operand) second_operand blank (place_apart u progress.reading.rs1 below₁)
      ∙ rw l.first_words (laid_read i.stands.held u progress.reading.rs1 first_operand blank blank (omega (arith, below₁)) (omega arith))) in
      let still : get_or words₁ progress.reading.rs2 blank ≡ get_or m.words progress.reading.rs2 blank
      = rw l.first_words (laid_other m.words u progress.reading.rs2 first_operand blank (λ q. omega (arith, q, below₂))) in
      let other : get_or words₂ place₂ blank ≡ word_of v (get_or m.words progress.reading.rs2 blank)
      = rw (l.second_words, l.second_place) (laid_read kept₁ v progress.reading.rs2 second_operand blank blank (omega (arith, below₂)) (omega arith)) ∙ ap (word_of v) still in
      let is : word' ≡ result_of progress m = h ∙ rw (one, other) by_operands in
      record {
        keeps = kept₂;
        sized = ap (λ (z : LaneWord). length z.values) is ∙ result_size;
        tells = t ∙ ap uniform_of is;
        by_lanes_word = λ _. is;
      }

  pub computed_now : {words : List LaneWord} {word' : LaneWord} {tested : Result ℕ UniformError} → Works progress m words word word' tested → ComputedAt words word' tested
  computed_now (by_value v e a b t) = rw (a, b, t) (computed_told v e)
  computed_now (by_words l h t) = computed_lanes l h t

  -- the change is decided on that word
  module _ {words : List LaneWord} {word' : LaneWord} {tested : Result ℕ UniformError} (j : ComputedAt words word' tested) where
    gives : Sources c i.state progress.action (word_first progress m) (word_second progress m) tested
    gives = record {
      first = ap (λ (x : Reading). reg c.program c.setup i.state x.rs1) (sym k.reads) ∙ source progress.reading.rs1 sources.0;
      second = ap (λ (x : Reading). reg c.program c.setup i.state x.rs2) (sym k.reads) ∙ source progress.reading.rs2 sources.1;
      left_size = size₁;
      right_size = size₂ (told_second progress m);
      told = j.tells ∙ ap (λ (x : Reading). uniform_of (computed x (word_first progress m) (word_second progress m))) k.reads;
    }

    -- the second source's word is still there
    second_now : word_second progress (with_words m words) ≡ word_second progress m
    second_now =
        sym (held_source j.keeps progress.reading.rs2 (unknown lanes) None blank sources.1)
        ∙ held_source i.stands.held progress.reading.rs2 (unknown lanes) None blank sources.1

    decided : (d : Result Step Rv32Error) → Decides g.image m.rows progress m.place tested g.bounds.entries d
        → Decided c g m progress i.state (result_of progress m) (word_second progress m) d
    decided d h =
        subst (λ (x : Reading). Decided c g m progress i.state (computed x (word_first progress m) (word_second progress m)) (word_second progress m) d) (sym k.reads)
        (h c i.state (given i.stands) (word_first progress m) (word_second progress m) gives)

    -- a refused step: the loop stands where it stood
    pub looped_refused : (e : Rv32Error) → Decides g.image m.rows progress m.place tested g.bounds.entries (Err e)
        → Stands c g (with_words m words) i.state × Ends c g.bounds.pause (ending.Refused e) i.state
    looped_refused e h = (
      record { serves = i.stands.serves; tracks = i.stands.tracks; keeps = i.stands.keeps; held = j.keeps },
      on_refused i.stands k (result_of progress m) (word_second progress m) e (decided (Err e) h),
    )

    -- a step that goes on, to a machine whose place and trace are the completed step's
    module _ (b : Machine) (new next : ℕ) (o : Completes m progress next new b.place b.trace) where
      abbrev Goes : Change → Type 0
      Goes x = Decides g.image m.rows progress m.place tested g.bounds.entries (Ok (record { change = x; next = next })) × Suits tested (Ok (record { change = x; next = next }))

      passing : (x : Change) → Goes x → (z : Effect LaneWord)
          → decision_of (seen g.image m.rows) (result_of progress m) (word_second progress m) (Ok (record { change = x; next = next })) ≡ passed z → Passes i.stands k z
      passing x h z same = passes i.stands k (result_of progress m) (word_second progress m) (Ok (record { change = x; next = next })) (decided (Ok (record { change = x; next = next })) h.0) z same

      -- the loop after it
      on : (z : Effect LaneWord) → next_of z ≡ next → Passes i.stands k z → {noted : Recorded} {rows : List ℕ} → b.noted ≡ noted → b.rows ≡ rows
          → Leaves c i.state k.instruction z new noted rows → Held n b.tags b.words (after c i.state k.instruction z).registers → Looped c g s b word'
      on z e p q r l h =
          let l' : Leaves c i.state k.instruction z new b.noted b.rows = rw (q, r) l in
          let o' : Completes m progress (next_of z) new b.place b.trace = rw e o in
          record {
            state = after c i.state k.instruction z;
            taken = suc i.taken;
            came = after_next c.program c.setup i.taken s i.came k.moving (stepped i.stands k z p);
            stands = record {
              serves = i.stands.serves;
              tracks = on_passed i.stands k z p l' o';
              keeps = l'.keeps;
              held = h;
            };
            size = j.sized;
          }

      pub looped_on : (x : Change) → Goes x → Applied g progress word' x (with_words m words) b new → Looped c g s b word'
      unfolding apply advanced
      looped_on change.Nothing h a =
          on (goes next) refl (passing change.Nothing h (goes next) refl) a.2.0 a.2.1 (leaves_going i.stands k next new a.2.2)
          (rw (a.0, a.1) j.keeps)
      looped_on (change.Sets rd v) h a =
          let w : LaneWord = constant lanes v in
          on (sets rd w next) refl (passing (change.Sets rd v) h (sets rd w next) refl) a.2.0 a.2.1 (leaves_setting i.stands k rd next new w a.2.2)
          (rw (a.0, a.1) (held_value j.keeps rd v))
      looped_on (change.Computes rd) h a =
          let w : LaneWord = result_of progress m in
          on (sets rd w next) refl (passing (change.Computes rd) h (sets rd w next) refl) a.2.0 a.2.1 (leaves_setting i.stands k rd next new w a.2.2)
          (rw (a.0, a.1, ← (j.by_lanes_word h.1)) (held_word j.keeps rd word' j.sized))
      looped_on (change.Loads rd at y e) h a =
          on (sets rd a.0 next) refl
          (passing (change.Loads rd at y e) h (sets rd a.0 next) (ap (λ (x : LaneWord). passed (sets rd x next)) (sym (a.1.is h.1))))
          a.4.0 a.4.1 (leaves_setting i.stands k rd next new a.0 a.4.2)
          (rw (a.2, a.3) (held_word j.keeps rd a.0 a.1.size))
      looped_on (change.Stores at y) h a =
          let w : LaneWord = word_second progress m in
          let p = passing (change.Stores at y) h (stores at y w next) refl in
          on (stores at y w next) refl p refl refl (leaves_storing i.stands k at y next w p (rw second_now at a.2, a.3))
          (rw (a.0, a.1) j.keeps)
