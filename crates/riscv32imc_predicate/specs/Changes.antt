-- What an executed operation is in the semantics.
use Rattle.std.specs.Prelude.{List, ◌≡◌, ℕ, ◌+◌, ◌≤◌, ◌^◌, eqb, ltb, length, Err, IfOk, Ok, Result}
use Rattle.riscv32imc.specs.Constants.{image_base}
use Rattle.lane_word.specs.declared.LaneWord.{LaneWord}
use Rattle.lane_word.specs.Word.{constant, unary, uniform_of, lanes}
use Rattle.predicate_semantics.specs.Choice.{choose}
use Rattle.predicate_semantics.specs.State.{Effect, goes, sets, stores}
use Rattle.predicate_semantics.specs.Memory.{LaneBytes, read, write}
use Rattle.predicate_semantics.specs.Tested.{Tested, passed, refused, ◌>>=◌, require}
use Rattle.predicate_semantics.specs.Lane.{LaneState, memory_of, inside, agreed_as, access, room_for, reg, execute}
use Rattle.predicate_action.specs.declared.Action.{Action}
use Rattle.predicate_action.specs.declared.Extension.{Extension}
use Rattle.predicate_action.specs.Meaning.{extension_of}
use Rattle.predicate_action.specs.Reading.{reading_of, computed}
use Rattle.lane_memory.specs.Rows.{row_count, new_bytes}
use Rattle.lane_access.specs.Seen.{seen}
use Rattle.predicate_answer.specs.declared.Rv32Error.{Rv32Error}
use Rattle.predicate_answer.specs.Refusal.{refusal_of}
use Rattle.riscv32imc_predicate.specs.Setting.{Setting}
use Rattle.riscv32imc_predicate.specs.declared.Change.{Change}
use Rattle.riscv32imc_predicate.specs.declared.Change.TheVariants as change
use Rattle.riscv32imc_predicate.specs.declared.Step.{Step}
use Rattle.lane_word.specs.declared.UniformError.TheVariants.{Unknown, Uneven}
use Rattle.lane_word.specs.declared.UniformError.{UniformError}

-- the effect of a change, with the run going on at `next`: in some memory, with the computed word and the second source's
abbrev pub effect_of : LaneBytes → LaneWord → LaneWord → ℕ → Change → Effect LaneWord
effect_of m w r next change.Nothing = goes next
effect_of m w r next (change.Sets rd v) = sets rd (constant lanes v) next
effect_of m w r next (change.Computes rd) = sets rd w next
effect_of m w r next (change.Loads rd a n e) = sets rd (unary (extension_of e) (read lanes m n a)) next
effect_of m w r next (change.Stores a n) = stores a n r next

-- a step's effect
abbrev pub stepped_of : LaneBytes → LaneWord → LaneWord → Step → Effect LaneWord
stepped_of m w r x = effect_of m w r x.next x.change

-- a step or a refusal, as the semantics' answer
abbrev pub decision_of : LaneBytes → LaneWord → LaneWord → Result Step Rv32Error → Tested (Effect LaneWord)
decision_of m w r (Ok x) = passed (stepped_of m w r x)
decision_of m w r (Err e) = refused (refusal_of e)

-- a decision is a test's answer, whatever memory and words are
abbrev pub Always : Result Step Rv32Error → (LaneWord → Tested (Effect LaneWord)) → Type 0
Always x t = (m : LaneBytes) (w r : LaneWord) → decision_of m w r x ≡ t r

-- no value is known of a tested word
abbrev pub Untold : Result ℕ UniformError → Type 0
Untold (Ok v) = ⊥
Untold (Err Unknown) = Unit {0}
Untold (Err Uneven) = Unit {0}

-- a word is set by its lanes only where no value is told of it, and a load that is left to the lanes has passed its range
abbrev pub SuitsChange : Result ℕ UniformError → Change → Type 0
SuitsChange u change.Nothing = Unit {0}
SuitsChange u (change.Sets rd v) = Unit {0}
SuitsChange u (change.Computes rd) = Untold u
SuitsChange u (change.Loads rd a n e) = inside a n ≡ passed tt
SuitsChange u (change.Stores a n) = Unit {0}

-- .. of a decision
abbrev pub Suits : Result ℕ UniformError → Result Step Rv32Error → Type 0
Suits u x = IfOk x (λ y. SuitsChange u y.change)

-- `Control step`: after every other test, the trace space
abbrev pub last_tested : Tested (Effect LaneWord) → ℕ → ℕ → Tested (Effect LaneWord)
last_tested t steps entries = do
  effect ← t
  _ ← require 14 (ltb steps entries)
  passed effect

-- the code is given a state of the semantics: its memory as image and rows show it, and how many bytes are written
pub record Given (c : Setting) (s : LaneState) (image rows : List ℕ) (written : ℕ) : Type 0 where
  pub same_lanes : length c.setup.inputs ≡ lanes
  pub is_image : c.program.image ≡ image
  pub lent : c.setup.rows ≡ row_count rows
  pub bytes : memory_of c.program c.setup s ≡ seen image rows
  pub room : (n a : ℕ) (w : LaneWord) → a + n ≤ 2 ^ 32 → length (write s.memory n a w) ≡ written + new_bytes rows n a

-- ---- the forms, by what is told of the computed word

-- a register gets the computed word
abbrev pub SetsComputed : Step → ℕ → Result ℕ UniformError → ℕ → Type 0
SetsComputed x rd tested next =
    (m : LaneBytes) (w r : LaneWord) → length w.values ≡ lanes → tested ≡ uniform_of w → stepped_of m w r x ≡ sets rd w next

-- JALR's target is agreed on and not 0, and the register gets the following address
abbrev pub JumpsTo : Result Step Rv32Error → ℕ → Result ℕ UniformError → ℕ → Type 0
JumpsTo x rd tested next =
    Always x (λ _. agreed_as 2 tested >>= λ to. require 10 (ltb 0 to) >>= λ _. passed (sets rd (constant lanes next) to))

-- a branch's direction is agreed on: 0 goes on
abbrev pub Branches : Result Step Rv32Error → Result ℕ UniformError → ℕ → ℕ → Type 0
Branches x tested to next =
    Always x (λ _. agreed_as 5 tested >>= λ direction. passed (goes (choose (eqb direction 0) (λ _. next) (λ _. to))))

-- a load's address is agreed on, then its range is tested
abbrev pub LoadsFrom : List ℕ → List ℕ → Result Step Rv32Error → ℕ → Result ℕ UniformError → ℕ → Extension → ℕ → Type 0
LoadsFrom image rows x rd tested n e next =
    (w r : LaneWord) → decision_of (seen image rows) w r x
    ≡ (agreed_as 3 tested >>= λ address. access lanes (seen image rows) n address >>= λ v. passed (sets rd (unary (extension_of e) v) next))

-- a store's address is agreed on, then its room
abbrev pub StoresTo : List ℕ → ℕ → ℕ → Result Step Rv32Error → Result ℕ UniformError → ℕ → ℕ → Type 0
StoresTo rows written size x tested n next =
    Always x (λ r. agreed_as 4 tested >>= λ address. room_for (image_base + size) (row_count rows) address n (written + new_bytes rows n address) >>= λ _. passed (stores address n r next))

-- the registers that an action names have these words, and what is told is told of the word that it computes
pub record Sources (c : Setting) (s : LaneState) (action : Action) (left right : LaneWord) (tested : Result ℕ UniformError) : Type 0 where
  pub first : reg c.program c.setup s (reading_of action).rs1 ≡ left
  pub second : reg c.program c.setup s (reading_of action).rs2 ≡ right
  pub left_size : length left.values ≡ lanes
  pub right_size : length right.values ≡ lanes
  pub told : tested ≡ uniform_of (computed (reading_of action) left right)

-- what the code executes is what the semantics does in every state that gives it these sources
abbrev pub ExecutesAction : List ℕ → List ℕ → ℕ → Result Step Rv32Error → ℕ → Result ℕ UniformError → Action → Type 0
ExecutesAction image rows written x next tested action =
    (c : Setting) (s : LaneState) → Given c s image rows written
    → (left right : LaneWord) → Sources c s action left right tested
    → decision_of (seen image rows) (computed (reading_of action) left right) right x ≡ execute c.program c.setup s next action
