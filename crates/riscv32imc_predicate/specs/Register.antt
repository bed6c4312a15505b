-- The registers as the loop holds them: each told by one value, or by the lanes of its word.
use Rattle.std.specs.Option.{option_or}
use Rattle.std.specs.Prelude.{false, cond, List, [], ◌∷◌, ◌≡◌, ℕ, zero, suc, ◌+◌, ◌≤◌, ◌<◌, ◌^◌, eqb, ltb, length, get_or, set, None, Option, Some}
use Rattle.lane_word.specs.declared.LaneWord.{LaneWord}
use Rattle.lane_word.specs.Word.{constant, unknown, unary, lanes}
use Rattle.lane_word.specs.Told.{word_of}
use Rattle.predicate_semantics.specs.Program.{stop, stack_pointer}
use Rattle.predicate_semantics.specs.State.{fill, at_start}
use Rattle.predicate_semantics.specs.Memory.{Written, read, write}
use Rattle.predicate_semantics.specs.Tested.{passed}
use Rattle.predicate_semantics.specs.Lane.{inside}
use Rattle.predicate_action.specs.declared.Extension.{Extension}
use Rattle.predicate_action.specs.declared.Reading.{Reading}
use Rattle.predicate_action.specs.Meaning.{extension_of}
use Rattle.lane_memory.specs.Rows.{new_bytes, cleared}
use Rattle.lane_memory.specs.Holds.{Holds}
use Rattle.lane_access.specs.Seen.{seen}
use Rattle.riscv32imc_predicate.specs.declared.Registers.{Registers}
use Rattle.riscv32imc_predicate.specs.Setting.{register_count}

-- after the registers' words come two operands that are one value, and what is set in x0
abbrev pub first_operand : ℕ
first_operand = register_count

abbrev pub second_operand : ℕ
second_operand = register_count + 1

abbrev pub unread : ℕ
unread = register_count + 2

abbrev pub places : ℕ
places = register_count + 3

-- the words of the first n places
unfoldable pub held_words : ℕ → List (Option ℕ) → List LaneWord → List LaneWord
held_words zero us ws = []
held_words (suc n) [] ws = []
held_words (suc n) (u ∷ us) [] = []
held_words (suc n) (u ∷ us) (w ∷ ws) = word_of u w ∷ held_words n us ws

-- the places hold n registers; every word has its lanes
pub record Held (n : ℕ) (tags : List (Option ℕ)) (words registers : List LaneWord) : Type 0 where
  pub tags_size : length tags ≡ places
  pub words_size : length words ≡ places
  pub sized : (k : ℕ) → k < places → length (get_or words k (unknown lanes)).values ≡ lanes
  pub most : n ≤ register_count
  pub size : length registers ≡ n
  pub same : held_words n tags words ≡ registers

-- `Control step`: four registers are known before any step, no other
abbrev pub start_registers : ℕ → LaneWord → List LaneWord
start_registers n x10 =
    fill n 0 (at_start (constant lanes 0) (constant lanes stop) (constant lanes stack_pointer) x10 (λ _. unknown lanes))

-- what stands for a word that is not there
abbrev pub blank : LaneWord
blank = record { values = []; known = false }

-- the first registers of every core that the code has places for
abbrev pub StartsWith : LaneWord → Registers → Type 0
StartsWith x10 r = (n : ℕ) → n ≤ register_count → Held n r.tags r.words (start_registers n x10)

-- where a register is set: x0, and what is no register, at the place that is not read
abbrev pub slot_of : ℕ → ℕ
slot_of rd = cond (eqb rd 0) unread (cond (ltb rd register_count) rd unread)

-- what is told of the second operand: a number, or the second source
abbrev pub operand_told : Reading → Option ℕ → Option ℕ
operand_told r u = option_or r.immediate u

-- where an operand's word is
abbrev pub place_of : Option ℕ → ℕ → ℕ → ℕ
place_of (Some v) register own = own
place_of None register own = register

-- the words once one value is laid out at a place of its own
abbrev pub laid_out : Option ℕ → ℕ → List LaneWord → List LaneWord
laid_out (Some v) own words = set words own (constant lanes v)
laid_out None own words = words

-- a word's bytes are stored, some of them at new addresses
pub record Stores (rows : List ℕ) (address width : ℕ) (w : LaneWord) (new : ℕ) (rows' : List ℕ) : Type 0 where
  pub fresh : new ≡ new_bytes rows width address
  pub same_rows : cleared rows' ≡ cleared rows
  pub holds : (n : ℕ) (m : List Written) → Holds rows n m → address + width ≤ 2 ^ 32 → length (write m width address w) ≤ n
      → Holds rows' n (write m width address w)

-- a load that has passed its range, lane by lane
pub record LoadsLanes (image rows : List ℕ) (address width : ℕ) (e : Extension) (r : LaneWord) : Type 0 where
  pub size : length r.values ≡ lanes
  pub is : inside address width ≡ passed tt → r ≡ unary (extension_of e) (read lanes (seen image rows) width address)
