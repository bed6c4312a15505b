-- What each form of an operation comes to, where the code is given its sources' words. Assumes nothing.
use Rattle.std.specs.Prelude.{Result, ℕ}
use mathlib.Core.List.{List}
use mathlib.Core.Path.{◌≡◌, refl, sym, ap, ◌∙◌}
use Prim.Native.Nat.{ℕ, ◌+◌}
use native.Mathlib.Omega.{arith}
use lib.Dec.{eqb, leb, ltb}
use lib.ListN.{length}
use Rattle.lane_word.specs.Word as Word
use Rattle.rv32_arithmetic.specs.Arithmetic.{add, target}
use Rattle.riscv32imc.specs.Constants.{image_base}
use Rattle.lane_word.specs.declared.LaneWord.{LaneWord}
use Rattle.lane_word.specs.Word.{constant, unary, binary, uniform_of}
use Rattle.lane_word.proofs.ToldLaws.{binary_constant}
use Rattle.predicate_semantics.specs.Choice.{choose}
use Rattle.predicate_action.specs.declared.Action.TheVariants as action
use Rattle.predicate_action.specs.declared.Extension.{Extension}
use Rattle.predicate_action.specs.Meaning.{extension_of}
use Rattle.rv32_arithmetic.specs.declared.Binary.{Binary}
use Rattle.rv32_arithmetic.specs.Value.{value_of}
use Rattle.predicate_semantics.specs.Program.{image_end}
use Rattle.predicate_semantics.specs.State.{goes, sets, stores}
use Rattle.predicate_semantics.specs.Memory.{write}
use Rattle.predicate_semantics.specs.Tested.{Tested, passed, refused, ◌>>=◌, require}
use Rattle.predicate_semantics.specs.Lane.{LaneState, reg, inside, agreed_as, agreed, access, room_for, execute}
use Rattle.lane_memory.specs.Rows.{row_count, new_bytes}
use Rattle.lane_access.specs.Seen.{seen}
use Rattle.lane_access.specs.Answers.{tested_of}
use Rattle.predicate_answer.specs.declared.Rv32Error.{Rv32Error}
use Rattle.lane_access.proofs.Laws.{inside_fits, agreed_is}
use Rattle.riscv32imc_predicate.specs.Setting.{Setting}
use Rattle.riscv32imc_predicate.specs.Changes.{Given, Sources}
use Rattle.riscv32imc_predicate.proofs.LaneCount.{lane_count}
use Rattle.lane_word.specs.declared.UniformError.{UniformError}

-- a verdict is what the code matched it with
pub verdict_is : {r v : Result (Unit {0}) Rv32Error} {t : Tested (Unit {0})} → r ≡ v → tested_of r ≡ t → t ≡ tested_of v
verdict_is e h = sym h ∙ ap tested_of e

-- a uniform test of a computed word, by what is told of it
tested_both : (role : ℕ) (u : Result ℕ UniformError) (f : ℕ → ℕ → ℕ) (left right : LaneWord) → u ≡ uniform_of (binary f left right)
    → agreed_as role u ≡ agreed role (binary f left right)
tested_both role u f left right h = ap (agreed_as role) h ∙ sym (agreed_is role (binary f left right))

tested_number : (role : ℕ) (u : Result ℕ UniformError) (f : ℕ → ℕ → ℕ) (n : ℕ) (left : LaneWord) → length left.values ≡ Word.lanes
    → u ≡ uniform_of (binary f left (constant Word.lanes n)) → agreed_as role u ≡ agreed role (unary (λ v. f v n) left)
tested_number role u f n left e h =
    tested_both role u f left (constant Word.lanes n) h ∙ ap (agreed role) (binary_constant f Word.lanes n left e)

module _ {c : Setting} {s : LaneState} {image rows : List ℕ} {written : ℕ} (g : Given c s image rows written) (next : ℕ) where
  pub nothing_is : execute c.program c.setup s next action.Nothing ≡ passed (goes next)
  unfolding execute
  nothing_is = refl

  pub literal_is : (rd v : ℕ) → execute c.program c.setup s next (action.Literal rd v) ≡ passed (sets rd (constant Word.lanes v) next)
  unfolding execute
  literal_is rd v = rw (lane_count c g.same_lanes)

  pub jump_is : (rd to : ℕ) → execute c.program c.setup s next (action.Jump rd to) ≡ passed (sets rd (constant Word.lanes next) to)
  unfolding execute
  jump_is rd to = rw (lane_count c g.same_lanes)

  -- once the range is known, the rows that a store would fill are those that the code counts
  room_is : (right : LaneWord) (n address : ℕ)
      → room_for (image_end c.program) c.setup.rows address n (length (write s.memory n address right))
      ≡ room_for (image_base + length image) (row_count rows) address n (written + new_bytes rows n address)
  unfolding room_for ◌>>=◌
  room_is right n address = go (inside address n) refl
    where
      go : (t : Tested (Unit {0})) → inside address n ≡ t
          → (t >>= λ _. require 11 (leb (image_end c.program) address) >>= λ _. require 13 (leb (length (write s.memory n address right)) c.setup.rows))
          ≡ (t >>= λ _. require 11 (leb (image_base + length image) address) >>= λ _. require 13 (leb (written + new_bytes rows n address) (row_count rows)))
      go (refused r) e = refl
      go (passed _) e = rw (g.is_image, g.lent, g.room n address right (omega (arith, (inside_fits address n e).1)))

  after_address : (right : LaneWord) (n : ℕ) (t : Tested ℕ)
      → (t >>= λ address. room_for (image_end c.program) c.setup.rows address n (length (write s.memory n address right)) >>= λ _. passed (stores address n right next))
      ≡ (t >>= λ address. room_for (image_base + length image) (row_count rows) address n (written + new_bytes rows n address) >>= λ _. passed (stores address n right next))
  unfolding ◌>>=◌
  after_address right n (refused r) = refl
  after_address right n (passed address) = rw (room_is right n address)

  -- the forms with sources: the rest follows what the lanes agree on
  module _ {left right : LaneWord} {tested : Result ℕ UniformError} where
    pub compute_is : {rd a b : ℕ} {f : Binary} → Sources c s (action.Compute rd f a b) left right tested
        → execute c.program c.setup s next (action.Compute rd f a b) ≡ passed (sets rd (binary (value_of f) left right) next)
    unfolding execute
    compute_is {rd} {a} {b} {f} o =
        let x : reg c.program c.setup s a ≡ left = o.first in
        let y : reg c.program c.setup s b ≡ right = o.second in
        rw (x, y)

    pub immediate_is : {rd a n : ℕ} {f : Binary} → Sources c s (action.ComputeImmediate rd f a n) left right tested
        → execute c.program c.setup s next (action.ComputeImmediate rd f a n) ≡ passed (sets rd (binary (value_of f) left (constant Word.lanes n)) next)
    unfolding execute
    immediate_is {rd} {a} {n} {f} o = let x : reg c.program c.setup s a ≡ left = o.first in rw (x, lane_count c g.same_lanes)

    pub jump_to_is : {rd a offset : ℕ} → Sources c s (action.JumpTo rd a offset) left right tested
        → execute c.program c.setup s next (action.JumpTo rd a offset) ≡ (agreed_as 2 tested >>= λ to. require 10 (ltb 0 to) >>= λ _. passed (sets rd (constant Word.lanes next) to))
    unfolding execute
    jump_to_is {rd} {a} {offset} o =
        let x : reg c.program c.setup s a ≡ left = o.first in
        let e : agreed_as 2 tested ≡ agreed 2 (unary (λ v. target v offset) left) = tested_number 2 tested target offset left o.left_size o.told in
        rw (x, lane_count c g.same_lanes, ← e)

    pub branch_is : {a b to : ℕ} {f : Binary} → Sources c s (action.Branch f a b to) left right tested
        → execute c.program c.setup s next (action.Branch f a b to) ≡ (agreed_as 5 tested >>= λ direction. passed (goes (choose (eqb direction 0) (λ _. next) (λ _. to))))
    unfolding execute
    branch_is {a} {b} {to} {f} o =
        let x : reg c.program c.setup s a ≡ left = o.first in
        let y : reg c.program c.setup s b ≡ right = o.second in
        let e : agreed_as 5 tested ≡ agreed 5 (binary (value_of f) left right) = tested_both 5 tested (value_of f) left right o.told in
        rw (x, y, ← e)

    pub load_is : {rd a offset n : ℕ} {e : Extension} → Sources c s (action.Load rd a offset n e) left right tested
        → execute c.program c.setup s next (action.Load rd a offset n e)
        ≡ (agreed_as 3 tested >>= λ address. access Word.lanes (seen image rows) n address >>= λ w. passed (sets rd (unary (extension_of e) w) next))
    unfolding execute
    load_is {rd} {a} {offset} {n} {e} o =
        let x : reg c.program c.setup s a ≡ left = o.first in
        let h : agreed_as 3 tested ≡ agreed 3 (unary (λ v. add v offset) left) = tested_number 3 tested add offset left o.left_size o.told in
        rw (x, g.bytes, lane_count c g.same_lanes, ← h)

    pub store_is : {a b offset n : ℕ} → Sources c s (action.Store a b offset n) left right tested
        → execute c.program c.setup s next (action.Store a b offset n)
        ≡ (agreed_as 4 tested >>= λ address. room_for (image_base + length image) (row_count rows) address n (written + new_bytes rows n address) >>= λ _. passed (stores address n right next))
    unfolding execute
    store_is {a} {b} {offset} {n} o =
        let x : reg c.program c.setup s a ≡ left = o.first in
        let y : reg c.program c.setup s b ≡ right = o.second in
        let e : agreed_as 4 tested ≡ agreed 4 (unary (λ v. add v offset) left) = tested_number 4 tested add offset left o.left_size o.told in
        rw (x, y, ← e) (after_address right n (agreed_as 4 tested))
