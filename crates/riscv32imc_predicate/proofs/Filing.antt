-- Laws of the registers as the loop holds them. Assumes nothing.
use Rattle.std.specs.Option.{option_or}
use Rattle.std.specs.Prelude.{None, Option, Some, ℕ}
use Rattle.std.specs.Bool.{then_some}
use mathlib.Core.Bool.{Bool, true, false, cond}
use mathlib.Core.List.{List, [], ◌∷◌}
use mathlib.Core.Path.{◌≡◌, refl, sym, ap, ◌∙◌}
use Prim.Native.Nat.{ℕ, zero, suc, ◌≤◌, ◌<◌}
use native.Mathlib.Omega.{arith}
use borrow.Author.Tests.{eqb-true, eqb-false, ne_eqb, ltb-true, ltb-false}
use lib.Dec.{eqb, ltb}
use lib.ListN.{length, get_or, set, take, replicate, length-set, length-replicate}
use lib.Seq.{get_or-set_same, get_or-set_other, set_out}
use Rattle.lane_word.specs.declared.LaneWord.{LaneWord}
use Rattle.lane_word.specs.declared.InputRange.{InputRange}
use Rattle.lane_word.specs.Word.{constant, unknown, domain, lanes}
use Rattle.lane_word.specs.Range.{inputs, input_count}
use Rattle.lane_word.specs.Spare.{lane_inputs}
use Rattle.lane_word.specs.Told.{word_of}
use Rattle.lane_word.proofs.ToldLaws.{constant_size}
use Rattle.predicate_semantics.specs.Choice.{choose}
use Rattle.predicate_semantics.specs.Program.{stop, stack_pointer}
use Rattle.predicate_semantics.specs.State.{fill, at_start, assign}
use Rattle.predicate_action.specs.declared.Reading.{Reading}
use Rattle.predicate_action.specs.Reading.{operand_of}
use Rattle.riscv32imc_predicate.specs.Setting.{register_count}
use Rattle.riscv32imc_predicate.specs.Register.{first_operand, second_operand, unread, places, held_words, Held, start_registers, slot_of, operand_told, place_of, laid_out}

-- ---- lists

-- an element that is there, whatever stands for one that is not
pub read_any : {A : Type 0} (xs : List A) (i : ℕ) (d e : A) → i < length xs → get_or xs i d ≡ get_or xs i e
read_any [] i d e h = absurd (omega arith)
read_any (x ∷ xs) zero d e h = refl
read_any (x ∷ xs) (suc i) d e h = read_any xs i d e (omega arith)

held_both : (n : ℕ) (us : List (Option ℕ)) (ws : List LaneWord) (i : ℕ) (u : Option ℕ) (w : LaneWord)
    → held_words n (set us i u) (set ws i w) ≡ set (held_words n us ws) i (word_of u w)
unfolding held_words
held_both zero us ws i u w = refl
held_both (suc n) [] ws i u w = refl
held_both (suc n) (x ∷ us) [] zero u w = refl
held_both (suc n) (x ∷ us) [] (suc i) u w = refl
held_both (suc n) (x ∷ us) (y ∷ ws) zero u w = refl
held_both (suc n) (x ∷ us) (y ∷ ws) (suc i) u w = ap (λ (l : List LaneWord). word_of x y ∷ l) (held_both n us ws i u w)

held_told : (n : ℕ) (us : List (Option ℕ)) (ws : List LaneWord) (i v : ℕ) → held_words n (set us i (Some v)) ws ≡ set (held_words n us ws) i (constant lanes v)
unfolding held_words
held_told zero us ws i v = refl
held_told (suc n) [] ws i v = refl
held_told (suc n) (x ∷ us) [] zero v = refl
held_told (suc n) (x ∷ us) [] (suc i) v = refl
held_told (suc n) (x ∷ us) (y ∷ ws) zero v = refl
held_told (suc n) (x ∷ us) (y ∷ ws) (suc i) v = ap (λ (l : List LaneWord). word_of x y ∷ l) (held_told n us ws i v)

held_beyond : (n : ℕ) (us : List (Option ℕ)) (ws : List LaneWord) (i : ℕ) (w : LaneWord) → n ≤ i → held_words n us (set ws i w) ≡ held_words n us ws
unfolding held_words
held_beyond zero us ws i w h = refl
held_beyond (suc n) [] ws i w h = refl
held_beyond (suc n) (x ∷ us) [] i w h = refl
held_beyond (suc n) (x ∷ us) (y ∷ ws) zero w h = absurd (omega arith)
held_beyond (suc n) (x ∷ us) (y ∷ ws) (suc i) w h = ap (λ (l : List LaneWord). word_of x y ∷ l) (held_beyond n us ws i w (omega arith))

held_read : (n : ℕ) (us : List (Option ℕ)) (ws : List LaneWord) (k : ℕ) (d : LaneWord) (e : Option ℕ) (f : LaneWord) → (k < n) × (n ≤ length us) × (n ≤ length ws)
    → get_or (held_words n us ws) k d ≡ word_of (get_or us k e) (get_or ws k f)
unfolding held_words
held_read zero us ws k d e f h = absurd (omega (arith, h.0))
held_read (suc n) [] ws k d e f h = absurd (omega (arith, h.1))
held_read (suc n) (x ∷ us) [] k d e f h = absurd (omega (arith, h.2))
held_read (suc n) (x ∷ us) (y ∷ ws) zero d e f h = refl
held_read (suc n) (x ∷ us) (y ∷ ws) (suc k) d e f h = held_read n us ws k d e f (omega (arith, h.0), omega (arith, h.1), omega (arith, h.2))

-- the words of fewer places
held_fewer : (n m : ℕ) (us : List (Option ℕ)) (ws : List LaneWord) → n ≤ m → held_words n us ws ≡ take n (held_words m us ws)
unfolding held_words
held_fewer zero m us ws h = refl
held_fewer (suc n) zero us ws h = absurd (omega arith)
held_fewer (suc n) (suc m) [] ws h = refl
held_fewer (suc n) (suc m) (x ∷ us) [] h = refl
held_fewer (suc n) (suc m) (x ∷ us) (y ∷ ws) h = ap (λ (l : List LaneWord). word_of x y ∷ l) (held_fewer n m us ws (omega arith))

fill_fewer : (n m i : ℕ) (f : ℕ → LaneWord) → n ≤ m → fill n i f ≡ take n (fill m i f)
unfolding fill
fill_fewer zero m i f h = refl
fill_fewer (suc n) zero i f h = absurd (omega arith)
fill_fewer (suc n) (suc m) i f h = ap (λ (l : List LaneWord). f i ∷ l) (fill_fewer n m (suc i) f (omega arith))

length_fill : (n i : ℕ) (f : ℕ → LaneWord) → length (fill n i f) ≡ n
unfolding fill
length_fill zero i f = refl
length_fill (suc n) i f = ap suc (length_fill n (suc i) f)

-- ---- where a register is set

assign_slot : (xs : List LaneWord) (rd : ℕ) (v : LaneWord) → length xs ≤ register_count → set xs (slot_of rd) v ≡ assign xs rd v
unfolding assign
assign_slot xs zero v e = set_out xs unread v (omega (arith, e))
assign_slot xs (suc r) v e = rw (ne_eqb (suc r) 0 (λ q. omega arith)) (go (ltb (suc r) register_count) refl)
  where
    go : (b : Bool) → ltb (suc r) register_count ≡ b → set xs (cond b (suc r) unread) v ≡ set xs (suc r) v
    go true q = refl
    go false q = set_out xs unread v (omega (arith, e)) ∙ sym (set_out xs (suc r) v (omega (arith, e, ltb-false (suc r) register_count q)))

pub slot_below : (rd : ℕ) → slot_of rd < places
slot_below rd = go (eqb rd 0) (ltb rd register_count) refl
  where
    go : (b c : Bool) → ltb rd register_count ≡ c → cond b unread (cond c rd unread) < places
    go true c q = omega arith
    go false true q = omega (arith, ltb-true rd register_count q)
    go false false q = omega arith

-- ---- changes

-- every word has its lanes
abbrev Sized : List LaneWord → Type 0
Sized ws = (k : ℕ) → k < places → length (get_or ws k (unknown lanes)).values ≡ lanes

sized_set : (ws : List LaneWord) (i : ℕ) (w : LaneWord) → length ws ≡ places → i < places → length w.values ≡ lanes → Sized ws → Sized (set ws i w)
sized_set ws i w e b s f k h = go (eqb k i) refl
  where
    go : (c : Bool) → eqb k i ≡ c → length (get_or (set ws i w) k (unknown lanes)).values ≡ lanes
    go true q = rw (eqb-true k i q, get_or-set_same ws i w (unknown lanes) (omega (arith, e, b))) s
    go false q = rw (get_or-set_other ws i k w (unknown lanes) (λ z. eqb-false k i q z)) (f k h)

module _ {n : ℕ} {tags : List (Option ℕ)} {words registers : List LaneWord} (h : Held n tags words registers) where
  -- a register that is read
  pub held_source : (k : ℕ) (d : LaneWord) (e : Option ℕ) (f : LaneWord) → k < n → get_or registers k d ≡ word_of (get_or tags k e) (get_or words k f)
  held_source k d e f b =
      rw (← h.same) (held_read n tags words k d e f (b, omega (arith, h.tags_size, h.most), omega (arith, h.words_size, h.most)))

  pub held_lanes : (k : ℕ) (d : LaneWord) → k < places → length (get_or words k d).values ≡ lanes
  held_lanes k d b = rw (read_any words k d (unknown lanes) (omega (arith, h.words_size))) (h.sized k b)

  -- setting a register is setting its place
  set_slot : (rd : ℕ) (w : LaneWord) → set registers (slot_of rd) w ≡ assign registers rd w
  set_slot rd w = assign_slot registers rd w (omega (arith, h.size, h.most))

  set_size : (rd : ℕ) (w : LaneWord) → length (assign registers rd w) ≡ n
  set_size rd w = ap length (sym (set_slot rd w)) ∙ length-set registers (slot_of rd) w ∙ h.size

  -- a register that is set, by one value
  pub held_value : (rd v : ℕ) → Held n (set tags (slot_of rd) (Some v)) words (assign registers rd (constant lanes v))
  held_value rd v = record {
    tags_size = length-set tags (slot_of rd) (Some v) ∙ h.tags_size;
    words_size = h.words_size;
    sized = h.sized;
    most = h.most;
    size = set_size rd (constant lanes v);
    same =
        held_told n tags words (slot_of rd) v
        ∙ ap (λ (l : List LaneWord). set l (slot_of rd) (constant lanes v)) h.same
        ∙ set_slot rd (constant lanes v);
  }

  -- by its lanes
  pub held_word : (rd : ℕ) (w : LaneWord) → length w.values ≡ lanes
      → Held n (set tags (slot_of rd) None) (set words (slot_of rd) w) (assign registers rd w)
  held_word rd w s = record {
    tags_size = length-set tags (slot_of rd) None ∙ h.tags_size;
    words_size = length-set words (slot_of rd) w ∙ h.words_size;
    sized = sized_set words (slot_of rd) w h.words_size (slot_below rd) s h.sized;
    most = h.most;
    size = set_size rd w;
    same =
        held_both n tags words (slot_of rd) None w
        ∙ ap (λ (l : List LaneWord). set l (slot_of rd) w) h.same
        ∙ set_slot rd w;
  }

  -- a value that is laid out past the registers
  pub held_laid : (u : Option ℕ) (own : ℕ) → register_count ≤ own → own < places → Held n tags (laid_out u own words) registers
  held_laid (Some v) own a b = record {
    tags_size = h.tags_size;
    words_size = length-set words own (constant lanes v) ∙ h.words_size;
    sized = sized_set words own (constant lanes v) h.words_size b (constant_size lanes v) h.sized;
    most = h.most;
    size = h.size;
    same = held_beyond n tags words own (constant lanes v) (omega (arith, h.most, a)) ∙ h.same;
  }
  held_laid None own a b = h

  -- is the operand's word there
  pub laid_read : (u : Option ℕ) (k own : ℕ) (d e : LaneWord) → k < places → own < places → get_or (laid_out u own words) (place_of u k own) d ≡ word_of u (get_or words k e)
  laid_read (Some v) k own d e a b = get_or-set_same words own (constant lanes v) d (omega (arith, h.words_size))
  laid_read None k own d e a b = read_any words k d e (omega (arith, h.words_size))

-- another operand's place
pub laid_other : (words : List LaneWord) (u : Option ℕ) (k own : ℕ) (d : LaneWord) → (k ≡ own → ⊥) → get_or (laid_out u own words) k d ≡ get_or words k d
laid_other words (Some v) k own d n = get_or-set_other words own k (constant lanes v) d n
laid_other words None k own d n = refl

pub place_below : (u : Option ℕ) (k own : ℕ) → k < places → own < places → place_of u k own < places
place_below (Some v) k own a b = b
place_below None k own a b = a

pub place_apart : (u : Option ℕ) (k : ℕ) → k < register_count → place_of u k first_operand ≡ second_operand → ⊥
place_apart (Some v) k a e = omega arith
place_apart None k a e = omega arith

-- the second operand's word
pub operand_word : (c : Reading) (u : Option ℕ) (w : LaneWord) → word_of (operand_told c u) w ≡ operand_of c (word_of u w)
operand_word c u w = go c.immediate
  where
    go : (number : Option ℕ) → word_of (option_or number u) w ≡ word_of number (word_of u w)
    go (Some v) = refl
    go None = refl

-- ---- before any step

same_replicate : (n k : ℕ) (w : LaneWord) → get_or (replicate n w) k w ≡ w
same_replicate zero k w = refl
same_replicate (suc n) zero w = refl
same_replicate (suc n) (suc k) w = same_replicate n k w

pub unknown_size : (n : ℕ) → length (unknown n).values ≡ n
unfolding unknown
unknown_size n = length-replicate n 0

-- one input is in every lane
pub one_input : (range : InputRange) → range.first ≡ range.last → constant lanes range.first ≡ domain (lane_inputs range)
unfolding constant domain lane_inputs inputs
one_input range e = let one : input_count range ≡ 1 = omega (arith, e) in rw one refl

-- so its value tells the word
pub one_told : (range : InputRange) → word_of (then_some (eqb range.first range.last) range.first) (domain (lane_inputs range)) ≡ domain (lane_inputs range)
one_told range = go (eqb range.first range.last) refl
  where
    go : (b : Bool) → eqb range.first range.last ≡ b → word_of (then_some b range.first) (domain (lane_inputs range)) ≡ domain (lane_inputs range)
    go true q = one_input range (eqb-true _ _ q)
    go false q = refl

-- x0, x1 and x2 are told by their values, x10 as it can be
abbrev pub start_tags : Option ℕ → List (Option ℕ)
start_tags u = set (set (set (set (replicate places None) 0 (Some 0)) 1 (Some stop)) 2 (Some stack_pointer)) 10 (u)

pub start_held : (x10 : LaneWord) → length x10.values ≡ lanes → (u : Option ℕ) → word_of u x10 ≡ x10 → (n : ℕ) → n ≤ register_count
    → Held n (start_tags u) (set (replicate places (unknown lanes)) 10 x10) (start_registers n x10)
unfolding held_words fill at_start choose
start_held x10 s u e n h = record {
  tags_size = refl;
  words_size = refl;
  sized =
      sized_set (replicate places (unknown lanes)) 10 x10 refl (omega arith) s
      (λ k h. rw (same_replicate places k (unknown lanes)) (unknown_size lanes));
  most = h;
  size = length_fill n 0 _;
  same =
      held_fewer n register_count (start_tags u) (set (replicate places (unknown lanes)) 10 x10) h
      ∙ ap (take n) (rw e refl) ∙ sym (fill_fewer n register_count 0 _ h);
}
