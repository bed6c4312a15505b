-- Words that a passed function makes lane by lane: the loop that makes them, and what they are where it computes an operation. Assumes nothing.
use mathlib.Core.Path.{◌≡◌, refl, sym, ap₂, ◌∙◌}
use mathlib.Core.Bool.{Bool, ◌&&◌}
use mathlib.Core.List.{List, map}
use Prim.Native.Nat.{ℕ, ◌+◌, ◌≤◌, ◌<◌}
use native.Mathlib.Omega.{arith}
use borrow.Author.Count.{below_more}
use lib.ListN.{length, get_or, set, length-map, length-set}
use lib.Seq.{get_or-set_same, get_or-set_other, ext_get_or}
use Rattle.lane_word.specs.declared.LaneWord.{LaneWord}
use Rattle.lane_word.specs.Word.{lanes, zip, unary, binary}
use Rattle.lane_word.specs.Lanewise.{OfValue, OfTwoValues}
use Rattle.lane_word.proofs.Lists.{get_d_map, length_zip, get_d_zip}

-- of the elements that were xs the first k are done: P says of each index what is there now
pub record Done (P : ℕ → ℕ → Type 0) (xs out : List ℕ) (k : ℕ) : Type 0 where
  pub long : length out ≡ length xs
  pub front : (i : ℕ) → i < k → P i (get_or out i 0)
  pub rest : (i : ℕ) → k ≤ i → get_or out i 0 ≡ get_or xs i 0

pub done_start : {P : ℕ → ℕ → Type 0} (xs : List ℕ) → Done P xs xs 0
done_start xs = record { long = refl; front = λ i h. absurd (omega arith); rest = λ i h. refl }

pub done_step : {P : ℕ → ℕ → Type 0} {xs out : List ℕ} {k v : ℕ} → Done P xs out k → k < length out → P k v → Done P xs (set out k v) (k + 1)
done_step {P} {xs} {out} {k} {v} d h p =
    record {
      long = length-set out k v ∙ d.long;
      front =
          below_more (λ (i : ℕ). P i (get_or (set out k v) i 0)) k
          (λ i hi. rw (get_or-set_other out k i v 0 (λ q. omega arith)) (d.front i hi))
          (rw (get_or-set_same out k v 0 h) p);
      rest = λ i b. get_or-set_other out k i v 0 (λ q. omega arith) ∙ d.rest i (omega arith);
    }

abbrev word : List ℕ → Bool → LaneWord
word values known = record { values = values; known = known }

-- the loop's end, where the function computes f
pub unary_done : {P : ℕ → ℕ → Type 0} {f : ℕ → ℕ} (a r : LaneWord) → Done (λ i z. P (get_or a.values i 0) z) a.values r.values lanes → length a.values ≡ lanes → r.known ≡ a.known → OfValue P f → r ≡ unary f a
unfolding unary
unary_done {P} {f} a r d e k p =
    ap₂ word
    (ext_get_or 0 r.values (map f a.values) (d.long ∙ sym (length-map a.values f))
    (λ i h. p _ _ (d.front i (omega (arith, d.long, e))) ∙ sym (get_d_map f a.values i (omega (arith, d.long)))))
    k

pub binary_done : {P : ℕ → ℕ → ℕ → Type 0} {f : ℕ → ℕ → ℕ} (a b r : LaneWord) → Done (λ i z. P (get_or a.values i 0) (get_or b.values i 0) z) a.values r.values lanes → length a.values ≡ lanes → length b.values ≡ lanes → r.known ≡ (a.known && b.known) → OfTwoValues P f → r ≡ binary f a b
unfolding binary
binary_done {P} {f} a b r d e o k p =
    ap₂ word
    (ext_get_or 0 r.values (zip f a.values b.values) (d.long ∙ sym (length_zip f a.values b.values (e ∙ sym o)))
    (λ i h. p _ _ _ (d.front i (omega (arith, d.long, e))) ∙ sym (get_d_zip f a.values b.values i (omega (arith, d.long)) (e ∙ sym o))))
    k
