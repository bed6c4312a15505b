-- The inputs of a word's lanes: as many as there are lanes, and how a loop lays them over copies of the first. Assumes nothing.
use mathlib.Core.Path.{◌≡◌, ap, ◌∙◌}
use mathlib.Core.List.{List, ◌∷◌, ◌++◌}
use Prim.Native.Nat.{ℕ, zero, suc, ◌+◌, ◌-◌, ◌<◌}
use native.Mathlib.Omega.{arith}
use lib.ListN.{length, set, replicate, length-append, length-replicate}
use Rattle.lane_word.specs.declared.InputRange.{InputRange}
use Rattle.lane_word.specs.Word.{lanes}
use Rattle.lane_word.specs.Range.{inputs, input_count}
use Rattle.lane_word.specs.Spare.{lane_inputs}
use Rattle.lane_word.proofs.Lists.{length_inputs}

-- one input more, over a copy
lay : (first x k m : ℕ) {v : ℕ} → v ≡ first + k → set (inputs first k ++ replicate (suc m) x) k v ≡ inputs first (suc k) ++ replicate m x
unfolding inputs
lay first x zero m e = ap (λ (v : ℕ). v ∷ replicate m x) (omega arith)
lay first x (suc k) m {v} e = ap (λ (l : List ℕ). first ∷ l) (lay (suc first) x k m (omega arith))

-- the first k inputs, and copies up to n
abbrev pub laid : ℕ → ℕ → ℕ → List ℕ
laid first n k = inputs first k ++ replicate (n - k) first

pub laid_start : (first n : ℕ) → replicate n first ≡ laid first n 0
unfolding inputs
laid_start first n = let e : n ≡ n - 0 = omega arith in ap (λ (m : ℕ). replicate m first) e

pub laid_step : (first n k : ℕ) {out : List ℕ} {v : ℕ} → k < n → out ≡ laid first n k → v ≡ first + k → set out k v ≡ laid first n (k + 1)
laid_step first n k {out} {v} h e f =
    let one : n - k ≡ suc (n - (k + 1)) = omega arith in
    let next : suc k ≡ k + 1 = omega arith in
    ap (λ (l : List ℕ). set l k v) (e ∙ ap (λ (m : ℕ). inputs first k ++ replicate m first) one)
    ∙ lay first first k (n - (k + 1)) f ∙ ap (λ (i : ℕ). inputs first i ++ replicate (n - (k + 1)) first) next

pub length_lanes : (range : InputRange) → range.last < lanes → length (lane_inputs range) ≡ lanes
unfolding lane_inputs
length_lanes range h =
    length-append (inputs range.first (input_count range)) (replicate (lanes - input_count range) range.first)
    ∙ rw (length_inputs range.first (input_count range), length-replicate (lanes - input_count range) range.first) (omega arith)
