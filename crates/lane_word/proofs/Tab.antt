-- One law for every loop that fills an array of any length n: element i is g i. Assumes nothing.
use mathlib.Core.Path.{◌≡◌, refl, sym, ◌∙◌}
use mathlib.Core.List.{List, map}
use Prim.Native.Nat.{ℕ, ◌+◌, ◌≤◌, ◌<◌}
use native.Mathlib.Omega.{arith}
use borrow.Author.Count.{below_more}
use lib.ListN.{length, get_or, set, length-set, length-map}
use lib.Seq.{get_or-set_same, get_or-set_other, ext_get_or}
use Rattle.lane_word.specs.Word.{zip}
use Rattle.lane_word.proofs.Lists.{get_d_map, length_zip, get_d_zip}

-- the first k elements are done
pub record Tab (g : ℕ → ℕ) (n : ℕ) (out : List ℕ) (k : ℕ) : Type 0 where
  pub long : length out ≡ n
  pub within : k ≤ n
  pub done : (i : ℕ) → i < k → get_or out i 0 ≡ g i

pub tab_start : {g : ℕ → ℕ} {n : ℕ} {out : List ℕ} → length out ≡ n → Tab g n out 0
tab_start e = record { long = e; within = omega arith; done = λ i h. omega arith }

module _ {g : ℕ → ℕ} {n : ℕ} {out : List ℕ} {k : ℕ} (t : Tab g n out k) where
  pub tab_step : {v : ℕ} → k < n → v ≡ g k → Tab g n (set out k v) (k + 1)
  tab_step {v} h e =
      record {
        long = length-set out k v ∙ t.long;
        within = omega arith;
        done =
            below_more _ _
            (λ i hi. get_or-set_other out k i v 0 (λ q. omega arith) ∙ t.done i hi)
            (get_or-set_same out k v 0 (omega (arith, t.long)) ∙ e);
      }

  pub tab_exit : n ≤ k → (l : List ℕ) → length l ≡ n → ((i : ℕ) → i < n → get_or l i 0 ≡ g i) → out ≡ l
  tab_exit h l e f =
      ext_get_or 0 out l (t.long ∙ sym e)
      (λ i hi. t.done i (omega (arith, t.long)) ∙ sym (f i (omega (arith, t.long))))

-- the loop's end
pub tab_map : (f : ℕ → ℕ) (l : List ℕ) {n : ℕ} {out : List ℕ} {k : ℕ} → Tab (λ i. f (get_or l i 0)) n out k →
    n ≤ k → length l ≡ n → out ≡ map f l
tab_map f l t h e = tab_exit t h (map f l) (length-map l f ∙ e) (λ i hi. get_d_map f l i (omega arith))

pub tab_zip : (f : ℕ → ℕ → ℕ) (l r : List ℕ) {n : ℕ} {out : List ℕ} {k : ℕ} →
    Tab (λ i. f (get_or l i 0) (get_or r i 0)) n out k → n ≤ k → length l ≡ n → length r ≡ n → out ≡ zip f l r
tab_zip f l r t h e d =
    tab_exit t h (zip f l r) (length_zip f l r (e ∙ sym d) ∙ e) (λ i hi. get_d_zip f l r i (omega arith) (e ∙ sym d))

-- a loop in the place of the right operand: the first k of r's n elements are f of l's and theirs, the others are r's still
pub record Zipping (f : ℕ → ℕ → ℕ) (l r : List ℕ) (n : ℕ) (out : List ℕ) (k : ℕ) : Type 0 where
  pub front : Tab (λ i. f (get_or l i 0) (get_or r i 0)) n out k
  pub rest : (i : ℕ) → k ≤ i → get_or out i 0 ≡ get_or r i 0

pub zip_start : {f : ℕ → ℕ → ℕ} {l r : List ℕ} {n : ℕ} → length r ≡ n → Zipping f l r n r 0
zip_start e = record { front = tab_start e; rest = λ i h. refl }

module _ {f : ℕ → ℕ → ℕ} {l r : List ℕ} {n : ℕ} {out : List ℕ} {k : ℕ} (s : Zipping f l r n out k) where
  pub zip_step : {v x : ℕ} → k < n → x ≡ get_or l k 0 → v ≡ f x (get_or out k 0) → Zipping f l r n (set out k v) (k + 1)
  zip_step {v} h x e =
      record {
        front = tab_step s.front h (e ∙ rw (x, s.rest k (omega arith)));
        rest = λ i b. get_or-set_other out k i v 0 (λ q. omega arith) ∙ s.rest i (omega arith);
      }

  pub zip_exit : n ≤ k → length l ≡ n → length r ≡ n → out ≡ zip f l r
  zip_exit h e d = tab_zip f l r s.front h e d
