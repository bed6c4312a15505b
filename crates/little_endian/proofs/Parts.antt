-- An array written from a place of a slice on: what would lie past the end is lost. Assumes nothing.
use mathlib.Core.Path.{◌≡◌, refl, sym, ap, ◌∙◌}
use mathlib.Core.List.{List, [], ◌∷◌, ◌++◌, append_assoc, append-nil}
use Prim.Native.Nat.{ℕ, zero, suc, ◌+◌, ◌-◌, ◌≤◌}
use native.Mathlib.Omega.{arith}
use borrow.Rule.Slice.PartMut.{put_mid, post_of, Post-is}
use lib.ListN.{length, take, drop, set, length-set, length-drop}
use lib.Seq.{sets, sets-eq, drop-drop, take-nil}
use Rattle.std.proofs.lemmas.List.{set_past, take_all, drop_all, length-take-le}

-- stores past the end
pub sets_past : (vs l : List ℕ) (i : ℕ) → length l ≤ i → sets l i vs ≡ l
sets_past [] l i h = refl
sets_past (v ∷ vs) l i h = rw (set_past l i v h) (sets_past vs l (suc i) (omega arith))

-- .. only so many of which lie inside
sets_inside : (vs l : List ℕ) (i k : ℕ) → i + k ≡ length l → sets l i (take k vs) ≡ sets l i vs
sets_inside [] l i k e = rw take-nil
sets_inside (v ∷ vs) l i zero e = sym (sets_past (v ∷ vs) l i (omega arith))
sets_inside (v ∷ vs) l i (suc k) e = sets_inside vs (set l i v) (suc i) k (rw length-set (omega arith))

-- what is behind a part that is lent to the end
post_nil : (i : ℕ) (l : List ℕ) → i ≤ length l → post_of i (length l - i) l ≡ []
post_nil i l h = Post-is i (length l) l h ∙ drop_all (length l) l (omega arith)

-- the bytes written over the front of the part from i on
pub whole : (l vs : List ℕ) (i n : ℕ) → length vs ≡ n → i ≤ length l → n ≤ length (take (length l - i) (drop i l))
    → put_mid i (length l - i) l (vs ++ drop n (take (length l - i) (drop i l))) ≡ sets l i vs
whole l vs i n e h k =
    let m : take (length l - i) (drop i l) ≡ drop i l = take_all _ _ (simp length-drop (omega arith)) in
    let f : n ≤ length l - i = simp length-drop at (rw m at k) in
    rw (m, post_nil i l h, append-nil, drop-drop, ← e, sets-eq vs l i (omega arith), append_assoc)

-- .. and over all of it
pub cut : (l vs ws : List ℕ) (i : ℕ) → i ≤ length l → ws ≡ take (length l - i) vs → length l - i ≤ length vs → put_mid i (length l - i) l ws ≡ sets l i vs
cut l vs ws i h e k =
    let n : length ws ≡ length l - i = ap length e ∙ length-take-le (length l - i) vs k in
    let f : sets l i ws ≡ sets l i vs = ap (sets l i) e ∙ sets_inside vs l i (length l - i) (omega arith) in
    let d : i + length ws ≡ length l = omega arith in
    rw (post_nil i l h, append-nil) (sym (rw (d, drop_all (length l) l (omega arith), append-nil) at (sets-eq ws l i (omega arith))) ∙ f)
