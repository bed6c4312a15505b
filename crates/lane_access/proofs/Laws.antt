-- The laws that callers cite: where rows hold the written bytes, and none lies below the image's end, the code sees the memory of the semantics. Assumes nothing.
use mathlib.Core.Bool.{Bool, true, false, cond}
use mathlib.Core.List.{List, [], ◌∷◌}
use mathlib.Core.Path.{◌≡◌, refl, sym, fun_ext}
use Prim.Native.Nat.{ℕ, zero, suc, ◌+◌, ◌%◌, ◌/◌, ◌≤◌, ◌<◌}
use native.Mathlib.Omega.{arith}
use borrow.Author.Tests.{ne_eqb, ltb-true, ltb-false}
use lib.Dec.{eqb, ltb}
use lib.ListN.{length, get_or-eq_default}
use Rattle.riscv32imc.specs.Constants.{image_base}
use Rattle.lane_word.specs.declared.LaneWord.{LaneWord}
use Rattle.lane_word.specs.Word.{constant, unary, lanes}
use Rattle.predicate_semantics.specs.Choice.{choose}
use Rattle.predicate_semantics.specs.Program.{initial}
use Rattle.predicate_semantics.specs.Memory.{Written, byte_at, put, write, lane_bytes}
use Rattle.lane_memory.specs.Rows.{load_byte}
use Rattle.lane_memory.specs.Holds.{Holds}
use Rattle.lane_memory.proofs.Laws.{holds_load}
use Rattle.lane_access.specs.Seen.{offset_of, seen, Above}
-- where a test of range passed
pub use Rattle.lane_access.proofs.Loads.{inside_fits, agreed_is, access_inside, access_outside, accessed_word, accessed_is, loads}

-- below every written address memory is as given
byte_below : (other : LaneWord) (e a : ℕ) (m : List Written) → a < e → Above e m → byte_at other a m ≡ other
unfolding byte_at choose
byte_below other e a [] h k = refl
byte_below other e a (w ∷ m) h k = rw (ne_eqb w.address a (λ q. omega (arith, q, h, k.0))) (byte_below other e a m h k.1)

-- past the image's end memory starts with zeros
initial_past : (image : List ℕ) (a : ℕ) → length image ≤ offset_of a → initial image a ≡ 0
unfolding initial
initial_past image a h = rw (get_or-eq_default image 0 h) (go (ltb a image_base))
  where
    go : (b : Bool) → ◌≡◌ {A = ℕ} (cond b 0 0) 0
    go true = refl
    go false = refl

pub seen_holds : (image rows : List ℕ) (n : ℕ) (m : List Written) → Holds rows n m → Above (image_base + length image) m → seen image rows ≡ lane_bytes image lanes m
unfolding seen lane_bytes
seen_holds image rows n m h k = fun_ext (λ a. go a (ltb (offset_of a) (length image)) refl)
  where
    go : (a : ℕ) (b : Bool) → ltb (offset_of a) (length image) ≡ b
        → cond b (constant lanes (initial image a)) (load_byte rows a 0) ≡ byte_at (constant lanes (initial image a)) a m
    go a true e = sym (byte_below (constant lanes (initial image a)) (image_base + length image) a m (omega (arith, ltb-true (offset_of a) (length image) e)) k)
    go a false e = rw (initial_past image a (ltb-false (offset_of a) (length image) e)) (holds_load h a 0)

-- a store at or above a number keeps every written address there
above_put : (e a : ℕ) (b : LaneWord) (m : List Written) → e ≤ a → Above e m → Above e (put a b m)
unfolding put choose
above_put e a b [] h k = (h, tt)
above_put e a b (w ∷ m) h k = go (eqb w.address a) (above_put e a b m h k.1)
  where
    go : (t : Bool) → Above e (put a b m) → Above e (choose t (λ _. record { address = a; byte = b } ∷ m) (λ _. w ∷ put a b m))
    go true r = (h, k.1)
    go false r = (k.0, r)

pub above_write : (e n a : ℕ) (w : LaneWord) (m : List Written) → e ≤ a → Above e m → Above e (write m n a w)
unfolding write
above_write e zero a w m h k = k
above_write e (suc n) a w m h k =
    above_write e n (suc a) (unary (λ v. v / 256) w) (put a (unary (λ v. v % 256) w) m) (omega arith) (above_put e a (unary (λ v. v % 256) w) m h k)
