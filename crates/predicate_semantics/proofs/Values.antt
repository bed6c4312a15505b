-- What lane k of a lane word, of the registers and of memory says of one scalar run.
use Rattle.std.specs.Prelude.{Err, Ok}
use mathlib.Core.Path.{◌≡◌, refl, sym, ◌∙◌, ap, subst}
use mathlib.Core.Bool.{Bool, true, false, false≢true, cond}
use mathlib.Core.Option.{some}
use mathlib.Core.List.{List, [], ◌∷◌}
use Prim.Native.Nat.{ℕ, zero, suc, ◌/◌, ◌%◌}
use lib.Dec.{T, eqb}
use lib.ListN.{get_elem?, get_or, length, length-map, length-replicate}
use borrow.Author.Tests.{eqb-true, eqb-false}
use Rattle.rv32_arithmetic.specs.Bits.{join}
use Rattle.lane_word.specs.declared.LaneWord.{LaneWord}
use Rattle.lane_word.specs.Word.{unknown, constant, domain, unary, binary, every, uniform_of}
use Rattle.lane_word.proofs.Lists.{length_zip}
use Rattle.predicate_semantics.specs.Choice.{choose}
use Rattle.predicate_semantics.specs.Program.{Program, initial}
use Rattle.predicate_semantics.specs.Memory.{Written, byte_at, lane_bytes}
use Rattle.predicate_semantics.specs.Memory as Memory
use Rattle.predicate_semantics.specs.Tested.{refuse}
use Rattle.predicate_semantics.specs.Lane.{Setup, agreed_as, agreed}
use Rattle.predicate_semantics.specs.Scalar.{Bytes}
use Rattle.predicate_semantics.specs.Scalar as Scalar
use Rattle.predicate_semantics.proofs.Lists.{map_at, zip_at, replicate_at, both_left, both_right, every_at}
use Rattle.predicate_semantics.proofs.Sim.{Sim, stops, agrees}
use Rattle.predicate_semantics.proofs.Related.{related_choose}
use Rattle.lane_word.specs.declared.UniformError.TheVariants.{Unknown, Uneven}

-- w has n lanes, and its lane k is v, if it is known
pub record At (n k : ℕ) (w : LaneWord) (v : ℕ) : Type 0 where
  pub size : length w.values ≡ n
  pub value : T w.known → get_elem? w.values k ≡ some v

pub at_unary : {n k : ℕ} (f : ℕ → ℕ) {w : LaneWord} {v : ℕ} → At n k w v → At n k (unary f w) (f v)
unfolding unary
at_unary {k = k} f {w} h = record {
  size = length-map w.values f ∙ h.size;
  value = λ t. map_at f w.values k (h.value t);
}

pub at_binary : {n k : ℕ} (f : ℕ → ℕ → ℕ) {a b : LaneWord} {u v : ℕ} → At n k a u → At n k b v → At n k (binary f a b) (f u v)
unfolding binary
at_binary {k = k} f {a} {b} h g = record {
  size = length_zip f a.values b.values (h.size ∙ sym g.size) ∙ h.size;
  value = λ t.
      zip_at f a.values b.values k (h.value (both_left a.known b.known t)) (g.value (both_right a.known b.known t));
}

pub at_unknown : (n k v : ℕ) → At n k (unknown n) v
unfolding unknown
at_unknown n k v = record { size = length-replicate n 0; value = λ t. absurd t }

-- a word that passes the test has lane k's value
pub sim_agreed : {n k : ℕ} (role : ℕ) {w : LaneWord} {v : ℕ} → At n k w v → Sim ◌≡◌ (agreed role w) (some v)
unfolding agreed uniform_of refuse
sim_agreed {k = k} role {w} {v} h =
    go w.known (every (get_or w.values 0 0) w.values) h.value (λ t e. every_at (get_or w.values 0 0) w.values k t e)
  where
    go : (b c : Bool) → (T b → get_elem? w.values k ≡ some v) → (T c → get_elem? w.values k ≡ some v → get_or w.values 0 0 ≡ v)
        → Sim ◌≡◌ (agreed_as role (cond b (cond c (Ok (get_or w.values 0 0)) (Err Uneven)) (Err Unknown))) (some v)
    go true true x y = agrees (y tt (x tt))
    go true false x y = stops
    go false c x y = stops

-- the byte at an address after a byte has been put
pub byte_at_put : (other : LaneWord) (x a : ℕ) (b : LaneWord) (ws : List Written)
    → byte_at other x (Memory.put a b ws) ≡ choose (eqb a x) (λ _. b) (λ _. byte_at other x ws)
unfolding byte_at Memory.put choose
byte_at_put other x a b [] = refl
byte_at_put other x a b (w ∷ ws) = go (eqb w.address a) refl (byte_at_put other x a b ws)
  where
    here : (c d : Bool) → c ≡ d
        → choose d (λ _. b) (λ _. byte_at other x ws) ≡ choose d (λ _. b) (λ _. choose c (λ _. w.byte) (λ _. byte_at other x ws))
    here true true e = refl
    here true false e = absurd (false≢true (sym e))
    here false true e = refl
    here false false e = refl

    apart : (c d : Bool) → eqb w.address a ≡ false → eqb w.address x ≡ c → eqb a x ≡ d
        → choose c (λ _. w.byte) (λ _. choose d (λ _. b) (λ _. byte_at other x ws)) ≡ choose d (λ _. b) (λ _. choose c (λ _. w.byte) (λ _. byte_at other x ws))
    apart true true n e f = absurd (eqb-false w.address a n (eqb-true w.address x e ∙ sym (eqb-true a x f)))
    apart true false n e f = refl
    apart false true n e f = refl
    apart false false n e f = refl

    go : (c : Bool) → eqb w.address a ≡ c → byte_at other x (Memory.put a b ws) ≡ choose (eqb a x) (λ _. b) (λ _. byte_at other x ws)
        → byte_at other x (choose c (λ _. record { address = a; byte = b } ∷ ws) (λ _. w ∷ Memory.put a b ws))
        ≡ choose (eqb a x) (λ _. b) (λ _. choose (eqb w.address x) (λ _. w.byte) (λ _. byte_at other x ws))
    go true e ih = here (eqb w.address x) (eqb a x) (ap (λ (z : ℕ). eqb z x) (eqb-true w.address a e))
    go false e ih =
        ap (λ (y : LaneWord). choose (eqb w.address x) (λ _. w.byte) (λ _. y)) ih ∙ apart (eqb w.address x) (eqb a x) e refl refl

-- one lane of a run: its number and its input
pub record OneLane (p : Program) (l : Setup) : Type 0 where
  pub number : ℕ
  pub input : ℕ
  pub here : get_elem? l.inputs number ≡ some input

module _ {p : Program} {l : Setup} (x : OneLane p l) where
  -- a lane word, as the lane has it
  abbrev pub In : LaneWord → ℕ → Type 0
  In w v = At (length l.inputs) x.number w v

  -- memory, as the lane has it
  pub record Mem (ws : List Written) (m : Bytes) : Type 0 where
    pub byte : (a : ℕ) → In (lane_bytes p.image (length l.inputs) ws a) (m a)

  pub at_constant : (v : ℕ) → In (constant (length l.inputs) v) v
  unfolding constant
  at_constant v = record { size = length-replicate (length l.inputs) v; value = λ t. replicate_at l.inputs v x.number x.here }

  pub at_domain : In (domain l.inputs) x.input
  unfolding domain
  at_domain = record { size = refl; value = λ t. x.here }

  pub at_read : {ws : List Written} {m : Bytes} → Mem ws m
      → (n a : ℕ) → In (Memory.read (length l.inputs) (lane_bytes p.image (length l.inputs) ws) n a) (Scalar.read m n a)
  unfolding Memory.read Scalar.read
  at_read h zero a = at_constant 0
  at_read h (suc n) a = at_binary join (h.byte a) (at_read h n (suc a))

  mem_put : {ws : List Written} {m : Bytes} → Mem ws m → (a : ℕ) {b : LaneWord} {c : ℕ} → In b c → Mem (Memory.put a b ws) (Scalar.put m a c)
  unfolding Scalar.put lane_bytes
  mem_put {ws} {m} h a {b} {c} g = record {
    byte = λ y.
        subst (λ (w : LaneWord). In w (choose (eqb a y) (λ _. c) (λ _. m y))) (sym (byte_at_put _ y a b ws))
        (related_choose In (eqb a y) _ _ _ _ g (h.byte y));
  }

  pub mem_write : (n : ℕ) {ws : List Written} {m : Bytes} → Mem ws m → (a : ℕ) {w : LaneWord} {v : ℕ} → In w v
      → Mem (Memory.write ws n a w) (Scalar.write m n a v)
  unfolding Memory.write Scalar.write
  mem_write zero h a g = h
  mem_write (suc n) h a g = mem_write n (mem_put h a (at_unary (λ v. v % 256) g)) (suc a) (at_unary (λ v. v / 256) g)

  pub mem_initial : Mem [] (initial p.image)
  unfolding byte_at lane_bytes
  mem_initial = record { byte = λ a. at_constant (initial p.image a) }
