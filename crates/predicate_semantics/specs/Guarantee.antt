-- Demand 3: what the lane run promises of the scalar run of each input, while it runs and where it accepts.
use Rattle.std.specs.Prelude.{◌≡◌, ℕ, ◌≤◌, T}
use Rattle.std.proofs.Math.Option.{some}
use Rattle.std.proofs.Math.ListN.{get_elem?}
use Rattle.lane_word.specs.declared.LaneWord.{LaneWord}
use Rattle.predicate_semantics.specs.Program.{Program}
use Rattle.predicate_semantics.specs.State.{RunResult}
use Rattle.predicate_semantics.specs.Tested.{passed}
use Rattle.predicate_semantics.specs.Scalar.{ScalarState, scalar_run}
use Rattle.predicate_semantics.specs.Scalar as Scalar
use Rattle.predicate_semantics.specs.Lane.{LaneState, Setup, lane_run}
use Rattle.predicate_semantics.specs.Lane as Lane
use Rattle.predicate_semantics.specs.Standing.{scalar_answer}
use Rattle.predicate_semantics.specs.Call.{Call, run_of}

-- if the lane word is known, its lane k holds v
abbrev pub KnownLane : ℕ → LaneWord → ℕ → Type 0
KnownLane k w v = T w.known → get_elem? w.values k ≡ some v

module _ (p : Program) (l : Setup) where
  -- a scalar state is where lane k of a lane state is: the same program counter, steps, trace and locations, and in each register
  -- and each byte that is known, lane k's value
  pub record SameAsLane (k : ℕ) (s : LaneState) (t : ScalarState) : Type 0 where
    pub pc : t.pc ≡ s.pc
    pub steps : t.steps ≡ s.steps
    pub trace : t.trace ≡ s.trace
    pub locations : t.locations ≡ s.locations
    pub registers : (i : ℕ) → KnownLane k (Lane.reg p l s i) (Scalar.reg t i)
    pub memory : (a : ℕ) → KnownLane k (Lane.memory_of p l s a) (t.memory a)

  -- After n completed steps of the lane run, the scalar run of each lane's input, whatever the other registers hold at the start,
  -- has completed n steps too, and is where the lane is.
  abbrev pub PrefixGuarantee : Type 0
  PrefixGuarantee =
      (n : ℕ) (s : LaneState) → Lane.reached p l n ≡ some s
      → (k input : ℕ) → get_elem? l.inputs k ≡ some input
      → (others : ℕ → ℕ) → (t : ScalarState) × (Scalar.reached p n input others ≡ some t) × SameAsLane k s t

  -- Where the lane run ends once it has started, accepted or refused, the same holds of the steps that it completed.
  abbrev pub CompletedGuarantee : ℕ → Type 0
  CompletedGuarantee limit =
      Lane.start p l ≡ passed (Lane.begin p l)
      → (k input : ℕ) → get_elem? l.inputs k ≡ some input
      → (others : ℕ → ℕ)
      → (t : ScalarState)
      × (Scalar.reached p (lane_run p l limit).state.steps input others ≡ some t)
      × SameAsLane k (lane_run p l limit).state t

  -- Whenever the lane run accepts, the scalar run of each lane's input, whatever the other registers hold at the start,
  -- reaches stop and answers the same.
  abbrev pub AcceptanceGuarantee : ℕ → Type 0
  AcceptanceGuarantee limit =
      (r : RunResult) → (lane_run p l limit).answer ≡ passed r
      → (k input : ℕ) → get_elem? l.inputs k ≡ some input
      → (others : ℕ → ℕ) → scalar_run p limit input others ≡ some r

-- Where the lane run of a call accepts, the scalar run of each input of its range, with whatever in the registers that are not set, has the
-- same result: return value, steps, trace, and the events with their locations.
abbrev pub Guarantee : Type 0
Guarantee =
    (c : Call) (r : RunResult) → (run_of c).answer ≡ passed r
    → (input : ℕ) → c.range.first ≤ input → input ≤ c.range.last
    → (others : ℕ → ℕ) → scalar_answer c.image c.program input others ≡ some r
