-- The flags of the Rust, one for each lane (riscv32imc_predicate.rs): what each way to begin a word and each operation makes of them, and that
-- they agree (document 01, "Lane word"). The proofs stand in proofs/OneFlag.
use Rattle.std.specs.Prelude.{Bool, true, false, ◌&&◌, List, [], ◌∷◌, ◌≡◌, ℕ, ◌<◌, replicate}

-- lane by lane, left && right
unfoldable pub zip_flags : List Bool → List Bool → List Bool
zip_flags [] rs = []
zip_flags (a ∷ ls) [] = []
zip_flags (a ∷ ls) (b ∷ rs) = (a && b) ∷ zip_flags ls rs

-- all(|known| *known)
unfoldable pub all_known : List Bool → Bool
all_known [] = true
all_known (a ∷ ls) = a && all_known ls

-- the flags that a word of n lanes, or a byte, can come to have
pub data Flags (n : ℕ) : List Bool → Type 0 where
  -- `unknown`
  unset : Flags n (replicate n false)
  -- `constant`, `input_domain`, and `load_byte` of a byte that was not written
  given : Flags n (replicate n true)
  -- `map_unary`, and a byte that `store` inserts
  cloned : {ls : List Bool} → Flags n ls → Flags n ls
  -- `map_binary`, and `load` with each of its bytes
  zipped : {ls rs : List Bool} → Flags n ls → Flags n rs → Flags n (zip_flags ls rs)

-- the one flag that stands for them, by the rules of `LaneWord`
unfoldable pub flag_of : {n : ℕ} {ls : List Bool} → Flags n ls → Bool
flag_of unset = false
flag_of given = true
flag_of (cloned f) = flag_of f
flag_of (zipped f g) = flag_of f && flag_of g

-- all flags of one word agree: each of them is the one that `LaneWord` keeps
abbrev pub FlagsAgree : Type 0
FlagsAgree = (n : ℕ) (ls : List Bool) (f : Flags n ls) → ls ≡ replicate n (flag_of f)

-- so the Rust's test of all flags is the test of that one
abbrev pub OneFlag : Type 0
OneFlag = (n : ℕ) (ls : List Bool) → 0 < n → (f : Flags n ls) → all_known ls ≡ flag_of f
