-- When rows hold a memory: the list of written bytes that the semantics has.
use Rattle.std.specs.Prelude.{◌≡◌, ℕ, zero, suc, ◌+◌, ◌<◌, cond, List, [], ◌∷◌, length, ◌==◌}
use Rattle.std.proofs.Math.Option.{Option, none, some}
use Rattle.predicate_semantics.specs.Memory.{Written}
use Rattle.lane_memory.specs.LentRows.{row_count}
use Rattle.lane_memory.specs.Search.{find_in}
use Rattle.lane_memory.specs.Rows.{held}
use Rattle.lane_memory.specs.declared.Found.{Found}
use Rattle.lane_memory.specs.declared.Found.TheVariants.{At, Free, Full}

-- the entry of an address
unfoldable pub lookup : ℕ → List Written → Option Written
lookup a [] = none
lookup a (w ∷ ws) = cond (w.address == a) (some w) (lookup a ws)

-- what a search has found
abbrev pub content : (ℕ → Option Written) → Found → Option Written
content T (At s) = T s
content T (Free s) = none
content T Full = none

-- how many of the first n rows are used
abbrev pub one : Option Written → ℕ
one none = 0
one (some w) = 1

unfoldable pub used : (ℕ → Option Written) → ℕ → ℕ
used T zero = 0
used T (suc n) = one (T n) + used T n

-- n rows are a hash table of the memory m: a search finds each used row by its address, sees what the list has, and there are as many
pub record HashTable (T : ℕ → Option Written) (n : ℕ) (m : List Written) : Type 0 where
  pub finds : (s : ℕ) (w : Written) → s < n → T s ≡ some w → find_in T n w.address ≡ At s
  pub same : (a : ℕ) → content T (find_in T n a) ≡ lookup a m
  pub count : used T n ≡ length m

-- the bytes of lent memory, n whole rows, hold the memory m
pub record Holds (memory : List ℕ) (n : ℕ) (m : List Written) : Type 0 where
  pub rows : row_count memory ≡ n
  pub table : HashTable (held memory) n m
