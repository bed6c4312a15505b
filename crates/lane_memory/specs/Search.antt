-- How a row is found: open addressing without deletion, over what each row holds.
use Rattle.std.specs.Prelude.{ℕ, zero, suc, ◌+◌, ◌-◌, ◌/◌, ◌%◌, cond, ◌==◌, nat_lt}
use Rattle.std.proofs.Math.Option.{Option, none, some}
use Rattle.predicate_semantics.specs.Memory.{Written}
use Rattle.lane_memory.specs.declared.Probe.{Probe}
use Rattle.lane_memory.specs.declared.Probe.TheVariants.{Empty, Match, Other}
use Rattle.lane_memory.specs.declared.Found.{Found}
use Rattle.lane_memory.specs.declared.Found.TheVariants.{At, Free, Full}

-- what a row is to the search for an address
abbrev pub probe : Option Written → ℕ → Probe
probe none a = Empty
probe (some w) a = cond (w.address == a) Match Other

-- the row after row s of n: after the last comes the first
abbrev pub next : ℕ → ℕ → ℕ
next n s = cond (nat_lt (s + 1) n) (s + 1) 0

-- a row ends the search, or leaves it to the rows after
abbrev pub ending : Probe → ℕ → Found → Found
ending Empty s rest = Free s
ending Match s rest = At s
ending Other s rest = rest

-- a hop: about 0.618 of n rows on, round the end, so that hops in a row come to rows far apart
abbrev pub stride : ℕ → ℕ
stride n = n / 2 + n / 8 - n / 128

abbrev pub hop : ℕ → ℕ → ℕ
hop n s = cond (nat_lt (s + stride n) n) (s + stride n) (s + stride n - n)

-- the row after row s, where j more are to be looked at: the last n of them are all n rows, one after another
abbrev pub onward : ℕ → ℕ → ℕ → ℕ
onward n j s = cond (nat_lt j n) (next n s) (hop n s)

-- the search through j of n rows from row s on
unfoldable pub scan : (ℕ → Probe) → ℕ → ℕ → ℕ → Found
scan P n zero s = Full
scan P n (suc j) s = ending (P s) s (scan P n j (onward n j s))

-- how many hops a search makes
abbrev pub hops : ℕ
hops = 32

-- they come before all n rows, where there are as many
abbrev pub tries : ℕ → ℕ
tries n = cond (nat_lt n hops) n (n + hops)

-- open addressing: hops from the address's remainder on, then all n rows
abbrev pub find_in : (ℕ → Option Written) → ℕ → ℕ → Found
find_in T n a = scan (λ s. probe (T s) a) n (tries n) (a % n)
