-- Bit fields and sign extension, in plain arithmetic.
use Rattle.std.specs.Prelude.{ℕ, ◌+◌, ◌-◌, ◌*◌, ◌/◌, ◌%◌, ◌^◌, cond, nat_lt}

-- bits high down to low of x: the manual's x[high:low]
abbrev pub slice : ℕ → ℕ → ℕ → ℕ
slice x high low = x / 2 ^ low % 2 ^ (high + 1 - low)

-- the low k bits of x as a two's complement number, in 32 bits; all of x where k is 32 or more
unfoldable pub sign_extend : ℕ → ℕ → ℕ
sign_extend x k = cond (nat_lt (x % 2 ^ k) (2 ^ k - x % 2 ^ k)) (x % 2 ^ k) (x % 2 ^ k + (2 ^ 32 - 2 ^ k))

-- byte k of x, counted from the lowest
abbrev pub byte_of : ℕ → ℕ → ℕ
byte_of x k = x / 256 ^ k % 256

-- a word from its lowest byte and the bytes above it
abbrev pub join : ℕ → ℕ → ℕ
join low high = (low + 256 * high) % 2 ^ 32
