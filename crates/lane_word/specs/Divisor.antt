-- The power of two that a word is in every lane, by which it divides as a shift.
use Rattle.std.specs.Prelude.{Err, None, Ok, Option, Result, ℕ}
use Rattle.rv32_arithmetic.specs.Divisor.{power_of}
use Rattle.lane_word.specs.declared.LaneWord.{LaneWord}
use Rattle.lane_word.specs.Word.{uniform_of}
use Rattle.lane_word.specs.declared.UniformError.TheVariants.{Unknown, Uneven}
use Rattle.lane_word.specs.declared.UniformError.{UniformError}

-- of what the uniform test finds: one value may be a power
abbrev pub power_in : Result ℕ UniformError → Option ℕ
power_in (Ok v) = power_of v
power_in (Err Unknown) = None
power_in (Err Uneven) = None

-- the power in every lane
abbrev pub common_power : LaneWord → Option ℕ
common_power w = power_in (uniform_of w)
