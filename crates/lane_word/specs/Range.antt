-- The inputs that the lanes are for (document 02, Three): a first and a last byte, and all between. Document 01's are 6 to 255.
use Rattle.std.specs.Prelude.{List, [], ◌∷◌, ℕ, zero, suc, ◌-◌}
use Rattle.lane_word.specs.declared.InputRange.{InputRange}

-- how many inputs there can be: one for every byte
abbrev pub most_inputs : ℕ
most_inputs = 256

-- the bytes that name no channel of six
abbrev pub invalid_channels : InputRange
invalid_channels = record { first = 6; last = 255 }

-- how many inputs there are, the last among them; none where the first is above the last
abbrev pub input_count : InputRange → ℕ
input_count range = suc range.last - range.first

-- as many inputs, one after another
unfoldable pub inputs : ℕ → ℕ → List ℕ
inputs first zero = []
inputs first (suc count) = first ∷ inputs (suc first) count

-- those of a range, in rising order
abbrev pub inputs_in : InputRange → List ℕ
inputs_in range = inputs range.first (input_count range)
