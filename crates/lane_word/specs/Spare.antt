-- The code's words have as many lanes as there are bytes: where a range has fewer inputs, the lanes left over repeat lane 0's.
use Rattle.std.specs.Prelude.{List, ◌++◌, ℕ, ◌-◌, replicate}
use Rattle.lane_word.specs.declared.InputRange.{InputRange}
use Rattle.lane_word.specs.Word.{lanes}
use Rattle.lane_word.specs.Range.{input_count, inputs_in}

-- each lane's input
unfoldable pub lane_inputs : InputRange → List ℕ
lane_inputs range = inputs_in range ++ replicate (lanes - input_count range) range.first
