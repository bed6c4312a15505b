-- A setting that the code serves has as many lanes as a word. Assumes nothing.
use mathlib.Core.Path.{◌≡◌}
use lib.ListN.{length}
use Rattle.lane_word.specs.Word.{lanes}
use Rattle.predicate_semantics.specs.Lane.{count_of_lanes}
use Rattle.riscv32imc_predicate.specs.Setting.{Setting}

pub lane_count : (c : Setting) → length c.setup.inputs ≡ lanes → count_of_lanes c.program c.setup ≡ lanes
unfolding count_of_lanes
lane_count c e = e
