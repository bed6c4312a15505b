-- What a call chooses and lends, as one value, and the lane run that it is.
use Rattle.std.specs.Prelude.{cond, List, ℕ, leb, Err, Ok, Result}
use Rattle.riscv32imc.specs.Constants.{max_steps}
use Rattle.lane_word.specs.declared.InputRange.{InputRange}
use Rattle.lane_word.specs.Range.{inputs_in}
use Rattle.predicate_answer.specs.declared.CallError.TheVariants as call
use Rattle.predicate_semantics.specs.declared.Rv32Program.{Rv32Program}
use Rattle.predicate_semantics.specs.Program.{Program}
use Rattle.predicate_semantics.specs.Lane.{Setup, Ended, lane_run}
use Rattle.predicate_semantics.specs.Standing.{program_of}
use Rattle.predicate_answer.specs.declared.CallError.{CallError}

-- an image and its program, the range of inputs, and how many whole rows and trace entries are lent
pub record Call : Type 0 where
  pub image : List ℕ
  pub program : Rv32Program
  pub range : InputRange
  pub rows : ℕ
  pub entries : ℕ

-- Who causes a refusal: the caller of a range whose first input is above its last, 17
unfoldable pub range_test : InputRange → Result (Unit {0}) CallError
range_test range = cond (leb range.first range.last) (Ok tt) (Err call.FirstAboveLast)

module _ (c : Call) where
  -- what it runs
  abbrev pub program_in : Program
  program_in = program_of c.image c.program

  -- a lane for each input of its range and no other
  unfoldable pub setup_of : Setup
  setup_of = record { inputs = inputs_in c.range; choice = range_test c.range; rows = c.rows; entries = c.entries }

  -- its lane run
  unfoldable pub run_of : Ended
  run_of = lane_run program_in setup_of max_steps
