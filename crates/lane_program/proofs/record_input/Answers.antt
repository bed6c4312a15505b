use Rattle.std.proofs.Common.{refl}
use Rattle.lane_program.proofs.Laws.{outputs}
use Rattle.lane_program.proofs.record_input.Goals as goal

pub returns : goal.returns
returns c =
    outputs c.args.input.now refl (rw c.requires at c.run_input-answer.ensures) c.unwrap_or.ensures
    (record { bytes = c.run_input-answer.new.output; count = c.unwrap_or.result })
    refl refl
