-- What people read of a call that leaves no record.
use Rattle.std.specs.Prelude.{List, ℕ}
use Rattle.predicate_answer.specs.Texts.{call_text}
use Rattle.lane_record.specs.Texts.{write_text}
use Rattle.lane_library.specs.declared.RunError.{RunError}
use Rattle.lane_library.specs.declared.RunError.TheVariants as ran

-- the writer's, or the call's
abbrev pub ran_text : RunError → List ℕ
ran_text (ran.Record error) = write_text error
ran_text (ran.Call error) = call_text error
