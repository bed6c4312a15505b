use Rattle.std.proofs.Common.{List, ℕ, ap, sym, ◌∙◌}
use Rattle.predicate_semantics.specs.Program.{stop}
use Rattle.predicate_trace.specs.Trace.{steps_at}
use Rattle.lane_record.specs.Rules.{linked}
use Rattle.lane_record.specs.Decode.{steps_from}
use Rattle.lane_record.proofs.LoopLaws.{rest_is}
use Rattle.lane_record.proofs.AnswerLaws.{valid_linked}
use Rattle.lane_record.proofs.reader.accepted_valid.Goals as goal

pub returns-then-execution_valid : goal.returns-then-execution_valid
returns-then-execution_valid c =
    let e = c.args.e in
    let bs = c.args.s.now in
    c.steps_linked.ensures
    ∙ ap (λ (x : List ℕ). linked stop (steps_at 1 e.symbolic_transitions x)) (rest_is (steps_from e) bs)
    ∙ valid_linked e bs (sym c.if-execution_valid.ensures)
