use Rattle.std.proofs.Common.{◌∙◌, arith}
use Rattle.predicate_trace.proofs.TraceLaws.{entry_inside}
use Rattle.lane_record.proofs.LoopLaws.{sets_whole}
use Rattle.lane_record.proofs.writer.put_step.Goals as goal

pub returns : goal.returns
returns c =
    c.put_entry.ensures ∙ entry_inside _ _ _ (omega (arith, c.requires, c.put.auto.s)) ∙ rw c.put.ensures (sets_whole c.args.item.now _ (omega (arith, c.requires)))
