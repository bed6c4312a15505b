use Rattle.std.specs.Prelude.{Err}
use Rattle.std.proofs.Common.{◌≡◌, arith, rules}
use Rattle.lane_library.specs.Outcome.{lent}
use Rattle.lane_library.specs.declared.RunError.TheVariants.{Record}
use Rattle.lane_library.proofs.Laws.{runs_written, runs_unwritten}
use Rattle.lane_library.proofs.run_with.Goals as goal

pub returns-in_err-write_record : goal.returns-in_err-write_record
returns-in_err-write_record c =
    let e : c.from_residual-in_err-write_record.result ≡ Err (Record c.in_err-write_record.field-0.0) = search rules in
    rw e
    (runs_unwritten (lent c.args.rows.now c.args.trace.now c.args.output.now) _ c.in_ok-outcome.ensures (omega arith) c.in_err-write_record.ensures)

pub returns : goal.returns
returns c =
    runs_written (lent c.args.rows.now c.args.trace.now c.args.output.now) _ c.in_ok-outcome.ensures (omega arith) c.in_ok-write_record.ensures
