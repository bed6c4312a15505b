-- The rows keep their bytes past the marks, and from wherever the call stood it has come to where the loop stands; each step leaves fewer below the limit.
use Rattle.std.proofs.Common.{◌≡◌, ◌-◌}
use Rattle.predicate_semantics.specs.Lane.{LaneState}
use Rattle.lane_memory.specs.Rows.{cleared}
use Rattle.riscv32imc_predicate.specs.Setting.{Setting, environment}
use Rattle.riscv32imc_predicate.specs.Tracking.{Stands, machine}
use Rattle.riscv32imc_predicate.proofs.Looping.{Looped}
use Rattle.riscv32imc_predicate.proofs.run.advance.Given as goal

abbrev pub invariant-loop-progress : goal.invariant-loop-progress
invariant-loop-progress l = record {
  same_rows : cleared l.rows ≡ cleared l.fn.rows;
  comes :
      (c : Setting) (s : LaneState) → Stands c (environment l.image l.symbols l.bounds) (machine l.fn.first l.fn.start l.fn.kept l.fn.rows l.fn.trace) s
      → Looped c (environment l.image l.symbols l.bounds) s (machine l.place (record { words = l.words; tags = l.tags }) l.recorded l.rows l.trace) l.computed;
}

abbrev pub decreases-loop-progress : goal.decreases-loop-progress
decreases-loop-progress l = l.bounds.limit - l.place.steps
