-- The table of cases, by computation.
use mathlib.Core.Path.{refl}
use lib.Bits.{xor_self}
use Rattle.predicate_semantics.specs.Lane as Lane
use Rattle.predicate_semantics.specs.Cases as Cases
use Rattle.predicate_semantics.proofs.Computing.{expansion, decoding, words, running, scalar, calls}

pub cases_hold : Cases.CasesHold
unfolding expansion decoding words running calls Cases.symbols Cases.calling Cases.meets Cases.holds Cases.all_hold Cases.plain Cases.ranging Cases.at_stop Cases.word Cases.half Cases.return1 Cases.cases
cases_hold = refl

pub scalar_runs_give_zero : Cases.ScalarRunsGiveZero
unfolding expansion decoding running scalar calls Cases.symbols
scalar_runs_give_zero input others = rw (xor_self (others 11))

pub worked_runs : Cases.WorkedRuns
unfolding expansion decoding words running calls Cases.symbols Cases.calling Cases.word Cases.half Cases.return1 Cases.one_event Cases.example_result Cases.example_execution Cases.one_event_result Cases.one_event_execution Cases.one_input_result Cases.one_input_execution Lane.execution Lane.lane_operations Lane.written_bytes
worked_runs = record {
  example = record { result = refl; numbers = refl };
  one_event_case = record { result = refl; numbers = refl };
  one_input = record { result = refl; numbers = refl };
}
