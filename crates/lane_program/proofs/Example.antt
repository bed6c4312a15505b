-- The worked example, by computation. Assumes nothing.
use mathlib.Core.Path.{refl}
use Rattle.predicate_semantics.specs.Lane as Lane
use Rattle.predicate_semantics.proofs.Computing.{expansion, decoding, words, running, calls}
use Rattle.lane_program.specs.Example.{WorkedInput}

pub worked_input : WorkedInput
unfolding expansion decoding words running calls Lane.execution Lane.lane_operations Lane.written_bytes
worked_input = refl
