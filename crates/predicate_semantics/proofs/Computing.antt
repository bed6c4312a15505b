-- What a proof by computation opens: to unfold one of these is to unfold what its line names.
use Rattle.rv32_arithmetic.specs.Bits as Bits
use Rattle.riscv32imc.specs.Expansion as Expansion
use Rattle.riscv_decode.specs.Listing as Listing
use Rattle.riscv_decode.specs.Rows as Rows
use Rattle.riscv_decode.specs.Decode as Decode
use Rattle.lane_word.specs.Word as Word
use Rattle.lane_word.specs.Range as Range
use Rattle.predicate_semantics.specs.Choice as Choice
use Rattle.predicate_action.specs.Meaning as Meaning
use Rattle.predicate_semantics.specs.Program as Program
use Rattle.predicate_semantics.specs.State as State
use Rattle.predicate_semantics.specs.Memory as Memory
use Rattle.predicate_semantics.specs.Tested as Tested
use Rattle.predicate_semantics.specs.Lane as Lane
use Rattle.predicate_semantics.specs.Scalar as Scalar
use Rattle.predicate_semantics.specs.Standing as Standing
use Rattle.predicate_semantics.specs.Call as Call

unfoldable pub expansion : Unit {0}
unfolding Bits.sign_extend Expansion.expand Expansion.quadrant0 Expansion.quadrant1 Expansion.place Expansion.cArithmetic Expansion.cOperations Expansion.quadrant2 Expansion.cRegisters
expansion = tt

unfoldable pub decoding : Unit {0}
unfolding Bits.sign_extend Listing.listing Listing.operation Listing.fixed Rows.mask_of Rows.match_of Rows.rows_from Rows.standing_rows Rows.find_row Decode.operation_of Decode.decode_with Decode.decode_of
decoding = tt

unfoldable pub words : Unit {0}
unfolding Word.unknown Word.constant Word.domain Word.zip Word.unary Word.binary Word.every Word.uniform_of Range.inputs
words = tt

unfoldable pub running : Unit {0}
unfolding Choice.choose Meaning.meaning Program.initial Program.sized Program.in_memory Program.symbols_placed State.fill State.at_start State.assign State.recorded State.advanced State.apply Memory.byte_at Memory.lane_bytes Memory.put Memory.read Memory.write Tested.◌>>=◌ Tested.refuse Tested.require Tested.allow Tested.found Lane.inside Lane.on Lane.count_of_lanes Lane.memory_of Lane.agreed Lane.start_tests Lane.room_for Lane.decode_word Lane.expand_halfword Lane.access Lane.access_agreed Lane.fetch_four Lane.fetch Lane.event_at Lane.reg Lane.execute Lane.attempt Lane.step Lane.events Lane.finish_events Lane.finish Lane.run Lane.begin Lane.start Lane.lane_run
running = tt

unfoldable pub scalar : Unit {0}
unfolding Scalar.◌>>=◌ Scalar.require Scalar.put Scalar.read Scalar.write Scalar.inside Scalar.start_tests Scalar.room_for Scalar.access Scalar.event_at Scalar.reg Scalar.decode_word Scalar.expand_halfword Scalar.fetch_four Scalar.fetch Scalar.execute Scalar.attempt Scalar.step Scalar.events Scalar.finish Scalar.run Scalar.start Scalar.scalar_run
scalar = tt

unfoldable pub calls : Unit {0}
unfolding Standing.expanded_word Standing.decoded_operation Standing.standing_core Standing.program_of Call.range_test Call.setup_of Call.run_of Standing.scalar_answer
calls = tt
