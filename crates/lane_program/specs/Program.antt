-- What the program lane-run writes of its input (document 01, Record): the record of the run with the rows and entries that it lends.
use Rattle.std.specs.Prelude.{◌≡◌, List, ℕ, ◌+◌, ◌*◌, length, take, replicate, Option, Some, None, Ok}
use Rattle.std.proofs.Math.Option as Math
use Rattle.little_endian.specs.Lent.{over}
use Rattle.lane_word.specs.Range.{invalid_channels}
use Rattle.predicate_semantics.specs.Call.{Call}
use Rattle.predicate_trace.specs.Trace.{entry_bytes}
use Rattle.lane_memory.specs.LentRows.{row_bytes}
use Rattle.lane_record.specs.Format.{Record, encode}
use Rattle.lane_record.specs.Runs.{record_of}
use Rattle.lane_library.specs.Inputs.{symbol_bytes, program_image_bytes, program_rows, program_entries, input_program, image_in}
use Rattle.lane_library.specs.Outcome.{record_bytes, LentMemory, lent, called, Runs}
use Rattle.lane_program.specs.declared.output.ProgramOutput.{ProgramOutput}

-- Record: what the program lends to the run, with output for the longest record, and all of it zeros
abbrev pub program_lends : LentMemory
program_lends = lent (replicate (program_rows * row_bytes) 0) (replicate (program_entries * entry_bytes) 0) (replicate (record_bytes program_entries) 0)

-- Record: the call that an input stands for
abbrev pub program_call : List ℕ → Call
program_call input = called (image_in input) (input_program input) invalid_channels program_lends

-- the one output for each input: so many bytes are written of the call's record, with whatever rows and trace are left
abbrev pub Outputs : List ℕ → ProgramOutput → Type 0
Outputs input r =
    (rows trace : List ℕ)
    × Runs (image_in input) (input_program input) invalid_channels program_lends (Ok r.count) (lent rows trace r.bytes)

-- it is the record, then zeros: there is always one, and it always fits
abbrev pub RecordWritten : Type 0
RecordWritten =
    (input : List ℕ) (r : ProgramOutput) → Outputs input r
    → (x : Record) × (record_of (program_call input) ≡ Math.some x) × (r.count ≡ length (encode x)) × (r.bytes ≡ over (encode x) (replicate (record_bytes program_entries) 0))

-- Record: the program has room for one byte more than it takes, so that a longer input is seen to be longer
abbrev pub input_bytes : ℕ
input_bytes = symbol_bytes + program_image_bytes + 1

-- what the program writes of what came of its input: after a failed read nothing
abbrev pub Answers : Option ℕ → List ℕ → ProgramOutput → Type 0
Answers (Some n) input r = Outputs (take n input) r
Answers None input r = (r.count ≡ 0) × (r.bytes ≡ replicate (record_bytes program_entries) 0)
