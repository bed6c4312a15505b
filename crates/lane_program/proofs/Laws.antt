-- With the program's rows, entries and output every input's record is written, never 16. Assumes nothing.
use Rattle.std.specs.Prelude.{Err, None, Ok, Option, Result, Some}
use Rattle.std.specs.Result.{result_unwrap_or}
use mathlib.Core.Path.{◌≡◌, refl, ap, ◌∙◌}
use mathlib.Core.Bool.{true}
use mathlib.Core.List.{List}
use mathlib.Core.Option.{some}
use Prim.Native.Nat.{ℕ, ◌≤◌}
use native.Mathlib.Omega.{arith}
use borrow.Author.Tests.{le-leb, leb-true}
use lib.Dec.{leb}
use Rattle.std.proofs.Common.{min}
use lib.ListN.{length, take, replicate}
use Rattle.std.proofs.lemmas.List.{take_min}
use Rattle.little_endian.specs.Lent.{over}
use Rattle.lane_word.specs.Range.{invalid_channels}
use Rattle.predicate_semantics.specs.Call.{range_test}
use Rattle.predicate_semantics.specs.Outcome.{verdict_on}
use Rattle.lane_record.specs.Format.{Record, encode}
use Rattle.lane_record.specs.Answers.{wrote}
use Rattle.lane_record.specs.Runs.{record_of}
use Rattle.lane_library.specs.declared.RunError.{RunError}
use Rattle.lane_library.specs.Inputs.{program_entries, input_program, image_in}
use Rattle.lane_library.specs.Outcome.{ran_said, count, record_bytes, LentMemory, Runs}
use Rattle.lane_library.proofs.Promise.{record_fits}
use Rattle.lane_library.proofs.Laws.{always_recorded}
use Rattle.lane_program.specs.declared.output.ProgramOutput.{ProgramOutput}
use Rattle.lane_program.specs.Program.{input_bytes, program_lends, program_call, Outputs, RecordWritten, Answers}

-- the program's call has a record, and its output has room for it
record Writable (input : List ℕ) : Type 0 where
  written : Record
  is_record : record_of (program_call input) ≡ some written
  passes : verdict_on (program_call input) ≡ Ok tt
  room : leb (length (encode written)) (record_bytes program_entries) ≡ true

writable : (input : List ℕ) → Writable input
unfolding range_test
writable input =
    let c = program_call input in
    let h = always_recorded c refl in
    record { written = h.1; is_record = h.2; passes = h.0; room = le-leb _ _ (record_fits c h.1 h.2) }

module _ (input : List ℕ) {a : Result ℕ RunError} {after : LentMemory} (h : Runs (image_in input) (input_program input) invalid_channels program_lends a after) where
  abbrev f : Writable input
  f = writable input

  -- so it is written whole
  said : ran_said a ≡ wrote (length (encode f.written))
  said = h.answer ∙ rw (f.passes, f.is_record, f.room)

  left : after.output ≡ over (encode f.written) (replicate (record_bytes program_entries) 0)
  left = h.output ∙ rw (f.is_record, f.room)

-- the answer is what the writer wrote
pub written_by : (a : Result ℕ RunError) (n : ℕ) → ran_said a ≡ wrote n → a ≡ Ok n
written_by (Ok k) n e = cc
written_by (Err x) n e = let z : ◌≡◌ {A = ℕ} 0 1 = cc in absurd (omega arith)

module _ (input : List ℕ) {before : LentMemory} {a : Result ℕ RunError} {after : LentMemory} {n : ℕ} (same : before ≡ program_lends)
    (h : Runs (image_in input) (input_program input) invalid_channels before a after) (e : n ≡ result_unwrap_or a 0) where
  lent_so : Runs (image_in input) (input_program input) invalid_channels program_lends a after
  lent_so = rw (← same) h

  abbrev record_length : ℕ
  record_length = length (encode (writable input).written)

  is_written : a ≡ Ok record_length
  is_written = written_by a record_length (said input lent_so)

  counts : n ≡ record_length
  counts = e ∙ ap (λ (x : Result ℕ RunError). result_unwrap_or x 0) is_written

  pub outputs : (r : ProgramOutput) → r.bytes ≡ after.output → r.count ≡ n → Outputs input r
  outputs r b c = (after.rows, after.trace, rw (b, c, counts, ← is_written) lent_so)

pub record_written : RecordWritten
record_written input r (rows, trace, h) =
    let f = writable input in
    (f.written, f.is_record, ap count (said input h), left input h)

-- as many of n bytes as there is room for are the first n, or all
pub first_taken : (n : ℕ) (input : List ℕ) → length input ≡ input_bytes → take (min n input_bytes) input ≡ take n input
first_taken n input l = rw (← l) (take_min n input)

-- what the program answers is no longer than the longest record
pub answer_fits : (x : Option ℕ) (input : List ℕ) (r : ProgramOutput) → Answers x input r → r.count ≤ record_bytes program_entries
answer_fits (Some n) input r o =
    let f = writable (take n input) in
    let e : r.count ≡ length (encode f.written) = ap count (said (take n input) o.2) in
    omega (arith, e, leb-true (length (encode f.written)) (record_bytes program_entries) f.room)
answer_fits None input r o = omega (arith, o.0)
