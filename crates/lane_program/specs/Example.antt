-- Record: the worked example of the program, from the input's bytes to the record's.
use Rattle.std.specs.Prelude.{◌≡◌, List, [], ◌∷◌, ℕ}
use Rattle.std.proofs.Math.Option.{some, map}
use Rattle.lane_record.specs.Format.{encode}
use Rattle.lane_record.specs.Runs.{record_of}
use Rattle.lane_record.specs.Cases.{example_bytes}
use Rattle.lane_program.specs.Program.{program_call}

-- entry, event count, events; C.LI x10, 1 and C.JR x1
abbrev pub example_input : List ℕ
example_input =
    0x00 ∷ 0x00 ∷ 0x00 ∷ 0x80
    ∷ 0x00 ∷ 0x10 ∷ 0x00 ∷ 0x80
    ∷ 0x04 ∷ 0x10 ∷ 0x00 ∷ 0x80
    ∷ 0x05 ∷ 0x45 ∷ 0x82 ∷ 0x80 ∷ []

-- the whole record, byte for byte
abbrev pub WorkedInput : Type 0
WorkedInput = map encode (record_of (program_call example_input)) ≡ some example_bytes
