-- The reader on both sides of each edge of a range and of its steps, as one table, and the worked example of a record.
use Rattle.std.specs.Prelude.{◌≡◌, Bool, true, false, not, ◌&&◌, List, [], ◌∷◌, ℕ, length}
use Rattle.std.proofs.Math.Option.{Option, none, some}
use Rattle.predicate_trace.specs.declared.PredicateControlStep.{PredicateControlStep}
use Rattle.predicate_semantics.specs.Program.{stop}
use Rattle.lane_record.specs.Format.{Record, accepted, encode}
use Rattle.lane_record.specs.Decode.{decode_record}

-- a first input, a number of lanes, the steps, and the lane operations
pub record Heading : Type 0 where
  pub first : ℕ
  pub lanes : ℕ
  pub steps : List PredicateControlStep
  pub operations : ℕ

abbrev pub headed : ℕ → ℕ → List PredicateControlStep → ℕ → Heading
headed first lanes steps operations = record { first = first; lanes = lanes; steps = steps; operations = operations }

-- with them, all else in order
abbrev pub record_with : Heading → Record
record_with h =
    accepted
    (record {
      first_input = h.first;
      lane_count = h.lanes;
      return_value = 0;
      symbolic_transitions = length h.steps;
      lane_value_operations = h.operations;
      sparse_memory_bytes = 4;
      event_count = 0;
    })
    [] h.steps

-- a record's bytes are read
abbrev pub is_read : Option Record → Bool
is_read none = false
is_read (some x) = true

abbrev pub is_taken : Heading → Bool
is_taken h = is_read (decode_record (encode (record_with h)))

-- all of a list are, and none of it
abbrev pub all_taken : List Heading → Bool
all_taken [] = true
all_taken (h ∷ hs) = is_taken h && all_taken hs

abbrev pub none_taken : List Heading → Bool
none_taken [] = true
none_taken (h ∷ hs) = not (is_taken h) && none_taken hs

-- C.JR x1
abbrev pub return_step : PredicateControlStep
return_step = record { program_counter = 0x80000000; instruction_word = 0x00008067; instruction_bytes = 2; next_program_counter = stop }

-- what a run can give
abbrev pub valid_headings : List Heading
valid_headings =
    -- no step over one lane, of the first byte and of the last too
    headed 7 1 [] 0
    ∷ headed 0 1 [] 0
    ∷ headed 255 1 [] 0
    -- a step over one lane, two, those of six channels and of twelve, and all 256
    ∷ headed 255 1 (return_step ∷ []) 1
    ∷ headed 254 2 (return_step ∷ []) 2
    ∷ headed 6 250 (return_step ∷ []) 250
    ∷ headed 12 244 (return_step ∷ []) 244
    ∷ headed 0 256 (return_step ∷ []) 256
    ∷ []

-- what none can
abbrev pub broken_headings : List Heading
broken_headings =
    -- no step over two lanes or more
    headed 7 2 [] 0
    ∷ headed 6 250 [] 0
    -- no lane
    ∷ headed 6 0 (return_step ∷ []) 0
    ∷ headed 6 0 [] 0
    -- a sum of 257
    ∷ headed 255 2 (return_step ∷ []) 2
    ∷ headed 6 251 (return_step ∷ []) 251
    ∷ headed 0 257 (return_step ∷ []) 257
    -- operations of another number of lanes
    ∷ headed 12 244 (return_step ∷ []) 250
    ∷ headed 7 1 [] 1
    ∷ []

-- the reader takes all of the first list, and none of the second
abbrev pub RangesTaken : Type 0
RangesTaken = all_taken valid_headings ≡ true

abbrev pub RangesBroken : Type 0
RangesBroken = none_taken broken_headings ≡ true

-- Record: the bytes of the example, an item a line
abbrev pub example_bytes : List ℕ
example_bytes =
    0x01 ∷ 0x06 ∷ 0xFA ∷ 0x00 ∷ 0x01 ∷ 0x00 ∷ 0x00 ∷ 0x00 ∷ 0x02 ∷ 0x00 ∷ 0x00 ∷ 0x00 ∷ 0xF4 ∷ 0x01 ∷ 0x00 ∷ 0x00 ∷ 0x04 ∷ 0x00 ∷ 0x00 ∷ 0x00 ∷ 0x00
    ∷ 0x03 ∷ 0x00 ∷ 0x00 ∷ 0x00 ∷ 0x80 ∷ 0x13 ∷ 0x05 ∷ 0x10 ∷ 0x00 ∷ 0x02 ∷ 0x02 ∷ 0x00 ∷ 0x00 ∷ 0x80
    ∷ 0x03 ∷ 0x02 ∷ 0x00 ∷ 0x00 ∷ 0x80 ∷ 0x67 ∷ 0x80 ∷ 0x00 ∷ 0x00 ∷ 0x02 ∷ 0xFC ∷ 0xFF ∷ 0x1F ∷ 0x80 ∷ []

-- .. and what they say
abbrev pub example_record : Record
example_record =
    accepted
    (record {
      first_input = 6;
      lane_count = 250;
      return_value = 1;
      symbolic_transitions = 2;
      lane_value_operations = 500;
      sparse_memory_bytes = 4;
      event_count = 0;
    })
    []
    (record { program_counter = 0x80000000; instruction_word = 0x00100513; instruction_bytes = 2; next_program_counter = 0x80000002 }
    ∷ record { program_counter = 0x80000002; instruction_word = 0x00008067; instruction_bytes = 2; next_program_counter = 0x801FFFFC } ∷ [])

-- each of the two is made of the other
pub record WorkedRecord : Type 0 where
  pub read : decode_record example_bytes ≡ some example_record
  pub written : encode example_record ≡ example_bytes
