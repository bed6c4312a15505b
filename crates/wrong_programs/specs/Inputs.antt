-- The inputs at which the wrong programs are caught: small images over a range, with as little lent as their runs need.
use Rattle.std.specs.Prelude.{List, ◌++◌, ℕ, ◌*◌, replicate}
use Rattle.little_endian.specs.Number.{bytes}
use Rattle.riscv32imc.specs.Constants.{image_base}
use Rattle.lane_word.specs.declared.InputRange.{InputRange}
use Rattle.predicate_semantics.specs.declared.Rv32Program.{Rv32Program}
use Rattle.predicate_semantics.specs.declared.Rv32SymbolLayout.{Rv32SymbolLayout}
use Rattle.predicate_semantics.specs.Call.{Call}
use Rattle.predicate_semantics.specs.Cases.{symbols, word, half, return1}
use Rattle.predicate_trace.specs.Trace.{entry_bytes}
use Rattle.lane_memory.specs.LentRows.{row_bytes}
use Rattle.riscv32imc_predicate.specs.Outcome.{call_over}
use Rattle.lane_library.specs.Inputs.{input_program, image_in}

-- Record: the input of the program lane-run, the three symbols and the image after them
abbrev pub input_bytes : Rv32SymbolLayout → List ℕ → List ℕ
input_bytes s image = bytes 4 s.entry ++ bytes 4 s.event_count ++ bytes 4 s.events ++ image

-- what a program is given: what its caller chooses, and what is lent; the run itself takes no output
pub record Input : Type 0 where
  pub image : List ℕ
  pub program : Rv32Program
  pub range : InputRange
  pub rows : List ℕ
  pub trace : List ℕ
  pub output : List ℕ

-- the call that it is
abbrev pub call_at : Input → Call
call_at x = call_over x.image x.program x.range x.rows x.trace

-- the bytes that name a channel of twelve: 0 to 5, which no invalid channel is, are among them
abbrev pub twelve_channels : InputRange
twelve_channels = record { first = 0; last = 11 }

-- the bytes that name none of twelve
abbrev pub invalid_of_twelve : InputRange
invalid_of_twelve = record { first = 12; last = 255 }

-- rows of another content than zeros, so that it shows whether they are cleared
abbrev pub lent_byte : ℕ
lent_byte = 7

-- an image at the example's symbols, as they are taken from an input's bytes, over a range, with so many rows and entries and enough output lent
abbrev pub lending : List ℕ → ℕ → ℕ → InputRange → Input
lending image rows entries range =
    record {
      image = image_in (input_bytes (symbols image_base) image);
      program = input_program (input_bytes (symbols image_base) image);
      range = range;
      rows = replicate (rows * row_bytes) lent_byte;
      trace = replicate (entries * entry_bytes) 0;
      output = replicate 256 0;
    }

-- Threads on both sides of an edge: C.JR x1 alone, which returns the input, so that the return value is not uniform
abbrev pub returns_input : InputRange → Input
returns_input = lending (half 0x8082) 4 1

-- Threads on both sides of an edge: C.MV x10, x11 and C.JR x1, which returns what a register holds that is not set
abbrev pub returns_unset : InputRange → Input
returns_unset = lending (half 0x852E ++ half 0x8082) 4 2

-- Record: the worked example, C.LI x10, 1 and C.JR x1
abbrev pub returns1 : InputRange → Input
returns1 = lending return1 4 2

-- .. and with 0 in place of 1
abbrev pub returns0 : InputRange → Input
returns0 = lending (half 0x4501 ++ half 0x8082) 4 2

-- ADDI x10, x0, 1, then C.JR x1 and a C.NOP that is not reached, or the C.NOP first
abbrev pub jump_first : InputRange → Input
jump_first = lending (word 0x00100513 ++ half 0x8082 ++ half 0x0001) 4 3

abbrev pub nop_first : InputRange → Input
nop_first = lending (word 0x00100513 ++ half 0x0001 ++ half 0x8082) 4 3

-- SW x0, 12(x2) over the stop word, or SW x0, 8(x2) below it, then the example
abbrev pub stores_at_stop : InputRange → Input
stores_at_stop = lending (word 0x00012623 ++ return1) 8 3

abbrev pub stores_below : InputRange → Input
stores_below = lending (word 0x00012423 ++ return1) 8 3

-- one event of an operation that C.LI loads into x12: LUI x11, 80001; C.LI; C.SW x12, 4(x11); C.LI x12, 1; SW x12, 0(x11); the example
abbrev pub raises : ℕ → InputRange → Input
raises loads = lending (word 0x800015B7 ++ half loads ++ half 0xC1D0 ++ half 0x4605 ++ word 0x00C5A023 ++ return1) 12 7

-- .. operation 2, or 3
abbrev pub raises2 : InputRange → Input
raises2 = raises 0x4609

abbrev pub raises3 : InputRange → Input
raises3 = raises 0x460D

-- SLTIU x10, x10, 12 and C.JR x1: 1 over the twelve channels, 0 over the bytes that name none of them
abbrev pub is_below12 : InputRange → Input
is_below12 = lending (word 0x00C53513 ++ half 0x8082) 4 2
