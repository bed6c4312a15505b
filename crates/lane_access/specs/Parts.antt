-- A fetch in two parts: the word that an instruction spells, and its operation.
use Rattle.std.specs.Prelude.{ℕ, ◌%◌, Ok, Err, Result}
use Rattle.riscv_decode.specs.declared.Fetched.{Fetched}
use Rattle.predicate_answer.specs.declared.Rv32Error.{Rv32Error}
use Rattle.predicate_answer.specs.Refusal.{refusal_of}
use Rattle.predicate_semantics.specs.Program.{Core}
use Rattle.predicate_semantics.specs.Tested.{Tested, refused}
use Rattle.predicate_semantics.specs.Lane.{decode_word, expand_halfword}
use Rattle.lane_access.specs.declared.Spelling.{Spelling}
use Rattle.lane_access.specs.declared.Encoding.{Encoding}
use Rattle.lane_access.specs.declared.Encoding.TheVariants as encoding

module _ (core : Core) (steps : ℕ) where
  -- what a fetch is once its word is known
  abbrev pub spelling_of : Result Spelling Rv32Error → Tested Fetched
  spelling_of (Ok s) = decode_word core steps s.word s.length
  spelling_of (Err e) = refused (refusal_of e)

  -- .. and once its bytes are
  abbrev pub encoding_of : Result Encoding Rv32Error → Tested Fetched
  encoding_of (Ok (encoding.Four word)) = decode_word core steps word 4
  encoding_of (Ok (encoding.Two number)) = expand_halfword core steps (number % 65536)
  encoding_of (Err e) = refused (refusal_of e)
