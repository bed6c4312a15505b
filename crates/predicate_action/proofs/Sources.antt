-- The registers that the action of a decoded operation reads are below 32, so that they index the run's registers. Assumes nothing.
use Rattle.std.specs.Prelude.{Some}
use mathlib.Core.Bool.{Bool, ◌&&◌}
use Prim.Native.Nat.{ℕ}
use native.Mathlib.Omega.{arith}
use borrow.Author.Tests.{lt-ltb}
use lib.Dec.{T, ltb, ltb→lt}
use lib.Ieee.Fits.{and_l, and_r}
use mathlib.Core.Path.{◌≡◌}
use Rattle.riscv_decode.specs.declared.Operation.{Operation}
use Rattle.riscv_decode.specs.Operands.{rs1_field, rs2_field}
use Rattle.riscv_decode.specs.Listing.{listing, operation}
use Rattle.riscv_decode.specs.Decode.{decode_of}
use Rattle.riscv_decode.proofs.Listed.{all_lines, decoded_passes}
use Rattle.predicate_action.specs.declared.Reading.{Reading}
use Rattle.predicate_action.specs.Meaning.{meaning}
use Rattle.predicate_action.specs.Reading.{reading_of, ReadsBelow}

-- both sources are registers, as a test
abbrev registers : Reading → Bool
registers r = ltb r.rs1 32 && ltb r.rs2 32

both_below : (r : Reading) → T (registers r) → ReadsBelow 32 r
both_below r t = (
  ltb→lt r.rs1 32 (and_l (ltb r.rs1 32) (ltb r.rs2 32) t),
  ltb→lt r.rs2 32 (and_r (ltb r.rs1 32) (ltb r.rs2 32) t),
)

-- the sources of each line's operation are fields of the word, of 5 bits each, or 0
lines_below : (w pc : ℕ) → T (all_lines (λ o. registers (reading_of (meaning o pc))) listing w)
unfolding listing operation meaning
lines_below w pc = rw (lt-ltb (rs1_field w) 32 (omega arith), lt-ltb (rs2_field w) 32 (omega arith)) tt

-- a decoded operation, at any program counter
pub sources_below : (w pc : ℕ) (o : Operation) → decode_of w ≡ Some o → ReadsBelow 32 (reading_of (meaning o pc))
sources_below w pc o d =
    both_below (reading_of (meaning o pc)) (decoded_passes (λ o. registers (reading_of (meaning o pc))) w o (lines_below w pc) d)
