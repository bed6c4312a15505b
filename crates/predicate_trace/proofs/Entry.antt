-- What straight-line code leaves of a trace's entry. Assumes nothing.
use mathlib.Core.Path.{◌≡◌}
use mathlib.Core.List.{List}
use Prim.Native.Nat.{ℕ, suc, ◌+◌, ◌<◌}
use native.Mathlib.Numerals.{add-four, add_eight}
use native.Mathlib.Omega.{arith}
use lib.ListN.{set}
use lib.Seq.{sets}
use Rattle.little_endian.specs.Number as number
use Rattle.little_endian.specs.Pack.{pack}
use Rattle.little_endian.proofs.SetLaws.{sets_one}
use Rattle.predicate_trace.specs.declared.PredicateControlStep.{PredicateControlStep}
use Rattle.predicate_trace.specs.Trace.{step_widths, step_values}

pub entry_put : (l : List ℕ) {l1 l2 l3 : List ℕ} (i : ℕ) (s : PredicateControlStep) → s.instruction_bytes < 256
    → l1 ≡ sets l i (number.bytes 4 s.program_counter) → l2 ≡ sets l1 (i + 4) (number.bytes 4 s.instruction_word)
    → l3 ≡ sets (set l2 (i + 8) s.instruction_bytes) (i + 9) (number.bytes 4 s.next_program_counter)
    → l3 ≡ sets l i (pack step_widths (step_values s))
entry_put l i s b p1 p2 p3 =
    let n9 : i + 9 ≡ suc (i + 8) = omega arith in
    rw (p3, sets_one _ (i + 8) _ b, p2, p1, n9, add_eight i, add-four i)
