-- The worked expansions, by computation. Assumes nothing.
use mathlib.Core.Path.{refl}
use Rattle.rv32_arithmetic.specs.Bits.{sign_extend}
use Rattle.riscv32imc.specs.Expansion.{place, cOperations, cArithmetic, quadrant1, cRegisters, quadrant2, expand}
use Rattle.riscv32imc.specs.Examples.{ExamplesExpand}

pub examples_expand : ExamplesExpand
unfolding sign_extend place cOperations cArithmetic quadrant1 cRegisters quadrant2 expand
examples_expand = refl
