-- What the halfwords of four small instructions expand to, C.LI, C.JR, C.XOR and C.MV. The proof stands in proofs/Examples.
use Rattle.std.specs.Prelude.{[], ◌∷◌, map, ◌≡◌, Some}
use Rattle.riscv32imc.specs.Expansion.{expand}

-- C.LI x10, 1; C.JR x1; C.XOR x11, x11; C.MV x10, x11
abbrev pub ExamplesExpand : Type 0
ExamplesExpand =
    map expand (0x4505 ∷ 0x8082 ∷ 0x8dad ∷ 0x852e ∷ [])
    ≡ Some 0x00100513 ∷ Some 0x00008067 ∷ Some 0x00b5c5b3 ∷ Some 0x00b00533 ∷ []
