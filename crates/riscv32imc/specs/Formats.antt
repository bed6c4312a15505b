-- The instruction formats (the manual, "Base Instruction Formats" and "Immediate Encoding Variants"): a word from its fields, highest first.
use Rattle.std.specs.Prelude.{ℕ, ◌+◌, ◌*◌, ◌^◌}
use Rattle.rv32_arithmetic.specs.Bits.{slice}

-- I-type: imm[11:0], rs1, funct3, rd, opcode
abbrev pub encode_i : ℕ → ℕ → ℕ → ℕ → ℕ → ℕ
encode_i opcode funct3 rd rs1 imm = slice imm 11 0 * 2 ^ 20 + rs1 * 2 ^ 15 + funct3 * 2 ^ 12 + rd * 2 ^ 7 + opcode

-- R-type: funct7, rs2, rs1, funct3, rd, and the opcode OP
abbrev pub encode_r : ℕ → ℕ → ℕ → ℕ → ℕ → ℕ
encode_r funct7 funct3 rd rs1 rs2 = funct7 * 2 ^ 25 + rs2 * 2 ^ 20 + rs1 * 2 ^ 15 + funct3 * 2 ^ 12 + rd * 2 ^ 7 + 0x33

-- S-type: imm[11:5], rs2, rs1, funct3, imm[4:0], and the opcode STORE
abbrev pub encode_s : ℕ → ℕ → ℕ → ℕ → ℕ
encode_s funct3 rs1 rs2 imm =
    slice imm 11 5 * 2 ^ 25 + rs2 * 2 ^ 20 + rs1 * 2 ^ 15 + funct3 * 2 ^ 12 + slice imm 4 0 * 2 ^ 7 + 0x23

-- B-type: imm[12|10:5], rs2, rs1, funct3, imm[4:1|11], and the opcode BRANCH
abbrev pub encode_b : ℕ → ℕ → ℕ → ℕ → ℕ
encode_b funct3 rs1 rs2 imm =
    slice imm 12 12 * 2 ^ 31 + slice imm 10 5 * 2 ^ 25 + rs2 * 2 ^ 20 + rs1 * 2 ^ 15 + funct3 * 2 ^ 12
    + slice imm 4 1 * 2 ^ 8 + slice imm 11 11 * 2 ^ 7 + 0x63

-- U-type: imm[31:12], rd, opcode
abbrev pub encode_u : ℕ → ℕ → ℕ → ℕ
encode_u opcode rd imm = slice imm 31 12 * 2 ^ 12 + rd * 2 ^ 7 + opcode

-- J-type: imm[20|10:1|11|19:12], rd, and the opcode JAL
abbrev pub encode_j : ℕ → ℕ → ℕ
encode_j rd imm =
    slice imm 20 20 * 2 ^ 31 + slice imm 10 1 * 2 ^ 21 + slice imm 11 11 * 2 ^ 20 + slice imm 19 12 * 2 ^ 12 + rd * 2 ^ 7
    + 0x6f
