-- What a halfword expands to (Halfword and word): the manual's RVC instruction listings in their order; what is reserved there, or floating point, is refused.
use Rattle.std.specs.Prelude.{cond, ℕ, ◌+◌, ◌*◌, ◌%◌, ◌^◌, eqb, None, Option, Some}
use Rattle.rv32_arithmetic.specs.Bits.{slice, sign_extend}
use Rattle.riscv32imc.specs.Formats.{encode_i, encode_r, encode_s, encode_b, encode_u, encode_j}

-- the low two bits, h[1:0]
abbrev pub quadrant : ℕ → ℕ
quadrant h = h % 4

-- the row within a quadrant
abbrev pub funct3 : ℕ → ℕ
funct3 h = slice h 15 13

-- rd, rs1 or rd/rs1
abbrev pub rd : ℕ → ℕ
rd h = slice h 11 7

-- the second source
abbrev pub rs2 : ℕ → ℕ
rs2 h = slice h 6 2

-- rs1' or rd'/rs1', a field of three bits that names x8 to x15
abbrev pub rs1' : ℕ → ℕ
rs1' h = slice h 9 7 + 8

-- rd', such a field too
abbrev pub rd' : ℕ → ℕ
rd' h = slice h 4 2 + 8

-- rs2', in the same place
abbrev pub rs2' : ℕ → ℕ
rs2' h = rd' h

-- h[high:low] as the bits of an immediate from `at` up
unfoldable pub place : ℕ → ℕ → ℕ → ℕ → ℕ
place h high low at = slice h high low * 2 ^ at

-- C.ADDI4SPN: nzuimm[5:4|9:6|2|3]
abbrev pub addi4spn_imm : ℕ → ℕ
addi4spn_imm h = place h 12 11 4 + place h 10 7 6 + place h 6 6 2 + place h 5 5 3

-- C.ADDI4SPN: addi rd', x2, nzuimm; reserved with nzuimm 0, so 0000 is refused
unfoldable pub cAddi4spn : ℕ → Option ℕ
cAddi4spn h = cond (eqb (addi4spn_imm h) 0) None (Some (encode_i 0x13 0 (rd' h) 2 (addi4spn_imm h)))

-- C.LW, C.SW: uimm[5:3], uimm[2|6]
abbrev pub lw_offset : ℕ → ℕ
lw_offset h = place h 12 10 3 + place h 6 6 2 + place h 5 5 6

-- C.LW: lw rd', uimm(rs1')
abbrev pub cLw : ℕ → Option ℕ
cLw h = Some (encode_i 0x03 2 (rd' h) (rs1' h) (lw_offset h))

-- C.SW: sw rs2', uimm(rs1')
abbrev pub cSw : ℕ → Option ℕ
cSw h = Some (encode_s 2 (rs1' h) (rs2' h) (lw_offset h))

-- quadrant 0 by funct3: the other rows are floating point or reserved
unfoldable pub quadrant0 : ℕ → Option ℕ
quadrant0 h =
    cond (eqb (funct3 h) 0) (cAddi4spn h)
    (cond (eqb (funct3 h) 2) (cLw h)
    (cond (eqb (funct3 h) 6) (cSw h)
    None))

-- C.ADDI, C.LI, C.ANDI: imm[5], imm[4:0]
abbrev pub addi_imm : ℕ → ℕ
addi_imm h = place h 12 12 5 + place h 6 2 0

-- C.NOP, C.ADDI: addi rd, rd, imm; their hints, rd 0 or imm 0, expand too
abbrev pub cAddi : ℕ → Option ℕ
cAddi h = Some (encode_i 0x13 0 (rd h) (rd h) (sign_extend (addi_imm h) 6))

-- C.JAL, C.J: imm[11|4|9:8|10|6|7|3:1|5]
abbrev pub jOffset : ℕ → ℕ
jOffset h =
    place h 12 12 11 + place h 11 11 4 + place h 10 9 8 + place h 8 8 10 + place h 7 7 6 + place h 6 6 7 + place h 5 3 1
    + place h 2 2 5

abbrev pub cJump : ℕ → ℕ → Option ℕ
cJump link h = Some (encode_j link (sign_extend (jOffset h) 12))

-- C.JAL: jal x1, imm
abbrev pub cJal : ℕ → Option ℕ
cJal h = cJump 1 h

-- C.LI: addi rd, x0, imm; its hints, rd 0, expand too
abbrev pub cLi : ℕ → Option ℕ
cLi h = Some (encode_i 0x13 0 (rd h) 0 (sign_extend (addi_imm h) 6))

-- C.ADDI16SP: nzimm[9], nzimm[4|6|8:7|5]
abbrev pub addi16sp_imm : ℕ → ℕ
addi16sp_imm h = place h 12 12 9 + place h 6 6 4 + place h 5 5 6 + place h 4 3 7 + place h 2 2 5

-- C.ADDI16SP: addi x2, x2, nzimm; reserved with nzimm 0
unfoldable pub cAddi16sp : ℕ → Option ℕ
cAddi16sp h = cond (eqb (addi16sp_imm h) 0) None (Some (encode_i 0x13 0 2 2 (sign_extend (addi16sp_imm h) 10)))

-- C.LUI: nzimm[17], nzimm[16:12]
abbrev pub lui_imm : ℕ → ℕ
lui_imm h = place h 12 12 17 + place h 6 2 12

-- C.LUI: lui rd, nzimm; its hints, rd 0, expand too; reserved with nzimm 0, rd 0 included
unfoldable pub cLui : ℕ → Option ℕ
cLui h = cond (eqb (lui_imm h) 0) None (Some (encode_u 0x37 (rd h) (sign_extend (lui_imm h) 18)))

-- C.SRLI, C.SRAI: nzuimm[5], nzuimm[4:0]; not for RV32 with nzuimm[5] 1
unfoldable pub cShift : ℕ → ℕ → Option ℕ
cShift funct7 h =
    cond (eqb (slice h 12 12) 0) (Some (encode_i 0x13 5 (rs1' h) (rs1' h) (funct7 * 2 ^ 5 + slice h 6 2))) None

-- C.SRLI: srli rd', rd', nzuimm
abbrev pub cSrli : ℕ → Option ℕ
cSrli h = cShift 0 h

-- C.SRAI: srai rd', rd', nzuimm
abbrev pub cSrai : ℕ → Option ℕ
cSrai h = cShift 0x20 h

-- C.ANDI: andi rd', rd', imm
abbrev pub cAndi : ℕ → Option ℕ
cAndi h = Some (encode_i 0x13 7 (rs1' h) (rs1' h) (sign_extend (addi_imm h) 6))

-- an operation rd', rd', rs2'
abbrev pub cOperation : ℕ → ℕ → ℕ → Option ℕ
cOperation funct7 base_funct3 h = Some (encode_r funct7 base_funct3 (rs1' h) (rs1' h) (rs2' h))

-- C.SUB: sub
abbrev pub cSub : ℕ → Option ℕ
cSub h = cOperation 0x20 0 h

-- C.XOR: xor
abbrev pub cXor : ℕ → Option ℕ
cXor h = cOperation 0 4 h

-- C.OR: or
abbrev pub cOr : ℕ → Option ℕ
cOr h = cOperation 0 6 h

-- C.AND: and
abbrev pub cAnd : ℕ → Option ℕ
cAnd h = cOperation 0 7 h

-- the rows of h[15:13] 100 and h[11:10] 11, by h[12] and h[6:5]: with h[12] 1, reserved
unfoldable pub cOperations : ℕ → Option ℕ
cOperations h =
    cond (eqb (slice h 12 12) 0)
    (cond (eqb (slice h 6 5) 0) (cSub h)
    (cond (eqb (slice h 6 5) 1) (cXor h)
    (cond (eqb (slice h 6 5) 2) (cOr h)
    (cAnd h))))
    None

-- the rows of funct3 100, by h[11:10]
unfoldable pub cArithmetic : ℕ → Option ℕ
cArithmetic h =
    cond (eqb (slice h 11 10) 0) (cSrli h)
    (cond (eqb (slice h 11 10) 1) (cSrai h)
    (cond (eqb (slice h 11 10) 2) (cAndi h)
    (cOperations h)))

-- C.J: jal x0, imm
abbrev pub cJ : ℕ → Option ℕ
cJ h = cJump 0 h

-- C.BEQZ, C.BNEZ: imm[8|4:3], imm[7:6|2:1|5]
abbrev pub beqz_offset : ℕ → ℕ
beqz_offset h = place h 12 12 8 + place h 11 10 3 + place h 6 5 6 + place h 4 3 1 + place h 2 2 5

abbrev pub cBranch : ℕ → ℕ → Option ℕ
cBranch base_funct3 h = Some (encode_b base_funct3 (rs1' h) 0 (sign_extend (beqz_offset h) 9))

-- C.BEQZ: beq rs1', x0, imm
abbrev pub cBeqz : ℕ → Option ℕ
cBeqz h = cBranch 0 h

-- C.BNEZ: bne rs1', x0, imm
abbrev pub cBnez : ℕ → Option ℕ
cBnez h = cBranch 1 h

-- quadrant 1 by funct3, 7 last
unfoldable pub quadrant1 : ℕ → Option ℕ
quadrant1 h =
    cond (eqb (funct3 h) 0) (cAddi h)
    (cond (eqb (funct3 h) 1) (cJal h)
    (cond (eqb (funct3 h) 2) (cLi h)
    (cond (eqb (funct3 h) 3) (cond (eqb (rd h) 2) (cAddi16sp h) (cLui h))
    (cond (eqb (funct3 h) 4) (cArithmetic h)
    (cond (eqb (funct3 h) 5) (cJ h)
    (cond (eqb (funct3 h) 6) (cBeqz h)
    (cBnez h)))))))

-- C.SLLI: slli rd, rd, nzuimm[5], nzuimm[4:0]; not for RV32 with nzuimm[5] 1; its hints, rd 0 or nzuimm 0, expand too
unfoldable pub cSlli : ℕ → Option ℕ
cSlli h = cond (eqb (slice h 12 12) 0) (Some (encode_i 0x13 1 (rd h) (rd h) (slice h 6 2))) None

-- C.LWSP: uimm[5], uimm[4:2|7:6]
abbrev pub lwsp_offset : ℕ → ℕ
lwsp_offset h = place h 12 12 5 + place h 6 4 2 + place h 3 2 6

-- C.LWSP: lw rd, uimm(x2); reserved with rd 0
unfoldable pub cLwsp : ℕ → Option ℕ
cLwsp h = cond (eqb (rd h) 0) None (Some (encode_i 0x03 2 (rd h) 2 (lwsp_offset h)))

-- C.JR: jalr x0, 0(rs1); reserved with rs1 0
abbrev pub cJr : ℕ → Option ℕ
cJr h = cond (eqb (rd h) 0) None (Some (encode_i 0x67 0 0 (rd h) 0))

-- C.MV: add rd, x0, rs2; its hints, rd 0, expand too
abbrev pub cMv : ℕ → Option ℕ
cMv h = Some (encode_r 0 0 (rd h) 0 (rs2 h))

-- C.EBREAK: ebreak
abbrev pub cEbreak : Option ℕ
cEbreak = Some 0x00100073

-- C.JALR: jalr x1, 0(rs1)
abbrev pub cJalr : ℕ → Option ℕ
cJalr h = Some (encode_i 0x67 0 1 (rd h) 0)

-- C.ADD: add rd, rd, rs2; its hints, rd 0, expand too
abbrev pub cAdd : ℕ → Option ℕ
cAdd h = Some (encode_r 0 0 (rd h) (rd h) (rs2 h))

-- the rows of funct3 100: by h[12], whether rs2 is 0, and whether rd/rs1 is
unfoldable pub cRegisters : ℕ → Option ℕ
cRegisters h =
    cond (eqb (slice h 12 12) 0)
    (cond (eqb (rs2 h) 0) (cJr h) (cMv h))
    (cond (eqb (rs2 h) 0) (cond (eqb (rd h) 0) cEbreak (cJalr h)) (cAdd h))

-- C.SWSP: uimm[5:2|7:6]
abbrev pub swsp_offset : ℕ → ℕ
swsp_offset h = place h 12 9 2 + place h 8 7 6

-- C.SWSP: sw rs2, uimm(x2)
abbrev pub cSwsp : ℕ → Option ℕ
cSwsp h = Some (encode_s 2 2 (rs2 h) (swsp_offset h))

-- quadrant 2 by funct3: the other rows are floating point
unfoldable pub quadrant2 : ℕ → Option ℕ
quadrant2 h =
    cond (eqb (funct3 h) 0) (cSlli h)
    (cond (eqb (funct3 h) 2) (cLwsp h)
    (cond (eqb (funct3 h) 4) (cRegisters h)
    (cond (eqb (funct3 h) 6) (cSwsp h)
    None)))

-- the expansion of a halfword: quadrant 3 holds the longer instructions
unfoldable pub expand : ℕ → Option ℕ
expand h =
    cond (eqb (quadrant h) 0) (quadrant0 h)
    (cond (eqb (quadrant h) 1) (quadrant1 h)
    (cond (eqb (quadrant h) 2) (quadrant2 h)
    None))
