use Rattle.std.proofs.Common.{◌≡◌, drop}
use Rattle.riscv_decode.specs.Rows.{find_row}
use Rattle.riscv_decode.proofs.rows.find_row.Given as goal

abbrev pub invariant-loop-row : goal.invariant-loop-row
invariant-loop-row l = find_row l.fn.rows l.fn.word ≡ find_row (drop l.row-index l.fn.rows) l.fn.word
