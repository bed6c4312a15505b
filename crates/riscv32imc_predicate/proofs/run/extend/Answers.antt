use Rattle.std.proofs.Common.{◌≡◌, length, sym, rules}
use Rattle.lane_word.specs.Word.{lanes}
use Rattle.lane_word.proofs.Words.{unary_id}
use Rattle.riscv32imc_predicate.proofs.run.extend.Goals as goal

pub returns-in-Unchanged : goal.returns-in-Unchanged
returns-in-Unchanged c = let size : length c.args.word.values ≡ lanes = search rules in rw c.in-Unchanged.is (sym (unary_id c.args.word), size)
