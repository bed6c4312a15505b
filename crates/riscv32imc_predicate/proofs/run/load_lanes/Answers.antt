use Rattle.std.specs.Prelude.{Err}
use Rattle.std.proofs.Common.{ap, ◌∙◌}
use Rattle.lane_word.specs.Word.{unary, lanes}
use Rattle.lane_access.specs.Seen.{seen}
use Rattle.lane_access.proofs.Laws.{accessed_word, accessed_is}
use Rattle.predicate_action.specs.Meaning.{extension_of}
use Rattle.riscv32imc_predicate.proofs.Filing.{unknown_size}
use Rattle.riscv32imc_predicate.proofs.run.load_lanes.Goals as goal

pub returns-in-Ok : goal.returns-in-Ok
returns-in-Ok c =
    let a = c.args in
    record {
      size = c.extend.ensures.1;
      is = λ i. c.extend.ensures.0 ∙ ap (unary (extension_of a.extension)) (accessed_word (seen a.image.now a.rows.now) a.width a.address i c.in-Ok.ensures);
    }

pub returns-in-Err : goal.returns-in-Err
returns-in-Err c =
    let a = c.args in
    record {
      size = rw c.unknown.ensures (unknown_size lanes);
      is = λ i. let q = accessed_is (seen a.image.now a.rows.now) a.width a.address (Err _) i c.in-Err.ensures in absurd (cc);
    }
