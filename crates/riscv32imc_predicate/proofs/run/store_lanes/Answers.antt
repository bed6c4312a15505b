use Rattle.std.proofs.Common.{◌≡◌, length, rules}
use Rattle.lane_word.specs.Word.{lanes}
use Rattle.lane_memory.proofs.Laws.{holds_store, cleared_store}
use Rattle.riscv32imc_predicate.proofs.run.store_lanes.Goals as goal

pub returns : goal.returns
returns c =
    let a = c.args in
    let size : length a.word.values ≡ lanes = search rules in
    rw c.store.ensures (record {
      fresh = c.new_bytes-new.ensures;
      same_rows = cleared_store a.rows.now a.width a.address a.word size;
      holds = λ k m h f g. holds_store h a.width a.address a.word size f g;
    })
