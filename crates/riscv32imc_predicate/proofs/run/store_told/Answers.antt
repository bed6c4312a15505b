use Rattle.lane_memory.proofs.Laws.{holds_store_value, cleared_store_value}
use Rattle.riscv32imc_predicate.proofs.run.store_told.Goals as goal

pub returns : goal.returns
returns c =
    let a = c.args in
    rw c.store_value.ensures (record {
      fresh = c.new_bytes-new.ensures;
      same_rows = cleared_store_value a.rows.now a.width a.address a.value;
      holds = λ k m h f g. holds_store_value h a.width a.address a.value f g;
    })
