use Rattle.std.proofs.Common.{◌≡◌, length}
use Rattle.lane_word.specs.Word.{lanes}
use Rattle.predicate_semantics.specs.Memory.{read}
use Rattle.lane_access.specs.Seen.{seen}
use Rattle.lane_access.proofs.Loads.{rest}
use Rattle.lane_access.proofs.join_bytes.Given as goal

abbrev pub invariant-loop-k : goal.invariant-loop-k
invariant-loop-k l =
    (length l.values ≡ lanes) × (record { values = l.values; known = l.known } ≡ rest (read lanes (seen l.image l.rows)) l.width l.address l.k)
