-- What the code's answers are in the semantics.
use Rattle.std.specs.Prelude.{List, ℕ, Option, Ok, Err, Result}
use Rattle.predicate_answer.specs.declared.Rv32Error.{Rv32Error}
use Rattle.predicate_answer.specs.Refusal.{refusal_of}
use Rattle.predicate_semantics.specs.Tested.{Tested, passed, refused, ◌>>=◌}
use Rattle.predicate_semantics.specs.Lane.{inside}
use Rattle.lane_access.specs.Seen.{told_seen, told_read}

-- a value that passed its tests, or the refusal that the error stands for
abbrev pub tested_of : {A : Type 0} → Result A Rv32Error → Tested A
tested_of (Ok a) = passed a
tested_of (Err e) = refused (refusal_of e)

-- a load: range, then the value that tells its bytes where each of them is told
unfoldable pub told_load : List ℕ → List ℕ → ℕ → ℕ → Tested (Option ℕ)
told_load image rows n a = do
  _ ← inside a n
  passed (told_read (told_seen image rows) n a)
