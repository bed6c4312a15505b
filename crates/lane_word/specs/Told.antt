-- Words told by one value: a word whose lanes all share and know a value need not be held lane by lane.
use Rattle.std.specs.Prelude.{ℕ, None, Option, Some}
use Rattle.lane_word.specs.declared.LaneWord.{LaneWord}
use Rattle.lane_word.specs.Word.{lanes, constant}

-- one value stands for every lane; without it the word does
abbrev pub word_of : Option ℕ → LaneWord → LaneWord
word_of (Some v) w = constant lanes v
word_of None w = w

-- an operation of two values; of other words only the lanes tell
abbrev pub told_by : (ℕ → ℕ → ℕ) → Option ℕ → Option ℕ → Option ℕ
told_by f (Some a) (Some b) = Some (f a b)
told_by f (Some a) None = None
told_by f None r = None
