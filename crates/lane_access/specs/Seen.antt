-- Memory as the code sees it (document 01, "Written byte"): the image, and past its end the rows and zeros.
use Rattle.std.specs.Prelude.{cond, List, [], ◌∷◌, ℕ, zero, suc, ◌-◌, ◌≤◌, ltb, length, None, Option, Some}
use Rattle.rv32_arithmetic.specs.Bits.{join}
use Rattle.riscv32imc.specs.Constants.{image_base}
use Rattle.lane_word.specs.Word.{constant, lanes}
use Rattle.lane_word.specs.Told.{told_by}
use Rattle.predicate_semantics.specs.Program.{initial}
use Rattle.predicate_semantics.specs.Memory.{Written, LaneBytes}
use Rattle.lane_memory.specs.Rows.{load_byte, told_byte}

-- where an address lies in the image
abbrev pub offset_of : ℕ → ℕ
offset_of a = a - image_base

-- the byte at an address: below the image's end nothing is written, so the rows count only past it
unfoldable pub seen : List ℕ → List ℕ → LaneBytes
seen image rows a = cond (ltb (offset_of a) (length image)) (constant lanes (initial image a)) (load_byte rows a 0)

-- the image's byte there; none past its end
unfoldable pub image_seen : List ℕ → ℕ → Option ℕ
image_seen image a = cond (ltb (offset_of a) (length image)) (Some (initial image a)) None

-- what one value tells of it: a byte of the image is told, a written one where its row's mark says so, and what was not written is 0
unfoldable pub told_seen : List ℕ → List ℕ → ℕ → Option ℕ
told_seen image rows a = cond (ltb (offset_of a) (length image)) (Some (initial image a)) (told_byte rows a 0)

-- the little-endian number in n bytes from an address where each of them is told; else only the lanes tell
unfoldable pub told_read : (ℕ → Option ℕ) → ℕ → ℕ → Option ℕ
told_read told zero a = Some 0
told_read told (suc n) a = told_by join (told a) (told_read told n (suc a))

-- every written address is at or above a number: stores below the image's end are refused
abbrev pub Above : ℕ → List Written → Type 0
Above e [] = Unit {0}
Above e (w ∷ ws) = (e ≤ w.address) × Above e ws
