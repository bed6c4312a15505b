-- What both runs are fed with: an image, its symbols, the core that runs them, and memory as it starts.
use Rattle.std.specs.Prelude.{Bool, ◌&&◌, cond, List, ℕ, ◌+◌, ◌-◌, leb, ltb, get_or, length}
use Rattle.std.proofs.Math.Option.{Option}
use Rattle.riscv32imc.specs.Constants.{image_base, max_image_bytes}
use Rattle.riscv_decode.specs.declared.Operation.{Operation}
use Rattle.predicate_semantics.specs.declared.Rv32SymbolLayout.{Rv32SymbolLayout}

-- how a halfword expands, which operation a word is after some number of completed steps, and how many registers there are
pub record Core : Type 0 where
  pub expand : ℕ → Option ℕ
  pub decode : ℕ → ℕ → Option Operation
  pub registers : ℕ

-- an image with its symbols, and the core
pub record Program : Type 0 where
  pub core : Core
  pub image : List ℕ
  pub symbols : Rv32SymbolLayout

-- Written byte: the address past memory's end
abbrev pub memory_end : ℕ
memory_end = 0x80200000

-- Written byte: where a run ends
abbrev pub stop : ℕ
stop = 0x801FFFFC

-- the word that lies there
abbrev pub stop_word : ℕ
stop_word = 0x00100073

-- Written byte: x2 before any step
abbrev pub stack_pointer : ℕ
stack_pointer = 0x801FFFF0

-- how far apart they lie: three words each
abbrev pub event_stride : ℕ
event_stride = 12

-- the byte that memory starts with at an address: the image's, 0 past it and below memory
unfoldable pub initial : List ℕ → ℕ → ℕ
initial image a = cond (ltb a image_base) 0 (get_or image (a - image_base) 0)

-- the address past the image's last byte
abbrev pub image_end : Program → ℕ
image_end p = image_base + length p.image

-- no refusal 1 of an image of so many bytes
unfoldable pub sized : ℕ → Bool
sized size = ltb 0 size && leb size max_image_bytes

-- an address in memory
unfoldable pub in_memory : ℕ → Bool
in_memory a = leb image_base a && ltb a memory_end

-- no refusal 2
unfoldable pub symbols_placed : Rv32SymbolLayout → Bool
symbols_placed s = in_memory s.entry && in_memory s.event_count && in_memory s.events
