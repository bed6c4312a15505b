-- Memory and its limits.
use Rattle.std.specs.Prelude.{ℕ}

-- Written byte: the first address of memory, and of the image
abbrev pub image_base : ℕ
image_base = 0x80000000

-- Who causes a refusal: the bytes of the largest image
abbrev pub max_image_bytes : ℕ
max_image_bytes = 1048576

-- Written byte: the bytes of memory
abbrev pub max_memory_bytes : ℕ
max_memory_bytes = 2097152

-- Who causes a refusal: the most steps of a run
abbrev pub max_steps : ℕ
max_steps = 1000000
