-- Record: a trace's bytes, an entry for each step, as the body of item 03.
use Rattle.std.specs.Prelude.{cond, List, [], ◌∷◌, map, ℕ, suc, ◌+◌, ◌*◌, ◌/◌, leb, get_or, length}
use Rattle.std.proofs.lemmas.List.Edits.{sets}
use Rattle.little_endian.specs.Pack.{total, pack, packs, unpacks}
use Rattle.predicate_trace.specs.declared.PredicateControlStep.{PredicateControlStep}

-- program counter, word after expansion, length, next program counter
abbrev pub step_widths : List ℕ
step_widths = 4 ∷ 4 ∷ 1 ∷ 4 ∷ []

-- the bytes of an entry
abbrev pub entry_bytes : ℕ
entry_bytes = total step_widths

-- the whole entries of lent bytes
abbrev pub entry_count : List ℕ → ℕ
entry_count trace = length trace / entry_bytes

-- a step as its four numbers, and back
abbrev pub step_values : PredicateControlStep → List ℕ
step_values s = s.program_counter ∷ s.instruction_word ∷ s.instruction_bytes ∷ s.next_program_counter ∷ []

abbrev pub step_of : List ℕ → PredicateControlStep
step_of vs =
    record {
      program_counter = get_or vs 0 0;
      instruction_word = get_or vs 1 0;
      instruction_bytes = get_or vs 2 0;
      next_program_counter = get_or vs 3 0;
    }

-- the entries of steps, one after another
abbrev pub trace_bytes : List PredicateControlStep → List ℕ
trace_bytes ss = packs [] step_widths (map step_values ss)

-- n entries read as control steps, each after p other bytes: none in a trace
abbrev pub steps_at : ℕ → ℕ → List ℕ → List PredicateControlStep
steps_at p n bs = map step_of (unpacks p step_widths n bs)

-- a step's entry at a place of lent bytes; one that does not lie inside is not written
unfoldable pub put_entry : List ℕ → ℕ → PredicateControlStep → List ℕ
put_entry bs at s = cond (leb (at + entry_bytes) (length bs)) (sets bs at (pack step_widths (step_values s))) bs

-- steps' entries one after another, from the k-th on
unfoldable pub put_entries : List ℕ → ℕ → List PredicateControlStep → List ℕ
put_entries bs k [] = bs
put_entries bs k (s ∷ ss) = put_entries (put_entry bs (k * entry_bytes) s) (suc k) ss
