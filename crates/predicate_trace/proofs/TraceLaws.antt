-- Control steps written as entries of a trace, and read again. Assumes nothing.
use mathlib.Core.Path.{◌≡◌, refl, ap, ◌∙◌}
use mathlib.Core.List.{List, [], ◌∷◌, ◌++◌, map}
use Prim.Native.Nat.{ℕ, suc, ◌+◌, ◌*◌, ◌%◌, ◌≤◌}
use native.Mathlib.Omega.{arith}
use lib.ListN.{length, drop, length-map}
use lib.Seq.{sets, length-sets}
use borrow.Author.Tests.{le-leb}
use Rattle.little_endian.specs.Pack.{pack, AllFit}
use Rattle.little_endian.specs.Lent.{over}
use Rattle.little_endian.proofs.PackLaws.{unpacks_packs}
use Rattle.little_endian.proofs.SetLaws.{sets_append, sets_over}
use Rattle.predicate_trace.specs.declared.PredicateControlStep.{PredicateControlStep}
use Rattle.predicate_trace.specs.Trace.{entry_bytes, step_widths, step_values, step_of, trace_bytes, steps_at, entry_count, put_entry, put_entries}

pub steps_values : (ss : List PredicateControlStep) → map step_of (map step_values ss) ≡ ss
steps_values [] = refl
steps_values (s ∷ ss) = ap (λ (r : List PredicateControlStep). s ∷ r) (steps_values ss)

pub length_trace : (ss : List PredicateControlStep) → length (trace_bytes ss) ≡ length ss * entry_bytes
length_trace [] = refl
length_trace (s ∷ ss) = omega (arith, length_trace ss)

-- entries written over others and read again
pub trace_back : (ss : List PredicateControlStep) (t : List ℕ) → AllFit step_widths (map step_values ss) → steps_at 0 (length ss) (over (trace_bytes ss) t) ≡ ss
trace_back ss t f =
    rw (← length-map ss step_values)
    (ap (map step_of) (unpacks_packs [] step_widths (map step_values ss) (drop (length (trace_bytes ss)) t) f) ∙ steps_values ss)

-- an entry that lies inside is written
pub entry_inside : (bs : List ℕ) (at : ℕ) (c : PredicateControlStep) → at + entry_bytes ≤ length bs → put_entry bs at c ≡ sets bs at (pack step_widths (step_values c))
unfolding put_entry
entry_inside bs at c h = rw (le-leb _ _ h)

-- an entry holds a length as one byte
pub entry_byte : (bs : List ℕ) (at pc word size next : ℕ)
    → put_entry bs at (record { program_counter = pc; instruction_word = word; instruction_bytes = size % 256; next_program_counter = next })
    ≡ put_entry bs at (record { program_counter = pc; instruction_word = word; instruction_bytes = size; next_program_counter = next })
unfolding put_entry
entry_byte bs at pc word size next = let m : size % 256 % 256 ≡ size % 256 = omega arith in rw m

-- ---- entries one after another

-- one entry more
pub entries_add : (bs : List ℕ) (k : ℕ) (ss : List PredicateControlStep) (c : PredicateControlStep)
    → put_entries bs k (ss ++ c ∷ []) ≡ put_entry (put_entries bs k ss) ((k + length ss) * entry_bytes) c
unfolding put_entries
entries_add bs k [] c = let e : k + 0 ≡ k = omega arith in rw e
entries_add bs k (s ∷ ss) c =
    let e : suc k + length ss ≡ k + suc (length ss) = omega arith in
    entries_add (put_entry bs (k * entry_bytes) s) (suc k) ss c ∙ rw e

-- entries that lie inside
entries_inside : (bs : List ℕ) (k : ℕ) (ss : List PredicateControlStep) → (k + length ss) * entry_bytes ≤ length bs
    → put_entries bs k ss ≡ sets bs (k * entry_bytes) (trace_bytes ss)
unfolding put_entries
entries_inside bs k [] h = refl
entries_inside bs k (s ∷ ss) h =
    let first : List ℕ = pack step_widths (step_values s) in
    let put : put_entry bs (k * entry_bytes) s ≡ sets bs (k * entry_bytes) first = entry_inside bs (k * entry_bytes) s (omega (arith, h)) in
    ap (λ (x : List ℕ). put_entries x (suc k) ss) put
    ∙ entries_inside (sets bs (k * entry_bytes) first) (suc k) ss (rw (length-sets bs (k * entry_bytes) first) (omega (arith, h)))
    ∙ ap (λ (x : ℕ). sets (sets bs (k * entry_bytes) first) x (trace_bytes ss)) {y = k * entry_bytes + length first} (omega arith)
    ∙ sets_append first (trace_bytes ss) bs (k * entry_bytes)

-- .. from the first on: the steps' bytes, and behind them what was there
pub entries_over : (bs : List ℕ) (ss : List PredicateControlStep) → length ss ≤ entry_count bs → put_entries bs 0 ss ≡ over (trace_bytes ss) bs
entries_over bs ss h =
    entries_inside bs 0 ss (omega (arith, h))
    ∙ sets_over (trace_bytes ss) bs (rw (length_trace ss) (omega (arith, h)))
