-- Loops over items: what is left to do, with what is left of the bytes, is what there was to do. Assumes nothing.
use mathlib.Core.Path.{◌≡◌, refl, ap, sym, ◌∙◌, subst}
use mathlib.Core.Bool.{Bool, true, false, ◌&&◌, ◌||◌, and-true, and_assoc}
use mathlib.Core.List.{List, [], ◌∷◌, ◌++◌, map, append_assoc, append-nil}
use Prim.Native.Nat.{ℕ, zero, suc, ◌+◌, ◌-◌, ◌*◌, ◌≤◌, ◌<◌}
use native.Mathlib.Numerals.{add-one}
use native.Mathlib.Nat.{suc-mul}
use native.Mathlib.Omega.{arith}
use lib.Dec.{eqb}
use lib.ListN.{length, get_or, take, drop, set, length-set, length-append, length-drop}
use lib.Seq.{sets, sets-eq, drop-cons, drop-drop, drop_at, take_all}
use borrow.Author.Tests.{eq-eqb, ne_eqb}
use borrow.Rule.Slice.PartMut.{put_mid, Post-is}
use Rattle.std.proofs.lemmas.List.{take-append-le, drop-append-le, drop_all}
use Rattle.little_endian.specs.Number as number
use Rattle.little_endian.specs.Pack.{total, pack, unpack, packs, unpacks, Fits, AllFit}
use Rattle.little_endian.proofs.SetLaws.{sets_step}
use Rattle.predicate_trace.specs.declared.PredicateControlStep.{PredicateControlStep}
use Rattle.predicate_answer.specs.declared.CompiledMmioEvent.{CompiledMmioEvent}
use Rattle.predicate_answer.specs.Blank.{no_event, max_events}
use Rattle.predicate_semantics.specs.Program.{stop}
use Rattle.predicate_trace.specs.Trace.{entry_bytes, step_widths, step_values, step_of, steps_at}
use Rattle.lane_record.specs.Format.{heading, event, widths, size, item, items, event_values, event_from}
use Rattle.lane_record.specs.Rules.{begins, linked, follows}
use Rattle.lane_record.specs.Decode.{events_at, kinds_are}

one_more : (k n z : ℕ) → k + 1 ≡ n → n * z ≡ z + k * z
one_more k n z e = ap (λ (i : ℕ). i * z) (sym e) ∙ rw (add-one, suc-mul) (omega arith)

-- the bytes of a slice from a place on
pub rest_is : (a : ℕ) (s : List ℕ) → take (length s - a) (drop a s) ≡ drop a s
rest_is a s = take_all (length s - a) (drop a s) (omega (arith, length-drop a s))

-- ---- the first of n rows, each after p other bytes
unpack_front : (ws x y : List ℕ) → total ws ≤ length x → unpack ws (x ++ y) ≡ unpack ws x
unpack_front [] x y h = refl
unpack_front (w ∷ ws) x y h =
    rw (take-append-le w x y (omega arith), drop-append-le w x y (omega arith), unpack_front ws (drop w x) y (simp length-drop (omega arith)))

-- bytes s that begin with an item x, and its row
pub record Next (p : ℕ) (ws s x u : List ℕ) (n m : ℕ) : Type 0 where
  pub one : m + 1 ≡ n
  pub parts : s ≡ x ++ u
  pub whole : length x ≡ p + total ws

module _ {p : ℕ} {ws s x u : List ℕ} {n m : ℕ} (e : Next p ws s x u n m) where
  rows : (k : ℕ) → k ≡ n → unpacks p ws k s ≡ unpack ws (drop p x) ∷ unpacks p ws m u
  rows zero q = absurd (omega (arith, e.one))
  rows (suc k) q =
      let same : k ≡ m = omega (arith, e.one) in
      let w = e.whole in
      rw (e.parts, drop-append-le p x u (omega arith), unpack_front ws (drop p x) u (simp length-drop (omega arith)), drop_at x u (p + total ws) w, same)

  pub rows_next : unpacks p ws n s ≡ unpack ws (drop p x) ∷ unpacks p ws m u
  rows_next = rows n refl

  -- room for n is room for one and for the others
  pub room : (z : ℕ) → n * z ≡ z + m * z
  room z = one_more m n z e.one

  pub left_room : n * (p + total ws) ≤ length s → m * (p + total ws) ≤ length u
  left_room h = omega (arith, room (p + total ws), ap length e.parts, length-append x u, e.whole)

-- where no item is left in the bytes, none is left to do
none_left : (n z : ℕ) (s : List ℕ) → n * z ≤ length s → (0 < n → length s < z) → n ≡ 0
none_left zero z s h f = refl
none_left (suc n) z s h f = absurd (omega (arith, f (omega arith), rw suc-mul at h))

-- ---- bytes of kind
pub record Kinds (m z : ℕ) (b : Bool) (w : ℕ) (s : List ℕ) (left : ℕ) : Type 0 where
  pub width : w ≡ z
  pub fits : left * z ≤ length s
  pub rest : b ≡ kinds_are m z left s

first_of : (x u : List ℕ) → 0 < length x → get_or (x ++ u) 0 0 ≡ get_or x 0 0
first_of [] u h = absurd (omega arith)
first_of (b ∷ x) u h = refl

module _ {m z : ℕ} {b : Bool} {w : ℕ} {s : List ℕ} {left : ℕ} (t : Kinds m z b w s left) where
  pub kinds_end : (0 < left → length s < w) → true ≡ b
  kinds_end f =
      let e = none_left left z s t.fits (λ h. omega (arith, f h, t.width)) in
      sym (t.rest ∙ ap (λ (n : ℕ). kinds_are m z n s) e)

  module _ (x u : List ℕ) (k : ℕ) (one : k + 1 ≡ left) (parts : s ≡ x ++ u) (whole : length x ≡ z) (some : 0 < z) where
    kinds_next : b ≡ (eqb (get_or x 0 0) m && kinds_are m z k u)
    kinds_next = t.rest ∙ rw (← one, add-one k, parts, first_of x u (omega arith), drop_at x u z whole)

    pub kinds_no : (get_or x 0 0 ≡ m → ⊥) → false ≡ b
    kinds_no e = sym (kinds_next ∙ rw (ne_eqb _ _ e))

    pub kinds_step : {w' : ℕ} → get_or x 0 0 ≡ m → w' ≡ z → Kinds m z b w' u k
    kinds_step e v = record {
      width = v;
      fits = omega (arith, t.fits, one_more k left z one, ap length parts, length-append x u, whole);
      rest = kinds_next ∙ rw (eq-eqb _ _ e);
    }

-- ---- steps
steps_suc : (p n : ℕ) (bs : List ℕ) → 0 < n → steps_at p n bs ≡ step_of (unpack step_widths (drop p bs)) ∷ steps_at p (n - 1) (drop (p + entry_bytes) bs)
steps_suc p zero bs h = absurd (omega arith)
steps_suc p (suc n) bs h = let e : suc n - 1 ≡ n = omega arith in rw e

-- n steps of s from at on begin with the one that is read there
pub steps_next : (s : List ℕ) (at p n : ℕ) (x : PredicateControlStep) → x ≡ step_of (unpack step_widths (drop (at + p) s)) → 0 < n
    → steps_at p n (drop at s) ≡ x ∷ steps_at p (n - 1) (drop (at + (p + entry_bytes)) s)
steps_next s at p n x e h =
    steps_suc p n (drop at s) h
    ∙ ap (λ (y : List ℕ). step_of (unpack step_widths y) ∷ steps_at p (n - 1) (drop (p + entry_bytes) (drop at s))) (drop-drop p at s)
    ∙ ap (λ (y : PredicateControlStep). y ∷ steps_at p (n - 1) (drop (p + entry_bytes) (drop at s))) (sym e)
    ∙ ap (λ (y : List ℕ). x ∷ steps_at p (n - 1) y) (drop-drop (p + entry_bytes) at s)

pub begins_some : (s : List ℕ) (at p n : ℕ) → 0 < n → number.value (take 4 (drop (at + p) s)) ≡ begins stop (steps_at p n (drop at s))
begins_some s at p n h = sym (ap (begins stop) (steps_next s at p n _ refl h))

-- the counter that is due comes, and so on to stop
abbrev pub due_linked : ℕ → List PredicateControlStep → Bool
due_linked d [] = eqb d stop
due_linked d (s ∷ ss) = follows s d && due_linked s.next_program_counter ss

moved : (a b c d : Bool) → (a && b && (c && d)) ≡ (a && (b && c && d))
moved true b c d = sym (and_assoc b c d)
moved false b c d = refl

linked_due : (d : ℕ) (ss : List PredicateControlStep) → due_linked d ss ≡ (eqb d (begins stop ss) && linked stop ss)
linked_due d [] = sym (and-true (eqb d stop))
linked_due d (s ∷ ss) =
    ap (λ (b : Bool). follows s d && b) (linked_due s.next_program_counter ss)
    ∙ moved (eqb d s.program_counter) (eqb s.instruction_bytes 2 || eqb s.instruction_bytes 4) (eqb s.next_program_counter (begins stop ss)) (linked stop ss)

pub record Linking (p : ℕ) (b : Bool) (z : ℕ) (s : List ℕ) (left due : ℕ) : Type 0 where
  pub width : z ≡ p + entry_bytes
  pub fits : left * (p + entry_bytes) ≤ length s
  pub rest : b ≡ due_linked due (steps_at p left s)

linking_first : (p n due : ℕ) (s : List ℕ) → (n ≡ 0 → ⊥) → due ≡ number.value (take 4 (drop p s))
    → linked stop (steps_at p n s) ≡ due_linked due (steps_at p n s)
linking_first p zero due s k e = absurd (k refl)
linking_first p (suc n) due s k e = sym (linked_due due (steps_at p (suc n) s) ∙ rw (eq-eqb _ _ e))

pub linking_start : (p n due : ℕ) (items : List ℕ) {z : ℕ} {s : List ℕ} {left : ℕ} → (n ≡ 0 → ⊥) → n * (p + entry_bytes) ≤ length items
    → due ≡ number.value (take 4 (drop p items)) → z ≡ p + entry_bytes → s ≡ items → left ≡ n
    → Linking p (linked stop (steps_at p n items)) z s left due
linking_start p n due items k h e w same all = rw (same, all) (record { width = w; fits = h; rest = linking_first p n due items k e })

module _ {p : ℕ} {b : Bool} {z : ℕ} {s : List ℕ} {left due : ℕ} (t : Linking p b z s left due) where
  pub linking_end : (0 < left → length s < z) → eqb due stop ≡ b
  linking_end f =
      let e = none_left left (p + entry_bytes) s t.fits (λ h. omega (arith, f h, t.width)) in
      sym (t.rest ∙ ap (λ (n : ℕ). due_linked due (steps_at p n s)) e)

  module _ {x u : List ℕ} {m : ℕ} (n : Next p step_widths s x u left m) (y : PredicateControlStep) (ey : y ≡ step_of (unpack step_widths (drop p x))) where
    linking_next : b ≡ (follows y due && due_linked y.next_program_counter (steps_at p m u))
    linking_next =
        t.rest
        ∙ ap (λ (r : List (List ℕ)). due_linked due (map step_of r)) (rows_next n)
        ∙ ap (λ (c : PredicateControlStep). due_linked due (c ∷ steps_at p m u)) (sym ey)

    pub linking_no : follows y due ≡ false → false ≡ b
    linking_no e = sym (linking_next ∙ rw e)

    pub linking_step : {z' : ℕ} → follows y due ≡ true → z' ≡ p + entry_bytes → Linking p b z' u m y.next_program_counter
    linking_step e w = record { width = w; fits = left_room n t.fits; rest = linking_next ∙ rw e }

-- all bytes of a slice written
pub sets_whole : (s v : List ℕ) → length v ≡ length s → sets s 0 v ≡ v
sets_whole s v e = rw (sets-eq v s 0 (omega (arith, e)), drop_all (0 + length v) s (omega (arith, e)), append-nil)

-- a part written, and put back at its place
pub part_put : (s v : List ℕ) (at e : ℕ) → at + length v ≡ e → e ≤ length s → put_mid at (e - at) s v ≡ sets s at v
part_put s v at e q h = rw (Post-is at e s (omega (arith, q)), ← q, sets-eq v s at (omega (arith, q, h)), append_assoc)

-- steps from one place to another: each is read after p other bytes and written after the bytes pre
pub record Moving (pre : List ℕ) (p : ℕ) (final : List ℕ) (len z : ℕ) (t s : List ℕ) (left at : ℕ) : Type 0 where
  pub width : z ≡ p + entry_bytes
  pub long : length t ≡ len
  pub fits : at + left * (length pre + entry_bytes) ≤ len
  pub has : left * (p + entry_bytes) ≤ length s
  pub rest : final ≡ sets t at (packs pre step_widths (map step_values (steps_at p left s)))

module _ {pre : List ℕ} {p : ℕ} {final : List ℕ} {len z : ℕ} {t s : List ℕ} {left at : ℕ} (c : Moving pre p final len z t s left at) where
  pub moving_end : (0 < left → length s < z) → t ≡ final
  moving_end f =
      let e = none_left left (p + entry_bytes) s c.has (λ h. omega (arith, f h, c.width)) in
      sym (c.rest ∙ ap (λ (n : ℕ). sets t at (packs pre step_widths (map step_values (steps_at p n s)))) e)

  pub moving_room : {x u : List ℕ} {m : ℕ} → Next p step_widths s x u left m → at + (length pre + entry_bytes) ≤ len
  moving_room n = omega (arith, room n (length pre + entry_bytes), c.fits)

  pub moving_step : {x u t' : List ℕ} {m at' z' : ℕ} → Next p step_widths s x u left m → (y : PredicateControlStep) → y ≡ step_of (unpack step_widths (drop p x))
      → t' ≡ sets t at (pre ++ pack step_widths (step_values y)) → length t' ≡ length t → at' ≡ at + (length pre + entry_bytes) → z' ≡ p + entry_bytes
      → Moving pre p final len z' t' u m at'
  moving_step {u = u} {t' = t'} {m = m} {at' = at'} n y ey e l a w =
      record {
        width = w;
        long = l ∙ c.long;
        fits = omega (arith, room n (length pre + entry_bytes), c.fits, a);
        has = left_room n c.has;
        rest = c.rest
            ∙ ap (λ (r : List (List ℕ)). sets t at (packs pre step_widths (map step_values (map step_of r)))) (rows_next n)
            ∙ ap (λ (r : PredicateControlStep). sets t at (packs pre step_widths (map step_values (r ∷ steps_at p m u)))) (sym ey)
            ∙ sets_step t t' at (length pre + entry_bytes) (pre ++ pack step_widths (step_values y)) _ e (length-append pre (pack step_widths (step_values y)))
            ∙ ap (λ (i : ℕ). sets t' i (packs pre step_widths (map step_values (steps_at p m u)))) (sym a);
      }

-- ---- events out
fit_snoc : (k : ℕ) (es : List CompiledMmioEvent) → k < length es → AllFit (widths event) (map event_values (take k es)) → Fits (widths event) (event_values (get_or es k no_event))
    → AllFit (widths event) (map event_values (take (suc k) es))
fit_snoc k [] h a f = absurd (omega arith)
fit_snoc zero (e ∷ es) h a f = (f, tt)
fit_snoc (suc k) (e ∷ es) h a f = (a.0, fit_snoc k es (omega arith) a.1 f)

pub record Listing (es : List CompiledMmioEvent) (final : List ℕ) (len n : ℕ) (t : List ℕ) (k at : ℕ) : Type 0 where
  pub long : length t ≡ len
  pub within : k ≤ n
  pub place : at ≡ size heading + k * size event
  pub rest : final ≡ sets t at (items event (map event_values (take (n - k) (drop k es))))
  pub fit : AllFit (widths event) (map event_values (take k es))

pub listing_start : (es : List CompiledMmioEvent) (t : List ℕ) (n : ℕ) → Listing es (sets t (size heading) (items event (map event_values (take n es)))) (length t) n t 0 (size heading)
listing_start es t n = let e : n - 0 ≡ n = omega arith in record { long = refl; within = omega arith; place = refl; rest = rw e; fit = tt }

module _ {es : List CompiledMmioEvent} {final : List ℕ} {len n : ℕ} {t : List ℕ} {k at : ℕ} (c : Listing es final len n t k at) where
  pub listing_step : {t' : List ℕ} → n ≤ length es → k < n → t' ≡ sets t at (item event (event_values (get_or es k no_event))) → length t' ≡ length t
      → Fits (widths event) (event_values (get_or es k no_event)) → {at' : ℕ} → at' ≡ at + size event → Listing es final len n t' (k + 1) at'
  listing_step {t'} f h e l w a =
      let e1 : n - k ≡ suc (n - (k + 1)) = omega arith in
      let later : List ℕ = items event (map event_values (take (n - (k + 1)) (drop (k + 1) es))) in
      let p : items event (map event_values (take (n - k) (drop k es))) ≡ item event (event_values (get_or es k no_event)) ++ later =
      rw (e1, add-one k, drop-cons es k no_event (omega arith)) in
      record {
        long = l ∙ c.long;
        within = omega arith;
        place = omega (arith, c.place, a);
        rest = c.rest ∙ ap (sets t at) p ∙ sets_step t t' at (size event) (item event (event_values (get_or es k no_event))) later e refl ∙ ap (λ (i : ℕ). sets t' i later) (sym a);
        fit = rw (add-one k) (fit_snoc k es (omega arith) c.fit w);
      }

  pub listing_exit : n ≤ k → (t ≡ final) × AllFit (widths event) (map event_values (take n es))
  listing_exit h =
      let e : n - k ≡ 0 = omega arith in
      let m : k ≡ n = omega (arith, c.within) in
      (sym (c.rest ∙ rw e), subst (λ (i : ℕ). AllFit (widths event) (map event_values (take i es))) m c.fit)

-- ---- events in
pub record Taking (final : List CompiledMmioEvent) (n z : ℕ) (es : List CompiledMmioEvent) (s : List ℕ) (left k : ℕ) : Type 0 where
  pub width : z ≡ size event
  pub long : length es ≡ max_events
  pub few : n ≤ max_events
  pub count : k + left ≡ n
  pub has : left * size event ≤ length s
  pub rest : final ≡ sets es k (events_at left s)

module _ {final : List CompiledMmioEvent} {n z : ℕ} {es : List CompiledMmioEvent} {s : List ℕ} {left k : ℕ} (c : Taking final n z es s left k) where
  pub taking_end : (0 < left → length s < z) → es ≡ final
  taking_end f =
      let e = none_left left (size event) s c.has (λ h. omega (arith, f h, c.width)) in
      sym (c.rest ∙ ap (λ (i : ℕ). sets es k (events_at i s)) e)

  pub taking_step : {x u : List ℕ} {m i k' z' : ℕ} → Next 1 (widths event) s x u left m → (y : CompiledMmioEvent) → y ≡ event_from (unpack (widths event) (drop 1 x))
      → i ≡ k → k' ≡ k + 1 → z' ≡ size event → Taking final n z' (set es i y) u m k'
  taking_step {u = u} {m = m} {i = i} {k' = k'} e y ey same more w =
      record {
        width = w;
        long = simp length-set c.long;
        few = c.few;
        count = omega (arith, c.count, e.one, more);
        has = left_room e c.has;
        rest = c.rest
            ∙ ap (λ (r : List (List ℕ)). sets es k (map event_from r)) (rows_next e)
            ∙ ap (λ (r : CompiledMmioEvent). sets es k (r ∷ events_at m u)) (sym ey)
            ∙ rw (more, same, add-one k);
      }
