-- At stop: the numbers that the code reads one after another make the semantics' answer. Assumes nothing.
use Rattle.std.specs.Prelude.{Ok}
use mathlib.Core.List.{List, [], ◌∷◌, ◌++◌}
use mathlib.Core.Path.{◌≡◌, refl, sym, ap, ◌∙◌}
use Prim.Native.Nat.{ℕ, suc, ◌+◌, ◌*◌, ◌≤◌, ◌<◌}
use native.Mathlib.Numerals.{add-one}
use native.Mathlib.Omega.{arith}
use lib.ListN.{length, get_or, set, take, drop, length-append, length-take, drop_of_length-le}
use lib.Seq.{take_all, drop-cons, get_or-take, append_snoc, set_at}
use borrow.Author.Tests.{lt-leb, le-leb, eq-eqb, ne_eqb}
use Rattle.little_endian.specs.Lent.{over}
use Rattle.lane_word.specs.declared.LaneWord.{LaneWord}
use Rattle.lane_word.specs.Word.{lanes}
use Rattle.predicate_answer.specs.declared.CompiledMmioEvent.{CompiledMmioEvent}
use Rattle.predicate_semantics.specs.declared.Rv32SymbolLayout.{Rv32SymbolLayout}
use Rattle.predicate_answer.specs.Blank.{no_event, no_events, max_events}
use Rattle.predicate_semantics.specs.Program.{event_stride}
use Rattle.predicate_semantics.specs.State.{RunResult}
use Rattle.predicate_semantics.specs.Tested.{Tested, passed, refused, ◌>>=◌, refuse, require}
use Rattle.predicate_answer.specs.Refusal.{Refusal, refusal_of}
use Rattle.predicate_semantics.specs.Lane.{LaneState, reg, agreed, access_agreed, event_at, events, finish_events, finish}
use Rattle.predicate_answer.specs.declared.Rv32Error.TheVariants as error
use Rattle.lane_access.specs.Seen.{seen}
use Rattle.riscv32imc_predicate.specs.declared.Recorded.{Recorded}
use Rattle.riscv32imc_predicate.specs.Setting.{Setting}
use Rattle.riscv32imc_predicate.proofs.LaneCount.{lane_count}
use Rattle.riscv32imc_predicate.specs.Finishing.{events_seen, Finds, Answers, StandsAt}

-- one more over the same list
over_set : {A : Type 0} (done l : List A) (i : ℕ) (e d : A) → length done ≡ i → i < length l → set (over done l) i e ≡ over (done ++ e ∷ []) l
over_set done l i e d c h =
    let n : length (done ++ e ∷ []) ≡ suc i = omega (arith, length-append done (e ∷ []), c) in
    rw (n, c, drop-cons l i d h) (set_at done (get_or l i d) (drop (suc i) l) e i c ∙ sym (append_snoc done e (drop (suc i) l)))

-- ---- events one after another: what comes from here is what comes from the start
pub record Filling (image rows : List ℕ) (from count : ℕ) (locations : List ℕ) (es : List CompiledMmioEvent) (i : ℕ) : Type 0 where
  pub room : count ≤ max_events
  pub enough : length locations ≡ max_events
  pub done : List CompiledMmioEvent
  pub counted : length done ≡ i
  pub filled : es ≡ over done no_events
  pub rest : events_seen image rows from 0 [] (take count locations) ≡ events_seen image rows from i done (drop i (take count locations))

pub filling_start : (image rows : List ℕ) (from count : ℕ) (locations : List ℕ) {es : List CompiledMmioEvent}
    → count ≤ max_events → length locations ≡ max_events → es ≡ no_events → Filling image rows from count locations es 0
filling_start image rows from count locations h k e = record { room = h; enough = k; done = []; counted = refl; filled = e; rest = refl }

module _ {image rows : List ℕ} {from count : ℕ} {locations : List ℕ} {es : List CompiledMmioEvent} {i : ℕ} (f : Filling image rows from count locations es i) where
  -- the next event
  abbrev following : Tested CompiledMmioEvent
  following = event_at lanes (seen image rows) (from + event_stride * i) (get_or locations i 0)

  -- the events from the one after it on
  abbrev after : Tested CompiledMmioEvent → Tested (List CompiledMmioEvent)
  after t = t >>= λ e. events_seen image rows from (suc i) (f.done ++ e ∷ []) (drop (suc i) (take count locations))

  module _ (h : i < count) where
    next : events_seen image rows from 0 [] (take count locations) ≡ after following
    unfolding events
    next =
        let left : i < length (take count locations) = rw (length-take count locations) (omega (arith, h, f.room, f.enough)) in
        f.rest
        ∙ ap (events_seen image rows from i f.done) (drop-cons (take count locations) i 0 left)
        ∙ ap (λ (x : ℕ). after (event_at lanes (seen image rows) (from + event_stride * i) x)) (get_or-take count locations i 0 h)

    pub filling_refused : (q : Refusal) → refused q ≡ following → events_seen image rows from 0 [] (take count locations) ≡ refused q
    unfolding ◌>>=◌
    filling_refused q e = next ∙ ap after (sym e)

    pub filling_step : (e : CompiledMmioEvent) → passed e ≡ following → Filling image rows from count locations (set es i e) (i + 1)
    unfolding ◌>>=◌
    filling_step e q =
        rw (add-one i)
        (record {
          room = f.room;
          enough = f.enough;
          done = f.done ++ e ∷ [];
          counted = omega (arith, length-append f.done (e ∷ []), f.counted);
          filled = ap (λ (x : List CompiledMmioEvent). set x i e) f.filled ∙ over_set f.done no_events i e no_event f.counted (omega (arith, h, f.room));
          rest = next ∙ ap after (sym q);
        })

  pub filling_exit : count ≤ i → Finds (Ok es) (events_seen image rows from 0 [] (take count locations))
  unfolding events
  filling_exit h =
      let none : length (take count locations) ≤ i = rw (length-take count locations) (omega arith) in
      (f.done, f.rest ∙ ap (events_seen image rows from i f.done) (drop_of_length-le (take count locations) none), f.filled)

module _ {image : List ℕ} {symbols : Rv32SymbolLayout} {rows : List ℕ} {kept : Recorded} {c : Setting} {s : LaneState}
    (g : StandsAt image symbols rows kept c s) {x10 : LaneWord} (x : reg c.program c.setup s 10 ≡ x10) where
  -- ---- the two numbers
  abbrev counted : Tested ℕ
  counted = access_agreed lanes 7 (seen image rows) 4 symbols.event_count

  numbers : finish c.program c.setup s ≡ (agreed 6 x10 >>= λ value. counted >>= λ count. finish_events c.program c.setup s value count)
  unfolding finish
  numbers = rw (x, g.same_bytes, lane_count c g.same_lanes, g.same_symbols)

  pub return_refused : (q : Refusal) → refused q ≡ agreed 6 x10 → finish c.program c.setup s ≡ refused q
  unfolding ◌>>=◌
  return_refused q e = numbers ∙ rw (← e)

  module _ (value : ℕ) (e : passed value ≡ agreed 6 x10) where
    pub count_refused : (q : Refusal) → refused q ≡ counted → finish c.program c.setup s ≡ refused q
    unfolding ◌>>=◌
    count_refused q f = numbers ∙ rw (← e, ← f)

    -- ---- return value and count are known
    module _ (count : ℕ) (f : passed count ≡ counted) where
      pub both_known : finish c.program c.setup s ≡ finish_events c.program c.setup s value count
      unfolding ◌>>=◌
      both_known = numbers ∙ rw (← e, ← f)

      pub many_events : max_events < count → finish c.program c.setup s ≡ refused (refusal_of error.EventCount)
      unfolding finish_events require refuse ◌>>=◌
      many_events h = both_known ∙ rw (lt-leb count max_events h)

      module _ (h : count ≤ max_events) where
        pub other_count : (count ≡ kept.count → ⊥) → finish c.program c.setup s ≡ refused (refusal_of error.EventCount)
        unfolding finish_events require refuse ◌>>=◌
        other_count n = both_known ∙ rw (le-leb count max_events h, ne_eqb count (length s.locations) (λ q. n (q ∙ sym g.keeps.0)))

        -- the kept locations are all of them
        module _ (same : count ≡ kept.count) where
          abbrev answered : Tested (List CompiledMmioEvent) → Tested RunResult
          answered t = t >>= λ es. passed (record { return_value = value; steps = s.steps; trace = s.trace; events = es })

          all_kept : take count kept.locations ≡ s.locations
          all_kept = rw (same ∙ g.keeps.0) (g.keeps.1 ∙ take_all max_events s.locations (omega (arith, h, same, g.keeps.0)))

          as_found : finish c.program c.setup s ≡ answered (events_seen image rows symbols.events 0 [] (take count kept.locations))
          unfolding finish_events require ◌>>=◌
          as_found =
              both_known
              ∙ rw (le-leb count max_events h, eq-eqb count (length s.locations) (same ∙ g.keeps.0), all_kept, g.same_bytes, lane_count c g.same_lanes, g.same_symbols)

          pub events_refused : (q : Refusal) → events_seen image rows symbols.events 0 [] (take count kept.locations) ≡ refused q
              → finish c.program c.setup s ≡ refused q
          unfolding ◌>>=◌
          events_refused q t = as_found ∙ ap answered t

          pub events_found : (es : List CompiledMmioEvent) → Finds (Ok es) (events_seen image rows symbols.events 0 [] (take count kept.locations))
              → Answers (Ok (record { return_value = value; events = es })) s (finish c.program c.setup s)
          unfolding ◌>>=◌
          events_found es t = (t.0, as_found ∙ ap answered t.1, t.2)
