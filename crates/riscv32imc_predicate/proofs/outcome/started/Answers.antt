-- The loop from the first state to where it ended.
use Rattle.std.proofs.Common.{◌≡◌, refl, sym, ap, ◌∙◌, List, ℕ, length}
use Rattle.predicate_semantics.specs.Call.{range_test}
use Rattle.predicate_semantics.specs.Program.{stop, stop_word}
use Rattle.lane_memory.specs.Rows.{row_count, cleared, store_values}
use Rattle.lane_memory.proofs.Laws.{cleared_store_value}
use Rattle.riscv32imc_predicate.proofs.Following.{sees}
use Rattle.riscv32imc_predicate.proofs.Running.{reports_refused, begin_arrives, runs_as, ended_refused, ended_arrived, never_paused, counts, events_low}
use Rattle.riscv32imc_predicate.proofs.outcome.started.Goals as goal

-- the stop word leaves the rows' bytes past the marks
stop_stored : (rows : List ℕ) {rows' : List ℕ} → rows' ≡ store_values rows 4 stop stop_word → cleared rows' ≡ cleared rows
stop_stored rows e = ap cleared e ∙ cleared_store_value rows 4 stop stop_word

pub finish-finished-requires : goal.finish-finished-requires
finish-finished-requires c =
    let a = c.args in
    events_low (length a.image.now) a.program.symbols (range_test a.range) (row_count a.rows.now) c.requires.1

pub returns-in-Refused : goal.returns-in-Refused
returns-in-Refused c x k =
    let o = c.args in
    let t = c.requires.1 in
    let a = begin_arrives k t c.requires.0 c.store_value.ensures c.start_place.ensures c.input_domain.ensures c.start_registers.ensures c.start_recorded.ensures c.whole_run-bounds.ensures c.advance-reached.ensures.advances in
    let e = c.in-Refused.error in
    runs_as k (ended_refused k t a e c.in-Refused.is)
    (reports_refused o.range a.state _ e _ a.stands.tracks.same_steps refl c.refused.ensures)
    a.stands.tracks.traced (c.advance-reached.ensures.rows_unchanged ∙ stop_stored o.rows.now c.store_value.ensures)

pub returns-in-Paused : goal.returns-in-Paused
returns-in-Paused c x k =
    let o = c.args in
    let t = c.requires.1 in
    let a = begin_arrives k t c.requires.0 c.store_value.ensures c.start_place.ensures c.input_domain.ensures c.start_registers.ensures c.start_recorded.ensures c.whole_run-bounds.ensures c.advance-reached.ensures.advances in
    absurd (never_paused k t a c.in-Paused.is)

pub returns-in-Arrived : goal.returns-in-Arrived
returns-in-Arrived c x k =
    let o = c.args in
    let t = c.requires.1 in
    let a = begin_arrives k t c.requires.0 c.store_value.ensures c.start_place.ensures c.input_domain.ensures c.start_registers.ensures c.start_recorded.ensures c.whole_run-bounds.ensures c.advance-reached.ensures.advances in
    let f = c.finish-finished.ensures x a.state
    (record { same_lanes = k.serves.same_lanes; same_symbols = k.serves.same_symbols; same_bytes = sees a.stands; keeps = a.stands.keeps }) (sym a.return_word) in
    runs_as k (ended_arrived k t a c.in-Arrived.is) (c.answered.ensures x a.state (counts k t a) f)
    a.stands.tracks.traced (c.advance-reached.ensures.rows_unchanged ∙ stop_stored o.rows.now c.store_value.ensures)
