-- What the record of a run is written of and read as, beside the trace.
use Rattle.std.specs.Prelude.{List, Err, Ok}
use Rattle.little_endian.specs.Lent.{over}
use Rattle.predicate_answer.specs.declared.CompiledMmioEvent.{CompiledMmioEvent}
use Rattle.predicate_answer.specs.declared.PredicateTransducerExecution.{PredicateTransducerExecution}
use Rattle.predicate_answer.specs.declared.RecordRefusal.{RecordRefusal}
use Rattle.predicate_answer.specs.declared.RecordOutcome.{RecordOutcome}
use Rattle.predicate_answer.specs.Blank.{no_execution, no_events}

-- of an accepted run: its numbers, and its events with zeros after the last
abbrev pub accepted_outcome : PredicateTransducerExecution → List CompiledMmioEvent → RecordOutcome
accepted_outcome e es = record { answer = Ok tt; execution = e; events = over es no_events }

-- of a refused run: what is refused, and zeros
abbrev pub refused_outcome : RecordRefusal → RecordOutcome
refused_outcome f = record { answer = Err f; execution = no_execution; events = no_events }

-- where there is none: no record has a refusal numbered 0
abbrev pub no_outcome : RecordOutcome
no_outcome = refused_outcome (record { number = 0; role = 0; steps = 0 })
