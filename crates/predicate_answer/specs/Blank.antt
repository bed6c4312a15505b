-- What an answer holds at most, and the zeros that stand where it has nothing.
use Rattle.std.specs.Prelude.{List, ℕ, replicate}
use Rattle.predicate_answer.specs.declared.CompiledMmioEvent.{CompiledMmioEvent}
use Rattle.predicate_answer.specs.declared.PredicateTransducerExecution.{PredicateTransducerExecution}

-- the most events that a run may leave
abbrev pub max_events : ℕ
max_events = 32

-- the last of the numbers that a record holds, and of the roles; both begin at 1
abbrev pub last_refusal : ℕ
last_refusal = 14

abbrev pub last_role : ℕ
last_role = 10

abbrev pub no_execution : PredicateTransducerExecution
no_execution =
    record {
      first_input = 0;
      lane_count = 0;
      return_value = 0;
      symbolic_transitions = 0;
      lane_value_operations = 0;
      sparse_memory_bytes = 0;
      event_count = 0;
    }

abbrev pub no_event : CompiledMmioEvent
no_event = record { operation = 0; offset = 0; value = 0; location = 0 }

-- as many as are kept
abbrev pub no_events : List CompiledMmioEvent
no_events = replicate max_events no_event
