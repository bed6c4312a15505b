-- A program for each behaviour: one that accepts everything, one that always finds too few rows.
use mathlib.Core.Path.{refl}
use mathlib.Core.Logic.{inl}
use mathlib.Core.List.{[]}
use mathlib.Core.Option.{some}
use Rattle.lane_word.specs.Range.{input_count}
use Rattle.predicate_answer.specs.Blank.{no_execution}
use Rattle.lane_record.specs.Format.{accepted, refused}
use Rattle.wrong_programs.specs.Inputs.{Input}
use Rattle.wrong_programs.specs.Behaviours.{Observed, AllPossible}

abbrev accepting : Input → Observed
accepting x = record { recorded = some (accepted no_execution [] []); rows = x.rows; trace = x.trace }

-- .. with the range in its record
abbrev naming : Input → Observed
naming x = record {
  recorded = some (accepted (record {
    first_input = x.range.first;
    lane_count = input_count x.range;
    return_value = 0;
    symbolic_transitions = 0;
    lane_value_operations = 0;
    sparse_memory_bytes = 0;
    event_count = 0;
  }) [] []);
  rows = x.rows;
  trace = x.trace;
}

abbrev refusing : Input → Observed
refusing x = record { recorded = some (refused (record { number = 13; role = 0; steps = 0 })); rows = x.rows; trace = x.trace }

pub all_possible : AllPossible
all_possible = record {
  first_input_copied = (naming, (λ x r h. refl, λ x h. (refl, refl)));
  trace_invented = (accepting, (λ x y a f. tt, λ x. refl));
  written_bytes_invented = (refusing, λ x y a c. refl);
  space_left = (refusing, λ x h k. refl);
  unchanging = (accepting, (λ x y. refl, λ x. refl));
  each_image_refused = (refusing, λ x. refl);
  left_empty = (refusing, λ x. inl refl);
  events_invented = (accepting, (λ x y a v n. refl, λ x. refl));
  unset_as_zero = (accepting, λ x r h. refl);
  rows_left = (refusing, λ x. refl);
  range_ignored = (refusing, λ x y i p l. refl);
}
