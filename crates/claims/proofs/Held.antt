-- Each claim by its law, which its own crate proves.
use Rattle.rv32_arithmetic.proofs.Corners.{corners}
use Rattle.rv32_arithmetic.proofs.Halves.{lower_half}
use Rattle.rv32_arithmetic.proofs.Divisor.{powers_found, shift_divides}
use Rattle.riscv32imc.proofs.Examples.{examples_expand}
use Rattle.riscv32imc.proofs.Hints.{hints_counted, hints_expand}
use Rattle.riscv_decode.proofs.Apart.{standing_apart, standing_one}
use Rattle.riscv_decode.proofs.Listed as Listed
use Rattle.lane_word.proofs.OneFlag.{flags_agree, one_flag}
use Rattle.predicate_semantics.proofs.Guarantee.{guarantee, acceptance_guarantee, prefix_guarantee, completed_guarantee}
use Rattle.predicate_semantics.proofs.Cases.{cases_hold, scalar_runs_give_zero, worked_runs}
use Rattle.predicate_semantics.proofs.Order.{start_order}
use Rattle.predicate_semantics.proofs.Bound.{step_bound}
use Rattle.predicate_semantics.proofs.Limits.{limit_enough, limit_short, scalar_limit}
use Rattle.predicate_semantics.proofs.Lent.{more_rows, more_entries, more_lent, rows_needed, entries_needed}
use Rattle.predicate_semantics.proofs.Hints.{hints_only_advance}
use Rattle.predicate_semantics.proofs.RecordRules as Rules
use Rattle.lane_record.proofs.Runs.{keeps_rules}
use Rattle.lane_record.proofs.AnswerLaws.{exact}
use Rattle.lane_record.proofs.Theorems.{read_back, rewritten}
use Rattle.lane_record.proofs.Example.{worked_record, ranges_taken, ranges_broken}
use Rattle.lane_library.proofs.Promise.{record_fits, carries_range}
use Rattle.lane_exports.proofs.Boundary.{words_back, rewrites, breaks_rules}
use Rattle.lane_exports.proofs.Loader.{words_promised}
use Rattle.lane_program.proofs.Laws.{record_written}
use Rattle.lane_program.proofs.Example.{worked_input}
use Rattle.wrong_programs.proofs.Table.{run_refuted}
use Rattle.wrong_programs.proofs.Promises.{run_promise_refuted, library_refuted}
use Rattle.wrong_programs.proofs.Possible.{all_possible}
use Rattle.claims.specs.Claims.{Claims}

pub held : Claims
held = record {
  guarantee = guarantee;
  acceptance_guarantee = acceptance_guarantee;
  prefix_guarantee = prefix_guarantee;
  completed_guarantee = completed_guarantee;
  words_promised = words_promised;
  cases_hold = cases_hold;
  scalar_runs_give_zero = scalar_runs_give_zero;
  worked_runs = worked_runs;
  worked_input = worked_input;
  start_order = start_order;
  step_bound = step_bound;
  limit_enough = limit_enough;
  limit_short = limit_short;
  scalar_limit = scalar_limit;
  more_rows = more_rows;
  more_entries = more_entries;
  more_lent = more_lent;
  rows_needed = rows_needed;
  entries_needed = entries_needed;
  hints_only_advance = hints_only_advance;
  completed = Rules.completed;
  accepted = Rules.accepted;
  refused_proper = Rules.refused_proper;
  takes_step = Rules.takes_step;
  keeps_rules = keeps_rules;
  carries_range = carries_range;
  record_fits = record_fits;
  record_written = record_written;
  exact = exact;
  read_back = read_back;
  rewritten = rewritten;
  worked_record = worked_record;
  ranges_taken = ranges_taken;
  ranges_broken = ranges_broken;
  words_back = words_back;
  rewrites = rewrites;
  breaks_rules = breaks_rules;
  corners = corners;
  lower_half = lower_half;
  powers_found = powers_found;
  shift_divides = shift_divides;
  examples_expand = examples_expand;
  hints_counted = hints_counted;
  hints_expand = hints_expand;
  counted = Listed.counted;
  standing_apart = standing_apart;
  one_row = standing_one;
  rows_listed = Listed.rows_listed;
  decode_listed = Listed.decode_listed;
  lines_accepted = Listed.accepted;
  upper_halves = Listed.upper_halves;
  system_refused = Listed.system_refused;
  flags_agree = flags_agree;
  one_flag = one_flag;
  run_refuted = run_refuted;
  run_promise_refuted = run_promise_refuted;
  library_refuted = library_refuted;
  all_possible = all_possible;
}
