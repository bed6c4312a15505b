use Rattle.std.proofs.Common.{rules}
use Rattle.riscv32imc_predicate.proofs.Exits.{exit}
use Rattle.predicate_semantics.specs.Program.{sized}
use Rattle.predicate_semantics.specs.Tested.{◌>>=◌, refuse, require, allow}
use Rattle.predicate_semantics.specs.Lane.{start_tests}
use Rattle.riscv32imc_predicate.proofs.start.start_test.Goals as goal

pub returns-then-size-eq0 : goal.returns-then-size-eq0
unfolding start_tests sized ◌>>=◌ refuse require allow
returns-then-size-eq0 c = search rules

pub returns-then-not-symbols_placed : goal.returns-then-not-symbols_placed
unfolding start_tests sized ◌>>=◌ refuse require allow
returns-then-not-symbols_placed c = search rules

pub returns-in_err-choice : goal.returns-in_err-choice
unfolding start_tests sized ◌>>=◌ refuse require allow
returns-in_err-choice c =
    rw (exit c.from_residual.result c.from_residual.ensures.1) (search rules)

pub returns-then-rows-lt4 : goal.returns-then-rows-lt4
unfolding start_tests sized ◌>>=◌ refuse require allow
returns-then-rows-lt4 c = search rules

pub returns : goal.returns
unfolding start_tests sized ◌>>=◌ refuse require allow
returns c = search rules
