-- The order of the tests before any step. Assumes nothing.
use Rattle.predicate_semantics.specs.Program.{Program}
use Rattle.predicate_semantics.specs.Tested.{◌>>=◌, refuse, require, allow}
use Rattle.predicate_semantics.specs.Lane.{Setup, start_tests, start}
use Rattle.predicate_semantics.specs.Order.{StartOrder}

pub start_order : (p : Program) (l : Setup) → StartOrder p l
unfolding start start_tests ◌>>=◌ require refuse allow
start_order p l = record {
  image = λ a. rw a;
  symbols = λ a b. rw (a, b);
  choice = λ a b r c. rw (a, b, c);
  rows = λ a b c d. rw (a, b, c, d);
  none = λ a b c d. rw (a, b, c, d);
}
