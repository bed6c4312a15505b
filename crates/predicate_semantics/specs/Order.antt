-- Who causes a refusal: in which order the tests before any step are made.
use Rattle.std.specs.Prelude.{◌≡◌, true, false, leb, length, Err, Ok}
use Rattle.predicate_answer.specs.declared.CallError.{CallError}
use Rattle.predicate_answer.specs.Refusal.{of_call}
use Rattle.predicate_semantics.specs.Program.{Program, sized, symbols_placed}
use Rattle.predicate_semantics.specs.Tested.{passed, refused, refuse}
use Rattle.predicate_semantics.specs.Lane.{Setup, start, begin}

-- 1, then 2, then the caller's choice, whatever it refuses with, then 13; the first that fails is the run's refusal
pub record StartOrder (p : Program) (l : Setup) : Type 0 where
  pub image : sized (length p.image) ≡ false → start p l ≡ refuse 1 0
  pub symbols : sized (length p.image) ≡ true → symbols_placed p.symbols ≡ false → start p l ≡ refuse 2 0
  pub choice : sized (length p.image) ≡ true → symbols_placed p.symbols ≡ true → (e : CallError) → l.choice ≡ Err e → start p l ≡ refused (of_call e)
  pub rows : sized (length p.image) ≡ true → symbols_placed p.symbols ≡ true → l.choice ≡ Ok tt → leb 4 l.rows ≡ false → start p l ≡ refuse 13 0
  pub none : sized (length p.image) ≡ true → symbols_placed p.symbols ≡ true → l.choice ≡ Ok tt → leb 4 l.rows ≡ true → start p l ≡ passed (begin p l)
