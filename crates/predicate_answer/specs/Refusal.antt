-- Document 01's number and role for each refusal ("Who causes a refusal"), and document 02's: of a run, which its record holds, and of a call, which none does.
use Rattle.std.specs.Prelude.{ℕ}
use Rattle.predicate_answer.specs.declared.Role.{Role}
use Rattle.predicate_answer.specs.declared.Role.TheVariants as role
use Rattle.predicate_answer.specs.declared.Rv32Error.{Rv32Error}
use Rattle.predicate_answer.specs.declared.Rv32Error.TheVariants as error
use Rattle.predicate_answer.specs.declared.RecordRefusal.{RecordRefusal}
use Rattle.predicate_answer.specs.declared.CallError.{CallError}
use Rattle.predicate_answer.specs.declared.CallError.TheVariants as call

-- a run's: a number, and beside 6 and 7 a role; beside the others 0
pub record RunRefusal : Type 0 where
  pub number : ℕ
  pub role : ℕ

-- of the run, or of the call for what its caller chose
pub data Refusal : Type 0 where
  of_run : RunRefusal → Refusal
  of_call : CallError → Refusal

-- what the word was read for
abbrev pub role_of : Role → ℕ
role_of role.Fetch = 1
role_of role.JumpTarget = 2
role_of role.LoadAddress = 3
role_of role.StoreAddress = 4
role_of role.Branch = 5
role_of role.ReturnValue = 6
role_of role.EventCount = 7
role_of role.EventOperation = 8
role_of role.EventOffset = 9
role_of role.EventValue = 10

-- in the order of the numbers
abbrev pub run_refusal : Rv32Error → RunRefusal
run_refusal error.ImageSize = record { number = 1; role = 0 }
run_refusal error.SymbolOutside = record { number = 2; role = 0 }
run_refusal error.StepLimit = record { number = 3; role = 0 }
run_refusal error.BelowMemory = record { number = 4; role = 0 }
run_refusal error.PastMemory = record { number = 5; role = 0 }
run_refusal (error.Unknown r) = record { number = 6; role = role_of r }
run_refusal (error.NotUniform r) = record { number = 7; role = role_of r }
run_refusal error.Halfword = record { number = 8; role = 0 }
run_refusal error.Word = record { number = 9; role = 0 }
run_refusal error.ZeroTarget = record { number = 10; role = 0 }
run_refusal error.StoreBelowImageEnd = record { number = 11; role = 0 }
run_refusal error.EventCount = record { number = 12; role = 0 }
run_refusal error.NoRow = record { number = 13; role = 0 }
run_refusal error.NoTraceEntry = record { number = 14; role = 0 }

-- as a record holds it, with the steps that were completed before it
abbrev pub refusal_after : RunRefusal → ℕ → RecordRefusal
refusal_after q steps = record { number = q.number; role = q.role; steps = steps }

-- as a refusal
abbrev pub refusal_of : Rv32Error → Refusal
refusal_of e = of_run (run_refusal e)

-- document 02's, in the order of the numbers
abbrev pub call_number : CallError → ℕ
call_number call.FirstAboveLast = 17

-- the number and the role of either
abbrev pub number_of : Refusal → ℕ
number_of (of_run q) = q.number
number_of (of_call e) = call_number e

abbrev pub role_in : Refusal → ℕ
role_in (of_run q) = q.role
role_in (of_call e) = 0
