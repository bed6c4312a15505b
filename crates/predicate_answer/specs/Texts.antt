-- What people read of a refusal: its reason, and what was read where it has a role.
use Rattle.std.specs.Prelude.{List, ℕ, ◌++◌, codes}
use Rattle.predicate_answer.specs.declared.Role.{Role}
use Rattle.predicate_answer.specs.declared.Role.TheVariants as role
use Rattle.predicate_answer.specs.declared.Rv32Error.{Rv32Error}
use Rattle.predicate_answer.specs.declared.Rv32Error.TheVariants as error
use Rattle.predicate_answer.specs.declared.CallError.{CallError}
use Rattle.predicate_answer.specs.declared.CallError.TheVariants as call

-- what the word was read for
abbrev pub role_text : Role → List ℕ
role_text role.Fetch = codes "fetch"
role_text role.JumpTarget = codes "jump target"
role_text role.LoadAddress = codes "load address"
role_text role.StoreAddress = codes "store address"
role_text role.Branch = codes "branch"
role_text role.ReturnValue = codes "return value"
role_text role.EventCount = codes "event count"
role_text role.EventOperation = codes "operation"
role_text role.EventOffset = codes "offset"
role_text role.EventValue = codes "value"

-- in the order of the numbers
abbrev pub run_text : Rv32Error → List ℕ
run_text error.ImageSize = codes "the image is empty or too large"
run_text error.SymbolOutside = codes "a symbol lies outside memory"
run_text error.StepLimit = codes "not at stop after 1,000,000 steps"
run_text error.BelowMemory = codes "address below memory"
run_text error.PastMemory = codes "access past memory's end"
run_text (error.Unknown r) = codes "unknown: " ++ role_text r
run_text (error.NotUniform r) = codes "not the same in all lanes: " ++ role_text r
run_text error.Halfword = codes "halfword not accepted"
run_text error.Word = codes "word not accepted"
run_text error.ZeroTarget = codes "jump target 0"
run_text error.StoreBelowImageEnd = codes "store below the image's end"
run_text error.EventCount = codes "event count above 32 or unlike the number of recorded SWs"
run_text error.NoRow = codes "more distinct written bytes than rows lent"
run_text error.NoTraceEntry = codes "more steps than trace entries lent"

-- of a call
abbrev pub call_text : CallError → List ℕ
call_text call.FirstAboveLast = codes "first input above last"
