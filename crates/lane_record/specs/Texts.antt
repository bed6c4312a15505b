-- What people read of a record that is not read, or not written.
use Rattle.std.specs.Prelude.{List, ℕ, codes}
use Rattle.lane_record.specs.declared.ReadError.{ReadError}
use Rattle.lane_record.specs.declared.ReadError.TheVariants as read
use Rattle.lane_record.specs.declared.WriteError.{WriteError}
use Rattle.lane_record.specs.declared.WriteError.TheVariants as write

-- for want of a record, or of room in the trace
abbrev pub read_text : ReadError → List ℕ
read_text read.RulesBroken = codes "the record's rules are broken"
read_text read.TraceTooShort = codes "more steps than trace entries lent"

-- .. or in the output
abbrev pub write_text : WriteError → List ℕ
write_text write.RulesBroken = codes "the record's rules are broken"
write_text write.OutputTooShort = codes "output too short for the record"
