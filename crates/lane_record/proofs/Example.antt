-- The worked record and the table of ranges, by computation. Assumes nothing.
use mathlib.Core.Path.{refl}
use Rattle.lane_record.specs.Decode.{decode_record}
use Rattle.lane_record.specs.Cases.{RangesTaken, RangesBroken, WorkedRecord}

pub worked_record : WorkedRecord
unfolding decode_record
worked_record = record { read = refl; written = refl }

pub ranges_taken : RangesTaken
unfolding decode_record
ranges_taken = refl

pub ranges_broken : RangesBroken
unfolding decode_record
ranges_broken = refl
