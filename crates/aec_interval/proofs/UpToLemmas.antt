-- A refusal up to some block is a refusal of the reading.
use Rattle.std.proofs.Common.{ℕ, Bool, Option, List}
use Rattle.aec_params.specs.declared.settings.Settings.{Settings}
use Rattle.aec_params.specs.declared.fault.Fault.{Fault}
use Rattle.aec_interval.specs.Reached.{RefusesReading, no_memory, faulty, RefusesUpTo, no_room, wrong_before}

pub up_to-reading : (s : Settings) (count : Option ℕ) (limit : ℕ) (bits : List Bool) (first start end : ℕ) (fault : Fault)
    → RefusesUpTo s count limit bits first start end fault → RefusesReading s count limit bits first start fault
up_to-reading s count limit bits first start end fault (no_room behind within) = no_memory behind
up_to-reading s count limit bits first start end fault (wrong_before f wrong before) = faulty f wrong
