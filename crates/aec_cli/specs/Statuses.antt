-- The statuses of failures.
use Rattle.std.specs.Prelude.{ℕ}
use Rattle.aec_cli.specs.declared.usage.Usage.{Usage}
use Rattle.aec_cli.specs.declared.usage.Usage.TheVariants.{Jobs, Count, Range, Setting, Memory}
use Rattle.aec_cli.specs.declared.failure.Failure.{Failure}
use Rattle.aec_cli.specs.declared.failure.Failure.TheVariants as failure
use Rattle.aec_cli.specs.declared.start.StartFault.{StartFault}
use Rattle.aec_cli.specs.declared.start.StartFault.TheVariants as start

-- 2 for words that make no job, but 1 for lack of memory, no fault of the words (COMMAND: Exit
-- status)
abbrev pub usage_status : Usage → ℕ
usage_status Jobs = 2
usage_status Count = 2
usage_status Range = 2
usage_status (Setting fault) = 2
usage_status Memory = 1

-- and 1 for a job that was refused (COMMAND: Exit status)
abbrev pub status_of : Failure → ℕ
status_of (failure.Usage usage) = usage_status usage
status_of (failure.Fault fault) = 1
status_of (failure.Edit fault) = 1

-- if a process begins no run: 2 for words that are no text, else 1 (COMMAND: Exit status)
abbrev pub start_status : StartFault → ℕ
start_status start.Stream = 1
start_status start.Words = 2
start_status start.Memory = 1

-- the faults of words: a word is no text, or there is no memory for the words
abbrev pub ConcernsWords : StartFault → Type 0
ConcernsWords start.Stream = ⊥
ConcernsWords start.Words = Unit {0}
ConcernsWords start.Memory = Unit {0}
