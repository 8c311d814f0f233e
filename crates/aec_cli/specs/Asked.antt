-- For proofs alone: no public contract cites this file.
-- What the private functions that read a job return: what is done, before a name is copied.
use Rattle.aec_cli.specs.declared.job.Asked.{Asked}
use Rattle.aec_cli.specs.declared.job.Asked.TheVariants as asked
use Rattle.aec_cli.specs.Jobs.{Work, coding, decoding, cutting, editing}

-- the work that `Asked` names
abbrev pub work_meant : Asked → Work
work_meant asked.Encode = coding
work_meant (asked.Decode count) = decoding count
work_meant (asked.Range first len count) = cutting first len count
work_meant (asked.Edit script count) = editing script.now count
