-- For proofs alone: no public contract cites this file.
-- What is known of the stream that edits leave.
use Rattle.std.specs.Prelude.{◌≡◌, ℕ, Bool, List, [], length}
use Rattle.aec_params.specs.declared.settings.Settings.{Settings}
use Rattle.aec_params.specs.declared.edit.Edit.{Edit}
use Rattle.aec_params.specs.Params.{IsAllowed}
use Rattle.aec_params.specs.Codewords.{bytes_of, bits_of_bytes}
use Rattle.aec_params.specs.Streams.{stream_of}
use Rattle.aec_interval.specs.IntervalFormat.{interval_format}
use Rattle.aec_edit.specs.declared.outcome.Outcome.{Outcome}
use Rattle.aec_edit.specs.Runs.{AnswersAll, all_left}

-- edits that began with no samples had these outcomes; these are the bits of the bytes that their
-- stream fills, and the number of samples
pub record IsWritten (s : Settings) (limit : ℕ) (edits : List Edit) (done : List Outcome) (calls : ℕ)
    (bits : List Bool) (count : ℕ) : Type 0 where
  pub allowed : IsAllowed s
  pub answers : AnswersAll (interval_format s) limit [] 0 edits done calls
  pub bits_are : bits ≡ bits_of_bytes (bytes_of (stream_of s (all_left [] edits done)))
  pub count_is : count ≡ length (all_left [] edits done)
