-- The results of coding and decoding for bytes in memory.
use Rattle.std.specs.Prelude.{◌≡◌, ℕ, ◌<◌, ◌≤◌, Option, Some, None, Ok, ℤ, List, length}
use Rattle.aec_params.specs.declared.settings.Settings.{Settings}
use Rattle.aec_params.specs.declared.fault.Fault.{Fault}
use Rattle.aec_params.specs.declared.fault.Fault.TheVariants.{StreamTooLong}
use Rattle.aec_params.specs.Limits.{Caps}
use Rattle.aec_params.specs.Stored.{samples_of_bytes}
use Rattle.aec_params.specs.Codewords.{bits_of_bytes, bytes_of}
use Rattle.aec_params.specs.Streams.{stream_of}
use Rattle.aec_params.specs.Reading.{IsReading}
use Rattle.aec_params.specs.Faults.{IsFault}
use Rattle.aec_interval.specs.Taking.{judged_samples}
use Rattle.aec_interval.specs.Reached.{count_refusal}
use Rattle.aec_engine.specs.Output.{all_stored}

-- the bytes of the code of the samples that bytes hold, which are no more than the limit
pub record IsCodeOf (s : Settings) (limit : ℕ) (bytes coded : List ℕ) : Type 0 where
  pub samples : List ℤ
  pub stored : samples_of_bytes s bytes ≡ Ok samples
  pub within : length samples ≤ limit
  pub is_code : coded ≡ bytes_of (stream_of s samples)

-- why bytes are not coded
abbrev pub bytes_refusal : Settings → ℕ → List ℕ → Option Fault
bytes_refusal s limit bytes = judged_samples limit (samples_of_bytes s bytes)

-- the stored bytes of the samples that coded bytes decode to
pub record IsStoredReadingOf (s : Settings) (caps : Caps) (count : Option ℕ) (coded bytes : List ℕ) : Type 0 where
  pub short_enough : length coded ≤ caps.bytes
  pub within : count_refusal caps.samples count ≡ None
  pub samples : List ℤ
  pub reading : IsReading s count caps.samples (bits_of_bytes coded) samples
  pub stored : bytes ≡ all_stored s samples

-- why coded bytes are not decoded
pub data RefusesCoded (s : Settings) (caps : Caps) (count : Option ℕ) (coded : List ℕ) : Fault → Type 0 where
  too_many_bytes : caps.bytes < length coded → RefusesCoded s caps count coded (StreamTooLong caps.bytes)
  not_counted : (fault : Fault) → length coded ≤ caps.bytes → count_refusal caps.samples count ≡ Some fault
      → RefusesCoded s caps count coded fault
  faulty : (fault : Fault) → length coded ≤ caps.bytes → count_refusal caps.samples count ≡ None
      → IsFault s count caps.samples (bits_of_bytes coded) 0 0 fault → RefusesCoded s caps count coded fault
