-- The results of decoding coded bytes from a bit on, and of finding the bits where their intervals
-- begin.
use Rattle.std.specs.Prelude.{◌≡◌, ℕ, ◌<◌, ◌≤◌, Option, None, Result, Ok, Err, ℤ, List, length, drop}
use Rattle.aec_params.specs.declared.settings.Settings.{Settings}
use Rattle.aec_params.specs.declared.fault.Fault.{Fault}
use Rattle.aec_params.specs.declared.fault.Fault.TheVariants.{StreamTooLong}
use Rattle.aec_params.specs.Limits.{Caps}
use Rattle.aec_params.specs.Codewords.{bits_of_bytes}
use Rattle.aec_params.specs.Reading.{IsReading}
use Rattle.aec_interval.specs.Reached.{count_refusal, RefusesDecoding}
use Rattle.aec_interval.specs.Offsets.{AreOffsets, RefusesDecodingAt}
use Rattle.aec_engine.specs.Output.{all_stored}

-- the result of decoding coded bytes from a bit on: the refusal of their length, of the count or of
-- the bits from there on; else the stored bytes of the samples that these bits decode to
pub data IsDecodedAt (s : Settings) (caps : Caps) (bit : ℕ) (count : Option ℕ) (coded : List ℕ) : Result
    (List ℕ) Fault → Type 0 where
  too_many_bytes : caps.bytes < length coded → IsDecodedAt s caps bit count coded (Err (StreamTooLong caps.bytes))
  not_decoded : (fault : Fault) → length coded ≤ caps.bytes
      → RefusesDecodingAt s count caps.samples (bits_of_bytes coded) bit fault
      → IsDecodedAt s caps bit count coded (Err fault)
  decoded : (samples : List ℤ) → length coded ≤ caps.bytes → count_refusal caps.samples count ≡ None
      → IsReading s count caps.samples (drop bit (bits_of_bytes coded)) samples
      → IsDecodedAt s caps bit count coded (Ok (all_stored s samples))

-- the result of finding the offsets of the intervals of coded bytes: the refusal of their length,
-- of the count or of their bits; else the offsets
pub data AreFound (s : Settings) (caps : Caps) (count : Option ℕ) (coded : List ℕ) : Result (List ℕ) Fault
    → Type 0 where
  past_limit : caps.bytes < length coded → AreFound s caps count coded (Err (StreamTooLong caps.bytes))
  not_found : (fault : Fault) → length coded ≤ caps.bytes
      → RefusesDecoding s count caps.samples (bits_of_bytes coded) fault → AreFound s caps count coded (Err fault)
  found : (offsets : List ℕ) → length coded ≤ caps.bytes → count_refusal caps.samples count ≡ None
      → AreOffsets s count caps.samples (bits_of_bytes coded) offsets → AreFound s caps count coded (Ok offsets)
