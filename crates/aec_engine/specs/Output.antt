-- What a run writes: a function of its inputs, or one refusal.
use Rattle.std.specs.Prelude.{◌≡◌, ℕ, ◌+◌, ◌<◌, ◌≤◌, nat_lt, if◌then◌else◌, Bool, Option, Some, None, is_some, Result, Ok, Err, ℤ, List, length, take, drop}
use Rattle.std.specs.List.{flat_map}
use Rattle.std.specs.Option.{option_or}
use Rattle.aec_params.specs.declared.settings.Settings.{Settings}
use Rattle.aec_params.specs.declared.fault.Fault.{Fault}
use Rattle.aec_params.specs.declared.fault.Fault.TheVariants.{OutOfRange, Read, StreamTooLong}
use Rattle.aec_params.specs.Limits.{Caps}
use Rattle.aec_params.specs.Stored.{stored_bytes, samples_of_bytes}
use Rattle.aec_params.specs.Codewords.{bits_of_bytes, bytes_of}
use Rattle.aec_params.specs.Streams.{stream_of}
use Rattle.aec_params.specs.Reading.{IsReading}
use Rattle.aec_params.specs.Faults.{IsFault}
use Rattle.aec_interval.specs.Taking.{judged_samples}
use Rattle.aec_interval.specs.Reached.{count_refusal}
use Rattle.aec_engine.specs.Transfers.{Input, Taking, are_past, Gave}

-- ---- coding

-- bytes with a sample that is refused, whatever follows them: one that is too many, or out of range
-- (COMMAND: Order of a run; of all bytes together, where the code judges sample by sample)
abbrev pub are_refused : Settings → ℕ → List ℕ → Bool
are_refused s limit bytes = is_some (judged_samples limit (samples_of_bytes s bytes))

-- why an input is not coded: the first refusal of its samples, and after them the failure of its
-- source (COMMAND: Order of a run)
abbrev pub coding_refusal : Settings → ℕ → Input → Option Fault
coding_refusal s limit input = option_or (judged_samples limit (samples_of_bytes s input.bytes))
    (if input.failed then Some Read else None)

-- the result of coding (COMMAND: Limits, time and memory; how bytes are read isn't said)
pub data IsEncoded (s : Settings) (caps : Caps) (input : Input) : Result (List ℕ) Fault → Type 0 where
  not_coded : (fault : Fault) → coding_refusal s caps.samples input ≡ Some fault → IsEncoded s caps input (Err fault)
  -- the bytes of the samples' code
  encoded : (samples : List ℤ) → coding_refusal s caps.samples input ≡ None
      → samples_of_bytes s input.bytes ≡ Ok samples
      → IsEncoded s caps input (Ok (bytes_of (stream_of s samples)))

-- ---- decoding

-- samples as bytes, one after the other (COMMAND: Stored samples)
abbrev pub all_stored : Settings → List ℤ → List ℕ
all_stored s samples = flat_map (stored_bytes s) samples

-- the refusal of an input that is read whole (COMMAND: Order of a run)
abbrev pub intake_refusal : ℕ → Input → Option Fault
intake_refusal limit input = if nat_lt limit (length input.bytes) then Some (StreamTooLong limit)
    else (if input.failed then Some Read else None)

-- the samples that an input decodes to: it is taken whole, no count is above the limit, and its
-- bits have this reading
pub record IsRead (s : Settings) (caps : Caps) (count : Option ℕ) (input : Input) (samples : List ℤ) : Type 0 where
  pub taken : intake_refusal caps.bytes input ≡ None
  pub within : count_refusal caps.samples count ≡ None
  pub reading : IsReading s count caps.samples (bits_of_bytes input.bytes) samples

-- a source returned an input that decodes to these samples
pub record GaveSamples (s : Settings) (caps : Caps) (count : Option ℕ) (source : Taking)
    (samples : List ℤ) : Type 0 where
  pub input : Input
  pub gave : Gave source (are_past caps.bytes) input
  pub read : IsRead s caps count input samples

-- the result of decoding (COMMAND: Order of a run)
pub data IsDecoded (s : Settings) (caps : Caps) (count : Option ℕ) (input : Input) : Result (List ℕ) Fault
    → Type 0 where
  -- the input is refused before it is read as coded data
  not_taken : (fault : Fault) → intake_refusal caps.bytes input ≡ Some fault → IsDecoded s caps count input (Err fault)
  not_counted : (fault : Fault) → intake_refusal caps.bytes input ≡ None → count_refusal caps.samples count ≡ Some fault
      → IsDecoded s caps count input (Err fault)
  -- the samples that it decodes to, or the fault of its bits
  decoded : (samples : List ℤ) → IsRead s caps count input samples
      → IsDecoded s caps count input (Ok (all_stored s samples))
  faulty : (fault : Fault) → intake_refusal caps.bytes input ≡ None → count_refusal caps.samples count ≡ None
      → IsFault s count caps.samples (bits_of_bytes input.bytes) 0 0 fault → IsDecoded s caps count input (Err fault)

-- ---- ranges

-- `len` samples from place `first` on, places being counted from 0
abbrev pub samples_from : ℕ → ℕ → List ℤ → List ℤ
samples_from first len samples = take len (drop first samples)

-- the result of cutting out a range (COMMAND: Ranges; a refusal of decoding, then of its place,
-- else the stored bytes of the part)
pub data IsRanged (s : Settings) (caps : Caps) (count : Option ℕ) (first len : ℕ) (input : Input) : Result
    (List ℕ) Fault → Type 0 where
  -- the refusals of decoding: the whole input has to be sound
  not_decoded : (fault : Fault) → IsDecoded s caps count input (Err fault)
      → IsRanged s caps count first len input (Err fault)
  -- a place outside the samples that it decodes to
  outside : (samples : List ℤ) → IsRead s caps count input samples → length samples < first + len
      → IsRanged s caps count first len input (Err (OutOfRange (length samples)))
  cut_out : (samples : List ℤ) → IsRead s caps count input samples → first + len ≤ length samples
      → IsRanged s caps count first len input (Ok (all_stored s (samples_from first len samples)))
