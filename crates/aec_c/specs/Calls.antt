-- The results of the calls from C: bytes, or one refusal. `aecp.h` has the sentences.
use Rattle.std.specs.Prelude.{◌≡◌, ℕ, ◌-◌, ◌^◌, ◌⊎◌, ◌==◌, if◌then◌else◌, false, Option, Some, None, Result, Ok, Err, List}
use Rattle.aec_params.specs.declared.settings.Settings.{Settings}
use Rattle.aec_params.specs.declared.fault.Fault.{Fault}
use Rattle.aec_params.specs.declared.fault.Fault.TheVariants.{Memory}
use Rattle.aec_params.specs.Params.{IsAllowed, settings_fault}
use Rattle.aec_params.specs.Limits.{Caps, most_samples}
use Rattle.aec_engine.specs.Transfers.{input_of}
use Rattle.aec_engine.specs.Output.{IsRanged}
use Rattle.aec_engine.specs.InMemory.{IsCodeOf, bytes_refusal, IsStoredReadingOf, RefusesCoded}
use Rattle.aec_c.specs.declared.options.Options.{Options}

-- the greatest limits: the number of samples, and of coded bytes
abbrev pub most : Caps
most = record { samples = most_samples; bytes = 2 ^ 40 }

-- C's fields as settings, each by its own name
abbrev pub settings_of : Options → Settings
settings_of o = record {
  bits = o.bits;
  block_size = o.block_size;
  interval = o.interval;
  signed = o.signed;
  msb_first = o.msb_first;
  three_byte = o.three_byte;
  preprocess = o.preprocess;
  pad = o.pad;
  restricted = o.restricted;
  even_blocks = o.even_blocks;
}

-- why no empty workspace and no coder is opened: the options; or, if they are allowed, `Memory`
abbrev pub CannotBegin : Settings → Fault → Type 0
CannotBegin s fault = (settings_fault s ≡ Some fault) ⊎ (IsAllowed s × (fault ≡ Memory))

-- a sample count, or none for 2^64 - 1
abbrev pub count_of : ℕ → Option ℕ
count_of n = if n == 2 ^ 64 - 1 then None else Some n

-- the result of coding stored samples (the refusal of the options, else what `encode_bytes`
-- promises, or `Memory`)
pub data IsCoding (s : Settings) (samples : List ℕ) : Result (List ℕ) Fault → Type 0 where
  coded : (bytes : List ℕ) → IsAllowed s → IsCodeOf s most.samples samples bytes → IsCoding s samples (Ok bytes)
  -- the settings are judged first
  not_allowed : (fault : Fault) → settings_fault s ≡ Some fault → IsCoding s samples (Err fault)
  not_coded : (fault : Fault) → IsAllowed s → bytes_refusal s most.samples samples ≡ Some fault
      → IsCoding s samples (Err fault)
  lacks_memory : IsAllowed s → IsCoding s samples (Err Memory)

-- the result of decoding coded bytes (the refusal of the options, else what `decode_into` promises,
-- or `Memory`)
pub data IsDecoding (s : Settings) (count : Option ℕ) (coded : List ℕ) : Result (List ℕ) Fault → Type 0 where
  decoded : (samples : List ℕ) → IsAllowed s → IsStoredReadingOf s most count coded samples
      → IsDecoding s count coded (Ok samples)
  bad_settings : (fault : Fault) → settings_fault s ≡ Some fault → IsDecoding s count coded (Err fault)
  not_decoded : (fault : Fault) → IsAllowed s → RefusesCoded s most count coded fault
      → IsDecoding s count coded (Err fault)
  no_memory : IsAllowed s → IsDecoding s count coded (Err Memory)

-- the result of cutting out a range of coded bytes (the refusal of the options, else what
-- `range_into` promises, or `Memory`)
pub data IsRanging (s : Settings) (count : Option ℕ) (first len : ℕ) (coded : List ℕ) : Result (List ℕ) Fault
    → Type 0 where
  ranged : (answer : Result (List ℕ) Fault) → IsAllowed s
      → IsRanged s most count first len (input_of coded false) answer
      → IsRanging s count first len coded answer
  no_settings : (fault : Fault) → settings_fault s ≡ Some fault → IsRanging s count first len coded (Err fault)
  no_room : IsAllowed s → IsRanging s count first len coded (Err Memory)
