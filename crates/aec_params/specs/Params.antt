-- The parameters of a stream: which the format has, and the numbers that follow from them.
use Rattle.std.specs.Prelude.{ℕ, ◌+◌, ◌-◌, ◌*◌, ◌^◌, ◌%◌, Bool, true, false, ◌&&◌, ◌||◌, not, nat_le, nat_lt, ◌==◌, if◌then◌else◌, Option, Some, None, ℤ, pos, negsuc, neg_ℤ, ◌-ℤ◌, int_le, IsTrue}
use Rattle.aec_params.specs.declared.settings.Settings.{Settings}
use Rattle.aec_params.specs.declared.fault.Fault.{Fault}
use Rattle.aec_params.specs.declared.fault.Fault.TheVariants.{BitsPerSample, BlockSize, Interval, RestrictedWidth, EvenBlockSize}

-- whether n lies from low to high (§1)
abbrev pub is_between : ℕ → ℕ → ℕ → Bool
is_between low high n = nat_le low n && nat_le n high

-- the block sizes of the standard (§1)
abbrev pub is_block_size : ℕ → Bool
is_block_size j = (j == 8) || ((j == 16) || ((j == 32) || (j == 64)))

-- the even numbers from 8 to 64 (§1)
abbrev pub is_even_block_size : ℕ → Bool
is_even_block_size j = is_between 8 64 j && (j % 2 == 0)

-- whether the block size is one that the settings may have (§1)
abbrev pub has_block_size : Settings → Bool
has_block_size s = if s.even_blocks then is_even_block_size s.block_size else is_block_size s.block_size

-- the first rule that the settings break, if there is one (COMMAND: Order of a run; in the order
-- `-n`, `-j`, `-r`, `-t`)
abbrev pub settings_fault : Settings → Option Fault
settings_fault s =
    if not (is_between 1 32 s.bits) then Some BitsPerSample
    else (if not (has_block_size s) then Some (if s.even_blocks then EvenBlockSize else BlockSize)
    else (if not (is_between 1 4096 s.interval) then Some Interval
    else (if s.restricted && nat_lt 4 s.bits then Some RestrictedWidth else None)))

-- the settings if no option says otherwise (COMMAND: Options)
abbrev pub usual_settings : Settings
usual_settings = record {
  bits = 8;
  block_size = 8;
  interval = 2;
  signed = false;
  msb_first = false;
  three_byte = false;
  preprocess = true;
  pad = false;
  restricted = false;
  even_blocks = false;
}

-- settings that break no rule (§1)
pub record IsAllowed (s : Settings) : Type 0 where
  pub bits : IsTrue (is_between 1 32 s.bits)
  pub block_size : IsTrue (has_block_size s)
  pub interval : IsTrue (is_between 1 4096 s.interval)
  pub restricted : IsTrue (not (s.restricted && nat_lt 4 s.bits))

-- samples in a reference sample interval (§1)
abbrev pub interval_len : Settings → ℕ
interval_len s = s.block_size * s.interval

-- bits of an identifier (§6; the column L of the table)
abbrev pub id_len : Settings → ℕ
id_len s =
    if s.restricted then (if nat_le s.bits 2 then 1 else 2)
    else (if nat_le s.bits 8 then 3 else (if nat_le s.bits 16 then 4 else 5))

-- how many sample-splitting options there are (§6; by a power, where the code shifts)
abbrev pub split_count : Settings → ℕ
split_count s = 2 ^ id_len s - 2

-- the greatest k of a sample-splitting option, if there is one (§6; with L = 1 none)
abbrev pub k_max : Settings → Option ℕ
k_max s = if id_len s == 1 then None else Some (2 ^ id_len s - 3)

-- the least sample (§1)
abbrev pub x_min : Settings → ℤ
x_min s = if s.signed then neg_ℤ (pos (2 ^ (s.bits - 1))) else pos 0

-- the greatest sample (§1)
abbrev pub x_max : Settings → ℤ
x_max s = if s.signed then pos (2 ^ (s.bits - 1) - 1) else pos (2 ^ s.bits - 1)

-- whether a number is a sample of these settings (§1)
abbrev pub is_held : Settings → ℤ → Bool
is_held s x = int_le (x_min s) x && int_le x (x_max s)

-- that a number is a sample of these settings (§1)
abbrev pub IsHeld : Settings → ℤ → Type 0
IsHeld s x = IsTrue (is_held s x)

-- a sample's two's complement in n bits, as an unsigned number (§1; by the sign, where the code
-- takes the remainder of 64 bits)
abbrev pub sample_pattern : Settings → ℤ → ℕ
sample_pattern s (pos m) = m
sample_pattern s (negsuc m) = 2 ^ s.bits - (m + 1)

-- the sample of a pattern, the inverse of `sample_pattern`: if samples are signed, the patterns of
-- the upper half are those of negative samples (§1; the law `samples_are_values` says that patterns
-- are one-to-one)
abbrev pub pattern_value : Settings → ℕ → ℤ
pattern_value s u = if s.signed && nat_le (2 ^ (s.bits - 1)) u then pos u -ℤ pos (2 ^ s.bits) else pos u

-- bytes of a stored sample (§2)
abbrev pub storage_len : Settings → ℕ
storage_len s =
    if nat_le s.bits 8 then 1
    else (if nat_le s.bits 16 then 2 else (if s.three_byte && nat_le s.bits 24 then 3 else 4))
