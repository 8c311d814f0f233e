-- The codec of reference sample intervals.
use Rattle.aec_params.specs.declared.settings.Settings.{Settings}
use Rattle.aec_params.specs.Params.{interval_len, is_held}
use Rattle.aec_params.specs.Intervals.{interval_bits}
use Rattle.aec_bits.specs.Codec.{Format}

-- how these settings code intervals (the format of `AecCodec`: it only joins `interval_bits`,
-- `interval_len` and `is_held`)
abbrev pub interval_format : Settings → Format
interval_format s = record { bits_of = interval_bits s; most = interval_len s; holds = is_held s }
