-- The code of all samples.
use Rattle.std.specs.Prelude.{Bool, ℤ, List}
use Rattle.std.specs.List.{flat_map}
use Rattle.aec_params.specs.declared.settings.Settings.{Settings}
use Rattle.aec_params.specs.Blocks.{intervals_of}
use Rattle.aec_params.specs.Intervals.{interval_bits}

-- the intervals' codes, one after the other (§11; one function of all samples, without positions or
-- index)
abbrev pub stream_of : Settings → List ℤ → List Bool
stream_of s samples = flat_map (interval_bits s) (intervals_of s samples)
