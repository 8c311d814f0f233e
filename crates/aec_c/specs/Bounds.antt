-- A length in bytes that no code exceeds.
use Rattle.std.specs.Prelude.{◌≡◌, ℕ, ◌+◌, ◌*◌, ◌/◌, ◌≤◌, ◌&&◌, nat_le, if◌then◌else◌, is_none, Ok, List, length}
use Rattle.std.specs.Int.{div_ceil}
use Rattle.aec_params.specs.declared.settings.Settings.{Settings}
use Rattle.aec_params.specs.Params.{settings_fault, storage_len}
use Rattle.aec_params.specs.Limits.{most_samples}
use Rattle.aec_c.specs.Calls.{IsCoding}

-- how many blocks a number of samples takes
abbrev pub block_count_of : Settings → ℕ → ℕ
block_count_of s samples = div_ceil samples s.block_size

-- five bits and the plain samples for each block, and a byte for each interval
abbrev pub most_bytes : Settings → ℕ → ℕ
most_bytes s samples = div_ceil (block_count_of s samples * (5 + s.block_size * s.bits)) 8 + div_ceil
    (block_count_of s samples) s.interval

-- a number of bytes that no code of `samples` samples exceeds; 0 if there is no code, since the
-- settings break a rule or there are more than `most_samples` samples (`aecp_bound`)
abbrev pub bound_of : Settings → ℕ → ℕ
bound_of s samples = if is_none (settings_fault s) && nat_le samples most_samples then most_bytes s samples else 0

-- `bytes` bytes are enough for the code of any stored bytes that contain `samples` whole samples
abbrev pub Suffices : Settings → ℕ → ℕ → Type 0
Suffices s samples bytes = (stored code : List ℕ) → length stored / storage_len s ≡ samples
    → IsCoding s stored (Ok code) → length code ≤ bytes
