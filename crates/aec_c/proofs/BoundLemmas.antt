-- The numbers from which a bound is computed fit 64 bits.
use Rattle.std.proofs.Common.{◌≡◌, ℕ, ◌+◌, ◌*◌, ◌<◌, ◌≤◌, leb, Fits, w64, arith}
use Rattle.std.proofs.Math.Facts.{Fits-of_lt}
use Rattle.std.specs.Int.{div_ceil}
use Rattle.std.proofs.Math.Nat.{le-mul_of_pos_right}
use Rattle.std.proofs.lemmas.Bool.{and_parts, leb-true}
use Rattle.std.proofs.lemmas.Nat.{mul-le}
use Rattle.aec_params.specs.declared.settings.Settings.{Settings}
use Rattle.aec_params.specs.Params.{IsAllowed}
use Rattle.aec_params.proofs.SettingLaws.{block_size-positive, block_size-most, interval-positive}
use Rattle.aec_params.proofs.CountLaws.{ceil_bounds}
use Rattle.aec_params.specs.Limits.{most_samples}

bits-most : (s : Settings) → IsAllowed s → s.bits ≤ 32
bits-most s allowed = leb-true s.bits 32 (and_parts (leb 1 s.bits) (leb s.bits 32) allowed.bits).1

interval-most : (s : Settings) → IsAllowed s → s.interval ≤ 4096
interval-most s allowed = leb-true s.interval 4096 (and_parts (leb 1 s.interval) (leb s.interval 4096) allowed.interval).1

-- a quotient, rounded up, is below the sum of dividend and divisor
ceil-below : (m n : ℕ) → 0 < n → div_ceil m n < m + n
ceil-below m n some =
    let below : div_ceil m n * n < m + n = (ceil_bounds m n some).1 in
    let least : div_ceil m n ≤ div_ceil m n * n = le-mul_of_pos_right (div_ceil m n) some in omega arith

few_blocks : (s : Settings) (samples : ℕ) → IsAllowed s → samples ≤ most_samples → div_ceil samples s.block_size ≤ most_samples + 64
few_blocks s samples allowed few =
    let below : div_ceil samples s.block_size < samples + s.block_size = ceil-below samples s.block_size (block_size-positive s allowed) in
    let most : s.block_size ≤ 64 = block_size-most s allowed in
    let limit : samples ≤ most_samples = few in omega arith

few_bits : (s : Settings) (samples : ℕ) → IsAllowed s → samples ≤ most_samples
    → div_ceil samples s.block_size * (5 + s.block_size * s.bits) ≤ (most_samples + 64) * 2053
few_bits s samples allowed few =
    let one : s.block_size * s.bits ≤ 2048 = mul-le s.block_size s.bits 64 32 (block_size-most s allowed) (bits-most s allowed) in
    let each : 5 + s.block_size * s.bits ≤ 2053 = omega arith in
    mul-le (div_ceil samples s.block_size) (5 + s.block_size * s.bits) (most_samples + 64) 2053 (few_blocks s samples allowed few) each

-- the number of bits of all blocks fits 64 bits
pub bits_fit : (s : Settings) (samples size width blocks : ℕ) → IsAllowed s → samples ≤ most_samples → size ≡ s.block_size → width ≡ s.bits
    → blocks ≡ div_ceil samples size → Fits w64 (blocks * (5 + size * width))
bits_fit s samples size width blocks allowed few sizes widths counts =
    let most = few_bits s samples allowed few in
    let below : div_ceil samples s.block_size * (5 + s.block_size * s.bits) < 18446744073709551616 = omega arith in
    rw (counts, sizes, widths) (Fits-of_lt below)

-- the number of bytes of all blocks, plus one for each interval, fits 64 bits
pub bytes_fit : (s : Settings) (samples size width blocks interval bytes intervals : ℕ) → IsAllowed s → samples ≤ most_samples → size ≡ s.block_size
    → width ≡ s.bits → blocks ≡ div_ceil samples size → bytes ≡ div_ceil (blocks * (5 + size * width)) 8 → interval ≡ s.interval
    → intervals ≡ div_ceil blocks interval → Fits w64 (bytes + intervals)
bytes_fit s samples size width blocks interval bytes intervals allowed few sizes widths counts all long parts =
    let most = few_bits s samples allowed few in
    let least = few_blocks s samples allowed few in
    let count : ℕ = div_ceil samples s.block_size in
    let bits : ℕ = count * (5 + s.block_size * s.bits) in
    let in_bytes : div_ceil bits 8 < bits + 8 = ceil-below bits 8 (omega arith) in
    let in_intervals : div_ceil count s.interval < count + s.interval = ceil-below count s.interval (interval-positive s allowed) in
    let longest : s.interval ≤ 4096 = interval-most s allowed in
    let below : div_ceil bits 8 + div_ceil count s.interval < 18446744073709551616 = omega arith in
    rw (all, parts, long, counts, sizes, widths) (Fits-of_lt below)
