-- The answers of decoding from a bit on and of finding offsets, from the engine's contracts.
use Rattle.std.proofs.Common.{◌≡◌, ℕ, ◌*◌, ◌%◌, ◌≤◌, true, false, Option, Result, List, length}
use Rattle.std.specs.Prelude.{nat_lt, ◌==◌, ◌&&◌, not}
use Rattle.std.proofs.lemmas.Bool.{or_parts, ltb-false, eqb-true, not-false}
use Rattle.aec_params.specs.declared.settings.Settings.{Settings}
use Rattle.aec_params.specs.declared.fault.Fault.{Fault}
use Rattle.aec_params.specs.Params.{IsAllowed}
use Rattle.aec_engine.specs.Buffers.{FillsOne, OrMemory}
use Rattle.aec_engine.specs.Offsets.{IsDecodedAt, AreFound}
use Rattle.aec_engine.proofs.BufferLemmas.{fills_map}
use Rattle.aec_c.specs.Calls.{most}
use Rattle.aec_c.specs.OffsetCalls.{is_bit_refused, IsDecodingAt, read_at, IsFinding, offsets_found}

-- ---- a bit that isn't refused

pub begins_within : (s : Settings) (coded : List ℕ) (bit : ℕ) → is_bit_refused s coded bit ≡ false → bit ≤ 8 * length coded
begins_within s coded bit begins =
    ltb-false (8 * length coded) bit (or_parts (nat_lt (8 * length coded) bit) (s.pad && not (bit % 8 == 0)) begins).0

pub begins_whole : (s : Settings) (coded : List ℕ) (bit : ℕ) → is_bit_refused s coded bit ≡ false → s.pad ≡ true → bit % 8 ≡ 0
begins_whole s coded bit begins pad =
    eqb-true (bit % 8) 0 (not-false (bit % 8 == 0)
    (rw pad at (or_parts (nat_lt (8 * length coded) bit) (s.pad && not (bit % 8 == 0)) begins).1))

-- ---- answers

pub decoding_at_into : (s : Settings) (bit : ℕ) (count : Option ℕ) (coded before after : List ℕ) (r : Result ℕ Fault) → IsAllowed s
    → is_bit_refused s coded bit ≡ false → FillsOne (OrMemory (IsDecodedAt s most bit count coded)) before after r
    → FillsOne (IsDecodingAt s bit count coded) before after r
decoding_at_into s bit count coded before after r allowed begins =
    fills_map (OrMemory (IsDecodedAt s most bit count coded)) (IsDecodingAt s bit count coded) before after r (λ answer. read_at answer allowed begins)

pub finding_into : (s : Settings) (count : Option ℕ) (coded before after : List ℕ) (r : Result ℕ Fault) → IsAllowed s
    → FillsOne (OrMemory (AreFound s most count coded)) before after r → FillsOne (IsFinding s count coded) before after r
finding_into s count coded before after r allowed =
    fills_map (OrMemory (AreFound s most count coded)) (IsFinding s count coded) before after r (λ answer. offsets_found answer allowed)
