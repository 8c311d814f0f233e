-- What a buffer contains after decoding from a bit on, and after finding offsets.
use Rattle.std.proofs.Common.{◌≡◌, ℕ, ◌<◌, ◌≤◌, Bool, Option, None, Result, Ok, Err, ℤ, List, length, drop, sym, ap, subst, ◌⊎◌, inl, inr}
use Rattle.aec_params.specs.declared.settings.Settings.{Settings}
use Rattle.aec_params.specs.declared.fault.Fault.{Fault}
use Rattle.aec_params.specs.declared.fault.Fault.TheVariants.{Memory, StreamTooLong}
use Rattle.aec_params.specs.Limits.{Caps}
use Rattle.aec_params.specs.Codewords.{bits_of_bytes}
use Rattle.aec_params.specs.Reading.{IsReading}
use Rattle.aec_interval.specs.Reached.{count_refusal, RefusesDecoding}
use Rattle.aec_interval.specs.Offsets.{AreOffsets, RefusesDecodingAt}
use Rattle.aec_engine.specs.Output.{all_stored}
use Rattle.aec_engine.specs.Buffers.{FillsOne, OrMemory}
use Rattle.aec_engine.specs.Offsets.{IsDecodedAt, too_many_bytes, not_decoded, decoded, AreFound, past_limit, not_found, found}
use Rattle.aec_engine.proofs.BufferLemmas.{fills_refusal, fills_map}

-- ---- the bits

-- why there are no bits of coded bytes
abbrev pub LacksBits : ℕ → ℕ → Fault → Type 0
LacksBits len limit fault = (fault ≡ Memory) ⊎ ((limit < len) × (fault ≡ StreamTooLong limit))

lacks_bits : (answers : Result (List ℕ) Fault → Type 0) (len limit : ℕ) (before : List ℕ) (r : Result ℕ Fault) (fault f : Fault) → r ≡ Err fault
    → fault ≡ f → (limit < len → answers (Err (StreamTooLong limit))) → LacksBits len limit f → FillsOne (OrMemory answers) before before r
lacks_bits answers len limit before r fault f is same long (inl lacks) = fills_refusal (OrMemory answers) before r fault f is same (inl (ap Err lacks))
lacks_bits answers len limit before r fault f is same long (inr past) =
    fills_refusal (OrMemory answers) before r fault f is same (inr (subst (λ f. answers (Err f)) (sym past.1) (long past.0)))

module _ (s : Settings) (caps : Caps) (count : Option ℕ) (coded before : List ℕ) (r : Result ℕ Fault) where
  -- ---- decoding from a bit on

  module _ (bit : ℕ) where
    pub at_lacks_bits : (limit : ℕ) (fault f : Fault) → limit ≡ caps.bytes → r ≡ Err fault → fault ≡ f → LacksBits (length coded) limit f
        → FillsOne (OrMemory (IsDecodedAt s caps bit count coded)) before before r
    at_lacks_bits limit fault f limited is same lacks =
        lacks_bits (IsDecodedAt s caps bit count coded) (length coded) caps.bytes before r fault f is same too_many_bytes
        (subst (λ limit. LacksBits (length coded) limit f) limited lacks)

    pub at_refused : (bits : List Bool) (limit most : ℕ) (fault f : Fault) → limit ≡ caps.bytes → most ≡ caps.samples → bits ≡ bits_of_bytes coded
        → length coded ≤ limit → r ≡ Err fault → fault ≡ f → RefusesDecodingAt s count most bits bit f
        → FillsOne (OrMemory (IsDecodedAt s caps bit count coded)) before before r
    at_refused bits limit most fault f limited mosts spelled short is same refuses =
        fills_refusal (OrMemory (IsDecodedAt s caps bit count coded)) before r fault f is same
        (inr (not_decoded f (subst (λ limit. length coded ≤ limit) limited short)
        (subst (λ bits. RefusesDecodingAt s count caps.samples bits bit f) spelled
        (subst (λ most. RefusesDecodingAt s count most bits bit f) mosts refuses))))

    pub at_decoded : (after : List ℕ) (bits : List Bool) (limit most : ℕ) (samples : List ℤ) → limit ≡ caps.bytes → most ≡ caps.samples
        → bits ≡ bits_of_bytes coded → length coded ≤ limit
        → (count_refusal most count ≡ None) × IsReading s count most (drop bit bits) samples
        → FillsOne (λ answer. answer ≡ Ok (all_stored s samples)) before after r
        → FillsOne (OrMemory (IsDecodedAt s caps bit count coded)) before after r
    at_decoded after bits limit most samples limited mosts spelled short read =
        let there = subst (λ bits. (count_refusal caps.samples count ≡ None) × IsReading s count caps.samples (drop bit bits) samples) spelled
        (subst (λ most. (count_refusal most count ≡ None) × IsReading s count most (drop bit bits) samples) mosts read) in
        fills_map (λ answer. answer ≡ Ok (all_stored s samples)) (OrMemory (IsDecodedAt s caps bit count coded)) before after r
        (λ answer is. inr (subst (IsDecodedAt s caps bit count coded) (sym is)
        (decoded samples (subst (λ limit. length coded ≤ limit) limited short) there.0 there.1)))

  -- ---- offsets

  pub offsets_lack_bits : (limit : ℕ) (fault f : Fault) → limit ≡ caps.bytes → r ≡ Err fault → fault ≡ f → LacksBits (length coded) limit f
      → FillsOne (OrMemory (AreFound s caps count coded)) before before r
  offsets_lack_bits limit fault f limited is same lacks =
      lacks_bits (AreFound s caps count coded) (length coded) caps.bytes before r fault f is same past_limit
      (subst (λ limit. LacksBits (length coded) limit f) limited lacks)

  pub offsets_refused : (bits : List Bool) (limit most : ℕ) (fault f : Fault) → limit ≡ caps.bytes → most ≡ caps.samples → bits ≡ bits_of_bytes coded
      → length coded ≤ limit → r ≡ Err fault → fault ≡ f → RefusesDecoding s count most bits f
      → FillsOne (OrMemory (AreFound s caps count coded)) before before r
  offsets_refused bits limit most fault f limited mosts spelled short is same refuses =
      fills_refusal (OrMemory (AreFound s caps count coded)) before r fault f is same
      (inr (not_found f (subst (λ limit. length coded ≤ limit) limited short)
      (subst (λ bits. RefusesDecoding s count caps.samples bits f) spelled (subst (λ most. RefusesDecoding s count most bits f) mosts refuses))))

  pub offsets_found : (after : List ℕ) (bits : List Bool) (limit most : ℕ) (offsets : List ℕ) → limit ≡ caps.bytes → most ≡ caps.samples
      → bits ≡ bits_of_bytes coded → length coded ≤ limit
      → (count_refusal most count ≡ None) × AreOffsets s count most bits offsets
      → FillsOne (λ answer. answer ≡ Ok offsets) before after r
      → FillsOne (OrMemory (AreFound s caps count coded)) before after r
  offsets_found after bits limit most offsets limited mosts spelled short are =
      let there = subst (λ bits. (count_refusal caps.samples count ≡ None) × AreOffsets s count caps.samples bits offsets) spelled
      (subst (λ most. (count_refusal most count ≡ None) × AreOffsets s count most bits offsets) mosts are) in
      fills_map (λ answer. answer ≡ Ok offsets) (OrMemory (AreFound s caps count coded)) before after r
      (λ answer is. inr (subst (AreFound s caps count coded) (sym is)
      (found offsets (subst (λ limit. length coded ≤ limit) limited short) there.0 there.1)))
