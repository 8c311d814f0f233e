-- The bound is enough for the code of any samples.
use Rattle.std.proofs.Common.{◌≡◌, ℕ, ◌+◌, ◌*◌, ◌≤◌, Bool, true, false, not, if◌then◌else◌, Option, Some, None, Result, Ok, ℤ, List, length, refl, sym, ap, ◌∙◌, arith}
use Rattle.std.specs.Prelude.{◌&&◌, nat_le, nat_lt, is_none, IsTrue}
use Rattle.std.specs.Int.{div_ceil}
use Rattle.std.proofs.lemmas.Bool.{cond-true, and_from, le-leb}
use Rattle.aec_params.specs.declared.settings.Settings.{Settings}
use Rattle.aec_params.specs.declared.fault.Fault.{Fault}
use Rattle.aec_params.specs.declared.fault.Fault.TheVariants.{BitsPerSample, BlockSize, EvenBlockSize, Interval, RestrictedWidth}
use Rattle.aec_params.specs.Params.{IsAllowed, is_between, has_block_size, settings_fault}
use Rattle.aec_params.specs.Codewords.{bytes_of}
use Rattle.aec_params.specs.Streams.{stream_of}
use Rattle.aec_params.proofs.ByteLaws.{length-bytes_of}
use Rattle.aec_params.specs.Limits.{most_samples}
use Rattle.aec_interval.proofs.TakingLemmas.{length-samples_of_bytes}
use Rattle.aec_c.specs.Calls.{IsCoding, coded, not_allowed, not_coded, lacks_memory}
use Rattle.aec_c.specs.Bounds.{block_count_of, most_bytes, bound_of, Suffices}
use Rattle.aec_c.proofs.CodeLengthLemmas.{block_most, stream-most}

no_rule_broken : (a b c d : Bool) (w x y z : Option Fault) → IsTrue a → IsTrue b → IsTrue c → IsTrue (not d)
    → is_none (if not a then w else (if not b then x else (if not c then y else (if d then z else None)))) ≡ true
no_rule_broken true true true false w x y z p q r t = refl
no_rule_broken true true true true w x y z p q r t = absurd (cc)
no_rule_broken true true false d w x y z p q r t = absurd (cc)
no_rule_broken true false c d w x y z p q r t = absurd (cc)
no_rule_broken false b c d w x y z p q r t = absurd (cc)

allowed-none : (s : Settings) → IsAllowed s → is_none (settings_fault s) ≡ true
allowed-none s allowed =
    no_rule_broken (is_between 1 32 s.bits) (has_block_size s) (is_between 1 4096 s.interval) (s.restricted && nat_lt 4 s.bits)
    (Some BitsPerSample) (Some (if s.even_blocks then EvenBlockSize else BlockSize)) (Some Interval) (Some RestrictedWidth)
    allowed.bits allowed.block_size allowed.interval allowed.restricted

bound_of-allowed : (s : Settings) (samples : ℕ) → IsAllowed s → samples ≤ most_samples → bound_of s samples ≡ most_bytes s samples
bound_of-allowed s samples allowed few =
    cond-true (is_none (settings_fault s) && nat_le samples most_samples) (most_bytes s samples) 0
    (and_from (is_none (settings_fault s)) (nat_le samples most_samples) (allowed-none s allowed) (le-leb samples most_samples few))

in_bytes : (bits most intervals : ℕ) → bits ≤ most + 8 * intervals → div_ceil bits 8 ≤ div_ceil most 8 + intervals
in_bytes bits most intervals within = omega arith

code-most : (s : Settings) (samples : List ℤ) → IsAllowed s → length (bytes_of (stream_of s samples)) ≤ most_bytes s (length samples)
code-most s samples allowed =
    let blocks = block_count_of s (length samples) in
    omega (
      arith,
      length-bytes_of (stream_of s samples),
      in_bytes (length (stream_of s samples)) (blocks * block_most s) (div_ceil blocks s.interval) (stream-most s samples allowed),
    )

pub bound_suffices : (s : Settings) (samples bound : ℕ) → bound ≡ bound_of s samples → Suffices s samples bound
bound_suffices s samples bound is stored code counted answer = by_answer (Ok code) refl answer
  where
    by_answer : (r : Result (List ℕ) Fault) → r ≡ Ok code → IsCoding s stored r → length code ≤ bound
    by_answer r same (coded bytes allowed read) =
        let number : length read.samples ≡ samples = length-samples_of_bytes s stored read.samples read.stored ∙ counted in
        let most = code-most s read.samples allowed in
        let here = is ∙ bound_of-allowed s samples allowed (omega (arith, number, read.within)) in
        let spelled : code ≡ bytes_of (stream_of s read.samples) = (let given : bytes ≡ code = cc in sym given) ∙ read.is_code in
        omega (arith, here, ap length spelled, ap (most_bytes s) number)
    by_answer r same (not_allowed fault why) = absurd (cc)
    by_answer r same (not_coded fault allowed why) = absurd (cc)
    by_answer r same (lacks_memory _) = absurd (cc)
