-- Where the code of an interval begins, and that it is read from there on.
use Rattle.std.proofs.Common.{◌≡◌, ℕ, ◌-◌, ◌*◌, ◌≤◌, Bool, Some, ℤ, List, [], ◌++◌, length, take, drop, refl, sym, subst, arith, append_assoc}
use Rattle.std.specs.List.{AllByRecursion}
use Rattle.std.proofs.lemmas.List.{length-append, length-take-le, length-drop, drop_at, take-append-drop}
use Rattle.aec_params.specs.declared.settings.Settings.{Settings}
use Rattle.aec_params.specs.Params.{IsAllowed, IsHeld, interval_len}
use Rattle.aec_params.specs.Intervals.{unpadded_bits}
use Rattle.aec_params.specs.Streams.{stream_of}
use Rattle.aec_params.specs.Reading.{IsReading}
use Rattle.aec_params.proofs.SampleLaws.{held-drop, interval_len-positive}
use Rattle.aec_interval.specs.Offsets.{interval_begin, IntervalsAreReadAlone}
use Rattle.aec_interval.proofs.CuttingLemmas.{IsPieceBefore, by_pieces}
use Rattle.aec_interval.proofs.StreamLemmas.{IsAligned, IsAligned-code, stream_of-cons}
use Rattle.aec_interval.proofs.PieceLemmas.{stream_of-append}
use Rattle.aec_interval.proofs.RoundTripLemmas.{IsReading-stream_of}
use Rattle.aec_interval.proofs.FewerLemmas.{IsReading-fewer}

-- with padding, a code is whole bytes
pub stream_of-aligned : (s : Settings) → IsAllowed s → (xs : List ℤ) → IsAligned s (stream_of s xs)
stream_of-aligned s a = by_pieces (λ xs. IsAligned s (stream_of s xs)) (interval_len s) (interval_len-positive s a) (λ pad. grind arith) step
  where
    step : (front rest : List ℤ) → IsPieceBefore (interval_len s) front rest → IsAligned s (stream_of s rest) → IsAligned s (stream_of s (front ++ rest))
    step front rest piece ih pad =
        let first = IsAligned-code s (unpadded_bits s front) [] (λ _. refl) pad in
        grind (arith, stream_of-cons, length-append, ih)

module _ (s : Settings) (a : IsAllowed s) (samples : List ℤ) (i : ℕ) (within : i * interval_len s ≤ length samples) where
  -- the code is that of the samples before the interval, and then that of the others
  pub cut_code : stream_of s samples ≡ stream_of s (take (i * interval_len s) samples) ++ stream_of s (drop (i * interval_len s) samples)
  cut_code =
      cc (
        take-append-drop (i * interval_len s) samples,
        stream_of-append s i (take (i * interval_len s) samples) (drop (i * interval_len s) samples)
            a (length-take-le (i * interval_len s) samples within),
      )

  rest-is : (rest : List Bool) → drop (interval_begin s i samples) (stream_of s samples ++ rest)
      ≡ stream_of s (drop (i * interval_len s) samples) ++ rest
  rest-is rest = rw (cut_code, append_assoc, drop_at)

  read_there : AllByRecursion (IsHeld s) samples → (rest : List Bool) (limit k : ℕ) → k ≤ length samples - i * interval_len s
      → IsReading s (Some k) limit (drop (interval_begin s i samples) (stream_of s samples ++ rest)) (take k (drop (i * interval_len s) samples))
  read_there held rest limit k few =
      let xs = drop (i * interval_len s) samples in
      subst (λ bits. IsReading s (Some k) limit bits (take k xs)) (sym (rest-is rest))
      (IsReading-fewer s limit (length xs) k (stream_of s xs ++ rest) xs a (omega (arith, length-drop (i * interval_len s) samples))
      (IsReading-stream_of s limit xs rest a (held-drop s (i * interval_len s) samples held)))

pub intervals_are_read_alone : IntervalsAreReadAlone
intervals_are_read_alone s samples rest i a held within = record {
  within =
      grind (
        arith,
        cut_code s a samples i within,
        length-append (stream_of s (take (i * interval_len s) samples)) (stream_of s (drop (i * interval_len s) samples)),
        length-append (stream_of s samples) rest,
      );
  whole_bytes = stream_of-aligned s a (take (i * interval_len s) samples);
  read = read_there s a samples i within held rest;
}
