-- The offsets of the code of samples are where the codes of the intervals begin.
use Rattle.std.proofs.Common.{◌≡◌, ℕ, zero, suc, ◌+◌, ◌*◌, ◌%◌, ◌<◌, ◌≤◌, Bool, Option, Some, ℤ, List, [], ◌∷◌, ◌++◌, length, take, drop, get_or, refl, sym, ap, ◌∙◌, subst, arith, append-nil, append_assoc}
use Rattle.std.specs.List.{AllByRecursion}
use Rattle.std.specs.Int.{div_ceil}
use Rattle.std.proofs.Math.Nat.{mod-lt, suc-mul}
use Rattle.std.proofs.lemmas.List.{length-append, length-take-le, length-drop, take-append-drop, nil_from_length}
use Rattle.aec_params.specs.declared.settings.Settings.{Settings}
use Rattle.aec_params.specs.Params.{IsAllowed, IsHeld, interval_len}
use Rattle.aec_params.specs.Blocks.{blocks_of}
use Rattle.aec_params.specs.CodedDataSets.{CodedDataSet}
use Rattle.aec_params.specs.Places.{is_reference_block}
use Rattle.aec_params.specs.Intervals.{unpadded_bits}
use Rattle.aec_params.specs.Streams.{stream_of}
use Rattle.aec_params.specs.Reading.{begin_of, next_block, next_begin, LeadsTo}
use Rattle.aec_params.proofs.SettingLaws.{interval-positive}
use Rattle.aec_params.proofs.SampleLaws.{interval_len-positive, held-take, held-drop}
use Rattle.aec_params.proofs.StreamLaws.{length-cds_blocks}
use Rattle.aec_interval.specs.Offsets.{IsPassed, interval_begin, OffsetsAreOfTheCode}
use Rattle.aec_interval.proofs.BlockLemmas.{length-blocks_of}
use Rattle.aec_interval.proofs.IntervalLemmas.{ReadsBlocks-unpadded_bits}
use Rattle.aec_interval.proofs.PlaceLemmas.{end_of, LeadsTo-append, block_count-positive}
use Rattle.aec_interval.proofs.StreamLemmas.{padded_code, IsAligned, IsAligned-code, interval_bits-padded, begin_of-code, IsPart, part_of, length-full_blocks, stream_of-nil, stream_of-cons}
use Rattle.aec_interval.proofs.ReachedLemmas.{length-stream_blocks}
use Rattle.aec_interval.proofs.WalkLemmas.{same_set}
use Rattle.aec_interval.proofs.PieceReadingLemmas.{before_count}
use Rattle.aec_interval.proofs.OffsetLemmas.{cut_code}

-- ---- two ways to one block come to one bit

module _ (s : Settings) (a : IsAllowed s) (count : Option ℕ) (limit : ℕ) (bits : List Bool) where
  -- a coded data set leads on
  leads-ahead : (i b : ℕ) (c : CodedDataSet) (sets : List CodedDataSet) (j e : ℕ) → LeadsTo s count limit bits i b (c ∷ sets) j e → i < j
  leads-ahead i b c sets j e leads =
      grind (arith, mod-lt, interval-positive, length-stream_blocks, length-append, length-cds_blocks, block_count-positive)

  same_bit : (i b : ℕ) (sets later : List CodedDataSet) (j e f : ℕ) → LeadsTo s count limit bits i b sets j e → LeadsTo s count limit bits i b later j f → e ≡ f
  same_bit i b [] [] j e f h t = h.1 ∙ sym t.1
  same_bit i b [] (d ∷ later) j e f h t = absurd (omega (arith, leads-ahead i b d later j f t))
  same_bit i b (c ∷ sets) [] j e f h t = absurd (omega (arith, leads-ahead i b c sets j e h))
  same_bit i b (c ∷ sets) (d ∷ later) j e f h t =
      let same : d ≡ c = same_set s bits b (is_reference_block s (i % s.interval)) d c a t.2.shape h.2.shape t.1 h.1 in
      same_bit (next_block s i c) (next_begin s bits i b c) sets later j e f h.4 (rw same at t.4)

-- ---- the way through the codes of whole intervals

module _ (s : Settings) (a : IsAllowed s) (count limit : ℕ) (bits tail : List Bool) where
  -- after k intervals, whose codes are `pre`, come the codes of m intervals
  abbrev Through : ℕ → ℕ → List ℤ → List Bool → Type 0
  Through m k xs pre = (sets : List CodedDataSet)
      × LeadsTo s (Some count) limit bits (k * s.interval) (length pre) sets ((k + m) * s.interval) (length (pre ++ stream_of s xs))

  abbrev GoesThrough : ℕ → Type 0
  GoesThrough m = (k : ℕ) (xs : List ℤ) (pre : List Bool) → length xs ≡ m * interval_len s → AllByRecursion (IsHeld s) xs → IsAligned s pre
      → bits ≡ pre ++ (stream_of s xs ++ tail) → (k + m) * s.interval ≤ div_ceil count s.block_size → Through m k xs pre

  through_one : (m : ℕ) → GoesThrough m → GoesThrough (suc m)
  through_one m on k xs pre len held aligned spelled enough = (
    part.sets ++ later.0,
    rw (block-is, bit-is) at (LeadsTo-append s (Some count) limit bits (k * s.interval) (length pre) part.sets (suc k * s.interval) (length next_pre)
        later.0 ((suc k + m) * s.interval) (length (next_pre ++ stream_of s behind)) led later.1),
  )
    where
      n : ℕ
      n = interval_len s

      first : List ℤ
      first = take (interval_len s) xs

      behind : List ℤ
      behind = drop (interval_len s) xs

      code : List Bool
      code = unpadded_bits s first

      next_pre : List Bool
      next_pre = pre ++ padded_code s code

      first-len : length first ≡ interval_len s
      first-len = length-take-le (interval_len s) xs (omega arith)

      behind-len : length behind ≡ m * interval_len s
      behind-len = omega (arith, length-drop (interval_len s) xs, suc-mul m (interval_len s))

      some : 0 < length first
      some = omega (arith, first-len, interval_len-positive s a)

      few : length first ≤ interval_len s
      few = omega (arith, first-len)

      first-held : AllByRecursion (IsHeld s) first
      first-held = held-take s (interval_len s) xs held

      cut : stream_of s xs ≡ padded_code s code ++ stream_of s behind
      cut =
          cc (
            take-append-drop (interval_len s) xs,
            stream_of-cons s first behind (record { some = some; fits = few; full = λ _. first-len }),
            interval_bits-padded s first,
          )

      spelled-here : bits ≡ pre ++ (padded_code s code ++ (stream_of s behind ++ tail))
      spelled-here = rw (spelled, cut, append_assoc)

      spelled-later : bits ≡ next_pre ++ (stream_of s behind ++ tail)
      spelled-later = spelled-here ∙ sym (append_assoc pre (padded_code s code) (stream_of s behind ++ tail))

      blocks : (k m r : ℕ) → (k + suc m) * r ≡ k * r + r + m * r
      blocks k m r = omega arith

      full : length (blocks_of s first) ≡ s.interval
      full = length-full_blocks s first a first-len

      part : IsPart s count limit k (k * s.interval) (length pre) pre bits code first
      part = part_of s count limit k (k * s.interval) (length pre) pre code (stream_of s behind ++ tail) bits first a some few
          (ReadsBlocks-unpadded_bits s first a first-held some few) refl refl spelled-here
          (omega (arith, full, length-blocks_of s first a, blocks k m s.interval))

      next : k * s.interval + end_of s 0 part.sets ≡ suc k * s.interval
      next = omega (arith, part.reaches, part.within, full)

      start : begin_of s bits (k * s.interval + end_of s 0 part.sets) (length pre + length code) ≡ length next_pre
      start = simp (spelled-here, next, begin_of-code)

      led : LeadsTo s (Some count) limit bits (k * s.interval) (length pre) part.sets (suc k * s.interval) (length next_pre)
      led = rw (← start, ← next) part.leads

      block-is : (suc k + m) * s.interval ≡ (k + suc m) * s.interval
      block-is = ap (λ n. n * s.interval) (omega arith)

      later : Through m (suc k) behind next_pre
      later = on (suc k) behind next_pre behind-len (held-drop s (interval_len s) xs held) (IsAligned-code s code pre aligned) spelled-later
          (omega arith)

      bit-is : length (next_pre ++ stream_of s behind) ≡ length (pre ++ stream_of s xs)
      bit-is = rw (append_assoc, cut)

  through : (m : ℕ) → GoesThrough m
  through zero k xs pre len held aligned spelled enough =
      let none : xs ≡ [] = nil_from_length xs (omega arith) in
      let same : (k + 0) * s.interval ≡ k * s.interval = ap (λ n. n * s.interval) (omega arith) in
      ([], (same, rw (none, stream_of-nil, append-nil)))
  through (suc m) k xs pre len held aligned spelled enough = through_one m (through m) k xs pre len held aligned spelled enough

-- where a reading of the code comes to interval i, the code of the interval begins
passed-begin : (s : Settings) (limit : ℕ) (samples : List ℤ) (rest : List Bool) (i b : ℕ) → IsAllowed s → AllByRecursion (IsHeld s) samples
    → IsPassed s (Some (length samples)) limit (stream_of s samples ++ rest) (i * s.interval) b → b ≡ interval_begin s i samples
passed-begin s limit samples rest i b a held passed =
    sym (same_bit s a (Some (length samples)) limit bits 0 0 way.0 passed.sets (i * s.interval) (interval_begin s i samples) b way_there passed.leads)
  where
    bits : List Bool
    bits = stream_of s samples ++ rest

    front : List ℤ
    front = take (i * interval_len s) samples

    back : List ℤ
    back = drop (i * interval_len s) samples

    needed : i * s.interval < div_ceil (length samples) s.block_size
    needed = grind arith

    within : i * interval_len s ≤ length samples
    within = omega (arith, before_count s (length samples) (i * s.interval) a needed)

    no_more : 0 + i ≡ i
    no_more = omega arith

    spelled : stream_of s samples ++ rest ≡ [] ++ (stream_of s front ++ (stream_of s back ++ rest))
    spelled = rw (cut_code s a samples i within, append_assoc)

    way : Through s a (length samples) limit (stream_of s samples ++ rest) (stream_of s back ++ rest) i 0 front []
    way = through s a (length samples) limit (stream_of s samples ++ rest) (stream_of s back ++ rest) i 0 front []
        (length-take-le (i * interval_len s) samples within) (held-take s (i * interval_len s) samples held) (λ _. refl) spelled (grind arith)

    no_start : 0 * s.interval ≡ 0
    no_start = omega arith

    way_there : LeadsTo s (Some (length samples)) limit (stream_of s samples ++ rest) 0 0 way.0 (i * s.interval) (interval_begin s i samples)
    way_there =
        rw no_start at (subst (λ x. LeadsTo s (Some (length samples)) limit (stream_of s samples ++ rest) (0 * s.interval) 0 way.0 x
        (interval_begin s i samples)) (ap (λ n. n * s.interval) no_more) way.1)

pub offsets_are_of_the_code : OffsetsAreOfTheCode
offsets_are_of_the_code s limit samples rest offsets a held h i below = passed-begin s limit samples rest i (get_or offsets i 0) a held (h.passed i below)
