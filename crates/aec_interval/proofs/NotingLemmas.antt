-- Offsets that are noted while a reader passes over intervals.
use Rattle.std.proofs.Common.{◌≡◌, ℕ, ◌+◌, ◌-◌, ◌*◌, ◌<◌, ◌≤◌, Bool, true, false, Option, Some, None, IfSome, ℤ, List, [], ◌∷◌, ◌++◌, length, take, get_or, refl, sym, ◌∙◌, subst, arith, ⊎_elim}
use Rattle.std.specs.Int.{div_ceil}
use Rattle.std.specs.Option.{is_some}
use Rattle.std.proofs.Math.Nat.{mul-pos, mul-div_cancel, mul_comm}
use Rattle.std.proofs.lemmas.Bool.{cases_lt, ltb-true}
use Rattle.std.proofs.lemmas.List.{length-append, length-take, get_or_append_left, get_or_push}
use Rattle.aec_params.specs.declared.settings.Settings.{Settings}
use Rattle.aec_params.specs.declared.fault.Fault.{Fault}
use Rattle.aec_params.specs.declared.fault.Fault.TheVariants.{Memory}
use Rattle.aec_params.specs.Params.{IsAllowed, interval_len}
use Rattle.aec_params.specs.Blocks.{Block}
use Rattle.aec_params.specs.Reading.{is_wanted, stream_blocks, kept_blocks, FillBlocks, IsReading}
use Rattle.aec_params.proofs.SettingLaws.{block_size-positive, interval-positive}
use Rattle.aec_params.proofs.SampleLaws.{interval_len-positive}
use Rattle.aec_interval.specs.Reached.{no_memory, wrong_before, count_refusal, RefusesDecoding, unread}
use Rattle.aec_interval.specs.Pieces.{Place, place_at, is_wanted_at, counted_from, ReadsInterval, HasRead}
use Rattle.aec_interval.specs.Skipping.{HasInterval, IsFaultAt}
use Rattle.aec_interval.specs.Offsets.{IsPassed, AreOffsets}
use Rattle.aec_interval.proofs.CuttingLemmas.{div_ceil-zero, div_ceil-one}
use Rattle.aec_interval.proofs.StreamLemmas.{div_ceil-add}
use Rattle.aec_interval.proofs.ReachedLemmas.{length-stream_blocks}
use Rattle.aec_interval.proofs.PieceReadingLemmas.{before_count, has_read_nothing, has_read_more, has_read_all, has_read_whole, has_read_refused}
use Rattle.aec_interval.proofs.UntestedLemmas.{behind-one}
use Rattle.aec_interval.proofs.AloneLemmas.{passed-alone}

-- up to a place, the offsets of all intervals were noted
pub record HasNoted (s : Settings) (count : Option ℕ) (limit : ℕ) (bits : List Bool) (p : Place) (offsets : List ℕ) : Type 0 where
  pub same : p ≡ place_at s count limit bits p.block p.bit
  pub samples : List ℤ
  pub read : HasRead p samples
  pub number : div_ceil (length samples) (interval_len s) ≡ length offsets
  pub next : is_wanted_at p ≡ true → p.block ≡ length offsets * s.interval
  pub each : (i : ℕ) → i < length offsets → IsPassed s count limit bits (i * s.interval) (get_or offsets i 0)

module _ (s : Settings) (a : IsAllowed s) (count : Option ℕ) (limit : ℕ) (bits : List Bool) where
  abbrev at : ℕ → ℕ → Place
  at i b = place_at s count limit bits i b

  pub noted-start : (p : Place) (offsets : List ℕ) → p ≡ place_at s count limit bits 0 0 → offsets ≡ [] → HasNoted s count limit bits p offsets
  noted-start p offsets is none =
      rw (is, none) (record {
        same = refl;
        samples = [];
        read = has_read_nothing s count limit bits;
        number = div_ceil-zero (interval_len s) (interval_len-positive s a);
        next = λ _. omega arith;
        each = λ i below. absurd (omega arith);
      })

  -- ---- one interval more

  module _ (i b : ℕ) (ys : List ℤ) (j e : ℕ) (step : ReadsInterval (place_at s count limit bits i b) ys (place_at s count limit bits j e)) where
    stream-len : i + length (stream_blocks s i step.piece.sets) ≡ j
    stream-len = length-stream_blocks s count limit bits i b step.piece.sets j e (interval-positive s a) step.piece.leads

    -- it isn't empty
    step-some : 0 < length ys
    step-some = by_count count step.wanted step.piece.all_samples step.piece.filled step.piece.counted
      where
        blocks : List Block
        blocks = stream_blocks s i step.piece.sets

        by_count : (count : Option ℕ) → is_wanted s count bits i b ≡ true → (all : List ℤ)
            → FillBlocks s all (kept_blocks s count i (stream_blocks s i step.piece.sets))
            → ys ≡ counted_from s count i all → 0 < length ys
        by_count None wanted all filled is =
            let some : 0 < length blocks * s.block_size = mul-pos (omega (arith, stream-len)) (block_size-positive s a) in
            grind arith
        by_count (Some n) wanted all filled is =
            let below = ltb-true i (div_ceil n s.block_size) wanted in
            let kept = length-take (div_ceil n s.block_size - i) blocks in
            let some : 0 < length (take (div_ceil n s.block_size - i) blocks) * s.block_size =
            mul-pos (omega (arith, stream-len, kept, below)) (block_size-positive s a) in
            grind (arith, length-take, before_count)

    module _ (offsets : List ℕ) (noted : HasNoted s count limit bits (place_at s count limit bits i b) offsets) where
      block-is : i ≡ length offsets * s.interval
      block-is = noted.next step.wanted

      whole : length noted.samples ≡ length offsets * interval_len s
      whole =
          rw (
            has_read_whole (place_at s count limit bits i b) noted.samples a noted.read step.wanted step.begins,
            block-is,
            mul-div_cancel (length offsets) (interval-positive s a),
          )

      one_more : div_ceil (length (noted.samples ++ ys)) (interval_len s) ≡ length (offsets ++ b ∷ [])
      one_more =
          let both : length (noted.samples ++ ys) ≡ interval_len s * length offsets + length ys = rw (length-append, whole, mul_comm) in
          rw both (div_ceil-add (length offsets) (length ys) (interval_len s) (interval_len-positive s a)
          ∙ omega (arith, div_ceil-one (length ys) (interval_len s) step-some step.few, length-append offsets (b ∷ [])))

      each_more : (k : ℕ) → k < length (offsets ++ b ∷ []) → IsPassed s count limit bits (k * s.interval) (get_or (offsets ++ b ∷ []) k 0)
      each_more k below = ⊎_elim earlier last (cases_lt k (length offsets))
        where
          earlier : k < length offsets → IsPassed s count limit bits (k * s.interval) (get_or (offsets ++ b ∷ []) k 0)
          earlier h = rw get_or_append_left (noted.each k h)

          here : IsPassed s count limit bits i b
          here = record { sets = noted.read.sets; leads = noted.read.leads; wanted = step.wanted; begins = step.begins }

          last : length offsets ≤ k → IsPassed s count limit bits (k * s.interval) (get_or (offsets ++ b ∷ []) k 0)
          last h =
              let is : length offsets ≡ k = omega (arith, length-append offsets (b ∷ [])) in
              rw (get_or_push offsets) (rw (block-is, is) at here)

      noted-step : HasNoted s count limit bits (place_at s count limit bits j e) (offsets ++ b ∷ [])
      noted-step = record {
        same = refl;
        samples = noted.samples ++ ys;
        read = has_read_more (place_at s count limit bits i b) (place_at s count limit bits j e) noted.samples ys a noted.read step;
        number = one_more;
        next = λ wanted. rw (step.to_end wanted, block-is, length-append) (omega arith);
        each = each_more;
      }

  pub noted-more : (p q : Place) (len b : ℕ) (offsets pushed : List ℕ) → HasNoted s count limit bits p offsets → HasInterval p len q → b ≡ p.bit
      → pushed ≡ offsets ++ b ∷ [] → HasNoted s count limit bits q pushed
  noted-more p q len b offsets pushed noted has is push =
      let from = noted.same in
      let to : q ≡ place_at s count limit bits q.block q.bit = rw (has.read.piece.same, from) in
      let step = rw (from, to) at has.read in
      let before = rw from at noted in
      rw (push, is, to) (noted-step p.block p.bit has.samples q.block q.bit step offsets before)

  -- ---- the end

  pub noted-all : (p : Place) (offsets : List ℕ) → HasNoted s count limit bits p offsets → is_wanted_at p ≡ false → AreOffsets s count limit bits offsets
  noted-all p offsets noted done =
      let reading : IsReading s count limit bits noted.samples =
      has_read_all (place_at s count limit bits p.block p.bit) noted.samples a (rw noted.same at noted.read) (rw noted.same at done) in
      record {
        samples = noted.samples;
        reading = reading;
        number = sym noted.number;
        passed = noted.each;
        alone = λ i below. passed-alone s count limit bits i (get_or offsets i 0) noted.samples a (noted.each i below) reading;
      }

  -- ---- a refusal

  pub noted-refused : (p : Place) (offsets : List ℕ) (fault : Fault) → HasNoted s count limit bits p offsets → None ≡ count_refusal limit count
      → IsFaultAt p fault → RefusesDecoding s count limit bits fault
  noted-refused p offsets fault noted none wrong =
      let there = rw noted.same at wrong in
      unread fault (sym none) (has_read_refused (place_at s count limit bits p.block p.bit) noted.samples fault a
      (rw noted.same at noted.read) (wrong_before fault there.wrong there.before))

  -- after a first interval at least one coded data set was read
  pub noted-memory : (p q : Place) (len : ℕ) (offsets : List ℕ) → HasNoted s count limit bits p offsets → HasInterval p len q → None ≡ count_refusal limit count
      → RefusesDecoding s count limit bits Memory
  noted-memory p q len offsets noted has none =
      let more = noted-more p q len p.bit offsets (offsets ++ p.bit ∷ []) noted has refl refl in
      let read = subst (λ q. HasRead q more.samples) more.same more.read in
      unread Memory (sym none) (no_memory (behind-one s count limit bits 0 0 read.sets q.block q.bit read.leads (omega arith)).0)

pub found_interval : (p q : Place) (found : Option ℕ) → IfSome found (λ len. HasInterval p len q) → is_some found ≡ true → (len : ℕ) × HasInterval p len q
found_interval p q None has some = absurd (cc)
found_interval p q (Some len) has some = (len, has)
