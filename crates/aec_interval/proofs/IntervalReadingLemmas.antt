-- If the code of an interval begins at a position, that interval is read there, and nothing else.
use Rattle.std.proofs.Common.{◌≡◌, ℕ, ◌+◌, ◌-◌, ◌*◌, ◌<◌, ◌≤◌, Bool, true, false, nat_lt, Some, List, ◌++◌, length, take, refl, sym, ap₂, ◌∙◌, arith}
use Rattle.std.proofs.Math.Nat.{mul_comm}
use Rattle.std.specs.Prelude.{ℤ}
use Rattle.std.specs.Int.{div_ceil}
use Rattle.std.proofs.lemmas.List.{length-take, take-append-drop, take_at}
use Rattle.std.proofs.lemmas.Bool.{le-ltb, ltb-true}
use Rattle.aec_params.specs.declared.settings.Settings.{Settings}
use Rattle.aec_params.specs.declared.fault.Fault.{Fault}
use Rattle.aec_params.specs.declared.fault.Fault.TheVariants.{Memory}
use Rattle.aec_params.specs.Params.{IsAllowed, interval_len}
use Rattle.aec_params.specs.Blocks.{blocks_of, all_blocks_of, filled_samples}
use Rattle.aec_params.specs.Intervals.{unpadded_bits, interval_bits}
use Rattle.aec_params.specs.Reading.{begin_of, IsBlockReading}
use Rattle.aec_params.proofs.CountLaws.{before_end}
use Rattle.aec_params.proofs.ReadingLaws.{FillBlocks-one_to_one}
use Rattle.aec_params.proofs.SettingLaws.{block_size-positive}
use Rattle.aec_bits.specs.Codec.{BeginsAt}
use Rattle.aec_interval.specs.IntervalFormat.{interval_format}
use Rattle.aec_interval.specs.Laws.{AreOfInterval}
use Rattle.aec_interval.specs.Pieces.{counted_from}
use Rattle.aec_interval.specs.Reached.{IsReached, IsReadFrom, RefusesReading, no_memory, faulty}
use Rattle.aec_interval.specs.Steps.{IsGoneOver}
use Rattle.aec_interval.proofs.BlockLemmas.{length-blocks_of}
use Rattle.aec_interval.proofs.IntervalLemmas.{ReadsBlocks-unpadded_bits}
use Rattle.aec_interval.proofs.PlaceLemmas.{end_of}
use Rattle.aec_interval.proofs.StreamLemmas.{interval_bits-padded, all_blocks_of-one, IsPart, part_of}
use Rattle.aec_interval.proofs.ReadNextLemmas.{reading-done}
use Rattle.aec_interval.proofs.RoundTripLemmas.{FillBlocks-all_blocks_of}
use Rattle.aec_interval.proofs.WalkLemmas.{same_blocks, no_reading_and_fault}
use Rattle.aec_interval.proofs.IntervalFormatLemmas.{AreOfInterval-format}

-- if the code of an interval begins at position `start`, its blocks are read there
IsBlockReading-behind : (s : Settings) (limit : ℕ) (pre rest bits : List Bool) (start : ℕ) (v : List ℤ) → IsAllowed s → AreOfInterval s v → start ≡ length pre
    → bits ≡ pre ++ (interval_bits s v ++ rest) → IsBlockReading s (Some (length v)) limit bits 0 start (blocks_of s v)
IsBlockReading-behind s limit pre rest bits start v a h starts spelled =
    let part : IsPart s (length v) limit 0 0 start pre bits (unpadded_bits s v) v =
    part_of s (length v) limit 0 0 start pre (unpadded_bits s v) rest bits v a h.some h.fits (ReadsBlocks-unpadded_bits s v a h.held h.some h.fits)
    (omega arith) starts (rw (spelled, interval_bits-padded)) (omega arith) in
    let len = length-blocks_of s v a in
    record {
      sets = part.sets;
      end_block = 0 * s.interval + end_of s 0 part.sets;
      end_bit = begin_of s bits (0 * s.interval + end_of s 0 part.sets) (length pre + length (unpadded_bits s v));
      leads = part.leads;
      done = le-ltb (0 * s.interval + end_of s 0 part.sets) (div_ceil (length v) s.block_size) (omega arith);
      kept = sym (ap₂ take (omega arith) part.covered ∙ part.stand_for);
    }

pub IsBlockReading-interval : (s : Settings) (limit : ℕ) (bits : List Bool) (start count : ℕ) (v : List ℤ) → IsAllowed s
    → BeginsAt (interval_format s) bits start count v → IsBlockReading s (Some count) limit bits 0 start (all_blocks_of s v)
IsBlockReading-interval s limit bits start count v a begins =
    let h = AreOfInterval-format s v begins.interval in
    let front : length (take start bits) ≡ start = length-take start bits ∙ omega arith in
    rw (← begins.length_is, all_blocks_of-one s v h.some h.fits) (IsBlockReading-behind s limit (take start bits) begins.stands.0 bits start v a h
    (sym front) (cc (take-append-drop start bits, begins.stands.1)))

-- samples that are read where the code of an interval begins are that interval's samples
pub read-interval : (s : Settings) (limit : ℕ) (bits : List Bool) (start count : ℕ) (samples v : List ℤ) → IsAllowed s
    → IsReadFrom s (Some count) limit bits start samples → BeginsAt (interval_format s) bits start count v → samples ≡ v
read-interval s limit bits start count samples v a read begins =
    let h = AreOfInterval-format s v begins.interval in
    let same = same_blocks s a (Some count) limit bits 0 start read.blocks (all_blocks_of s v) read.read
    (IsBlockReading-interval s limit bits start count v a begins) in
    let filled = FillBlocks-one_to_one s read.all_samples (filled_samples s v) (all_blocks_of s v) a
    (rw same at read.filled) (FillBlocks-all_blocks_of s v a h.held) in
    rw (read.counted, filled, take_at v _ count begins.length_is)

-- if no more samples are asked for than an interval has, its first `count` samples are all that is
-- read
pub counted-interval : (s : Settings) (limit count : ℕ) (bits list : List Bool) (start next e : ℕ) (all counted : List ℤ) → IsAllowed s
    → count ≤ interval_len s → list ≡ bits → IsReached s (Some count) limit list 0 start next e all → IsGoneOver s (Some count) list 0 next e
    → counted ≡ counted_from s (Some count) 0 all → IsReadFrom s (Some count) limit bits start counted
counted-interval s limit count bits list start next e all counted a few same reached over is =
    let front : count - 0 * s.block_size ≡ count = omega arith in
    rw (is, front) (rw same at (reading-done s (Some count) limit list start next e all reached
    (by_test (nat_lt next (div_ceil count s.block_size)) refl)))
  where
    by_test : (more : Bool) → nat_lt next (div_ceil count s.block_size) ≡ more → nat_lt next (div_ceil count s.block_size) ≡ false
    by_test false is = is
    by_test true is =
        let last : next ≡ s.interval = omega arith in
        let fewer : next * s.block_size < count =
        before_end next count s.block_size (block_size-positive s a) (ltb-true next (div_ceil count s.block_size) is) in
        absurd (grind (arith, mul_comm))

-- where the code of an interval begins, a reading with its count is refused only with `Memory`
pub memory-alone : (s : Settings) (limit : ℕ) (bits : List Bool) (start count : ℕ) (v : List ℤ) (fault : Fault) → IsAllowed s
    → RefusesReading s (Some count) limit bits 0 start fault → BeginsAt (interval_format s) bits start count v → fault ≡ Memory
memory-alone s limit bits start count v fault a (no_memory behind) begins = refl
memory-alone s limit bits start count v fault a (faulty f wrong) begins =
    absurd (no_reading_and_fault s a (Some count) limit bits 0 start (all_blocks_of s v) f (IsBlockReading-interval s limit bits start count v a begins) wrong)
