-- Bits have one reading, or one fault, and never two results.
use Rattle.std.proofs.Common.{◌≡◌, ℕ, ◌+◌, ◌-◌, ◌*◌, ◌≤◌, Bool, Option, Some, None, List, length, take, drop, ap, ◌∙◌, arith, inl, inr, ◌⊎◌, ⊎_elim}
use Rattle.std.specs.Prelude.{ℤ}
use Rattle.std.specs.List.{AllByRecursion}
use Rattle.std.specs.Int.{div_ceil}
use Rattle.std.proofs.lemmas.List.{length-take, take-append-drop}
use Rattle.std.proofs.lemmas.Bool.{ltb-false}
use Rattle.aec_params.specs.declared.settings.Settings.{Settings}
use Rattle.aec_params.specs.declared.fault.Fault.{Fault}
use Rattle.aec_params.specs.Params.{IsAllowed, IsHeld}
use Rattle.aec_params.specs.CodedDataSets.{CodedDataSet}
use Rattle.aec_params.specs.Reading.{LeadsTo, stream_blocks, counted_samples, IsReading}
use Rattle.aec_params.specs.Faults.{IsFault}
use Rattle.aec_params.proofs.ReadingLaws.{FillBlocks-one_to_one, IsReading-of_blocks}
use Rattle.aec_interval.specs.Laws.{BitsAreReadInOneWay, ReadingsAreSamples}
use Rattle.aec_interval.proofs.CuttingLemmas.{div_ceil-bounds}
use Rattle.aec_params.proofs.SettingLaws.{block_size-positive}
use Rattle.aec_interval.proofs.BlockLemmas.{all_left}
use Rattle.aec_interval.proofs.ReachedLemmas.{length-stream_blocks as length-led_blocks}
use Rattle.aec_interval.proofs.WalkLemmas.{same_blocks, one_fault, no_reading_and_fault}
use Rattle.aec_interval.proofs.OutcomeLemmas.{outcome}
use Rattle.aec_interval.proofs.StreamLemmas.{interval-positive}

module _ (s : Settings) (a : IsAllowed s) (count : Option ℕ) (limit : ℕ) (bits : List Bool) where
  one_reading : (xs ys : List ℤ) → IsReading s count limit bits xs → IsReading s count limit bits ys → xs ≡ ys
  one_reading xs ys x y =
      let same = same_blocks s a count limit bits 0 0 x.blocks y.blocks x.read y.read in
      rw (x.counted, FillBlocks-one_to_one s x.all_samples y.all_samples y.blocks a (rw same at x.filled) y.filled, y.counted)

  either : ((samples : List ℤ) × IsReading s count limit bits samples) ⊎ ((fault : Fault) × IsFault s count limit bits 0 0 fault)
  either = ⊎_elim (λ r. inl (IsReading-of_blocks s count limit bits r.0 a r.1)) (λ f. inr f) (outcome s a count limit bits 0 0)

pub bits_are_read_in_one_way : (s : Settings) (count : Option ℕ) (limit : ℕ) (bits : List Bool) → IsAllowed s → BitsAreReadInOneWay s count limit bits
bits_are_read_in_one_way s count limit bits a = record {
  either = either s a count limit bits;
  not_both = λ samples fault x y. no_reading_and_fault s a count limit bits 0 0 x.blocks fault x.read y;
  one_reading = one_reading s a count limit bits;
  one_fault = one_fault s a count limit bits 0 0;
}

-- ---- the samples of a reading

all-counted : (s : Settings) (count : Option ℕ) (xs : List ℤ) → AllByRecursion (IsHeld s) xs → AllByRecursion (IsHeld s) (counted_samples count xs)
all-counted s None xs h = h
all-counted s (Some count) xs h = all_left (IsHeld s) (take count xs) (drop count xs) (rw take-append-drop h)

-- a walk from block i to block j stands for j - i blocks
pub length-stream_blocks : (s : Settings) (count : Option ℕ) (limit : ℕ) (bits : List Bool) (i b : ℕ) (sets : List CodedDataSet) (j e : ℕ) → IsAllowed s
    → LeadsTo s count limit bits i b sets j e → i + length (stream_blocks s i sets) ≡ j
length-stream_blocks s count limit bits i b sets j e a leads = length-led_blocks s count limit bits i b sets j e (interval-positive s a) leads

counted_length : (s : Settings) (limit : ℕ) (bits : List Bool) (count : ℕ) (samples : List ℤ) → IsAllowed s → IsReading s (Some count) limit bits samples
    → length samples ≡ count
counted_length s limit bits count samples a h =
    let needed = div_ceil count s.block_size in
    let r = h.read in
    let reached : needed ≤ r.end_block = ltb-false r.end_block needed r.done in
    let many = length-stream_blocks s (Some count) limit bits 0 0 r.sets r.end_block r.end_bit a r.leads in
    let blocks : length h.blocks ≡ needed = rw r.kept (length-take (needed - 0) (stream_blocks s 0 r.sets) ∙ omega arith) in
    let whole = h.filled.whole ∙ ap (λ m. m * s.block_size) blocks in
    rw h.counted (length-take count h.all_samples ∙ omega (arith, div_ceil-bounds count s.block_size (block_size-positive s a)))

pub readings_are_samples : (s : Settings) (limit : ℕ) (bits : List Bool) → IsAllowed s → ReadingsAreSamples s limit bits
readings_are_samples s limit bits a = record {
  held = λ count samples h. rw h.counted (all-counted s count h.all_samples h.filled.held);
  counted = λ count samples h. counted_length s limit bits count samples a h;
}
