-- Runs of zero blocks that need no test of their places.
use Rattle.std.proofs.Common.{◌≡◌, ℕ, ◌+◌, ◌-◌, ◌*◌, ◌%◌, ◌<◌, ◌≤◌, ◌&&◌, Bool, true, false, Option, Some, None, ℤ, List, [], ◌++◌, take, drop, length, replicate, refl, sym, ap, ◌∙◌, subst, arith}
use Rattle.std.proofs.Math.Nat.{mul-le-mul_right}
use Rattle.std.proofs.lemmas.List.{take_at, length-replicate, length-take, length-drop}
use Rattle.std.proofs.lemmas.Slice.{take-put_mid}
use borrow.Rule.Slice.PartMut.{put_mid}
use Rattle.std.specs.List.{AllByRecursion}
use Rattle.aec_params.specs.declared.settings.Settings.{Settings}
use Rattle.aec_params.specs.Params.{IsAllowed, IsHeld, interval_len}
use Rattle.aec_params.specs.Places.{segment_left, block_count}
use Rattle.aec_params.specs.CodedDataSets.{Body, uncompressed_values, value_pairs, split_values, zero_blocks, CodedDataSet, HasReference}
use Rattle.aec_params.proofs.ListLaws.{all-replicate}
use Rattle.aec_params.proofs.SettingLaws.{interval-positive}
use Rattle.aec_bits.specs.BitReader.{Cursor, has_one}
use Rattle.aec_block.specs.declared.cds.RunLen.{RunLen}
use Rattle.aec_block.specs.declared.cds.Cds.TheVariants.{Zeros}
use Rattle.aec_block.specs.Gathering.{bits_at}
use Rattle.aec_block.specs.ReadCds.{IsReadAs, answer_of}
use Rattle.aec_interval.specs.NextBlock.{sample_of_zeros}
use Rattle.aec_interval.specs.NextSet.{run_count}
use Rattle.aec_interval.specs.Reached.{AreFilled}
use Rattle.aec_interval.specs.UntestedBlocks.{ReadsBlocks}
use Rattle.aec_interval.specs.ShortIntervals.{ReadsFirst}
use Rattle.aec_interval.proofs.BlockLemmas.{all-append}
use Rattle.aec_interval.proofs.NextFillLemmas.{held-zero, held-last_sample, reference-below}
use Rattle.aec_interval.proofs.PlaceLemmas.{block_count-positive}
use Rattle.aec_interval.proofs.ReachedLemmas.{AreFilled-reached}
use Rattle.aec_interval.proofs.ReadNextLemmas.{skipped-read}
use Rattle.aec_interval.proofs.WantedSetLemmas.{run_count-body_len}
use Rattle.aec_interval.proofs.UntestedLemmas.{untested-here, untested-place, wanted_there, next-there, place-next}
use Rattle.aec_interval.proofs.ShortLemmas.{reads_front, first_fits}
use Rattle.aec_interval.proofs.ZeroRunLemmas.{fills-run, repeats-zeros, sample-of-pattern}

-- ---- what a run is, wherever it stands

-- a run of zero blocks has a reference sample if one is due
run-reference : (s : Settings) (due : Bool) (reference given : Option ℕ) (body : Body) (len : RunLen) → HasReference s due given
    → Zeros reference len ≡ answer_of given body → HasReference s due reference
run-reference s due reference given (uncompressed_values values) len has is = absurd (cc)
run-reference s due reference given (value_pairs members) len has is = absurd (cc)
run-reference s due reference given (split_values k values) len has is = absurd (cc)
run-reference s due reference given (zero_blocks m) len has is = subst (HasReference s due) (sym (cc)) has

-- the sample that a run repeats is held
held-zeros : (s : Settings) (due : Bool) (reference : Option ℕ) (samples : List ℤ) (x : ℤ) → IsAllowed s → HasReference s due reference
    → AllByRecursion (IsHeld s) samples → x ≡ sample_of_zeros s reference samples → IsHeld s x
held-zeros s due (Some r) samples x allowed has held is = rw is (sample-of-pattern s r allowed (reference-below s due r has)).0
held-zeros s due None samples x allowed has held is = by_preprocess s.preprocess refl
  where
    by_preprocess : (b : Bool) → s.preprocess ≡ b → IsHeld s x
    by_preprocess true on = rw (is, on) (held-last_sample s samples allowed held)
    by_preprocess false off = rw (is, off) (held-zero s allowed)

-- a run of z blocks was read at block p of an interval; x is the sample that it repeats after the
-- samples `before`
module _ (s : Settings) (due : Bool) (p : ℕ) (old new : Cursor) (reference : Option ℕ) (len : RunLen) (z : ℕ) (before : List ℤ) (x : ℤ)
    (allowed : IsAllowed s) (place : p < s.interval) (read : (c : CodedDataSet) × IsReadAs s due old new c (Zeros reference len))
    (count_is : run_count s p len ≡ z) (held : AllByRecursion (IsHeld s) before) (x_is : x ≡ sample_of_zeros s reference before) where
  some : 1 ≤ z
  some =
      let told = (skipped-read s due old new read.0 (Zeros reference len) len refl read.1).told in
      let blocks : run_count s p len ≡ block_count s p read.0 = rw (told, run_count-body_len) in
      omega (arith, block_count-positive s p read.0 place)

  repeated-held : (n : ℕ) → AllByRecursion (IsHeld s) (replicate n x)
  repeated-held n =
      all-replicate (IsHeld s) n x
      (held-zeros s due reference before x allowed
      (run-reference s due reference read.0.reference read.0.body len read.1.set.shape.reference read.1.answer) held x_is)

-- ---- a run after other blocks of its interval

-- its samples are written from place `at` of all samples on
pub one_run : (s : Settings) (p most : ℕ) (old new : Cursor) (reference : Option ℕ) (len : RunLen) (z : ℕ) (all part : List ℤ) (x : ℤ) (at k : ℕ)
    → IsAllowed s → p < s.interval → (c : CodedDataSet) × IsReadAs s false old new c (Zeros reference len) → run_count s p len ≡ z
    → z ≤ segment_left s p → z ≤ most → has_one (bits_at old) ≡ true → new.list ≡ old.list → AllByRecursion (IsHeld s) (take at all)
    → x ≡ sample_of_zeros s reference (take at all) → k ≡ z * s.block_size → at + most * s.block_size ≤ length all
    → part ≡ replicate (length (take k (drop at all))) x → ReadsBlocks s p z old (take at all) new (take (at + z * s.block_size) (put_mid at k all part))
one_run s p most old new reference len z all part x at k allowed place read count_is fits few one same held x_is size room part_is = record {
  list = same;
  held =
      rw written (all-append (IsHeld s) (take at all) (replicate k x) held (repeated-held s false p old new reference len z (take at all) x allowed
      place read count_is held x_is k));
  leads = λ wanted end i there some_left here.
      let before : i + z ≤ end = omega (arith, positive) in
      let at_place : i % s.interval ≡ p = untested-place (untested-here z allowed here positive before one) ∙ omega arith in
      let count_there : run_count s (i % s.interval) len ≡ z = rw at_place count_is in
      let fits_there : z ≤ segment_left s (i % s.interval) = rw at_place fits in
      let next = next-there z allowed here positive before one new (Zeros reference len) len refl read count_there fits_there in
      let filled : AreFilled s (i - wanted.first) (take at all) =
      AreFilled-reached allowed here.reached (wanted_there z allowed here positive before one) in
      place-next z allowed here positive before one new (Zeros reference len) len refl read count_there fits_there
      (take (at + z * s.block_size) (put_mid at k all part))
      (rw (written, size) (fills-run s (i - wanted.first) z (take at all) reference x allowed next.0 next.1.0 next.1.1 filled
      (repeats-zeros s (i - wanted.first) (take at all) reference x allowed filled next.1.1 x_is)));
}
  where
    positive : 1 ≤ z
    positive = some s false p old new reference len z (take at all) x allowed place read count_is held x_is

    within : at + k ≤ length all
    within = omega (arith, mul-le-mul_right s.block_size few)

    repeated : part ≡ replicate k x
    repeated = part_is ∙ ap (λ n. replicate n x) (omega (arith, length-take k (drop at all), length-drop at all, within))

    written : take (at + z * s.block_size) (put_mid at k all part) ≡ (take at all) ++ replicate k x
    written =
        rw (take-put_mid at k all part (at + z * s.block_size) (omega (arith, ap length repeated, length-replicate k x)) (omega arith), repeated)

-- ---- a run with which a short interval begins

and_true : (b : Bool) → b ≡ (b && true)
and_true true = refl
and_true false = refl

pub first_run : (s : Settings) (old new : Cursor) (reference : Option ℕ) (len : RunLen) (z : ℕ) (x : ℤ) → IsAllowed s → s.interval ≤ 64
    → (c : CodedDataSet) × IsReadAs s s.preprocess old new c (Zeros reference len) → has_one (bits_at old) ≡ true → run_count s 0 len ≡ z
    → z ≤ s.interval → x ≡ sample_of_zeros s reference [] → new.list ≡ old.list → ReadsFirst s z old new (replicate (z * s.block_size) x)
first_run s old new reference len z x allowed short read one count_is within x_is same =
    reads_front s old new s.preprocess (Zeros reference len) len z (replicate (z * s.block_size) x) allowed refl (and_true s.preprocess) refl read one count_is
    (some s s.preprocess 0 old new reference len z [] x allowed positive read count_is tt x_is) (first_fits s z allowed short within)
    (λ k filled next. fills-run s k z [] reference x allowed next.0 next.1.0 next.1.1 filled
    (repeats-zeros s k [] reference x allowed filled next.1.1 x_is)) same
    (repeated-held s s.preprocess 0 old new reference len z [] x allowed positive read count_is tt x_is (z * s.block_size))
  where
    positive : 0 < s.interval
    positive = interval-positive s allowed

-- its samples are written to the front of those of the interval
pub run_in_front : (s : Settings) (z k : ℕ) (all part : List ℤ) (x : ℤ) → z ≤ s.interval → k ≡ z * s.block_size → length all ≡ interval_len s
    → part ≡ replicate (length (take k all)) x → take (z * s.block_size) (part ++ drop k all) ≡ replicate (z * s.block_size) x
run_in_front s z k all part x within size len part_is = grind (arith, take_at, length-replicate, length-take)
