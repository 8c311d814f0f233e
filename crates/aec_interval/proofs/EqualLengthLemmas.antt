-- The codes of two different intervals of equal length differ, whatever bits follow them.
use Rattle.std.proofs.Common.{◌≡◌, ℕ, ◌+◌, ◌<◌, ◌≤◌, Bool, List, [], ◌∷◌, ◌++◌, length, refl, sym, ◌∙◌, arith}
use Rattle.std.specs.Prelude.{ℤ}
use Rattle.std.specs.List.{AllByRecursion, flat_map}
use Rattle.std.proofs.lemmas.List.{append_assoc, append_cancel_left}
use Rattle.std.proofs.lemmas.Bool.{leb-true}
use Rattle.aec_params.specs.declared.settings.Settings.{Settings}
use Rattle.aec_params.specs.Params.{IsAllowed, IsHeld, interval_len}
use Rattle.aec_params.specs.Blocks.{Block, blocks_of}
use Rattle.aec_params.specs.CodedDataSets.{CodedDataSet, cds_bits}
use Rattle.aec_params.specs.Places.{block_count, is_reference_block}
use Rattle.aec_params.specs.Intervals.{unpadded_bits, interval_bits}
use Rattle.aec_params.specs.Reading.{Covers, ReadsBlocks}
use Rattle.aec_params.proofs.SampleLaws.{blocks_of-one_to_one}
use Rattle.aec_block.proofs.SetLemmas.{no_set_is_a_prefix}
use Rattle.aec_interval.proofs.BlockLemmas.{length-blocks_of}
use Rattle.aec_interval.proofs.IntervalLemmas.{ReadsBlocks-unpadded_bits}
use Rattle.aec_interval.proofs.StreamLemmas.{padding_of, interval_bits-padded}

-- coded data sets that reach from block p to block n and begin the same bits are equal
pub same_covers : (s : Settings) (n p : ℕ) (sets later : List CodedDataSet) (x y : List Bool) → IsAllowed s → Covers s n p sets → Covers s n p later
    → flat_map (cds_bits s) sets ++ x ≡ flat_map (cds_bits s) later ++ y → (sets ≡ later) × (x ≡ y)
same_covers s n p [] [] x y a h k e = (refl, e)
same_covers s n p [] (d ∷ later) x y a h k e = absurd (omega (arith, leb-true n p h))
same_covers s n p (c ∷ sets) [] x y a h k e = absurd (omega (arith, leb-true n p k))
same_covers s n p (c ∷ sets) (d ∷ later) x y a h k e =
    let first = no_set_is_a_prefix s a (is_reference_block s p) c d (flat_map (cds_bits s) sets ++ x) (flat_map (cds_bits s) later ++ y) h.1.shape k.1.shape
    (sym (append_assoc (cds_bits s c) (flat_map (cds_bits s) sets) x) ∙ e ∙ append_assoc (cds_bits s d) (flat_map (cds_bits s) later) y) in
    let rest = same_covers s n (p + block_count s p c) sets later x y a h.2 (rw first.0 k.2) first.1 in
    (rw (first.0, rest.0), rest.1)

-- if codes for equal numbers of blocks begin the same bits, the blocks and the codes are equal
same_readings : (s : Settings) (bits more x y : List Bool) (blocks others : List Block) → IsAllowed s → length blocks ≡ length others
    → ReadsBlocks s bits blocks → ReadsBlocks s more others → bits ++ x ≡ more ++ y → (blocks ≡ others) × (bits ≡ more)
same_readings s bits more x y blocks others a len r t e =
    let same = same_covers s (length blocks) 0 r.sets t.sets x y a r.covers (rw len t.covers) (rw (← r.spelled, e, t.spelled)) in (
      rw (← r.stand_for, len, same.0) t.stand_for,
      rw (r.spelled, same.0, t.spelled),
    )

-- if the codes of two intervals of equal length begin the same bits, the intervals are equal, and
-- the bits after them too
pub equal_lengths : (s : Settings) (v w : List ℤ) (x y : List Bool) → IsAllowed s → AllByRecursion (IsHeld s) v → AllByRecursion (IsHeld s) w
    → 0 < length v → length v ≤ interval_len s → length v ≡ length w → interval_bits s v ++ x ≡ interval_bits s w ++ y → (v ≡ w) × (x ≡ y)
equal_lengths s v w x y a h k some few len e =
    let blocks : length (blocks_of s v) ≡ length (blocks_of s w) = rw (length-blocks_of, len, length-blocks_of) in
    let plain = same_readings s (unpadded_bits s v) (unpadded_bits s w) (padding_of s (unpadded_bits s v) ++ x) (padding_of s (unpadded_bits s w) ++ y)
    (blocks_of s v) (blocks_of s w) a blocks
    (ReadsBlocks-unpadded_bits s v a h some few) (ReadsBlocks-unpadded_bits s w a k (omega arith) (omega arith))
    (rw (← append_assoc, ← interval_bits-padded, e, interval_bits-padded, append_assoc)) in
    let same = blocks_of-one_to_one s v w a h k len plain.0 in
    (same, append_cancel_left (interval_bits s v) x y (rw (e, same)))
