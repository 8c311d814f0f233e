-- Each reading of blocks is a reading of exactly one list of samples.
use Rattle.std.proofs.Common.{◌≡◌, ℕ, ◌+◌, ◌-◌, ◌%◌, ◌≤◌, Bool, List, [], ◌∷◌, length, take, drop, Option, Some, None, ℤ, refl, ap, sym, ◌∙◌, subst, arith}
use Rattle.std.specs.Int.{div_ceil}
use Rattle.std.proofs.lemmas.List.{take-append-drop}
use Rattle.std.proofs.Math.Nat.{mod-eq_of_lt}
use Rattle.aec_params.specs.declared.settings.Settings.{Settings}
use Rattle.aec_params.specs.Params.{IsAllowed}
use Rattle.aec_params.specs.Blocks.{Block}
use Rattle.aec_params.specs.CodedDataSets.{CodedDataSet}
use Rattle.aec_params.specs.Places.{IsLawfulAt, block_count, cds_blocks}
use Rattle.aec_params.specs.Reading.{Covers, covered_blocks, stream_blocks, kept_blocks, IsBlockReading, FillBlocks, IsReading, counted_samples}
use Rattle.aec_params.specs.BlockShapes.{AreBlocksFrom}
use Rattle.aec_params.proofs.BlockShapeLaws.{AreBlocksFrom-append, AreBlocksFrom-front}
use Rattle.aec_params.proofs.SampleLaws.{all_blocks_of-one_to_one}
use Rattle.aec_params.proofs.FillLaws.{samples-of_blocks}
use Rattle.aec_params.proofs.StreamLaws.{cds_blocks-shape, length-cds_blocks, stream_blocks-shape}

pub FillBlocks-one_to_one : (s : Settings) (xs ys : List ℤ) (blocks : List Block) → IsAllowed s → FillBlocks s xs blocks → FillBlocks s ys blocks → xs ≡ ys
FillBlocks-one_to_one s xs ys blocks a h k =
    all_blocks_of-one_to_one s xs ys a h.held k.held (h.whole ∙ sym k.whole) (h.mapped ∙ sym k.mapped)

kept-shape : (s : Settings) (count : Option ℕ) (i : ℕ) (blocks : List Block) → AreBlocksFrom s i blocks → AreBlocksFrom s i (kept_blocks s count i blocks)
kept-shape s None i blocks h = h
kept-shape s (Some count) i blocks h =
    let n = div_ceil count s.block_size - i in
    AreBlocksFrom-front s i (take n blocks) (drop n blocks) (rw (take-append-drop n blocks) h)

-- the blocks of a reading fit at their places
pub IsBlockReading-shape : (s : Settings) (count : Option ℕ) (limit : ℕ) (bits : List Bool) (i b : ℕ) (blocks : List Block)
    → IsAllowed s → IsBlockReading s count limit bits i b blocks → AreBlocksFrom s i blocks
IsBlockReading-shape s count limit bits i b blocks a h =
    subst (AreBlocksFrom s i) (sym h.kept)
    (kept-shape s count i (stream_blocks s i h.sets) (stream_blocks-shape s count limit bits i b h.sets h.end_block h.end_bit a h.leads))

pub samples-of_reading : (s : Settings) (count : Option ℕ) (limit : ℕ) (bits : List Bool) (blocks : List Block)
    → IsAllowed s → IsBlockReading s count limit bits 0 0 blocks → (samples : List ℤ) × FillBlocks s samples blocks
samples-of_reading s count limit bits blocks a h = samples-of_blocks s blocks a (IsBlockReading-shape s count limit bits 0 0 blocks a h)

pub IsReading-of_blocks : (s : Settings) (count : Option ℕ) (limit : ℕ) (bits : List Bool) (blocks : List Block)
    → IsAllowed s → IsBlockReading s count limit bits 0 0 blocks → (samples : List ℤ) × IsReading s count limit bits samples
IsReading-of_blocks s count limit bits blocks a h =
    let r = samples-of_reading s count limit bits blocks a h in
    (counted_samples count r.0, record { blocks = blocks; read = h; all_samples = r.0; filled = r.1; counted = refl })

-- the blocks that coded data sets of one interval stand for fit at their places
pub covered_blocks-shape : (s : Settings) (n p : ℕ) (sets : List CodedDataSet) → IsAllowed s → n ≤ s.interval → Covers s n p sets
    → AreBlocksFrom s p (covered_blocks s p sets)
covered_blocks-shape s n p [] a l h = tt
covered_blocks-shape s n p (c ∷ sets) a l h =
    let e : p % s.interval ≡ p = mod-eq_of_lt (omega arith) in
    let first : AreBlocksFrom s p (cds_blocks s p c) =
    subst (λ (t : ℕ). AreBlocksFrom s p (cds_blocks s t c)) e (cds_blocks-shape s p c a (subst (λ (t : ℕ). IsLawfulAt s t c) (sym e) h.1)) in
    let next : p + block_count s p c ≡ p + length (cds_blocks s p c) = ap (λ (t : ℕ). p + t) (sym (length-cds_blocks s p c (omega arith))) in
    AreBlocksFrom-append s p (cds_blocks s p c) (covered_blocks s (p + block_count s p c) sets) first
    (subst (λ (t : ℕ). AreBlocksFrom s t (covered_blocks s (p + block_count s p c) sets)) next
    (covered_blocks-shape s n (p + block_count s p c) sets a l h.2))
