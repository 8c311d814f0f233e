-- Reading: which samples a list of bits decodes to, with a sample count or without, and else its
-- first fault.
use Rattle.std.specs.Prelude.{◌≡◌, ℕ, ◌+◌, ◌-◌, ◌*◌, ◌%◌, ◌<◌, min, Bool, true, false, ◌&&◌, ◌==◌, nat_lt, nat_le, if◌then◌else◌, IsTrue, Option, Some, None, ℤ, List, [], ◌∷◌, ◌++◌, length, take, drop}
use Rattle.std.specs.List.{list_any, AllByRecursion, flat_map}
use Rattle.std.specs.Int.{div_ceil, next_multiple_of}
use Rattle.aec_params.specs.declared.settings.Settings.{Settings}
use Rattle.aec_params.specs.Params.{IsHeld}
use Rattle.aec_params.specs.Blocks.{Block, all_blocks_of}
use Rattle.aec_params.specs.CodedDataSets.{CodedDataSet, cds_bits}
use Rattle.aec_params.specs.Places.{block_count, IsLawfulAt, cds_blocks}

-- ---- one interval

-- lawful coded data sets that reach from block p of an interval to block n; the last may go past it
-- in its segment (§12; by any option for any block, cut into any runs. No function reads by this or
-- by `ReadsBlocks`: they serve the clause `shortest` of `encode_all` and the laws
-- `intervals_are_read` and `codes_are_shortest` of aec_interval; `each_code_is_read` relates them
-- to `IsReading`)
abbrev pub Covers : Settings → ℕ → ℕ → List CodedDataSet → Type 0
Covers s n p [] = IsTrue (nat_le n p)
Covers s n p (c ∷ sets) = (p < n) × IsLawfulAt s p c × Covers s n (p + block_count s p c) sets

-- the blocks that coded data sets from block p of an interval on decode to (§12)
abbrev pub covered_blocks : Settings → ℕ → List CodedDataSet → List Block
covered_blocks s p [] = []
covered_blocks s p (c ∷ sets) = cds_blocks s p c ++ covered_blocks s (p + block_count s p c) sets

-- bits that are coded data sets for the blocks of one interval, by any options and any runs (§12)
pub record ReadsBlocks (s : Settings) (bits : List Bool) (blocks : List Block) : Type 0 where
  pub sets : List CodedDataSet
  pub covers : Covers s (length blocks) 0 sets
  pub stand_for : take (length blocks) (covered_blocks s 0 sets) ≡ blocks
  pub spelled : bits ≡ flat_map (cds_bits s) sets

-- ---- a whole stream: block i of the stream is block i % r of its interval

-- the coded data set c begins at position b of the bits (§12; the bits from there on are its bits
-- and then others)
abbrev pub StandsAt : Settings → List Bool → ℕ → CodedDataSet → Type 0
StandsAt s bits b c = drop b bits ≡ cds_bits s c ++ drop (b + length (cds_bits s c)) bits

-- where the coded data set of block i begins, b being the end of the one before: with padding,
-- after a full interval the bits up to the next byte boundary or the end are skipped (§12)
abbrev pub begin_of : Settings → List Bool → ℕ → ℕ → ℕ
begin_of s bits i b = if s.pad && (i % s.interval == 0) then min (next_multiple_of b 8) (length bits) else b

-- the block after a coded data set of block i (§12)
abbrev pub next_block : Settings → ℕ → CodedDataSet → ℕ
next_block s i c = i + block_count s (i % s.interval) c

-- where the coded data set of that block begins (§12)
abbrev pub next_begin : Settings → List Bool → ℕ → ℕ → CodedDataSet → ℕ
next_begin s bits i b c = begin_of s bits (next_block s i c) (b + length (cds_bits s c))

-- whether a coded data set is wanted at block i and position b: with a count, while blocks are
-- needed; without one, while the rest is not all zeros (§12; looks at all bits that are left)
abbrev pub is_wanted : Settings → Option ℕ → List Bool → ℕ → ℕ → Bool
is_wanted s (Some count) bits i b = nat_lt i (div_ceil count s.block_size)
is_wanted s None bits i b = list_any (λ bit. bit) (drop b bits)

-- whether the samples of i blocks keep the limit; with a count, this is judged beforehand (§12)
abbrev pub keeps_limit : Settings → Option ℕ → ℕ → ℕ → Bool
keeps_limit s (Some count) limit i = true
keeps_limit s None limit i = nat_le (i * s.block_size) limit

-- from block i at position b, wanted and lawful coded data sets within the limit lead to block j at
-- position e (§12; a relation on a given list, where the code finds the sets bit by bit)
abbrev pub LeadsTo : Settings → Option ℕ → ℕ → List Bool → ℕ → ℕ → List CodedDataSet → ℕ → ℕ → Type 0
LeadsTo s count limit bits i b [] j e = (j ≡ i) × (e ≡ b)
LeadsTo s count limit bits i b (c ∷ sets) j e =
    (is_wanted s count bits i b ≡ true) × StandsAt s bits b c × IsLawfulAt s (i % s.interval) c
    × (keeps_limit s count limit (next_block s i c) ≡ true)
    × LeadsTo s count limit bits (next_block s i c) (next_begin s bits i b c) sets j e

-- the blocks that coded data sets from block i of the stream on decode to (§12)
abbrev pub stream_blocks : Settings → ℕ → List CodedDataSet → List Block
stream_blocks s i [] = []
stream_blocks s i (c ∷ sets) = cds_blocks s (i % s.interval) c ++ stream_blocks s (next_block s i c) sets

-- the blocks that are kept from block i on: with a count those that are needed, without one all
-- (§12; a list cut at its end, where the code stops when it has enough)
abbrev pub kept_blocks : Settings → Option ℕ → ℕ → List Block → List Block
kept_blocks s (Some count) i blocks = take (div_ceil count s.block_size - i) blocks
kept_blocks s None i blocks = blocks

-- the bits from block i at position b on decode to these blocks (§12; that coded data sets for them
-- exist)
pub record IsBlockReading (s : Settings) (count : Option ℕ) (limit : ℕ) (bits : List Bool) (i b : ℕ)
    (blocks : List Block) : Type 0 where
  pub sets : List CodedDataSet
  pub end_block : ℕ
  pub end_bit : ℕ
  pub leads : LeadsTo s count limit bits i b sets end_block end_bit
  pub done : is_wanted s count bits end_block end_bit ≡ false
  pub kept : blocks ≡ kept_blocks s count i (stream_blocks s i sets)

-- held samples that fill blocks from the stream's start (§12; the mapping is matched, where the
-- code undoes it)
pub record FillBlocks (s : Settings) (samples : List ℤ) (blocks : List Block) : Type 0 where
  pub held : AllByRecursion (IsHeld s) samples
  pub whole : length samples ≡ length blocks * s.block_size
  pub mapped : all_blocks_of s samples ≡ blocks

-- the first `count` of the samples, without a count all (§12)
abbrev pub counted_samples : Option ℕ → List ℤ → List ℤ
counted_samples (Some count) samples = take count samples
counted_samples None samples = samples

-- the bits decode to these samples (§12; bits have one reading at most or one fault, never both:
-- law `bits_are_read_in_one_way`)
pub record IsReading (s : Settings) (count : Option ℕ) (limit : ℕ) (bits : List Bool) (samples : List ℤ) : Type 0 where
  pub blocks : List Block
  pub read : IsBlockReading s count limit bits 0 0 blocks
  pub all_samples : List ℤ
  pub filled : FillBlocks s all_samples blocks
  pub counted : samples ≡ counted_samples count all_samples
