-- What skipping a coded data set returns: how many blocks the one that begins at the position
-- decodes to.
use Rattle.std.specs.Prelude.{◌≡◌, ℕ, Bool, Option}
use Rattle.aec_params.specs.declared.settings.Settings.{Settings}
use Rattle.aec_params.specs.CodedDataSets.{Body, uncompressed_values, value_pairs, split_values, zero_blocks, CodedDataSet, has_small_values}
use Rattle.aec_bits.specs.BitReader.{Cursor}
use Rattle.aec_block.specs.declared.cds.Cds.{Cds}
use Rattle.aec_block.specs.declared.cds.Cds.TheVariants.{Single, Zeros}
use Rattle.aec_block.specs.declared.cds.RunLen.{RunLen}
use Rattle.aec_block.specs.declared.cds.RunLen.TheVariants.{Blocks}
use Rattle.aec_block.specs.ReadAt.{set_of}
use Rattle.aec_block.specs.Gathering.{when}
use Rattle.aec_block.specs.ReadCds.{run_len_of, cds_of, IsReadAs}

-- how many blocks a body decodes to; without a place the rest of the segment is no number
abbrev pub body_len : Body → RunLen
body_len (uncompressed_values values) = Blocks 1
body_len (value_pairs members) = Blocks 1
body_len (split_values k values) = Blocks 1
body_len (zero_blocks m) = run_len_of m

-- how many blocks a coded data set decodes to
abbrev pub set_len : CodedDataSet → RunLen
set_len c = body_len c.body

-- the same for what a coded data set was read as
abbrev pub read_len : Cds → RunLen
read_len (Single block) = Blocks 1
read_len (Zeros reference len) = len

-- how many blocks it decodes to, if its values are at most 2^n - 1 (as the code judges it; the
-- clauses of `skip_cds` prove that this is the format's reading)
abbrev pub judged_len : Settings → CodedDataSet → Option RunLen
judged_len s c = when (has_small_values s c) (set_len c)

-- how many blocks a reference and a body decode to, if the values are at most 2^n - 1
abbrev pub judged_body_len : Settings → Option ℕ → Body → Option RunLen
judged_body_len s reference body = judged_len s (set_of reference body)

-- the coded data set c, whose values are at most 2^n - 1, is skipped as in `IsReadAs`, and decodes
-- to `len` blocks (the code reads values only where it must judge each)
pub record IsSkippedAs (s : Settings) (is_reference : Bool) (old new : Cursor) (c : CodedDataSet)
    (len : RunLen) : Type 0 where
  pub read : IsReadAs s is_reference old new c (cds_of c)
  pub told : len ≡ set_len c
