-- What reading a coded data set returns: what the one that begins at the position decodes to.
use Rattle.std.specs.Prelude.{◌≡◌, ℕ, ◌+◌, ◌<◌, Bool, true, false, Option, Some, None, List, length, ⊤}
use Rattle.std.specs.Option.{is_some}
use Rattle.aec_params.specs.declared.settings.Settings.{Settings}
use Rattle.aec_params.specs.Params.{id_len}
use Rattle.aec_params.specs.CodedDataSets.{Body, uncompressed_values, value_pairs, split_values, zero_blocks, CodedDataSet, cds_bits, has_small_values}
use Rattle.aec_params.specs.Places.{told_blocks, block_of_values, block_of_members}
use Rattle.aec_params.specs.Faults.{IsSetAt}
use Rattle.aec_bits.specs.BitReader.{Cursor}
use Rattle.aec_block.specs.BlockShape.{block_with}
use Rattle.aec_block.specs.declared.cds.RunLen.{RunLen}
use Rattle.aec_block.specs.declared.cds.RunLen.TheVariants.{Blocks, Rest}
use Rattle.aec_params.specs.Blocks.{Block}
use Rattle.aec_block.specs.declared.cds.Cds.{Cds}
use Rattle.aec_block.specs.declared.cds.Cds.TheVariants.{Single, Zeros}
use Rattle.aec_block.specs.declared.cds.Found.{Found}
use Rattle.aec_block.specs.declared.cds.Found.TheVariants.{Single as SingleFound, Zeros as ZerosFound}
use Rattle.aec_block.specs.declared.reading.Kind.{Kind}
use Rattle.aec_block.specs.declared.reading.Kind.TheVariants.{ZeroBlocks, SecondExtension, Split, NoCompression}
use Rattle.aec_block.specs.ReadAt.{Taken, nothing, taken, set_of, kind_at, cds_at}
use Rattle.aec_block.specs.Gathering.{when}

-- a run's number of blocks, or `Rest` if it depends on the place (as in `told_blocks`)
abbrev pub as_run_len : Option ℕ → RunLen
as_run_len None = Rest
as_run_len (Some z) = Blocks z

-- how many zero blocks a run has by the number of its code (as in `told_blocks`)
abbrev pub run_len_of : ℕ → RunLen
run_len_of m = as_run_len (told_blocks m)

-- what a coded data set decodes to (as in `block_of_values` and `block_of_members`)
abbrev pub answer_of : Option ℕ → Body → Cds
answer_of reference (uncompressed_values values) = Single (block_of_values reference values)
answer_of reference (value_pairs members) = Single (block_of_members reference members)
answer_of reference (split_values k values) = Single (block_of_values reference values)
answer_of reference (zero_blocks m) = Zeros reference (run_len_of m)

-- what a coded data set decodes to, as one value
abbrev pub cds_of : CodedDataSet → Cds
cds_of c = answer_of c.reference c.body

-- what it decodes to, if its values are at most 2^n - 1 (as the code judges it; the clauses of
-- `read_cds` prove that this is the format's reading)
abbrev pub checked : Settings → CodedDataSet → Option Cds
checked s c = when (has_small_values s c) (cds_of c)

-- what a reference and a body decode to, if the values are at most 2^n - 1
abbrev pub checked_body : Settings → Option ℕ → Body → Option Cds
checked_body s reference body = checked s (set_of reference body)

-- what was found, with the block that it was read into, as `read_cds` returns it
abbrev pub as_cds : Found → Block → Cds
as_cds SingleFound block = Single block
as_cds (ZerosFound reference len) block = Zeros reference len

-- what was found, with the block that it was read into, if something was found
abbrev pub as_read : Option Found → Block → Option Cds
as_read None block = None
as_read (Some found) block = Some (as_cds found block)

-- the k of a splitting option is below 32
abbrev pub HasShortSplit : Kind → Type 0
HasShortSplit (Split k) = k < 32
HasShortSplit ZeroBlocks = ⊤
HasShortSplit SecondExtension = ⊤
HasShortSplit NoCompression = ⊤

-- whether an identifier is that of a single coded data set, which codes one block and is no run of
-- zero blocks
abbrev pub is_single : Kind → Bool
is_single ZeroBlocks = false
is_single SecondExtension = true
is_single (Split k) = true
is_single NoCompression = true

-- whether a body is a run of zero blocks
abbrev pub is_run_body : Body → Bool
is_run_body (uncompressed_values values) = false
is_run_body (value_pairs members) = false
is_run_body (split_values k values) = false
is_run_body (zero_blocks m) = true

-- whether the identifier that was taken is that of a single coded data set; false if none was taken
abbrev pub is_single_taken : Taken Kind → Bool
is_single_taken nothing = false
is_single_taken (taken kind rest) = is_single kind

-- whether the first bits are the identifier of a single coded data set (as the code judges it; by
-- the clauses `seen` of `read_single` and `read_single_first` it holds of each set that is read)
abbrev pub begins_single : Settings → List Bool → Bool
begins_single s bits = is_single_taken (kind_at (id_len s) bits)

-- no single coded data set, of a reference block if `is_reference`, else of another, whose values
-- are at most 2^n - 1, begins the bits
abbrev pub HasNoSingle : Settings → Bool → List Bool → Type 0
HasNoSingle s is_reference bits = (c : CodedDataSet) (rest : List Bool) → cds_at s is_reference bits ≡ taken c rest
    → is_run_body c.body ≡ false → has_small_values s c ≡ false

-- no run of zero blocks begins the bits
abbrev pub HasNoRun : Settings → Bool → List Bool → Type 0
HasNoRun s is_reference bits = (c : CodedDataSet) (rest : List Bool) → cds_at s is_reference bits ≡ taken c rest
    → is_run_body c.body ≡ false

-- the coded data set c, whose values are at most 2^n - 1, is read as what it decodes to, and the
-- cursor moves past it (says that such a set begins there; the code takes many codewords from a
-- word of 64 bits)
pub record IsReadAs (s : Settings) (is_reference : Bool) (old new : Cursor) (c : CodedDataSet)
    (cds : Cds) : Type 0 where
  pub set : IsSetAt s is_reference old.list old.pos c
  pub small : has_small_values s c ≡ true
  pub behind : new ≡ record { list = old.list; pos = old.pos + length (cds_bits s c) }
  pub answer : cds ≡ cds_of c

-- A single coded data set with this reference, or without one, is read, and the cursor moves past
-- it. `values` are those of its block, with 0 in the reference place, none of them above
-- 2^n - 1.
pub record IsReadSingle (s : Settings) (old new : Cursor) (reference : Option ℕ) (values : List ℕ) : Type 0 where
  pub set : CodedDataSet
  pub read : IsReadAs s (is_some reference) old new set (Single (block_with reference values))
