-- For proofs alone: no public contract cites this file.
-- What the private functions of `interval::filled_blocks` compute: the blocks of samples after
-- others of their interval, or at its start. The contract of `append_interval` cites
-- `interval_bits` instead.
use Rattle.std.specs.Prelude.{◌≡◌, ℕ, ◌*◌, ◌<◌, ◌≤◌, ⊤, Option, Some, None, ℤ, List, length}
use Rattle.std.specs.List.{AllByRecursion}
use Rattle.aec_params.specs.declared.settings.Settings.{Settings}
use Rattle.aec_params.specs.Params.{IsAllowed, IsHeld}
use Rattle.aec_params.specs.Cutting.{pieces_of}
use Rattle.aec_params.specs.Mapping.{mapped_after, mapped_values}
use Rattle.aec_params.specs.Blocks.{Block, filled_samples, reference_of, with_reference}
use Rattle.aec_block.specs.BlockShape.{IsSound}
use Rattle.aec_block.specs.Choices.{IsFull}

-- the values of samples after the sample before them; if there is none before, an interval starts
abbrev pub values_after : Settings → Option ℤ → List ℤ → List ℕ
values_after s None v = mapped_values s v
values_after s (Some previous) v = mapped_after s previous v

-- the reference of the block of samples v: none if there is a sample before it
abbrev pub reference_after : Settings → Option ℤ → List ℤ → Option ℕ
reference_after s None v = reference_of s v
reference_after s (Some previous) v = None

-- the samples as one block, filled up
abbrev pub block_after : Settings → Option ℤ → List ℤ → Block
block_after s previous v =
    record { reference = reference_after s previous v; values = values_after s previous (filled_samples s v) }

-- b is `block_after` of the samples v, and can be coded
pub record IsFilledBlock (s : Settings) (previous : Option ℤ) (v : List ℤ) (b : Block) : Type 0 where
  pub value : b ≡ block_after s previous v
  pub full : IsFull s b
  pub sound : IsSound b

-- the samples as blocks, of which the last is filled up
abbrev pub blocks_after : Settings → Option ℤ → List ℤ → List Block
blocks_after s previous v =
    with_reference (reference_after s previous v)
    (pieces_of s.block_size (values_after s previous (filled_samples s v)))

-- the sample before, if there is one, is a sample of the settings
abbrev pub HoldsPrevious : Settings → Option ℤ → Type 0
HoldsPrevious s None = ⊤
HoldsPrevious s (Some previous) = IsHeld s previous

-- samples after the one before them, at most `most` blocks
pub record AreSamplesAfter (s : Settings) (previous : Option ℤ) (most : ℕ) (v : List ℤ) : Type 0 where
  pub previous_held : HoldsPrevious s previous
  pub held : AllByRecursion (IsHeld s) v
  pub few : length v ≤ s.block_size * most

-- samples of one block, at least one, after the one before them
pub record AreBlockAfter (s : Settings) (previous : Option ℤ) (v : List ℤ) : Type 0 where
  pub allowed : IsAllowed s
  pub some : 0 < length v
  pub samples : AreSamplesAfter s previous 1 v
