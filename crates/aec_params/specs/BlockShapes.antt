-- The shape of the blocks that samples can have.
use Rattle.std.specs.Prelude.{◌≡◌, ℕ, ◌+◌, ◌%◌, ◌^◌, ◌<◌, Bool, Option, List, [], ◌∷◌, length, ⊤}
use Rattle.std.specs.List.{AllByRecursion}
use Rattle.aec_params.specs.declared.settings.Settings.{Settings}
use Rattle.aec_params.specs.Blocks.{Block}
use Rattle.aec_params.specs.CodedDataSets.{HasReference}
use Rattle.aec_params.specs.Places.{is_reference_block, placed_members}

-- 0 is in the reference place, if there is one (§4)
abbrev pub HasReferencePlace : Option ℕ → List ℕ → Type 0
HasReferencePlace reference values = values ≡ placed_members reference values

-- a block of samples, with a reference or without (§4)
pub record IsBlockOf (s : Settings) (is_reference : Bool) (b : Block) : Type 0 where
  pub reference : HasReference s is_reference b.reference
  pub count : length b.values ≡ s.block_size
  pub below : AllByRecursion (λ v. v < 2 ^ s.bits) b.values
  pub place : HasReferencePlace b.reference b.values

-- a block that an interval can have as its block p (§4)
abbrev pub IsBlockAt : Settings → ℕ → Block → Type 0
IsBlockAt s p b = IsBlockOf s (is_reference_block s p) b

-- blocks that a stream can have from block i on, one after the other (§4; the blocks of samples are
-- these, and no others: law `samples_are_blocks`)
abbrev pub AreBlocksFrom : Settings → ℕ → List Block → Type 0
AreBlocksFrom s i [] = ⊤
AreBlocksFrom s i (b ∷ blocks) = IsBlockAt s (i % s.interval) b × AreBlocksFrom s (i + 1) blocks
