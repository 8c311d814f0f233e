-- Blocks in code: what holds of every one, the invariant of `Block` and `BlockRef`, and the block
-- of a reference and of values.
use Rattle.std.specs.Prelude.{◌≡◌, ℕ, ◌≤◌, Option, List, ◌∷◌, drop, length}
use Rattle.aec_params.specs.Blocks.{Block}
use Rattle.aec_params.specs.BlockShapes.{HasReferencePlace}

-- the most values of a block: those of the greatest block size
abbrev pub most_values : ℕ
most_values = 64

-- the block of these values, of which the first is in the reference place if there is a reference
abbrev pub block_with : Option ℕ → List ℕ → Block
block_with reference values = record { reference = reference; values = values }

-- eight values, of which the first is 0: the reference place
pub record AreSevenAfterZero (all : List ℕ) : Type 0 where
  pub eight : length all ≡ 8
  pub first : all ≡ 0 ∷ drop 1 all

-- at most `most_values` values, of which the first is 0 if there is a reference
pub record IsSound (b : Block) : Type 0 where
  pub len : length b.values ≤ most_values
  pub placed : HasReferencePlace b.reference b.values
