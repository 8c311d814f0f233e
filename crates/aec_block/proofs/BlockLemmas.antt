-- What a block's shape says about its values.
use Rattle.std.proofs.Common.{◌≡◌, ℕ, ◌≤◌, arith, ap, Option, Some, None, List, length}
use Rattle.aec_params.specs.Blocks.{Block}
use Rattle.aec_params.specs.Places.{placed_values}
use Rattle.aec_params.specs.Spellings.{after_reference}
use Rattle.aec_block.specs.BlockShape.{IsSound}

-- a block with a reference has a value in the reference place
placed-some : (r : ℕ) (reference : Option ℕ) (values : List ℕ) → reference ≡ Some r
    → values ≡ placed_values reference (after_reference reference values) → 1 ≤ length values
placed-some r None values is placed = absurd (cc)
placed-some r (Some q) values is placed = let e = ap (length {A = ℕ}) placed in omega arith

pub some_values : (b : Block) (r : ℕ) → IsSound b → b.reference ≡ Some r → 1 ≤ length b.values
some_values b r sound is = placed-some r b.reference b.values is sound.placed
