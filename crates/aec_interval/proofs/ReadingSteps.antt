-- Samples that fill blocks, and those of one block more.
use Rattle.std.proofs.Common.{add-one, ◌≡◌, ◌<◌, ℤ, List, [], ◌∷◌, ◌++◌, length}
use Rattle.std.proofs.lemmas.List.{length-append}
use Rattle.std.proofs.Math.Nat.{suc-mul}
use Rattle.std.specs.List.{AllByRecursion}
use Rattle.aec_params.specs.declared.settings.Settings.{Settings}
use Rattle.aec_params.specs.Params.{IsHeld}
use Rattle.aec_params.specs.Blocks.{Block}
use Rattle.aec_params.specs.Reading.{FillBlocks}
use Rattle.aec_interval.specs.NextBlock.{next_block_of}
use Rattle.aec_interval.proofs.BlockLemmas.{all-append}
use Rattle.aec_interval.proofs.NextBlockLemmas.{all_blocks_of-push}

pub FillBlocks-push : (s : Settings) (samples more : List ℤ) (blocks : List Block) (b : Block) → 0 < s.block_size → 0 < s.interval → FillBlocks s samples blocks
    → AllByRecursion (IsHeld s) more → length more ≡ s.block_size → next_block_of s samples more ≡ b → FillBlocks s (samples ++ more) (blocks ++ b ∷ [])
FillBlocks-push s samples more blocks b block interval filled held len is_next = record {
  held = all-append (IsHeld s) samples more filled.held held;
  whole = rw (length-append, filled.whole, len, length-append, add-one, suc-mul);
  mapped = rw (all_blocks_of-push s samples more (length blocks) block interval filled.whole, filled.mapped, is_next);
}
