-- A reading from its parts, for worked values: most of them are computed.
use Rattle.std.proofs.Common.{◌≡◌, ℕ, ◌*◌, ℤ, Bool, false, Option, List, length}
use Rattle.std.specs.List.{AllByRecursion}
use Rattle.aec_params.specs.declared.settings.Settings.{Settings}
use Rattle.aec_params.specs.Params.{IsHeld}
use Rattle.aec_params.specs.Blocks.{Block, all_blocks_of}
use Rattle.aec_params.specs.CodedDataSets.{CodedDataSet}
use Rattle.aec_params.specs.Reading.{LeadsTo, is_wanted, kept_blocks, stream_blocks, counted_samples, IsReading}

-- bits that contain the coded data sets `sets` read as the blocks `blocks`, whose samples are `all`
pub is_reading : {s : Settings} {count : Option ℕ} {limit : ℕ} {bits : List Bool} {samples : List ℤ} (blocks : List Block) (sets : List CodedDataSet)
    (end_block end_bit : ℕ) (all : List ℤ) → LeadsTo s count limit bits 0 0 sets end_block end_bit → is_wanted s count bits end_block end_bit ≡ false
    → blocks ≡ kept_blocks s count 0 (stream_blocks s 0 sets) → AllByRecursion (IsHeld s) all → length all ≡ length blocks * s.block_size
    → all_blocks_of s all ≡ blocks → samples ≡ counted_samples count all → IsReading s count limit bits samples
is_reading blocks sets end_block end_bit all leads done kept held whole mapped counted = record {
  blocks = blocks;
  read = record { sets = sets; end_block = end_block; end_bit = end_bit; leads = leads; done = done; kept = kept };
  all_samples = all;
  filled = record { held = held; whole = whole; mapped = mapped };
  counted = counted;
}
