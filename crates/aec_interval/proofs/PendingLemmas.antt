-- A run that is still to be written: a block follows it that isn't all zeros, or its segment ends.
use Rattle.std.proofs.Common.{◌≡◌, ℕ, zero, suc, Bool, true, false, Option, None, List, [], ◌∷◌, ◌++◌, refl, append-nil, append_assoc}
use Rattle.std.specs.List.{flat_map}
use Rattle.std.proofs.lemmas.List.{take_at}
use Rattle.aec_params.specs.declared.settings.Settings.{Settings}
use Rattle.aec_params.specs.Blocks.{Block, is_zero_block}
use Rattle.aec_params.specs.CodedDataSets.{cds_bits}
use Rattle.aec_params.specs.Runs.{Group, single_block}
use Rattle.aec_params.specs.Intervals.{group_sets}
use Rattle.aec_block.specs.Written.{shortest_bits}
use Rattle.aec_interval.specs.declared.interval.pending_run.Run.{Run}
use Rattle.aec_interval.specs.Pending.{with_run, pending_bits, bits_of_run, IsKept}

bits-run_alone : (s : Settings) (reference : Option ℕ) (z : ℕ) → flat_map (cds_bits s) (group_sets s (with_run reference z [])) ≡ bits_of_run s reference z true
bits-run_alone s reference zero = refl
bits-run_alone s reference (suc z) = append-nil (bits_of_run s reference (suc z) true)

pub pending-end : (s : Settings) (run : Run) → pending_bits s run [] ≡ bits_of_run s run.reference run.blocks true
pending-end s run = bits-run_alone s run.reference run.blocks

bits-run_before : (s : Settings) (reference : Option ℕ) (z : ℕ) (b : Block) (groups : List Group)
    → flat_map (cds_bits s) (group_sets s (with_run reference z (single_block b ∷ groups)))
    ≡ bits_of_run s reference z false ++ (shortest_bits s b ++ flat_map (cds_bits s) (group_sets s groups))
bits-run_before s reference zero b groups = refl
bits-run_before s reference (suc z) b groups = refl

-- the run is written, then the block, and then no run is left to be written
pub pending-filled : (s : Settings) (run : Run) (b : Block) (rest : List Block) (old mid new : List Bool) → is_zero_block b ≡ false
    → mid ≡ old ++ bits_of_run s run.reference run.blocks false → new ≡ mid ++ shortest_bits s b
    → new ++ pending_bits s (record { reference = None; blocks = 0 }) rest ≡ old ++ pending_bits s run (b ∷ rest)
pending-filled s run b rest old mid new filled is_mid is_new = rw (is_new, is_mid, append_assoc, append_assoc, filled, bits-run_before)

-- ---- bits that are kept

pub kept-append : (bits more new : List Bool) → new ≡ bits ++ more → IsKept bits new
kept-append bits more new e = rw (e, take_at)
