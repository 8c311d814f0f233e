-- For proofs alone: no public contract cites this file.
-- What the private functions of `interval::pending_run` and `interval` compute: what is still to be
-- written after zero blocks that are counted. The contract of `append_interval` cites
-- `interval_bits` instead.
use Rattle.std.specs.Prelude.{◌≡◌, ℕ, ℤ, zero, suc, ◌+◌, ◌-◌, ◌==◌, ◌≤◌, Bool, length, take, if◌then◌else◌, Option, List, [], ◌∷◌, ◌++◌, Result, OnOk, OnErr, IfOk, IfErr}
use Rattle.std.specs.List.{flat_map}
use Rattle.aec_params.specs.declared.fault.Fault.{Fault}
use Rattle.aec_params.specs.declared.fault.Fault.TheVariants.{Memory}
use Rattle.aec_params.specs.declared.settings.Settings.{Settings}
use Rattle.aec_params.specs.Blocks.{Block}
use Rattle.aec_params.specs.CodedDataSets.{cds_bits}
use Rattle.aec_params.specs.Runs.{Group, zero_run, groups_of, segment_len}
use Rattle.aec_params.specs.Intervals.{group_sets}
use Rattle.aec_bits.specs.BitBuf.{Bits}
use Rattle.aec_block.specs.Choices.{FitsReference}
use Rattle.aec_block.specs.Written.{run_bits}
use Rattle.aec_interval.specs.Chunks.{AreBlockAfter}
use Rattle.aec_interval.specs.declared.interval.pending_run.Run.{Run}

-- a run of z blocks before groups: if the first group is a run, both are one
abbrev pub with_run : Option ℕ → ℕ → List Group → List Group
with_run reference zero groups = groups
with_run reference (suc z) (zero_run later m ∷ groups) = zero_run reference (suc z + m) ∷ groups
with_run reference (suc z) groups = zero_run reference (suc z) ∷ groups

-- the bits of a segment that has these blocks after a run
abbrev pub pending_bits : Settings → Run → List Block → List Bool
pending_bits s run blocks = flat_map (cds_bits s) (group_sets s (with_run run.reference run.blocks (groups_of blocks)))

-- the bits of a segment of these blocks
abbrev pub segment_bits : Settings → List Block → List Bool
segment_bits s blocks = flat_map (cds_bits s) (group_sets s (groups_of blocks))

-- the bits of a run by itself, which ends its segment or not
abbrev pub bits_of_run : Settings → Option ℕ → ℕ → Bool → List Bool
bits_of_run s reference zero is_last = []
bits_of_run s reference (suc z) is_last = run_bits s reference (suc z) is_last

-- a run with one more zero block, which has this reference
abbrev pub longer_run : Run → Option ℕ → Run
longer_run run reference =
    record { reference = (if run.blocks == 0 then reference else run.reference); blocks = run.blocks + 1 }

-- a run of at most `most` blocks, whose reference fits
pub record IsRun (s : Settings) (most : ℕ) (run : Run) : Type 0 where
  pub few : run.blocks ≤ most
  pub reference : FitsReference s run.reference

-- the new bits begin with the old bits
abbrev pub IsKept : List Bool → List Bool → Type 0
IsKept old new = take (length old) new ≡ old

-- a code is appended; or the fault is `Memory`, and the new bits still begin with the old bits
pub record Writes (code old : List Bool) (result : Result (Unit {0}) Fault) (new : List Bool) : Type 0 where
  pub ok : OnOk result (new ≡ old ++ code)
  pub kept : IsKept old new
  pub fault : IfErr result (λ e. e ≡ Memory)

-- a code is appended; or the fault is `Memory`, and the bits are unchanged
pub record WritesAll (code old : List Bool) (result : Result (Unit {0}) Fault) (new : List Bool) : Type 0 where
  pub ok : OnOk result (new ≡ old ++ code)
  pub err : OnErr result (new ≡ old)
  pub fault : IfErr result (λ e. e ≡ Memory)

-- the samples of the next block of a segment come after a run
pub record AreNext (s : Settings) (previous : Option ℤ) (samples : List ℤ) (before : Run) : Type 0 where
  pub block : AreBlockAfter s previous samples
  pub run : IsRun s (segment_len - 1) before

-- a block is taken after a run: whatever blocks come next, the written bits and those then still to
-- be written are together the bits of all. The new bits begin with the old bits, and the only fault
-- is `Memory`
pub record TakesBlock (s : Settings) (block : Block) (before : Run) (old : Bits) (result : Result Run Fault)
    (new : Bits) : Type 0 where
  pub ok : (rest : List Block) → IfOk result
      (λ next. new.list ++ pending_bits s next rest ≡ old.list ++ pending_bits s before (block ∷ rest))
  pub run : IfOk result (λ next. IsRun s (before.blocks + 1) next)
  pub kept : IsKept old.list new.list
  pub fault : IfErr result (λ e. e ≡ Memory)
