-- If a coded data set can come next, the block that it stands for can come next.
use Rattle.std.proofs.Common.{◌≡◌, ℕ, zero, suc, ◌-◌, ◌%◌, ◌≤◌, true, Option, None, ℤ, List, [], ◌∷◌, take, replicate, subst, arith}
use Rattle.std.proofs.Math.Nat.{mod-lt}
use Rattle.std.proofs.lemmas.Bool.{le-leb}
use Rattle.std.proofs.lemmas.List.{take-replicate}
use Rattle.aec_params.specs.declared.settings.Settings.{Settings}
use Rattle.aec_params.specs.Params.{IsAllowed}
use Rattle.aec_params.specs.Blocks.{Block}
use Rattle.aec_params.specs.BlockShapes.{AreBlocksFrom}
use Rattle.aec_params.specs.CodedDataSets.{Body, HasShape, has_small_values}
use Rattle.aec_params.specs.Places.{segment_left, body_blocks, is_reference_block, zero_block, blocks_in}
use Rattle.aec_params.proofs.SettingLaws.{interval-positive}
use Rattle.aec_params.proofs.StreamLaws.{segment_left-some, blocks_in-shape}
use Rattle.aec_interval.specs.NextBlock.{IsNextBlock, run_blocks}
use Rattle.aec_interval.specs.Reached.{AreFilled}
use Rattle.aec_interval.proofs.ZeroRunLemmas.{next_in_place}

-- the only block that a coded data set stands for can come next
pub single_next : (s : Settings) (i : ℕ) (samples : List ℤ) (reference : Option ℕ) (body : Body) (b : Block) → IsAllowed s → AreFilled s i samples
    → HasShape s (is_reference_block s (i % s.interval)) (record { reference = reference; body = body })
    → has_small_values s (record { reference = reference; body = body }) ≡ true → body_blocks s (i % s.interval) body ≡ 1
    → blocks_in s (i % s.interval) reference body ≡ b ∷ [] → IsNextBlock s samples b
single_next s i samples reference body b allowed filled shape small one is =
    let p : ℕ = i % s.interval in
    let some = segment_left-some s p (mod-lt i (interval-positive s allowed)) in
    let within = le-leb (body_blocks s p body) (segment_left s p) (omega arith) in
    let at = blocks_in-shape s i reference body allowed shape.reference shape.body small within in
    next_in_place s i samples b allowed filled (subst (AreBlocksFrom s i) is at).0

-- the first k blocks of a run
pub run_front : (s : Settings) (reference : Option ℕ) (z k : ℕ) → 1 ≤ k → k ≤ z
    → take k (zero_block s reference ∷ replicate (z - 1) (zero_block s None)) ≡ run_blocks s reference k
run_front s reference z zero some within = absurd (omega arith)
run_front s reference z (suc k) some within = rw (take-replicate k (z - 1) (zero_block s None) (omega arith))
