-- The code of an interval is read as its blocks.
use Rattle.std.proofs.Common.{◌≡◌, ℕ, suc, ◌+◌, ◌%◌, ◌<◌, ◌≤◌, List, [], ◌∷◌, ◌++◌, length, refl, subst, arith, inl, inr, ⊎_elim}
use Rattle.std.specs.Prelude.{ℤ}
use Rattle.std.specs.List.{AllByRecursion, flat_map}
use Rattle.std.proofs.lemmas.List.{length-append, nil_from_length}
use Rattle.std.proofs.lemmas.Bool.{cases_lt}
use Rattle.aec_params.specs.declared.settings.Settings.{Settings}
use Rattle.aec_params.specs.Params.{IsAllowed, IsHeld, interval_len}
use Rattle.aec_params.specs.Blocks.{Block, blocks_of}
use Rattle.aec_params.specs.Places.{segment_left}
use Rattle.aec_params.specs.Runs.{groups_of}
use Rattle.aec_params.specs.Intervals.{group_sets, block_sets, unpadded_bits}
use Rattle.aec_params.specs.Reading.{ReadsBlocks}
use Rattle.aec_interval.proofs.CuttingLemmas.{IsPieceBefore, by_pieces, pieces_of-nil, pieces_of-cons}
use Rattle.aec_interval.proofs.BlockLemmas.{AreDueFrom, AreDueFrom-blocks_of, blocks-few}
use Rattle.aec_interval.proofs.GroupLemmas.{group_blocks, AreGroupsFrom-groups_of, flat_map-groups_of}
use Rattle.aec_interval.proofs.CoveringLemmas.{IsCovering, IsCovering-nil, IsCovering-groups, EndsWell}

-- blocks in two parts
pub AreDueFrom_left : (s : Settings) (p : ℕ) (front rest : List Block) → AreDueFrom s p (front ++ rest) → AreDueFrom s p front
AreDueFrom_left s p [] rest h = tt
AreDueFrom_left s p (b ∷ front) rest h = (h.0, AreDueFrom_left s (suc p) front rest h.1)

pub AreDueFrom_right : (s : Settings) (p : ℕ) (front rest : List Block) → AreDueFrom s p (front ++ rest) → AreDueFrom s (p + length front) rest
AreDueFrom_right s p [] rest h = subst (λ q. AreDueFrom s q rest) (omega arith) h
AreDueFrom_right s p (b ∷ front) rest h = subst (λ q. AreDueFrom s q rest) (omega arith) (AreDueFrom_right s (suc p) front rest h.1)

pub block_sets-nil : (s : Settings) → block_sets s [] ≡ []
block_sets-nil s = cc (pieces_of-nil 64 (omega arith))

pub block_sets-cons : (s : Settings) (front rest : List Block) → IsPieceBefore 64 front rest
    → block_sets s (front ++ rest) ≡ group_sets s (groups_of front) ++ block_sets s rest
block_sets-cons s front rest h = rw pieces_of-cons

-- blocks from the start of a segment on are covered, segment by segment
abbrev AreCovered : Settings → ℕ → List Block → Type 0
AreCovered s n blocks = (p : ℕ) → AreDueFrom s p blocks → p % 64 ≡ 0 → p + length blocks ≡ n → n ≤ s.interval
    → IsCovering s n p (block_sets s blocks) blocks

IsCovering-no_blocks : (s : Settings) (n p : ℕ) (rest : List Block) → rest ≡ [] → p ≡ n → IsCovering s n p (block_sets s rest) rest
IsCovering-no_blocks s n p [] z e = rw block_sets-nil (IsCovering-nil s n p e)
IsCovering-no_blocks s n p (b ∷ rest) z e = absurd (cc)

AreCovered-segment : (s : Settings) (n : ℕ) (front rest : List Block) → IsPieceBefore 64 front rest → AreCovered s n rest → AreCovered s n (front ++ rest)
AreCovered-segment s n front rest piece ih p h aligned reach within =
    rw block_sets-cons (rw e at (IsCovering-groups s n p (segment_left s p) (groups_of front) (block_sets s rest) rest
    (AreGroupsFrom-groups_of s p front here) (λ _. refl) (omega (arith, len, length-append front rest)) ends (rw len later)))
  where
    here : AreDueFrom s p front
    here = AreDueFrom_left s p front rest h

    e : flat_map (group_blocks s) (groups_of front) ≡ front
    e = flat_map-groups_of s p front here

    len : length (flat_map (group_blocks s) (groups_of front)) ≡ length front
    len = rw e

    nothing : length rest ≡ 0 → EndsWell (length (flat_map (group_blocks s) (groups_of front))) (segment_left s p) (block_sets s rest) rest
    nothing z = let none = nil_from_length rest z in inr (rw none (block_sets-nil s), none)

    more : 0 < length rest → EndsWell (length (flat_map (group_blocks s) (groups_of front))) (segment_left s p) (block_sets s rest) rest
    more l = inl (omega (arith, len, length-append front rest))

    ends : EndsWell (length (flat_map (group_blocks s) (groups_of front))) (segment_left s p) (block_sets s rest) rest
    ends = ⊎_elim more (λ l. nothing (omega arith)) (cases_lt 0 (length rest))

    later : IsCovering s n (p + length front) (block_sets s rest) rest
    later = ⊎_elim (λ l. ih (p + length front) (AreDueFrom_right s p front rest h) (omega arith) (omega (arith, length-append front rest)) within)
        (λ l. IsCovering-no_blocks s n (p + length front) rest (nil_from_length rest (omega arith)) (omega (arith, length-append front rest)))
        (cases_lt 0 (length rest))

pub IsCovering-block_sets : (s : Settings) (blocks : List Block) → AreDueFrom s 0 blocks → length blocks ≤ s.interval
    → IsCovering s (length blocks) 0 (block_sets s blocks) blocks
IsCovering-block_sets s blocks h few =
    by_pieces (AreCovered s (length blocks)) 64 (omega arith) (λ p _ _ reach _. rw block_sets-nil (IsCovering-nil s (length blocks) p (omega arith)))
    (AreCovered-segment s (length blocks)) blocks 0 h refl (omega arith) few

-- the code of an interval's samples is read as their blocks
pub ReadsBlocks-unpadded_bits : (s : Settings) (v : List ℤ) → IsAllowed s → AllByRecursion (IsHeld s) v → 0 < length v → length v ≤ interval_len s
    → ReadsBlocks s (unpadded_bits s v) (blocks_of s v)
ReadsBlocks-unpadded_bits s [] a h some few = absurd (omega arith)
ReadsBlocks-unpadded_bits s (x ∷ v) a h some few =
    let c = IsCovering-block_sets s (blocks_of s (x ∷ v)) (AreDueFrom-blocks_of s x v a h few) (blocks-few s (x ∷ v) a few) in
    record { sets = block_sets s (blocks_of s (x ∷ v)); covers = c.covers; stand_for = c.stand_for; spelled = refl }
