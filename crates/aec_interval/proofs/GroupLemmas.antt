-- The groups of a segment stand for its blocks, in order.
use Rattle.std.proofs.Common.{◌≡◌, ℕ, suc, ◌+◌, ◌-◌, ◌<◌, Bool, true, Option, None, List, [], ◌∷◌, length, replicate, refl, subst, arith}
use Rattle.std.specs.Prelude.{⊤, ◌==◌}
use Rattle.std.specs.List.{flat_map, list_all}
use Rattle.std.proofs.lemmas.List.{length-replicate}
use Rattle.std.proofs.lemmas.Bool.{cond_both, and_parts, eqb-true}
use Rattle.aec_params.specs.declared.settings.Settings.{Settings}
use Rattle.aec_params.specs.Blocks.{Block, is_zero_block}
use Rattle.aec_params.specs.CodedDataSets.{HasReference}
use Rattle.aec_params.specs.Places.{is_reference_block, zero_block}
use Rattle.aec_params.specs.Runs.{Group, zero_run, single_block, with_zero_block, groups_of}
use Rattle.aec_interval.proofs.BlockLemmas.{AreDueFrom}
use Rattle.aec_params.specs.BlockShapes.{IsBlockOf, IsBlockAt}

-- the blocks that a group stands for, and their number
abbrev pub group_blocks : Settings → Group → List Block
group_blocks s (zero_run reference z) = zero_block s reference ∷ replicate (z - 1) (zero_block s None)
group_blocks s (single_block b) = b ∷ []

abbrev pub group_len : Group → ℕ
group_len (zero_run reference z) = z
group_len (single_block b) = 1

-- a group that can be at block p of an interval
abbrev pub IsGroupAt : Settings → ℕ → Group → Type 0
IsGroupAt s p (zero_run reference z) = (0 < z) × HasReference s (is_reference_block s p) reference
IsGroupAt s p (single_block b) = IsBlockAt s p b

abbrev pub AreGroupsFrom : Settings → ℕ → List Group → Type 0
AreGroupsFrom s p [] = ⊤
AreGroupsFrom s p (g ∷ groups) = IsGroupAt s p g × AreGroupsFrom s (p + group_len g) groups

pub length-group_blocks : (s : Settings) (p : ℕ) (g : Group) → IsGroupAt s p g → length (group_blocks s g) ≡ group_len g
length-group_blocks s p (zero_run reference z) h = let e = length-replicate (z - 1) (zero_block s None) in omega arith
length-group_blocks s p (single_block b) h = refl

groups-from_next : (s : Settings) (p : ℕ) (groups : List Group) → AreGroupsFrom s (suc p) groups → AreGroupsFrom s (p + 1) groups
groups-from_next s p groups h = subst (λ q. AreGroupsFrom s q groups) (omega arith) h

groups-with_zero_block : (s : Settings) (p : ℕ) (reference : Option ℕ) (groups : List Group) → HasReference s (is_reference_block s p) reference
    → AreGroupsFrom s (suc p) groups → AreGroupsFrom s p (with_zero_block reference groups)
groups-with_zero_block s p reference [] h k = ((omega arith, h), tt)
groups-with_zero_block s p reference (zero_run later z ∷ groups) h k = ((omega arith, h), subst (λ q. AreGroupsFrom s q groups) (omega arith) k.1)
groups-with_zero_block s p reference (single_block b ∷ groups) h k = ((omega arith, h), groups-from_next s p (single_block b ∷ groups) k)

pub AreGroupsFrom-groups_of : (s : Settings) (p : ℕ) (blocks : List Block) → AreDueFrom s p blocks → AreGroupsFrom s p (groups_of blocks)
AreGroupsFrom-groups_of s p [] h = tt
AreGroupsFrom-groups_of s p (b ∷ blocks) h =
    let later = AreGroupsFrom-groups_of s (suc p) blocks h.1 in
    cond_both (is_zero_block b) (with_zero_block b.reference (groups_of blocks)) (single_block b ∷ groups_of blocks) (AreGroupsFrom s p)
    (λ _. groups-with_zero_block s p b.reference (groups_of blocks) h.0.reference later)
    (λ _. (h.0, groups-from_next s p (groups_of blocks) later))

-- ---- a segment's groups stand for its blocks

zeros-are : (values : List ℕ) → list_all (λ v. v == 0) values ≡ true → values ≡ replicate (length values) 0
zeros-are [] h = refl
zeros-are (v ∷ values) h =
    let both = and_parts (v == 0) (list_all (λ v. v == 0) values) h in
    let e : v ≡ 0 = eqb-true v 0 both.0 in
    let r = zeros-are values both.1 in
    cc

zero_block-is : (s : Settings) (t : Bool) (b : Block) → IsBlockOf s t b → is_zero_block b ≡ true → zero_block s b.reference ≡ b
zero_block-is s t b h z = rw (zeros-are b.values, h.count)

no_reference : (s : Settings) (p : ℕ) (reference : Option ℕ) → HasReference s (is_reference_block s (suc p)) reference → reference ≡ None
no_reference s p reference h = grind arith

blocks-with_zero_block : (s : Settings) (p : ℕ) (reference : Option ℕ) (groups : List Group) → AreGroupsFrom s (suc p) groups
    → flat_map (group_blocks s) (with_zero_block reference groups) ≡ zero_block s reference ∷ flat_map (group_blocks s) groups
blocks-with_zero_block s p reference [] h = refl
blocks-with_zero_block s p reference (single_block b ∷ groups) h = refl
blocks-with_zero_block s p reference (zero_run later z ∷ groups) h = rw (longer z h.0.0, no_reference s p later h.0.1)
  where
    longer : (z : ℕ) → 0 < z → replicate (z + 1 - 1) (zero_block s None) ≡ zero_block s None ∷ replicate (z - 1) (zero_block s None)
    longer z h = let e : z + 1 - 1 ≡ suc (z - 1) = omega arith in rw e

pub flat_map-groups_of : (s : Settings) (p : ℕ) (blocks : List Block) → AreDueFrom s p blocks → flat_map (group_blocks s) (groups_of blocks) ≡ blocks
flat_map-groups_of s p [] h = refl
flat_map-groups_of s p (b ∷ blocks) h =
    let later = flat_map-groups_of s (suc p) blocks h.1 in
    cond_both (is_zero_block b) (with_zero_block b.reference (groups_of blocks)) (single_block b ∷ groups_of blocks)
    (λ groups. flat_map (group_blocks s) groups ≡ b ∷ blocks) (λ z. rw (
      blocks-with_zero_block s p b.reference (groups_of blocks) (AreGroupsFrom-groups_of s (suc p) blocks h.1),
      zero_block-is s (is_reference_block s p) b h.0,
      later,
    ))
    (λ _. rw later)
