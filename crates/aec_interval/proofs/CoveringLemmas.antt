-- An interval's coded data sets cover its blocks: each group becomes one set, and only the very
-- last set may go past the blocks.
use Rattle.std.proofs.Common.{◌≡◌, ℕ, ◌+◌, ◌-◌, ◌<◌, ◌≤◌, Bool, true, false, Option, None, List, [], ◌∷◌, ◌++◌, length, take, refl, sym, ◌∙◌, subst, arith, inl, inr, ◌⊎◌, ⊎_elim}
use Rattle.std.specs.Prelude.{nat_le, if◌then◌else◌}
use Rattle.std.specs.List.{flat_map}
use Rattle.std.proofs.lemmas.List.{length-append, length-replicate, append_assoc, append-nil, take-replicate}
use Rattle.std.proofs.Math.Seq.{take-append-add}
use Rattle.std.proofs.lemmas.Bool.{cond_both, le-leb, leb-true, leb-false, lt-ltb, le-ltb, ne_eqb}
use Rattle.aec_params.specs.declared.settings.Settings.{Settings}
use Rattle.aec_params.specs.Blocks.{Block}
use Rattle.aec_params.specs.CodedDataSets.{zero_blocks, CodedDataSet, HasReference}
use Rattle.aec_params.specs.Places.{is_reference_block, zero_block, block_count, segment_left, run_len, IsLawfulAt, cds_blocks}
use Rattle.aec_params.specs.Spellings.{shortest_spelling}
use Rattle.aec_params.specs.Runs.{Group, zero_run, single_block, run_code}
use Rattle.aec_params.specs.Intervals.{group_set, group_sets, is_empty}
use Rattle.aec_params.specs.Reading.{Covers, covered_blocks}
use Rattle.aec_params.specs.BlockShapes.{IsBlockAt}
use Rattle.aec_interval.proofs.SpellingLemmas.{Spells-shortest_spelling}
use Rattle.aec_interval.proofs.GroupLemmas.{group_blocks, group_len, IsGroupAt, AreGroupsFrom, length-group_blocks}

-- coded data sets from block p of an interval on cover these blocks, which end before block n
pub record IsCovering (s : Settings) (n p : ℕ) (sets : List CodedDataSet) (blocks : List Block) : Type 0 where
  pub reach : p + length blocks ≡ n
  pub covers : Covers s n p sets
  pub stand_for : take (length blocks) (covered_blocks s p sets) ≡ blocks

pub IsCovering-nil : (s : Settings) (n p : ℕ) → p ≡ n → IsCovering s n p [] []
IsCovering-nil s n p e = record { reach = omega arith; covers = le-leb n p (omega arith); stand_for = refl }

-- a coded data set that stands for exactly the front of the blocks
pub IsCovering-cons : (s : Settings) (n p : ℕ) (c : CodedDataSet) (sets : List CodedDataSet) (front behind : List Block) → IsLawfulAt s p c
    → cds_blocks s p c ≡ front → length front ≡ block_count s p c → 0 < block_count s p c
    → IsCovering s n (p + block_count s p c) sets behind → IsCovering s n p (c ∷ sets) (front ++ behind)
IsCovering-cons s n p c sets front behind l e len some h = record {
  reach = omega (arith, length-append front behind);
  covers = (omega arith, l, h.covers);
  stand_for = rw (length-append, e, take-append-add, h.stand_for);
}

-- the last coded data set, which may go past the blocks
pub IsCovering-last : (s : Settings) (n p : ℕ) (c : CodedDataSet) (blocks : List Block) → IsLawfulAt s p c → p + length blocks ≡ n → 0 < length blocks
    → length blocks ≤ block_count s p c → take (length blocks) (cds_blocks s p c) ≡ blocks → IsCovering s n p (c ∷ []) blocks
IsCovering-last s n p c blocks l e some most t = record {
  reach = e;
  covers = (omega arith, l, le-leb n (p + block_count s p c) (omega arith));
  stand_for = rw append-nil t;
}

-- ---- one group

-- c is a lawful coded data set for exactly the blocks of group g
pub record IsWrittenFor (s : Settings) (p : ℕ) (g : Group) (c : CodedDataSet) : Type 0 where
  pub lawful : IsLawfulAt s p c
  pub blocks : cds_blocks s p c ≡ group_blocks s g
  pub count : block_count s p c ≡ group_len g

run_lawful : (s : Settings) (p : ℕ) (reference : Option ℕ) (m : ℕ) → HasReference s (is_reference_block s p) reference → run_len s p m ≤ segment_left s p
    → IsLawfulAt s p (record { reference = reference; body = zero_blocks m })
run_lawful s p reference m h k = record { shape = record { reference = h; body = tt }; small = refl; within = le-leb (run_len s p m) (segment_left s p) k }

-- the number written for a run stands for its length; or, if the run is the last of its segment,
-- for all blocks that the segment has left
abbrev SpellsRun : Settings → ℕ → ℕ → Bool → ℕ → Type 0
SpellsRun s p z is_last m = (run_len s p m ≡ z) ⊎ ((is_last ≡ true) × (run_len s p m ≡ segment_left s p))

SpellsRun-long : (s : Settings) (p z : ℕ) (is_last : Bool) → 4 < z → SpellsRun s p z is_last (if is_last then 4 else z)
SpellsRun-long s p z true l = inr (refl, refl)
SpellsRun-long s p z false l = inl (rw (le-ltb z 4 (omega arith), ne_eqb z 4 (λ e. omega arith)))

SpellsRun-short : (s : Settings) (p z : ℕ) (is_last : Bool) → 0 < z → z ≤ 4 → SpellsRun s p z is_last (z - 1)
SpellsRun-short s p z is_last h l = inl (rw (lt-ltb (z - 1) 4 (omega arith)) (omega arith))

SpellsRun-run_code : (s : Settings) (p z : ℕ) (is_last : Bool) → 0 < z → SpellsRun s p z is_last (run_code z is_last)
SpellsRun-run_code s p z is_last h =
    cond_both (nat_le z 4) (z - 1) (if is_last then 4 else z) (SpellsRun s p z is_last)
    (λ t. SpellsRun-short s p z is_last h (leb-true z 4 t))
    (λ t. SpellsRun-long s p z is_last (leb-false z 4 t))

run_written : (s : Settings) (p z m : ℕ) (reference : Option ℕ) → HasReference s (is_reference_block s p) reference → z ≤ segment_left s p
    → run_len s p m ≡ z
    → IsWrittenFor s p (zero_run reference z) (record { reference = reference; body = zero_blocks m })
run_written s p z m reference h k e = record {
  lawful = run_lawful s p reference m h (omega arith);
  blocks = rw e;
  count = e;
}

block_written : (s : Settings) (p : ℕ) (b : Block) → IsBlockAt s p b → 1 ≤ segment_left s p
    → IsWrittenFor s p (single_block b) (shortest_spelling s b)
block_written s p b h k =
    let w = Spells-shortest_spelling s (is_reference_block s p) b h in
    record {
      lawful = record {
        shape = w.shape;
        small = w.small;
        within = le-leb (block_count s p (shortest_spelling s b)) (segment_left s p) (omega arith);
      };
      blocks = w.blocks p;
      count = w.single p;
    }

-- ---- the groups of a segment

-- a block z places later has z blocks fewer left in the same segment
segment_left-later : (s : Settings) (p z : ℕ) → z < segment_left s p → segment_left s (p + z) ≡ segment_left s p - z
segment_left-later s p z h = omega arith

-- groups fill what their segment has left, or nothing comes after them in the interval
abbrev pub EndsWell : ℕ → ℕ → List CodedDataSet → List Block → Type 0
EndsWell total left sets behind = (total ≡ left) ⊎ ((sets ≡ []) × (behind ≡ []))

group_len-positive : (s : Settings) (p : ℕ) (g : Group) → IsGroupAt s p g → 0 < group_len g
group_len-positive s p (zero_run reference z) h = h.0
group_len-positive s p (single_block b) h = omega arith

IsCovering-written : (s : Settings) (n p : ℕ) (g : Group) (c : CodedDataSet) (sets : List CodedDataSet) (behind : List Block) → IsGroupAt s p g
    → IsWrittenFor s p g c → IsCovering s n (p + group_len g) sets behind → IsCovering s n p (c ∷ sets) (group_blocks s g ++ behind)
IsCovering-written s n p g c sets behind h w k =
    IsCovering-cons s n p c sets (group_blocks s g) behind w.lawful w.blocks (length-group_blocks s p g h ∙ sym w.count)
    (rw w.count (group_len-positive s p g h)) (rw w.count k)

-- the run at the end of the blocks; its number stands for all that the segment has left
IsCovering-overhang : (s : Settings) (n p z m : ℕ) (reference : Option ℕ) → (0 < z) × HasReference s (is_reference_block s p) reference
    → run_len s p m ≡ segment_left s p → z ≤ segment_left s p → p + z ≡ n
    → IsCovering s n p (record { reference = reference; body = zero_blocks m } ∷ []) (group_blocks s (zero_run reference z))
IsCovering-overhang s n p z m reference h e most reach =
    let len = length-group_blocks s p (zero_run reference z) h in
    IsCovering-last s n p (record { reference = reference; body = zero_blocks m }) (group_blocks s (zero_run reference z))
    (run_lawful s p reference m h.1 (omega arith)) (omega arith) (omega arith) (omega arith)
    (rw (length-replicate (z - 1), take-replicate (z - 1) (run_len s p m - 1) (zero_block s None) (omega arith)))

-- such a run, if no group, coded data set or block comes after it
IsCovering-last_run : (s : Settings) (n p z : ℕ) (reference : Option ℕ) (groups : List Group) (sets : List CodedDataSet) (behind : List Block)
    → (0 < z) × HasReference s (is_reference_block s p) reference → is_empty groups ≡ true → sets ≡ [] → behind ≡ []
    → run_len s p (run_code z (is_empty groups)) ≡ segment_left s p → z ≤ segment_left s p
    → p + z + length (flat_map (group_blocks s) groups) + length behind ≡ n
    → IsCovering s n p (group_set s (zero_run reference z) (is_empty groups) ∷ (group_sets s groups ++ sets))
    (group_blocks s (zero_run reference z) ++ (flat_map (group_blocks s) groups ++ behind))
IsCovering-last_run s n p z reference [] [] [] h l f g e most reach =
    rw (append-nil (group_blocks s (zero_run reference z))) (IsCovering-overhang s n p z (run_code z true) reference h e most (omega arith))
IsCovering-last_run s n p z reference [] [] (b ∷ behind) h l f g e most reach = absurd (cc)
IsCovering-last_run s n p z reference [] (c ∷ sets) behind h l f g e most reach = absurd (cc)
IsCovering-last_run s n p z reference (b ∷ groups) sets behind h l f g e most reach = absurd (cc)

empty_groups : (s : Settings) (groups : List Group) → is_empty groups ≡ true → length (flat_map (group_blocks s) groups) ≡ 0
empty_groups s [] e = refl
empty_groups s (g ∷ groups) e = absurd (cc)

-- a run, then the other groups of its segment, then the other segments
IsCovering-run : (s : Settings) (n p left z : ℕ) (reference : Option ℕ) (groups : List Group) (sets : List CodedDataSet) (behind : List Block)
    → (0 < z) × HasReference s (is_reference_block s p) reference → segment_left s p ≡ left → z ≤ left
    → EndsWell (z + length (flat_map (group_blocks s) groups)) left sets behind
    → p + z + length (flat_map (group_blocks s) groups) + length behind ≡ n
    → IsCovering s n (p + z) (group_sets s groups ++ sets) (flat_map (group_blocks s) groups ++ behind)
    → IsCovering s n p (group_set s (zero_run reference z) (is_empty groups) ∷ (group_sets s groups ++ sets))
    (group_blocks s (zero_run reference z) ++ (flat_map (group_blocks s) groups ++ behind))
IsCovering-run s n p left z reference groups sets behind h k most ends reach c =
    ⊎_elim exact (λ w. last w.0 w.1) (SpellsRun-run_code s p z (is_empty groups) h.0)
  where
    m : ℕ
    m = run_code z (is_empty groups)

    Goal : Type 0
    Goal = IsCovering s n p (group_set s (zero_run reference z) (is_empty groups) ∷ (group_sets s groups ++ sets))
        (group_blocks s (zero_run reference z) ++ (flat_map (group_blocks s) groups ++ behind))

    exact : run_len s p m ≡ z → Goal
    exact e = IsCovering-written s n p (zero_run reference z) (group_set s (zero_run reference z) (is_empty groups)) (group_sets s groups ++ sets)
        (flat_map (group_blocks s) groups ++ behind) h (run_written s p z m reference h.1 (omega arith) e) c

    last : is_empty groups ≡ true → run_len s p m ≡ segment_left s p → Goal
    last l e = ⊎_elim (λ f. exact (omega (arith, empty_groups)))
        (λ w. IsCovering-last_run s n p z reference groups sets behind h l w.0 w.1 e (omega arith) reach) ends

-- what a segment has left after its first group
record LeftAfter (s : Settings) (n p left : ℕ) (g : Group) (groups : List Group) (sets : List CodedDataSet) (behind : List Block) : Type 0 where
  here : segment_left s p ≡ left
  fits : group_len g ≤ left
  ends : EndsWell (group_len g + length (flat_map (group_blocks s) groups)) left sets behind
  reach : p + group_len g + length (flat_map (group_blocks s) groups) + length behind ≡ n
  later : 0 < length (flat_map (group_blocks s) groups) → segment_left s (p + group_len g) ≡ left - group_len g
  later_fits : length (flat_map (group_blocks s) groups) ≤ left - group_len g
  later_ends : EndsWell (length (flat_map (group_blocks s) groups)) (left - group_len g) sets behind
  later_covered : IsCovering s n (p + group_len g + length (flat_map (group_blocks s) groups)) sets behind

left_after : (s : Settings) (n p left : ℕ) (g : Group) (groups : List Group) (sets : List CodedDataSet) (behind : List Block)
    → AreGroupsFrom s p (g ∷ groups)
    → (0 < length (flat_map (group_blocks s) (g ∷ groups)) → segment_left s p ≡ left) → length (flat_map (group_blocks s) (g ∷ groups)) ≤ left
    → EndsWell (length (flat_map (group_blocks s) (g ∷ groups))) left sets behind
    → IsCovering s n (p + length (flat_map (group_blocks s) (g ∷ groups))) sets behind → LeftAfter s n p left g groups sets behind
left_after s n p left g groups sets behind h k most ends c =
    let z = group_len g in
    let t = length (flat_map (group_blocks s) groups) in
    let some = group_len-positive s p g h.0 in
    let total : length (flat_map (group_blocks s) (g ∷ groups)) ≡ z + t = rw (length-append, length-group_blocks s p g h.0) in
    let here : segment_left s p ≡ left = k (omega arith) in
    record {
      here = here;
      fits = omega arith;
      ends = ⊎_elim (λ f. inl (omega arith)) (λ f. inr f) ends;
      reach = omega arith;
      later = λ f. rw (segment_left-later s p z (omega arith), here);
      later_fits = omega arith;
      later_ends = ⊎_elim (λ f. inl (omega arith)) (λ f. inr f) ends;
      later_covered = subst (λ q. IsCovering s n q sets behind) (omega arith) c;
    }

pub IsCovering-groups : (s : Settings) (n p left : ℕ) (groups : List Group) (sets : List CodedDataSet) (behind : List Block) → AreGroupsFrom s p groups
    → (0 < length (flat_map (group_blocks s) groups) → segment_left s p ≡ left) → length (flat_map (group_blocks s) groups) ≤ left
    → EndsWell (length (flat_map (group_blocks s) groups)) left sets behind
    → IsCovering s n (p + length (flat_map (group_blocks s) groups)) sets behind
    → IsCovering s n p (group_sets s groups ++ sets) (flat_map (group_blocks s) groups ++ behind)
IsCovering-groups s n p left [] sets behind h k most ends c = subst (λ q. IsCovering s n q sets behind) (omega arith) c
IsCovering-groups s n p left (zero_run reference z ∷ groups) sets behind h k most ends c =
    let d = left_after s n p left (zero_run reference z) groups sets behind h k most ends c in
    rw append_assoc (IsCovering-run s n p left z reference groups sets behind h.0 d.here d.fits d.ends d.reach
    (IsCovering-groups s n (p + z) (left - z) groups sets behind h.1 d.later d.later_fits d.later_ends d.later_covered))
IsCovering-groups s n p left (single_block b ∷ groups) sets behind h k most ends c =
    let d = left_after s n p left (single_block b) groups sets behind h k most ends c in
    rw append_assoc
    (IsCovering-written s n p (single_block b) (shortest_spelling s b) (group_sets s groups ++ sets) (flat_map (group_blocks s) groups ++ behind) h.0
    (block_written s p b h.0 (omega arith)) (IsCovering-groups s n (p + 1) (left - 1) groups sets behind h.1 d.later d.later_fits
    d.later_ends d.later_covered))
