-- What coded data sets cost before the groups of their segment: joining their blocks to the groups
-- never costs more bits.
use Rattle.std.proofs.Common.{◌≡◌, ℕ, zero, suc, ◌+◌, ◌-◌, ◌<◌, ◌≤◌, true, false, Option, None, List, [], ◌∷◌, ◌++◌, length, replicate, refl, arith, ◌⊎◌, ⊎_elim}
use Rattle.std.specs.Prelude.{◌==◌}
use Rattle.std.specs.List.{flat_map, list_all}
use Rattle.std.proofs.lemmas.List.{length-append}
use Rattle.std.proofs.lemmas.Bool.{cond_both}
use Rattle.aec_params.specs.declared.settings.Settings.{Settings}
use Rattle.aec_params.specs.Params.{IsAllowed, id_len}
use Rattle.aec_params.specs.Blocks.{Block, is_zero_block}
use Rattle.aec_params.specs.CodedDataSets.{Body, uncompressed_values, value_pairs, split_values, zero_blocks, CodedDataSet, reference_bits, cds_bits}
use Rattle.aec_params.specs.Places.{is_reference_block, zero_block, placed_values, placed_members, body_blocks, segment_left, run_len, IsLawfulAt, blocks_in}
use Rattle.aec_params.specs.Spellings.{shortest_spelling}
use Rattle.aec_params.specs.Runs.{Group, zero_run, single_block, with_zero_block, groups_of, run_code}
use Rattle.aec_params.specs.Intervals.{group_sets, is_empty, block_sets}
use Rattle.aec_params.proofs.SettingLaws.{block_size-least}
use Rattle.aec_block.proofs.ShortestLemmas.{shortest-uncompressed_values, shortest-split_values, shortest-value_pairs}
use Rattle.aec_interval.proofs.BlockLemmas.{AreDueFrom}
use Rattle.aec_interval.proofs.GroupLemmas.{AreGroupsFrom, AreGroupsFrom-groups_of}
use Rattle.aec_interval.proofs.IntervalLemmas.{AreDueFrom_right}
use Rattle.aec_interval.proofs.PlaceLemmas.{block_count-positive}
use Rattle.aec_interval.proofs.RunLengthLemmas.{run_code-joined, run_code-last, length-run, plain-longer, split-longer, pairs-longer}

-- the number of bits of groups, and of blocks from the start of a segment on
abbrev pub group_cost : Settings → List Group → ℕ
group_cost s groups = length (flat_map (cds_bits s) (group_sets s groups))

abbrev pub block_cost : Settings → List Block → ℕ
block_cost s blocks = length (flat_map (cds_bits s) (block_sets s blocks))

-- ---- zero blocks before others

-- groups with k zero blocks before them
abbrev pub with_zeros : Option ℕ → ℕ → List Group → List Group
with_zeros reference k (zero_run later a ∷ groups) = zero_run reference (k + a) ∷ groups
with_zeros reference k (single_block b ∷ groups) = zero_run reference k ∷ (single_block b ∷ groups)
with_zeros reference k [] = zero_run reference k ∷ []

with_zeros-one : (reference : Option ℕ) (groups : List Group) → with_zero_block reference groups ≡ with_zeros reference 1 groups
with_zeros-one reference [] = refl
with_zeros-one reference (single_block b ∷ groups) = refl
with_zeros-one reference (zero_run later a ∷ groups) = let e : a + 1 ≡ 1 + a = omega arith in rw e

with_zeros-more : (reference : Option ℕ) (k : ℕ) (groups : List Group)
    → with_zero_block reference (with_zeros None (suc k) groups) ≡ with_zeros reference (suc (suc k)) groups
with_zeros-more reference k [] = let e : suc k + 1 ≡ suc (suc k) = omega arith in rw e
with_zeros-more reference k (single_block b ∷ groups) = let e : suc k + 1 ≡ suc (suc k) = omega arith in rw e
with_zeros-more reference k (zero_run later a ∷ groups) = let e : suc k + a + 1 ≡ suc (suc k) + a = omega arith in rw e

zeros-all : (n : ℕ) → list_all (λ v. v == 0) (replicate n 0) ≡ true
zeros-all zero = refl
zeros-all (suc n) = zeros-all n

pub groups_of-zeros : (s : Settings) (reference : Option ℕ) (k : ℕ) (blocks : List Block)
    → groups_of (zero_block s reference ∷ (replicate k (zero_block s None) ++ blocks)) ≡ with_zeros reference (suc k) (groups_of blocks)
groups_of-zeros s reference zero blocks = rw (zeros-all, with_zeros-one)
groups_of-zeros s reference (suc k) blocks =
    cc (zeros-all s.block_size, groups_of-zeros s None k blocks, with_zeros-more reference k (groups_of blocks))

abbrev pub run_set : Option ℕ → ℕ → CodedDataSet
run_set reference m = record { reference = reference; body = zero_blocks m }

-- a run before groups costs at most its own bits
with_zeros-cost : (s : Settings) (p : ℕ) (reference : Option ℕ) (k : ℕ) (groups : List Group) → 0 < k → AreGroupsFrom s p groups
    → group_cost s (with_zeros reference k groups) ≤ length (cds_bits s (run_set reference (run_code k false))) + group_cost s groups
with_zeros-cost s p reference k [] h g =
    omega (
      arith,
      length-append (cds_bits s (run_set reference (run_code k true))) [],
      length-run s reference (run_code k true),
      length-run s reference (run_code k false),
      run_code-last k,
    )
with_zeros-cost s p reference k (single_block b ∷ groups) h g =
    omega (arith, length-append (cds_bits s (run_set reference (run_code k false))) (flat_map (cds_bits s) (group_sets s (single_block b ∷ groups))))
with_zeros-cost s p reference k (zero_run later a ∷ groups) h g =
    let t = is_empty groups in
    let more = flat_map (cds_bits s) (group_sets s groups) in
    omega (
      arith,
      length-append (cds_bits s (run_set reference (run_code (k + a) t))) more,
      length-append (cds_bits s (run_set later (run_code a t))) more,
      length-run s reference (run_code (k + a) t),
      length-run s later (run_code a t),
      length-run s reference (run_code k false),
      run_code-joined k a t h g.0.0,
    )

-- ---- one coded data set before the rest of its segment

pub run_code-at_end : (s : Settings) (p m z : ℕ) → 0 < z → z ≤ run_len s p m → run_code z true ≤ m
run_code-at_end s p m z h l = grind arith

run_code-inside : (s : Settings) (p m : ℕ) → run_len s p m < segment_left s p → run_code (run_len s p m) false ≤ m
run_code-inside s p m h = grind arith

single_step : (s : Settings) (p : ℕ) (b : Block) (c : CodedDataSet) (x : List Block) → length (cds_bits s (shortest_spelling s b)) ≤ length (cds_bits s c)
    → id_len s + length (reference_bits s b.reference) + 2 ≤ length (cds_bits s c) → AreGroupsFrom s p (groups_of x)
    → group_cost s (groups_of (b ∷ x)) ≤ length (cds_bits s c) + group_cost s (groups_of x)
single_step s p b c x least longer g =
    cond_both (is_zero_block b) (with_zero_block b.reference (groups_of x)) (single_block b ∷ groups_of x)
    (λ groups. group_cost s groups ≤ length (cds_bits s c) + group_cost s (groups_of x)) (λ _. rw with_zeros-one (omega (
      arith,
      with_zeros-cost s p b.reference 1 (groups_of x) (omega arith) g,
      length-run s b.reference (run_code 1 false),
    )))
    (λ _. omega (arith, length-append (cds_bits s (shortest_spelling s b)) (flat_map (cds_bits s) (group_sets s (groups_of x)))))

run_step : (s : Settings) (p q : ℕ) (reference : Option ℕ) (m : ℕ) (x : List Block) → 0 < run_len s p m → (x ≡ []) ⊎ (run_len s p m < segment_left s p)
    → AreGroupsFrom s q (groups_of x)
    → group_cost s (groups_of (blocks_in s p reference (zero_blocks m) ++ x)) ≤ length (cds_bits s (run_set reference m)) + group_cost s (groups_of x)
run_step s p q reference m x some ends g = rw together (⊎_elim last inside ends)
  where
    k : ℕ
    k = run_len s p m

    together : groups_of (blocks_in s p reference (zero_blocks m) ++ x) ≡ with_zeros reference k (groups_of x)
    together = let e : suc (k - 1) ≡ k = omega arith in rw (groups_of-zeros, e)

    inside : k < segment_left s p → group_cost s (with_zeros reference k (groups_of x)) ≤ length (cds_bits s (run_set reference m)) + group_cost s
        (groups_of x)
    inside l = grind (arith, with_zeros-cost, length-run, run_code-inside)

    last : x ≡ [] → group_cost s (with_zeros reference k (groups_of x)) ≤ length (cds_bits s (run_set reference m)) + group_cost s (groups_of x)
    last e = grind (arith, length-append, length-run, run_code-at_end)

pub body_step : (s : Settings) (p : ℕ) (reference : Option ℕ) (body : Body) (x : List Block) → IsAllowed s → p < s.interval
    → IsLawfulAt s p (record { reference = reference; body = body })
    → (x ≡ []) ⊎ (body_blocks s p body < segment_left s p) → AreDueFrom s p (blocks_in s p reference body ++ x)
    → group_cost s (groups_of (blocks_in s p reference body ++ x)) ≤ length (cds_bits s (record { reference = reference; body = body })) + group_cost s
    (groups_of x)
body_step s p reference (uncompressed_values values) x a h l ends due =
    single_step s (suc p) (record { reference = reference; values = placed_values reference values })
    (record { reference = reference; body = uncompressed_values values }) x
    (shortest-uncompressed_values s reference values) (plain-longer s (is_reference_block s p) reference values a l.shape.body.0)
    (AreGroupsFrom-groups_of s (suc p) x due.1)
body_step s p reference (value_pairs members) x a h l ends due =
    let two : 2 ≤ length members = omega (arith, block_size-least s a) in
    single_step s (suc p) (record { reference = reference; values = placed_members reference members })
    (record { reference = reference; body = value_pairs members }) x
    (shortest-value_pairs s reference members two) (pairs-longer s reference members two) (AreGroupsFrom-groups_of s (suc p) x due.1)
body_step s p reference (split_values k values) x a h l ends due =
    single_step s (suc p) (record { reference = reference; values = placed_values reference values })
    (record { reference = reference; body = split_values k values }) x
    (shortest-split_values s reference k values l.shape.body.0) (split-longer s (is_reference_block s p) reference k values a l.shape.body.1)
    (AreGroupsFrom-groups_of s (suc p) x due.1)
body_step s p reference (zero_blocks m) x a h l ends due =
    let front = blocks_in s p reference (zero_blocks m) in
    run_step s p (p + length front) reference m x (block_count-positive s p (run_set reference m) h) ends
    (AreGroupsFrom-groups_of s (p + length front) x (AreDueFrom_right s p front x due))
