-- The code of an interval is no longer than any coded data sets that stand for its blocks.
use Rattle.std.proofs.Common.{◌≡◌, ℕ, suc, ◌+◌, ◌-◌, ◌%◌, ◌<◌, ◌≤◌, Bool, false, Option, None, List, [], ◌∷◌, ◌++◌, length, take, drop, replicate, refl, sym, ap, ◌∙◌, subst, arith, inl, inr, ◌⊎◌, ⊎_elim}
use Rattle.std.specs.Prelude.{ℤ}
use Rattle.std.specs.List.{AllByRecursion, flat_map}
use Rattle.std.proofs.lemmas.List.{length-append, length-take, append_assoc, append-nil, take_all, drop_all, take_at, drop_at, take-replicate, take-append-drop, take-append-le, nil_from_length}
use Rattle.std.proofs.Math.Seq.{take-append-add, drop-append-add}
use Rattle.std.proofs.lemmas.Bool.{cases_lt, leb-true}
use Rattle.std.proofs.lemmas.List.Concat.{flat_map-append}
use Rattle.aec_params.specs.declared.settings.Settings.{Settings}
use Rattle.aec_params.specs.Params.{IsAllowed, IsHeld, interval_len}
use Rattle.aec_params.specs.Blocks.{Block, intervals_of, blocks_of}
use Rattle.aec_params.specs.CodedDataSets.{Body, uncompressed_values, value_pairs, split_values, zero_blocks, CodedDataSet, cds_bits}
use Rattle.aec_params.specs.Places.{zero_block, block_count, body_blocks, segment_left, run_len, IsLawfulAt, cds_blocks, blocks_in}
use Rattle.aec_params.specs.Runs.{zero_run, groups_of}
use Rattle.aec_params.specs.Intervals.{group_sets, block_sets, unpadded_bits, interval_bits}
use Rattle.aec_params.specs.Streams.{stream_of}
use Rattle.aec_params.specs.Reading.{Covers, covered_blocks, ReadsBlocks}
use Rattle.aec_interval.specs.Laws.{ReadsEach, CodesAreShortest}
use Rattle.aec_interval.proofs.CuttingLemmas.{IsPieceBefore, first_piece, by_pieces, pieces_of-cons}
use Rattle.aec_interval.proofs.StreamLemmas.{interval_len-positive, stream_of-cons}
use Rattle.aec_interval.proofs.BlockLemmas.{all_left, all_right, AreDueFrom, AreDueFrom-blocks_of, blocks-few}
use Rattle.aec_interval.proofs.IntervalLemmas.{AreDueFrom_left, AreDueFrom_right, block_sets-nil, block_sets-cons}
use Rattle.aec_interval.proofs.PlaceLemmas.{length-cds_blocks}
use Rattle.aec_interval.proofs.RunLengthLemmas.{length-run}
use Rattle.aec_interval.proofs.CostLemmas.{group_cost, block_cost, groups_of-zeros, body_step}

-- how many blocks a segment takes from place p on; and the number of bits of the blocks from place
-- p on: the rest of the segment, and then the other segments
abbrev room : ℕ → ℕ
room p = 64 - p % 64

abbrev cost_from : Settings → ℕ → List Block → ℕ
cost_from s p blocks = group_cost s (groups_of (take (room p) blocks)) + block_cost s (drop (room p) blocks)

cost_from-nil : (s : Settings) (p : ℕ) → cost_from s p [] ≡ 0
cost_from-nil s p =
    let t = ap (λ blocks. group_cost s (groups_of blocks)) (take_all (room p) [] (omega arith)) in
    let d = ap (block_cost s) (drop_all (room p) [] (omega arith)) in
    let z = ap (λ sets. length (flat_map (cds_bits s) sets)) (block_sets-nil s) in
    omega arith

-- at the start of a segment
cost_from-segment : (s : Settings) (p : ℕ) (blocks : List Block) → p % 64 ≡ 0 → cost_from s p blocks ≡ block_cost s blocks
cost_from-segment s p [] h = simp (cost_from-nil, block_sets-nil)
cost_from-segment s p (b ∷ blocks) h =
    let whole = b ∷ blocks in
    let front = take 64 whole in
    let rest = drop 64 whole in
    let all : room p ≡ 64 = omega arith in
    let cut : block_sets s (front ++ rest) ≡ group_sets s (groups_of front) ++ block_sets s rest =
    block_sets-cons s front rest (first_piece 64 whole (omega arith) (omega arith)) in
    rw all (sym (length-append (flat_map (cds_bits s) (group_sets s (groups_of front))) (flat_map (cds_bits s) (block_sets s rest)))
    ∙ ap length (sym (flat_map-append (cds_bits s) (group_sets s (groups_of front)) (block_sets s rest)))
    ∙ ap (λ sets. length (flat_map (cds_bits s) sets)) (sym cut) ∙ ap (block_cost s) (take-append-drop 64 whole))

-- blocks cost no more bits than one coded data set that stands for their front, and the rest
set_step : (s : Settings) (p : ℕ) (c : CodedDataSet) (rest : List Block) → IsAllowed s → p < s.interval → IsLawfulAt s p c
    → p + block_count s p c + length rest ≤ s.interval
    → AreDueFrom s p (cds_blocks s p c ++ rest)
    → cost_from s p (cds_blocks s p c ++ rest) ≤ length (cds_bits s c) + cost_from s (p + block_count s p c) rest
set_step s p c rest a h l fits due = ⊎_elim inside (λ e. at_end (omega (arith, within))) (cases_lt k (room p))
  where
    k : ℕ
    k = block_count s p c

    front : List Block
    front = cds_blocks s p c

    len : length front ≡ k
    len = length-cds_blocks s p c h

    within : k ≤ segment_left s p
    within = leb-true k (segment_left s p) l.within

    here : AreDueFrom s p front
    here = AreDueFrom_left s p front rest due

    inside : k < room p → cost_from s p (front ++ rest) ≤ length (cds_bits s c) + cost_from s (p + k) rest
    inside e =
        let next = room (p + k) in
        let x = take next rest in
        let y = drop next rest in
        let left : room p ≡ length front + next = omega (arith, len) in
        let ends : (x ≡ []) ⊎ (k < segment_left s p) =
        ⊎_elim (λ some. inr (omega (arith, length-take next rest))) (λ none. inl (nil_from_length x (omega arith))) (cases_lt 0 (length x)) in
        let parts : (front ++ x) ++ y ≡ front ++ rest = rw (append_assoc, take-append-drop) in
        let step = body_step s p c.reference c.body x a h l ends (AreDueFrom_left s p (front ++ x) y (rw parts due)) in
        let split : cost_from s p (front ++ rest) ≡ group_cost s (groups_of (front ++ x)) + block_cost s y =
        rw (left, take-append-add, drop-append-add) in
        omega arith

    at_end : k ≡ room p → cost_from s p (front ++ rest) ≤ length (cds_bits s c) + cost_from s (p + k) rest
    at_end e =
        let full : length front ≡ room p = omega (arith, len) in
        let step = body_step s p c.reference c.body [] a h l (inl refl) (rw (append-nil front) here) in
        let split : cost_from s p (front ++ rest) ≡ group_cost s (groups_of front) + block_cost s rest = rw (take_at, drop_at) in
        let later = cost_from-segment s (p + k) rest (omega arith) in
        let alone = ap (λ u. group_cost s (groups_of u)) (append-nil front) in
        omega arith

-- ---- the last coded data set, if it goes past the blocks

overhang : (s : Settings) (p : ℕ) (reference : Option ℕ) (body : Body) (blocks : List Block) → p < s.interval
    → IsLawfulAt s p (record { reference = reference; body = body })
    → 0 < length blocks → length blocks < body_blocks s p body → take (length blocks) (blocks_in s p reference body) ≡ blocks
    → cost_from s p blocks ≤ length (cds_bits s (record { reference = reference; body = body }))
overhang s p reference (uncompressed_values values) blocks h l some more e = absurd (omega arith)
overhang s p reference (value_pairs members) blocks h l some more e = absurd (omega arith)
overhang s p reference (split_values k values) blocks h l some more e = absurd (omega arith)
overhang s p reference (zero_blocks m) blocks h l some more e =
    let z = length blocks in
    let within = leb-true (run_len s p m) (segment_left s p) l.within in
    let few : z ≤ room p = omega arith in
    let whole : suc (z - 1) ≡ z = omega arith in
    let zeros : zero_block s reference ∷ replicate (z - 1) (zero_block s None) ≡ blocks =
    cc (take-replicate (z - 1) (run_len s p m - 1) (zero_block s None) (omega arith)) in
    let alone : groups_of blocks ≡ zero_run reference (suc (z - 1)) ∷ [] =
    cc (append-nil (replicate (z - 1) (zero_block s None)), groups_of-zeros s reference (z - 1) []) in
    let split : cost_from s p blocks ≡ group_cost s (zero_run reference z ∷ []) + block_cost s [] = rw (take_all, drop_all, alone, whole) in
    grind (arith, length-append, length-run, block_sets-nil)

-- ---- all coded data sets

-- a coded data set that ends within the blocks: if the blocks after it cost no more than the other
-- sets, all blocks cost no more than all sets
exact_step : (s : Settings) (n p : ℕ) (c : CodedDataSet) (sets : List CodedDataSet) (blocks : List Block) → IsAllowed s → p < s.interval → n ≤ s.interval
    → IsLawfulAt s p c
    → AreDueFrom s p blocks → p + length blocks ≡ n → take (length blocks) (covered_blocks s p (c ∷ sets)) ≡ blocks → block_count s p c ≤ length blocks
    → ((rest : List Block) → AreDueFrom s (p + block_count s p c) rest → p + block_count s p c + length rest ≡ n
    → take (length rest) (covered_blocks s (p + block_count s p c) sets) ≡ rest
    → cost_from s (p + block_count s p c) rest ≤ length (flat_map (cds_bits s) sets))
    → cost_from s p blocks ≤ length (flat_map (cds_bits s) (c ∷ sets))
exact_step s n p c sets blocks a h few l due reach e fits ih =
    omega (
      arith,
      ap (cost_from s p) parts,
      length-append (cds_bits s c) (flat_map (cds_bits s) sets),
      set_step s p c rest a h l (omega (arith, count)) due_parts,
      ih rest (subst (λ q. AreDueFrom s q rest) (omega (arith, len)) (AreDueFrom_right s p front rest due_parts))
          (omega (arith, count)) (ap (λ m. take m behind) count),
    )
  where
    k : ℕ
    k = block_count s p c

    front : List Block
    front = cds_blocks s p c

    behind : List Block
    behind = covered_blocks s (p + k) sets

    rest : List Block
    rest = take (length blocks - k) behind

    len : length front ≡ k
    len = length-cds_blocks s p c h

    parts : blocks ≡ front ++ rest
    parts = sym e ∙ ap (λ m. take m (front ++ behind)) (omega (arith, len)) ∙ take-append-add front behind (length blocks - k)

    count : length rest ≡ length blocks - k
    count = omega (arith, ap length parts, length-append front rest, len)

    due_parts : AreDueFrom s p (front ++ rest)
    due_parts = rw parts at due

optimal_from : (s : Settings) (n p : ℕ) (sets : List CodedDataSet) (blocks : List Block) → IsAllowed s → n ≤ s.interval → Covers s n p sets
    → AreDueFrom s p blocks
    → p + length blocks ≡ n → take (length blocks) (covered_blocks s p sets) ≡ blocks → cost_from s p blocks ≤ length (flat_map (cds_bits s) sets)
optimal_from s n p sets [] a few h due reach e = omega (arith, cost_from-nil)
optimal_from s n p [] (b ∷ blocks) a few h due reach e = absurd (omega (arith, leb-true))
optimal_from s n p (c ∷ sets) (b ∷ blocks) a few h due reach e =
    ⊎_elim last
    (λ l. exact_step s n p c sets (b ∷ blocks) a (omega arith) few h.1 due reach e l
    (λ rest d r t. optimal_from s n (p + block_count s p c) sets rest a few h.2 d r t))
    (cases_lt (length (b ∷ blocks)) (block_count s p c))
  where
    k : ℕ
    k = block_count s p c

    whole : List Block
    whole = b ∷ blocks

    front : List Block
    front = cds_blocks s p c

    last : length whole < k → cost_from s p whole ≤ length (cds_bits s c ++ flat_map (cds_bits s) sets)
    last l =
        let cut : take (length whole) front ≡ whole =
        sym (take-append-le (length whole) front (covered_blocks s (p + k) sets) (omega (arith, length-cds_blocks))) ∙ e in
        omega (arith, overhang s p c.reference c.body whole (omega arith) h.1 (omega arith) l cut, length-append (cds_bits s c) (flat_map (cds_bits s) sets))

-- ---- an interval, and all samples

pub unpadded_bits-optimal : (s : Settings) (samples : List ℤ) (bits : List Bool) → IsAllowed s → AllByRecursion (IsHeld s) samples → 0 < length samples
    → length samples ≤ interval_len s
    → ReadsBlocks s bits (blocks_of s samples) → length (unpadded_bits s samples) ≤ length bits
unpadded_bits-optimal s [] bits a held some fits r = absurd (omega arith)
unpadded_bits-optimal s (x ∷ v) bits a held some fits r =
    let blocks = blocks_of s (x ∷ v) in
    let due = AreDueFrom-blocks_of s x v a held fits in
    let least = optimal_from s (length blocks) 0 r.sets blocks a (blocks-few s (x ∷ v) a fits) r.covers due (omega arith) r.stand_for in
    grind (arith, cost_from-segment s 0 blocks refl)

-- without padding, the code of an interval is as long as its unpadded bits
unpadded : (s : Settings) (v : List ℤ) → s.pad ≡ false → length (interval_bits s v) ≡ length (unpadded_bits s v)
unpadded s v e = rw e

abbrev IsShortest : Settings → List ℤ → Type 0
IsShortest s xs = AllByRecursion (IsHeld s) xs → (codes : List (List Bool)) → ReadsEach s codes (intervals_of s xs)
    → length (stream_of s xs) ≤ length (flat_map (λ code. code) codes)

shortest_on : (s : Settings) → IsAllowed s → s.pad ≡ false → (front rest : List ℤ) → IsPieceBefore (interval_len s) front rest → IsShortest s rest
    → IsShortest s (front ++ rest)
shortest_on s a e front rest piece ih held [] each = absurd (rw pieces_of-cons at each)
shortest_on s a e front rest piece ih held (code ∷ codes) each =
    let parts = rw pieces_of-cons at each in
    let first = unpadded_bits-optimal s front code a (all_left (IsHeld s) front rest held) piece.some piece.fits parts.0 in
    let later = ih (all_right (IsHeld s) front rest held) codes parts.1 in
    grind (arith, stream_of-cons, length-append, unpadded)

pub codes_are_shortest : (s : Settings) (samples : List ℤ) → IsAllowed s → CodesAreShortest s samples
codes_are_shortest s samples a = record {
  interval = λ v bits r. unpadded_bits-optimal s samples bits a v.held v.some v.fits r;
  stream = λ held e codes each. by_pieces (IsShortest s) (interval_len s) (interval_len-positive s a)
      (λ _ codes _. grind arith) (shortest_on s a e) samples held codes each;
}
