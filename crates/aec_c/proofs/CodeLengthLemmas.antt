-- A code has at most five bits and the plain samples for each block, and a byte for each interval.
use Rattle.std.proofs.Common.{◌≡◌, ℕ, suc, ◌+◌, ◌-◌, ◌*◌, ◌^◌, ◌<◌, ◌≤◌, Bool, true, false, cond, if◌then◌else◌, Option, Some, None, ℤ, List, [], ◌∷◌, ◌++◌, length, map, sym, ap, ◌∙◌, subst, arith, ⊎_elim}
use Rattle.std.specs.Prelude.{nat_lt, nat_le}
use Rattle.std.specs.List.{AllByRecursion, flat_map, best_of}
use Rattle.std.specs.Int.{div_ceil}
use Rattle.std.proofs.lemmas.List.{length-append, append-nil, nil_from_length}
use Rattle.std.proofs.lemmas.List.Concat.{flat_map-append}
use Rattle.std.proofs.lemmas.Bool.{cases_lt, cond_both, ltb-true}
use Rattle.std.proofs.lemmas.Bool.Decides.{nat_tests}
use Rattle.std.proofs.Math.Nat.{mul-le-mul_right}
use Rattle.aec_params.specs.declared.settings.Settings.{Settings}
use Rattle.aec_params.specs.Params.{IsAllowed, id_len, interval_len}
use Rattle.aec_params.specs.Codewords.{binary, padded_to_byte}
use Rattle.aec_params.specs.Cutting.{pieces_of}
use Rattle.aec_params.specs.Mapping.{mapped_values}
use Rattle.aec_params.specs.Blocks.{Block, filled_samples, reference_of, with_reference, blocks_of, is_zero_block}
use Rattle.aec_params.specs.CodedDataSets.{zero_blocks, reference_bits, cds_bits}
use Rattle.aec_params.specs.Spellings.{after_reference, uncompressed, compressed_spellings, shortest_spelling}
use Rattle.aec_params.specs.Runs.{Group, zero_run, single_block, with_zero_block, groups_of, run_code}
use Rattle.aec_params.specs.Intervals.{group_sets, is_empty, block_sets, unpadded_bits, interval_bits}
use Rattle.aec_params.specs.Streams.{stream_of}
use Rattle.aec_params.proofs.SettingLaws.{at_least_one_bit, block_size-least, block_size-positive, interval-positive}
use Rattle.aec_params.proofs.CodewordLaws.{length-binary}
use Rattle.aec_params.proofs.ByteLaws.{length-padded_to_byte}
use Rattle.aec_params.proofs.SampleLaws.{interval_len-positive}
use Rattle.aec_interval.proofs.CuttingLemmas.{IsPieceBefore, by_pieces, div_ceil-one, div_ceil-step, div_ceil-positive}
use Rattle.aec_interval.proofs.BlockLemmas.{all_left, all_right, whole_pieces, length-mapped_values, length-filled_samples, length-blocks_of, blocks-few}
use Rattle.aec_interval.proofs.IntervalLemmas.{block_sets-nil, block_sets-cons}
use Rattle.aec_interval.proofs.StreamLemmas.{stream_of-nil, stream_of-cons, length-full_blocks, div_ceil-interval}
use Rattle.aec_interval.proofs.RunLengthLemmas.{length-run}
use Rattle.aec_interval.proofs.CostLemmas.{group_cost, block_cost}

-- the most bits of a block: an identifier of five, and its samples as they are
abbrev pub block_most : Settings → ℕ
block_most s = 5 + s.block_size * s.bits

-- ---- one block

id_len-most : (s : Settings) → id_len s ≤ 5
id_len-most s = cond_both s.restricted (if nat_le s.bits 2 then 1 else 2) (if nat_le s.bits 8 then 3 else (if nat_le s.bits 16 then 4 else 5)) (λ n. n ≤ 5)
    (λ _. cond_both (nat_le s.bits 2) 1 2 (λ n. n ≤ 5) (λ _. omega arith) (λ _. omega arith))
    (λ _. cond_both (nat_le s.bits 8) 3 (if nat_le s.bits 16 then 4 else 5) (λ n. n ≤ 5) (λ _. omega arith)
    (λ _. cond_both (nat_le s.bits 16) 4 5 (λ n. n ≤ 5) (λ _. omega arith) (λ _. omega arith)))

reference-most : (s : Settings) (reference : Option ℕ) → length (reference_bits s reference) ≤ s.bits
reference-most s None = omega arith
reference-most s (Some r) = omega (arith, length-binary s.bits r)

length-binaries : (w : ℕ) (values : List ℕ) → length (flat_map (binary w) values) ≡ length values * w
length-binaries w [] = omega arith
length-binaries w (v ∷ values) = omega (arith, length-append (binary w v) (flat_map (binary w) values), length-binary w v, length-binaries w values)

-- the reference sample and the values after it, or all values, have n bits for each value
length-written : (s : Settings) (reference : Option ℕ) (values : List ℕ) → 0 < length values
    → length (reference_bits s reference ++ flat_map (binary s.bits) (after_reference reference values)) ≡ length values * s.bits
length-written s None values some = length-binaries s.bits values
length-written s (Some r) [] some = absurd (omega arith)
length-written s (Some r) (v ∷ values) some =
    omega (arith, length-append (binary s.bits r) (flat_map (binary s.bits) values), length-binary s.bits r, length-binaries s.bits values)

best_of-first : {X : Type 0} (f : X → ℕ) (a : X) (xs : List X) → f (best_of (λ x b. nat_lt (f x) (f b)) a xs) ≤ f a
best_of-first f a [] = omega arith
best_of-first f a (x ∷ xs) =
    let next = cond (nat_lt (f x) (f a)) x a in
    let below : f next ≤ f a = cond_both (nat_lt (f x) (f a)) x a (λ n. f n ≤ f a)
    (λ t. let less = ltb-true (f x) (f a) t in omega arith) (λ _. omega arith) in
    omega (arith, best_of-first f next xs)

single-most : (s : Settings) (b : Block) → IsAllowed s → length b.values ≡ s.block_size → length (cds_bits s (shortest_spelling s b)) ≤ block_most s
single-most s b allowed full =
    omega (
      arith,
      best_of-first (λ c. length (cds_bits s c)) (uncompressed b) (compressed_spellings s b),
      length-append (binary (id_len s) (2 ^ id_len s - 1)) (reference_bits s b.reference ++ flat_map (binary s.bits) (after_reference b.reference b.values)),
      length-binary (id_len s) (2 ^ id_len s - 1),
      length-written s b.reference b.values (omega (arith, full, block_size-positive s allowed)),
      ap (λ n. n * s.bits) full,
      id_len-most s,
    )

-- ---- the blocks of a segment

run_code-next : (z : ℕ) (t : Bool) → run_code (z + 1) t ≤ run_code z t + 2
run_code-next z t = grind (arith, nat_tests)

-- n + 2 is at most J * n: the code of a run of one, and one more block in a run, fit `block_most`
run-most : (s : Settings) → IsAllowed s → s.bits + 2 ≤ s.block_size * s.bits
run-most s allowed = omega (arith, mul-le-mul_right {m = 8} {n = s.block_size} s.bits (block_size-least s allowed), at_least_one_bit s allowed)

zero_block-most : (s : Settings) (reference : Option ℕ) (groups : List Group) → IsAllowed s
    → group_cost s (with_zero_block reference groups) ≤ block_most s + group_cost s groups
zero_block-most s reference [] allowed =
    omega (
      arith,
      length-append (cds_bits s (record { reference = reference; body = zero_blocks (run_code 1 true) })) [],
      length-run s reference (run_code 1 true),
      reference-most s reference,
      id_len-most s,
      run-most s allowed,
    )
zero_block-most s reference (single_block b ∷ groups) allowed =
    omega (
      arith,
      length-append (cds_bits s (record { reference = reference; body = zero_blocks (run_code 1 false) }))
          (flat_map (cds_bits s) (group_sets s (single_block b ∷ groups))),
      length-run s reference (run_code 1 false),
      reference-most s reference,
      id_len-most s,
      run-most s allowed,
    )
zero_block-most s reference (zero_run later z ∷ groups) allowed =
    let t = is_empty groups in
    let more = flat_map (cds_bits s) (group_sets s groups) in
    omega (
      arith,
      length-append (cds_bits s (record { reference = reference; body = zero_blocks (run_code (z + 1) t) })) more,
      length-append (cds_bits s (record { reference = later; body = zero_blocks (run_code z t) })) more,
      length-run s reference (run_code (z + 1) t),
      length-run s later (run_code z t),
      run_code-next z t,
      reference-most s reference,
      run-most s allowed,
    )

-- blocks of J values each
abbrev AreFull : Settings → List Block → Type 0
AreFull s blocks = AllByRecursion (λ b. length b.values ≡ s.block_size) blocks

segment-most : (s : Settings) (blocks : List Block) → IsAllowed s → AreFull s blocks → group_cost s (groups_of blocks) ≤ length blocks * block_most s
segment-most s [] allowed full = omega arith
segment-most s (b ∷ blocks) allowed full =
    let later = segment-most s blocks allowed full.1 in
    let rest = group_sets s (groups_of blocks) in
    cond_both (is_zero_block b) (with_zero_block b.reference (groups_of blocks)) (single_block b ∷ groups_of blocks)
    (λ groups. group_cost s groups ≤ length (b ∷ blocks) * block_most s)
    (λ _. omega (arith, zero_block-most s b.reference (groups_of blocks) allowed))
    (λ _. omega (arith, length-append (cds_bits s (shortest_spelling s b)) (flat_map (cds_bits s) rest), single-most s b allowed full.0))

-- ---- an interval

segments-most : (s : Settings) (blocks : List Block) → IsAllowed s → AreFull s blocks → block_cost s blocks ≤ length blocks * block_most s
segments-most s blocks allowed =
    by_pieces (λ blocks. AreFull s blocks → block_cost s blocks ≤ length blocks * block_most s) 64 (omega arith)
    (λ _. omega (arith, ap (λ sets. length (flat_map (cds_bits s) sets)) (block_sets-nil s)))
    (λ front rest piece ih full.
    let first = segment-most s front allowed (all_left (λ b. length b.values ≡ s.block_size) front rest full) in
    let later = ih (all_right (λ b. length b.values ≡ s.block_size) front rest full) in
    let sets = group_sets s (groups_of front) in
    omega (
      arith,
      ap (λ sets. length (flat_map (cds_bits s) sets)) (block_sets-cons s front rest piece),
      ap length (flat_map-append (cds_bits s) sets (block_sets s rest)),
      length-append (flat_map (cds_bits s) sets) (flat_map (cds_bits s) (block_sets s rest)),
      ap (λ n. n * block_most s) (length-append front rest),
    )) blocks

AreFull-with_reference : (s : Settings) (reference : Option ℕ) (groups : List (List ℕ)) → AllByRecursion (λ values. length values ≡ s.block_size) groups
    → AreFull s (with_reference reference groups)
AreFull-with_reference s reference [] full = tt
AreFull-with_reference s reference (values ∷ groups) full = (full.0, others groups full.1)
  where
    others : (groups : List (List ℕ)) → AllByRecursion (λ values. length values ≡ s.block_size) groups
        → AreFull s (map (λ values. record { reference = None; values = values }) groups)
    others [] full = tt
    others (values ∷ groups) full = (full.0, others groups full.1)

AreFull-blocks_of : (s : Settings) (v : List ℤ) → IsAllowed s → AreFull s (blocks_of s v)
AreFull-blocks_of s v allowed =
    let positive = block_size-positive s allowed in
    let values = mapped_values s (filled_samples s v) in
    AreFull-with_reference s (reference_of s v) (pieces_of s.block_size values)
    (whole_pieces s.block_size positive values (div_ceil (length v) s.block_size)
    (length-mapped_values s (filled_samples s v) ∙ length-filled_samples s v positive))

interval-most : (s : Settings) (v : List ℤ) → IsAllowed s → length (interval_bits s v) ≤ div_ceil (length v) s.block_size * block_most s + 8
interval-most s v allowed =
    let plain = unpadded_bits s v in
    let most = segments-most s (blocks_of s v) allowed (AreFull-blocks_of s v allowed) in
    let count = ap (λ n. n * block_most s) (length-blocks_of s v allowed) in
    cond_both s.pad (padded_to_byte plain) plain (λ bits. length bits ≤ div_ceil (length v) s.block_size * block_most s + 8)
    (λ _. omega (arith, length-padded_to_byte plain)) (λ _. omega arith)

-- ---- all samples

-- the most bits of n samples: those of their blocks, and a byte for each interval
abbrev samples_most : Settings → ℕ → ℕ
samples_most s n = div_ceil n s.block_size * block_most s + 8 * div_ceil (div_ceil n s.block_size) s.interval

stream-step : (s : Settings) → IsAllowed s → (front rest : List ℤ) → IsPieceBefore (interval_len s) front rest
    → length (stream_of s rest) ≤ samples_most s (length rest) → length (stream_of s (front ++ rest)) ≤ samples_most s (length (front ++ rest))
stream-step s allowed front rest piece later =
    ⊎_elim whole (λ none. last (nil_from_length rest (omega arith))) (cases_lt 0 (length rest))
  where
    size : 0 < s.block_size
    size = block_size-positive s allowed

    joined : length (stream_of s (front ++ rest)) ≡ length (interval_bits s front) + length (stream_of s rest)
    joined = ap length (stream_of-cons s front rest piece) ∙ length-append (interval_bits s front) (stream_of s rest)

    whole : 0 < length rest → length (stream_of s (front ++ rest)) ≤ samples_most s (length (front ++ rest))
    whole more =
        let full = piece.full more in
        let j = div_ceil (length rest) s.block_size in
        let blocks = div_ceil-interval s front rest allowed full in
        let here = sym (length-blocks_of s front allowed) ∙ length-full_blocks s front allowed full in
        let intervals : div_ceil (s.interval + j) s.interval ≡ suc (div_ceil j s.interval) =
        div_ceil-step (s.interval + j) s.interval (interval-positive s allowed) (omega (arith, interval-positive s allowed))
        ∙ ap (λ n. suc (div_ceil n s.interval)) (omega arith) in
        let counted = ap (λ n. div_ceil n s.interval) blocks ∙ intervals in
        omega (arith, joined, later, interval-most s front allowed, ap (λ n. n * block_most s) here, ap (λ n. n * block_most s) blocks, counted)

    last : rest ≡ [] → length (stream_of s (front ++ rest)) ≤ samples_most s (length (front ++ rest))
    last none =
        let alone = ap (λ rest. front ++ rest) none ∙ append-nil front in
        let nothing = ap (λ rest. length (stream_of s rest)) none ∙ ap length (stream_of-nil s allowed) in
        let few = blocks-few s front allowed piece.fits in
        let some = div_ceil-positive (length front) s.block_size size piece.some in
        let one = div_ceil-one (div_ceil (length front) s.block_size) s.interval some (omega (arith, length-blocks_of s front allowed)) in
        subst (λ n. length (stream_of s (front ++ rest)) ≤ samples_most s n) (sym (ap length alone))
        (omega (arith, joined, nothing, interval-most s front allowed, one))

pub stream-most : (s : Settings) (samples : List ℤ) → IsAllowed s → length (stream_of s samples) ≤ samples_most s (length samples)
stream-most s samples allowed =
    by_pieces (λ samples. length (stream_of s samples) ≤ samples_most s (length samples)) (interval_len s) (interval_len-positive s allowed)
    (omega (arith, ap length (stream_of-nil s allowed))) (stream-step s allowed) samples
