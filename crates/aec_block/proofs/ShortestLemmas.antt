-- The shortest spelling of a block is no longer than any coded data set that stands for the block
-- by a single option.
use Rattle.std.proofs.Common.{◌≡◌, ℕ, zero, suc, ◌+◌, ◌*◌, ◌/◌, ◌<◌, ◌≤◌, Bool, cond, Option, Some, None, List, [], ◌∷◌, ◌++◌, length, map, refl, ap, subst, arith, ⊎_elim}
use Rattle.std.specs.Prelude.{nat_lt, unwrap_or}
use Rattle.std.specs.List.{AllByRecursion, range_with_len, best_of}
use Rattle.std.proofs.lemmas.List.{length-append}
use Rattle.std.proofs.lemmas.Bool.{cases_lt, cond_both, ltb-true, ltb-false}
use Rattle.std.proofs.lemmas.Nat.{mul-le}
use Rattle.aec_params.specs.declared.settings.Settings.{Settings}
use Rattle.aec_params.specs.Params.{IsAllowed, id_len, split_count}
use Rattle.aec_params.specs.Codewords.{fs, binary}
use Rattle.aec_params.specs.Blocks.{Block}
use Rattle.aec_params.specs.CodedDataSets.{Body, uncompressed_values, value_pairs, split_values, zero_blocks, pair_number, pair_bits, reference_bits, cds_bits, HasBody}
use Rattle.aec_params.specs.Places.{placed_values, placed_members}
use Rattle.aec_params.specs.Spellings.{after_reference, uncompressed, split, compressed_spellings, shortest_spelling}
use Rattle.aec_params.proofs.CodewordLaws.{length-fs}
use Rattle.aec_params.proofs.SettingLaws.{block_size-least}
use Rattle.aec_block.specs.Laws.{single_block_of, NoOptionIsShorter}

-- ---- the first of the least

record IsLeast {X : Type 0} (f : X → ℕ) (best a : X) (xs : List X) : Type 0 where
  first : f best ≤ f a
  others : AllByRecursion (λ x. f best ≤ f x) xs

best_of-least : {X : Type 0} (f : X → ℕ) (a : X) (xs : List X) → IsLeast f (best_of (λ x b. nat_lt (f x) (f b)) a xs) a xs
best_of-least f a [] = record { first = omega arith; others = tt }
best_of-least f a (x ∷ xs) =
    let next = cond (nat_lt (f x) (f a)) x a in
    let rest = best_of-least f next xs in
    let below : (f next ≤ f a) × (f next ≤ f x) = cond_both (nat_lt (f x) (f a)) x a (λ n. (f n ≤ f a) × (f n ≤ f x))
    (λ t. let l = ltb-true (f x) (f a) t in (omega arith, omega arith)) (λ t. let l = ltb-false (f x) (f a) t in (omega arith, omega arith)) in
    record { first = omega (arith, rest.first); others = (omega (arith, rest.first), rest.others) }

all_range : {X : Type 0} (P : X → Type 0) (f : ℕ → X) (first count k : ℕ) → AllByRecursion P (map f (range_with_len first count)) → first ≤ k
    → k < first + count → P (f k)
all_range P f first zero k h l m = absurd (omega arith)
all_range P f first (suc count) k h l m = ⊎_elim
    (λ e. all_range P f (first + 1) count k h.1 (omega arith) (omega arith))
    (λ e. let same : first ≡ k = omega arith in subst (λ j. P (f j)) same h.0)
    (cases_lt first k)

-- ---- the pairs with 0 in the reference place are no longer

pair_number-least : (a b : ℕ) → pair_number 0 b ≤ pair_number a b
pair_number-least a b = half ((0 + b) * (0 + b + 1)) ((a + b) * (a + b + 1)) (mul-le (0 + b) (0 + b + 1) (a + b) (a + b + 1) (omega arith) (omega arith))
  where
    half : (x y : ℕ) → x ≤ y → x / 2 + b ≤ y / 2 + b
    half x y h = omega arith

members-least : (reference : Option ℕ) (members : List ℕ) → 2 ≤ length members
    → length (pair_bits (placed_members reference members)) ≤ length (pair_bits members)
members-least None members h = omega arith
members-least (Some r) [] h = absurd (omega arith)
members-least (Some r) (a ∷ []) h = absurd (omega arith)
members-least (Some r) (a ∷ (b ∷ members)) h =
    omega (
      arith,
      length-append (fs (pair_number 0 b)) (pair_bits members),
      length-append (fs (pair_number a b)) (pair_bits members),
      length-fs (pair_number 0 b),
      length-fs (pair_number a b),
      pair_number-least a b,
    )

-- ---- the shortest spelling against any other

least_of : (s : Settings) (b : Block) → IsLeast (λ c. length (cds_bits s c)) (shortest_spelling s b) (uncompressed b) (compressed_spellings s b)
least_of s b = best_of-least (λ c. length (cds_bits s c)) (uncompressed b) (compressed_spellings s b)

written_again : (reference : Option ℕ) (values : List ℕ) → after_reference reference (placed_values reference values) ≡ values
written_again None values = refl
written_again (Some r) values = refl

pub shortest-uncompressed_values : (s : Settings) (reference : Option ℕ) (values : List ℕ)
    → length (cds_bits s (shortest_spelling s (record { reference = reference; values = placed_values reference values })))
    ≤ length (cds_bits s (record { reference = reference; body = uncompressed_values values }))
shortest-uncompressed_values s reference values =
    let b : Block = record { reference = reference; values = placed_values reference values } in
    subst (λ v. length (cds_bits s (shortest_spelling s b)) ≤ length (cds_bits s (record { reference = reference; body = uncompressed_values v })))
    (written_again reference values) (least_of s b).first

pub shortest-split_values : (s : Settings) (reference : Option ℕ) (k : ℕ) (values : List ℕ) → k < split_count s
    → length (cds_bits s (shortest_spelling s (record { reference = reference; values = placed_values reference values })))
    ≤ length (cds_bits s (record { reference = reference; body = split_values k values }))
shortest-split_values s reference k values h =
    let b : Block = record { reference = reference; values = placed_values reference values } in
    subst (λ v. length (cds_bits s (shortest_spelling s b)) ≤ length (cds_bits s (record { reference = reference; body = split_values k v })))
    (written_again reference values)
    (all_range (λ c. length (cds_bits s (shortest_spelling s b)) ≤ length (cds_bits s c)) (split b) 0 (split_count s) k (least_of s b).others.1
    (omega arith) (omega arith))

pub shortest-value_pairs : (s : Settings) (reference : Option ℕ) (members : List ℕ) → 2 ≤ length members
    → length (cds_bits s (shortest_spelling s (record { reference = reference; values = placed_members reference members })))
    ≤ length (cds_bits s (record { reference = reference; body = value_pairs members }))
shortest-value_pairs s reference members h =
    let b : Block = record { reference = reference; values = placed_members reference members } in
    let head = binary (id_len s + 1) 1 in
    let r = reference_bits s reference in
    omega (
      arith,
      (least_of s b).others.0,
      members-least reference members h,
      length-append head (r ++ pair_bits (placed_members reference members)),
      length-append r (pair_bits (placed_members reference members)),
      length-append head (r ++ pair_bits members),
      length-append r (pair_bits members),
    )

-- ---- any coded data set of one block

shortest_by_body : (s : Settings) (is_reference : Bool) (reference : Option ℕ) (body : Body) (b : Block) → IsAllowed s → HasBody s is_reference body
    → single_block_of reference body ≡ Some b
    → length (cds_bits s (shortest_spelling s b)) ≤ length (cds_bits s (record { reference = reference; body = body }))
shortest_by_body s t reference (uncompressed_values values) b a shape one =
    subst (λ c. length (cds_bits s (shortest_spelling s c)) ≤ length (cds_bits s (record { reference = reference; body = uncompressed_values values })))
    (ap (λ o. unwrap_or o b) one) (shortest-uncompressed_values s reference values)
shortest_by_body s t reference (value_pairs members) b a shape one =
    subst (λ c. length (cds_bits s (shortest_spelling s c)) ≤ length (cds_bits s (record { reference = reference; body = value_pairs members })))
    (ap (λ o. unwrap_or o b) one) (shortest-value_pairs s reference members (omega (arith, shape, block_size-least s a)))
shortest_by_body s t reference (split_values k values) b a shape one =
    subst (λ c. length (cds_bits s (shortest_spelling s c)) ≤ length (cds_bits s (record { reference = reference; body = split_values k values })))
    (ap (λ o. unwrap_or o b) one) (shortest-split_values s reference k values shape.0)
shortest_by_body s t reference (zero_blocks m) b a shape one = absurd (cc)

pub no_option_is_shorter : NoOptionIsShorter
no_option_is_shorter s a t c b shape one = shortest_by_body s t c.reference c.body b a shape.body one
