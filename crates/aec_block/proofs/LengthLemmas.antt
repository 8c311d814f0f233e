-- The lengths of spellings are the sums that code computes.
use Rattle.std.proofs.Common.{◌≡◌, ℕ, suc, ◌+◌, ◌-◌, ◌*◌, ◌/◌, ◌%◌, ◌^◌, ◌<◌, ◌≤◌, refl, ap, ◌∙◌, arith, Option, Some, None, List, [], ◌∷◌, length, length-append, length-drop, drop-cons, drop, get_or}
use Rattle.std.specs.List.{flat_map}
use Rattle.std.proofs.lemmas.List.{length-replicate}
use Rattle.std.proofs.lemmas.List.Sums.{sum_by-cons}
use Rattle.std.proofs.lemmas.Nat.{mul-le}
use Rattle.aec_params.specs.declared.settings.Settings.{Settings}
use Rattle.aec_params.specs.Params.{id_len}
use Rattle.aec_params.specs.Codewords.{fs, binary}
use Rattle.aec_params.specs.Blocks.{Block}
use Rattle.aec_params.specs.CodedDataSets.{pair_number, pair_bits, reference_bits, cds_bits}
use Rattle.aec_params.specs.Spellings.{written_values, uncompressed, paired, split}
use Rattle.aec_params.proofs.CodewordLaws.{length-binary}
use Rattle.aec_block.specs.Lengths.{reference_len, head_length, sum_of_shifted, pairs_length, uncompressed_length, paired_length, split_length}

pub length-reference_bits : (s : Settings) (reference : Option ℕ) → length (reference_bits s reference) ≡ reference_len s reference
length-reference_bits s None = refl
length-reference_bits s (Some r) = length-binary s.bits r

-- the length of codewords of one width
length-binaries : (w : ℕ) (values : List ℕ) → length (flat_map (binary w) values) ≡ length values * w
length-binaries w [] = omega arith
length-binaries w (v ∷ values) =
    let rest = length-binaries w values in
    let here = length-binary w v in
    simp length-append (omega arith)

-- the lengths of the high parts and of the low parts of split values
pub length-high_parts : (k : ℕ) (values : List ℕ) → length (flat_map (λ v. fs (v / 2 ^ k)) values) ≡ sum_of_shifted k values + length values
length-high_parts k [] = refl
length-high_parts k (v ∷ values) =
    let rest = length-high_parts k values in
    let added = sum_by-cons (λ (u : ℕ). u / 2 ^ k) v values in
    simp (length-append, length-replicate) (omega arith)

pub length-low_parts : (k : ℕ) (values : List ℕ) → length (flat_map (λ v. binary k (v % 2 ^ k)) values) ≡ length values * k
length-low_parts k [] = omega arith
length-low_parts k (v ∷ values) =
    let rest = length-low_parts k values in
    let here = length-binary k (v % 2 ^ k) in
    simp length-append (omega arith)

pub length-pair_bits : (values : List ℕ) → length (pair_bits values) ≡ pairs_length values
length-pair_bits [] = refl
length-pair_bits (a ∷ []) = refl
length-pair_bits (a ∷ (b ∷ values)) =
    let rest = length-pair_bits values in
    simp (length-append, length-replicate) (omega arith)

pub length-uncompressed : (s : Settings) (b : Block) → length (cds_bits s (uncompressed b)) ≡ uncompressed_length s b
length-uncompressed s b =
    let head = length-binary (id_len s) (2 ^ id_len s - 1) in
    let reference = length-reference_bits s b.reference in
    let body = length-binaries s.bits (written_values b) in
    simp length-append (omega arith)

pub length-paired : (s : Settings) (b : Block) → length (cds_bits s (paired b)) ≡ paired_length s b
length-paired s b =
    let head = length-binary (id_len s + 1) 1 in
    let reference = length-reference_bits s b.reference in
    let body = length-pair_bits b.values in
    simp length-append (omega arith)

pub length-split : (s : Settings) (b : Block) (k : ℕ) → length (cds_bits s (split b k)) ≡ split_length s b k
length-split s b k =
    let head = length-binary (id_len s) (k + 1) in
    let reference = length-reference_bits s b.reference in
    let high = length-high_parts k (written_values b) in
    let low = length-low_parts k (written_values b) in
    simp length-append (omega arith)

-- a split spelling without its head and the low parts has the length of the high parts
pub record IsHighRest (s : Settings) (b : Block) (k bits head low : ℕ) : Type 0 where
  pub head_within : head ≤ bits
  pub low_within : low ≤ bits - head
  pub rest : bits - head - low ≡ length (flat_map (λ v. fs (v / 2 ^ k)) (written_values b))

pub high_rest : (s : Settings) (b : Block) (k bits head low : ℕ) → bits ≡ length (cds_bits s (split b k)) → head ≡ head_length s b.reference
    → low ≡ length (written_values b) * k → IsHighRest s b k bits head low
high_rest s b k bits head low is_bits is_head is_low =
    let whole = is_bits ∙ length-split s b k in
    let high = length-high_parts k (written_values b) in
    record { head_within = omega arith; low_within = omega arith; rest = omega arith }

-- the pairs from value i on: the next pair, and those from value k on
pub pairs_length-drop : (values : List ℕ) (i j k : ℕ) → j ≡ i + 1 → k ≡ i + 2 → j < length values
    → pairs_length (drop i values) ≡ pair_number (get_or values i 0) (get_or values j 0) + 1 + pairs_length (drop k values)
pairs_length-drop values i j k next after within =
    let here : i < length values = omega arith in
    let there : suc i < length values = omega arith in
    let first = drop-cons values i 0 here in
    let second = drop-cons values (suc i) 0 there in
    let at_j : j ≡ suc i = omega arith in
    let at_k : k ≡ suc (suc i) = omega arith in
    rw (at_j, at_k) (ap pairs_length first ∙ ap (λ (rest : List ℕ). pairs_length (get_or values i 0 ∷ rest)) second)

pairs_length-short : (values : List ℕ) → length values ≤ 1 → pairs_length values ≡ 0
pairs_length-short [] few = refl
pairs_length-short (a ∷ []) few = refl
pairs_length-short (a ∷ (b ∷ values)) few = absurd (omega arith)

pub pairs_length-drop_end : (values : List ℕ) (i : ℕ) → length values ≤ i + 1 → pairs_length (drop i values) ≡ 0
pairs_length-drop_end values i few = pairs_length-short (drop i values) (omega (arith, length-drop i values))

pub ruleset pair_steps = (pairs_length-drop, pairs_length-drop_end)

-- a pair with a sum of 2^16 or more has a number of 2^31 or more
pub pair_number-great : (a b : ℕ) → 2 ^ 16 ≤ a + b → 2 ^ 31 ≤ pair_number a b
pair_number-great a b great = halved ((a + b) * (a + b + 1)) (mul-le (2 ^ 16) (2 ^ 16) (a + b) (a + b + 1) great (omega arith))
  where
    halved : (n : ℕ) → 2 ^ 16 * 2 ^ 16 ≤ n → 2 ^ 31 ≤ n / 2 + b
    halved n h = omega arith

-- for a pair with a sum below 2^16, the product in the pair number is at most 2^32
pub pair_product-small : (a b : ℕ) → a + b < 2 ^ 16 → (a + b) * (a + b + 1) ≤ 2 ^ 16 * 2 ^ 16
pair_product-small a b small = mul-le (a + b) (a + b + 1) (2 ^ 16) (2 ^ 16) (omega arith) (omega arith)

pub ruleset great_pairs = (pair_number-great, pair_product-small)
