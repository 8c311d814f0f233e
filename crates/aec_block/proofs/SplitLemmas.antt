-- Split values: their high parts by fundamental sequences, then their low bits.
use Rattle.std.proofs.Common.{◌≡◌, ℕ, zero, suc, ◌/◌, ◌%◌, ◌^◌, ◌<◌, Bool, List, [], ◌∷◌, ◌++◌, length, map, refl, sym, ap, ◌∙◌, append_assoc, arith}
use Rattle.std.specs.List.{AllByRecursion, flat_map}
use Rattle.std.proofs.lemmas.Nat.{pow_pos, shr_split, shr_high, mod_low, mod_below}
use Rattle.aec_params.specs.Codewords.{fs, binary}
use Rattle.aec_block.specs.ReadAt.{taken, fs_at, binary_at, values_at, joined_values, lows_at, split_at}
use Rattle.aec_block.proofs.CodewordLemmas.{then_at-passed, map_taken-mapped, fs_reader, binary_reader, values_at-reads, values_at-spelled, all_numbers}

-- the high parts and the low bits of values
abbrev pub high_parts : ℕ → List ℕ → List ℕ
high_parts k values = map (λ v. v / 2 ^ k) values

abbrev pub low_parts : ℕ → List ℕ → List ℕ
low_parts k values = map (λ v. v % 2 ^ k) values

abbrev pub high_bits : ℕ → List ℕ → List Bool
high_bits k values = flat_map (λ v. fs (v / 2 ^ k)) values

abbrev pub low_bits : ℕ → List ℕ → List Bool
low_bits k values = flat_map (λ v. binary k (v % 2 ^ k)) values

high_bits-parts : (k : ℕ) (values : List ℕ) → high_bits k values ≡ flat_map fs (high_parts k values)
high_bits-parts k [] = refl
high_bits-parts k (v ∷ values) = ap (λ l. fs (v / 2 ^ k) ++ l) (high_bits-parts k values)

low_bits-parts : (k : ℕ) (values : List ℕ) → low_bits k values ≡ flat_map (binary k) (low_parts k values)
low_bits-parts k [] = refl
low_bits-parts k (v ∷ values) = ap (λ l. binary k (v % 2 ^ k) ++ l) (low_bits-parts k values)

length-high_parts : (k : ℕ) (values : List ℕ) → length (high_parts k values) ≡ length values
length-high_parts k [] = refl
length-high_parts k (v ∷ values) = ap (λ n. suc n) (length-high_parts k values)

length-low_parts : (k : ℕ) (values : List ℕ) → length (low_parts k values) ≡ length values
length-low_parts k [] = refl
length-low_parts k (v ∷ values) = ap (λ n. suc n) (length-low_parts k values)

all_low : (k : ℕ) (values : List ℕ) → AllByRecursion (λ v. v < 2 ^ k) (low_parts k values)
all_low k [] = tt
all_low k (v ∷ values) = (mod_below v (2 ^ k) (pow_pos k), all_low k values)

joined_values-parts : (k : ℕ) (values : List ℕ) → joined_values k (high_parts k values) (low_parts k values) ≡ values
joined_values-parts k [] = refl
joined_values-parts k (v ∷ values) = rw (shr_split v k, joined_values-parts k values) refl

pub split_at-bits : (k : ℕ) (values : List ℕ) (rest : List Bool)
    → split_at k (length values) (high_bits k values ++ low_bits k values ++ rest) ≡ taken values rest
split_at-bits k values rest =
    let highs = values_at-reads fs (λ v. Unit {0}) fs_at fs_reader (high_parts k values) (low_bits k values ++ rest) (all_numbers (high_parts k values)) in
    let lows = values_at-reads (binary k) (λ v. v < 2 ^ k) (binary_at k) (binary_reader k) (low_parts k values) rest (all_low k values) in
    let highs_read : values_at fs_at (length values) (high_bits k values ++ (low_bits k values ++ rest))
    ≡ taken (high_parts k values) (low_bits k values ++ rest) =
    rw (high_bits-parts k values) (rw (length-high_parts k values) at highs) in
    let lows_read : values_at (binary_at k) (length values) (low_bits k values ++ rest) ≡ taken (low_parts k values) rest =
    rw (low_bits-parts k values) (rw (length-low_parts k values) at lows) in
    ap (split_at k (length values)) (append_assoc (high_bits k values) (low_bits k values) rest)
    ∙ rw (highs_read, lows_read, joined_values-parts k values) refl

-- ---- back: the parts of joined values

length-joined_values : (k n : ℕ) (highs lows : List ℕ) → length highs ≡ n → length lows ≡ n → length (joined_values k highs lows) ≡ n
length-joined_values k n [] lows p q = p
length-joined_values k n (high ∷ highs) [] p q = absurd (omega arith)
length-joined_values k zero (high ∷ highs) (low ∷ lows) p q = absurd (omega arith)
length-joined_values k (suc n) (high ∷ highs) (low ∷ lows) p q =
    ap (λ i. suc i) (length-joined_values k n highs lows (omega arith) (omega arith))

high_bits-joined : (k : ℕ) (highs lows : List ℕ) → length highs ≡ length lows → AllByRecursion (λ v. v < 2 ^ k) lows
    → high_bits k (joined_values k highs lows) ≡ flat_map fs highs
high_bits-joined k [] lows same small = refl
high_bits-joined k (high ∷ highs) [] same small = absurd (omega arith)
high_bits-joined k (high ∷ highs) (low ∷ lows) same small =
    rw (shr_high high k low small.0, high_bits-joined k highs lows (omega arith) small.1) refl

low_bits-joined : (k : ℕ) (highs lows : List ℕ) → length highs ≡ length lows → AllByRecursion (λ v. v < 2 ^ k) lows
    → low_bits k (joined_values k highs lows) ≡ flat_map (binary k) lows
low_bits-joined k [] [] same small = refl
low_bits-joined k [] (low ∷ lows) same small = absurd (omega arith)
low_bits-joined k (high ∷ highs) [] same small = absurd (omega arith)
low_bits-joined k (high ∷ highs) (low ∷ lows) same small =
    rw (mod_low high k low small.0, low_bits-joined k highs lows (omega arith) small.1) refl

-- what a reading of n values, split at bit k, has taken
pub record SpelledSplit (k n : ℕ) (bits : List Bool) (values : List ℕ) (rest : List Bool) : Type 0 where
  pub count : length values ≡ n
  pub spelled : bits ≡ high_bits k values ++ low_bits k values ++ rest

pub split_at-spelled : (k n : ℕ) (bits : List Bool) (values : List ℕ) (rest : List Bool)
    → split_at k n bits ≡ taken values rest → SpelledSplit k n bits values rest
split_at-spelled k n bits values rest e =
    let p = then_at-passed (values_at fs_at n bits) (lows_at k n) values rest e in
    let m = map_taken-mapped (joined_values k p.value) (values_at (binary_at k) n p.behind) values rest p.after in
    let highs = values_at-spelled fs (λ v. Unit {0}) fs_at fs_reader n bits p.value p.behind p.before in
    let lows = values_at-spelled (binary k) (λ v. v < 2 ^ k) (binary_at k) (binary_reader k) n p.behind m.value rest m.before in
    let same : length p.value ≡ length m.value = omega (arith, highs.count, lows.count) in
    let high = high_bits-joined k p.value m.value same lows.all in
    let low = low_bits-joined k p.value m.value same lows.all in
    rw (← m.after) (record {
      count = length-joined_values k n p.value m.value highs.count lows.count;
      spelled = highs.spelled ∙ (ap (λ l. flat_map fs p.value ++ l) lows.spelled
          ∙ (rw (high, low) (sym (append_assoc (flat_map fs p.value) (flat_map (binary k) m.value) rest))));
    })
