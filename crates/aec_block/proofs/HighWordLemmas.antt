-- Codewords of values without their low bits, joined to one number.
use Rattle.std.proofs.Common.{◌≡◌, ℕ, ◌+◌, ◌-◌, ◌*◌, ◌/◌, ◌%◌, ◌^◌, ◌<◌, ◌≤◌, ◌∷◌, ◌++◌, [], ap, ◌∙◌, sym, subst, arith, Bool, List, length, map, take, drop, get_or, append_assoc, append-nil, length-append}
use Rattle.std.proofs.lemmas.List.{take_more, take-append-drop, take_rest, drop-drop, get_or-map}
use Rattle.std.proofs.lemmas.Nat.{shl_whole, pow-add}
use Rattle.std.proofs.Math.Nat.{mul_assoc}
use Rattle.std.proofs.Math.Seq.{take-add}
use Rattle.std.proofs.lemmas.Grind.{flat_map-append}
use Rattle.aec_params.specs.Codewords.{fs, binary}
use Rattle.aec_bits.proofs.BitBufLemmas.{binary-one}
use Rattle.aec_params.proofs.CodewordLaws.{length-fs}
use Rattle.aec_block.specs.HighWords.{GoesOn}
use Rattle.aec_block.specs.Written.{high_parts, Spells}
use Rattle.aec_block.proofs.GatheredLemmas.{IsJoined, is_joined_number, one_below}

-- ---- codewords of values in parts

high_parts-append : (k : ℕ) (first second : List ℕ) → high_parts k (first ++ second) ≡ high_parts k first ++ high_parts k second
high_parts-append k first second = flat_map-append (λ (v : ℕ). fs (v / 2 ^ k)) first second

length-high_parts_append : (k : ℕ) (first second : List ℕ)
    → length (high_parts k (first ++ second)) ≡ length (high_parts k first) + length (high_parts k second)
length-high_parts_append k first second =
    ap (length {A = Bool}) (high_parts-append k first second) ∙ length-append (high_parts k first) (high_parts k second)

-- the codewords of one more value
high_parts-more : (k i : ℕ) (values : List ℕ) → i < length values
    → high_parts k (take (i + 1) values) ≡ high_parts k (take i values) ++ fs (get_or values i 0 / 2 ^ k)
high_parts-more k i values within =
    ap (high_parts k) (take_more values i 0 within)
    ∙ high_parts-append k (take i values) (get_or values i 0 ∷ [])
    ∙ ap (λ (bits : List Bool). high_parts k (take i values) ++ bits) (append-nil (fs (get_or values i 0 / 2 ^ k)))

length-high_parts_more : (k i : ℕ) (values : List ℕ) → i < length values
    → length (high_parts k (take (i + 1) values)) ≡ length (high_parts k (take i values)) + (get_or values i 0 / 2 ^ k + 1)
length-high_parts_more k i values within =
    ap (length {A = Bool}) (high_parts-more k i values within)
    ∙ length-append (high_parts k (take i values)) (fs (get_or values i 0 / 2 ^ k))
    ∙ ap (λ n. length (high_parts k (take i values)) + n) (length-fs (get_or values i 0 / 2 ^ k))

-- the codewords of the first i values, or of the others, are at most as long as all codewords
high_parts-take : (k i : ℕ) (values : List ℕ) → length (high_parts k (take i values)) ≤ length (high_parts k values)
high_parts-take k i values =
    omega (arith, ap (λ (vs : List ℕ). length (high_parts k vs)) (take-append-drop i values), length-high_parts_append k (take i values) (drop i values))

-- if all codewords together have fewer than 64 bits, each high part is below 64
pub high-below : (k i : ℕ) (values : List ℕ) → i < length values → length (high_parts k values) < 64 → get_or values i 0 / 2 ^ k < 64
high-below k i values within few = omega (arith, length-high_parts_more k i values within, high_parts-take k (i + 1) values)

-- lane i has value i without its k low bits
pub lane-shifted : (k i high d : ℕ) (values highs : List ℕ) → highs ≡ map (λ v. v / 2 ^ k) values → i < length values → high ≡ get_or highs i d
    → high ≡ get_or values i 0 / 2 ^ k
lane-shifted k i high d values highs are within read =
    read ∙ ap (λ (vs : List ℕ). get_or vs i d) are ∙ get_or-map (λ (v : ℕ). v / 2 ^ k) values i 0 d within

-- ---- one more value

-- a shift in two steps
two_steps : (high used word : ℕ) → used + (high + 1) ≤ 64 → word < 2 ^ used
    → word * 2 ^ high % 2 ^ 64 * 2 % 2 ^ 64 + 1 ≡ word * 2 ^ (high + 1) % 2 ^ 64 + 1
two_steps high used word within low =
    let first : word * 2 ^ high % 2 ^ 64 ≡ word * 2 ^ high = shl_whole word used high 64 low (omega arith) in
    let grown : 2 ^ (high + 1) ≡ 2 ^ high * 2 = omega (arith, pow-add 2 high 1) in
    let both : word * 2 ^ high * 2 ≡ word * 2 ^ (high + 1) = mul_assoc word (2 ^ high) 2 ∙ ap (λ n. word * n) (sym grown) in
    ap (λ n. n * 2 % 2 ^ 64 + 1) first ∙ ap (λ n. n % 2 ^ 64 + 1) both

pub goes_on-more : (k used start i : ℕ) (values : List ℕ) (word : ℕ) → i < length values → used + length (high_parts k values) ≤ 64
    → GoesOn k used start (take i values) word
    → GoesOn k used start (take (i + 1) values) (word * 2 ^ (get_or values i 0 / 2 ^ k) % 2 ^ 64 * 2 % 2 ^ 64 + 1)
goes_on-more k used start i values word within few so_far =
    subst (GoesOn k used start (take (i + 1) values)) (sym (two_steps high here word place so_far.below))
    (record {
      below = subst (λ n. next < 2 ^ n) (sym total) joined.below;
      bits = ap (λ n. binary n next) total ∙ joined.bits ∙ ap (λ (bits : List Bool). bits ++ binary (high + 1) 1) so_far.bits
          ∙ ap (λ (bits : List Bool). (binary used start ++ done) ++ bits) (binary-one high) ∙ append_assoc (binary used start) done (fs high)
          ∙ ap (λ (bits : List Bool). binary used start ++ bits) (sym (high_parts-more k i values within));
    })
  where
    high : ℕ
    high = get_or values i 0 / 2 ^ k

    done : List Bool
    done = high_parts k (take i values)

    here : ℕ
    here = used + length done

    next : ℕ
    next = word * 2 ^ (high + 1) % 2 ^ 64 + 1

    total : used + length (high_parts k (take (i + 1) values)) ≡ here + (high + 1)
    total = omega (arith, length-high_parts_more k i values within)

    place : here + (high + 1) ≤ 64
    place = omega (arith, total, high_parts-take k (i + 1) values)

    joined : IsJoined here (high + 1) word 1
    joined = is_joined_number here (high + 1) word 1 place so_far.below (one_below high)

-- ---- several more values

goes_on-append : (k used start : ℕ) (first second : List ℕ) (word next : ℕ) → GoesOn k used start first word
    → GoesOn k (used + length (high_parts k first)) word second next → GoesOn k used start (first ++ second) next
goes_on-append k used start first second word next so_far later =
    let total : used + length (high_parts k first) + length (high_parts k second) ≡ used + length (high_parts k (first ++ second)) =
    omega (arith, length-high_parts_append k first second) in
    record {
      below = subst (λ n. next < 2 ^ n) total later.below;
      bits = ap (λ n. binary n next) (sym total) ∙ later.bits ∙ ap (λ (bits : List Bool). bits ++ high_parts k second) so_far.bits
          ∙ append_assoc (binary used start) (high_parts k first) (high_parts k second)
          ∙ ap (λ (bits : List Bool). binary used start ++ bits) (sym (high_parts-append k first second));
    }

-- the first 8 * (i + 1) values: the first 8 * i, and eight more
eight_behind : (i : ℕ) (values : List ℕ) → take (8 * (i + 1)) values ≡ take (8 * i) values ++ take (8 * i + 8 - 8 * i) (drop (8 * i) values)
eight_behind i values =
    let more : 8 * (i + 1) ≡ 8 * i + 8 = omega arith in
    let eight : 8 * i + 8 - 8 * i ≡ 8 = omega arith in
    rw (more, eight) (take-add (8 * i) 8 values)

pub few-eight : (k i : ℕ) (values : List ℕ) → length (high_parts k values) < 64
    → length (high_parts k (take (8 * i + 8 - 8 * i) (drop (8 * i) values))) < 64
few-eight k i values few =
    omega (
      arith,
      ap (λ (vs : List ℕ). length (high_parts k vs)) (eight_behind i values),
      length-high_parts_append k (take (8 * i) values) (take (8 * i + 8 - 8 * i) (drop (8 * i) values)),
      high_parts-take k (8 * (i + 1)) values,
    )

pub goes_on-eight : (k i : ℕ) (values : List ℕ) (word next : ℕ) → length (high_parts k values) < 64 → GoesOn k 0 0 (take (8 * i) values) word
    → let eight = take (8 * i + 8 - 8 * i) (drop (8 * i) values) in
    ((used : ℕ) → used + length (high_parts k eight) ≤ 64 → word < 2 ^ used → GoesOn k used word eight next)
    → GoesOn k 0 0 (take (8 * (i + 1)) values) next
goes_on-eight k i values word next few so_far later =
    let eight = take (8 * i + 8 - 8 * i) (drop (8 * i) values) in
    let fits : 0 + length (high_parts k (take (8 * i) values)) + length (high_parts k eight) ≤ 64 = omega (
      arith,
      ap (λ (vs : List ℕ). length (high_parts k vs)) (eight_behind i values),
      length-high_parts_append k (take (8 * i) values) eight,
      high_parts-take k (8 * (i + 1)) values,
    ) in
    subst (λ (vs : List ℕ). GoesOn k 0 0 vs next) (sym (eight_behind i values))
    (goes_on-append k 0 0 (take (8 * i) values) eight word next so_far (later (0 + length (high_parts k (take (8 * i) values))) fits so_far.below))

-- all values: the first w, and the others
rest_behind : (w : ℕ) (values : List ℕ) → take w values ++ take (length values - w) (drop w values) ≡ values
rest_behind w values = rw (take_rest values w) (take-append-drop w values)

pub few-rest : (k w : ℕ) (values : List ℕ) → length (high_parts k values) < 64
    → length (high_parts k (take (length values - w) (drop w values))) < 64
few-rest k w values few =
    omega (
      arith,
      ap (λ (vs : List ℕ). length (high_parts k vs)) (rest_behind w values),
      length-high_parts_append k (take w values) (take (length values - w) (drop w values)),
    )

-- the codewords of the first `front` values, continued by the others, are those of all values
pub is_high_word : (k w front : ℕ) (values : List ℕ) (word next : ℕ) → front ≡ w → length (high_parts k values) < 64
    → GoesOn k 0 0 (take front values) word
    → let rest = take (length values - w) (drop w values) in
    ((used : ℕ) → used + length (high_parts k rest) ≤ 64 → word < 2 ^ used → GoesOn k used word rest next)
    → Spells (length (high_parts k values)) (high_parts k values) next
is_high_word k w front values word next is few begun later =
    let so_far : GoesOn k 0 0 (take w values) word = subst (λ n. GoesOn k 0 0 (take n values) word) is begun in
    let rest = take (length values - w) (drop w values) in
    let fits : 0 + length (high_parts k (take w values)) + length (high_parts k rest) ≤ 64 = omega (
      arith,
      ap (λ (vs : List ℕ). length (high_parts k vs)) (rest_behind w values),
      length-high_parts_append k (take w values) rest,
    ) in
    let all : GoesOn k 0 0 values next = subst (λ (vs : List ℕ). GoesOn k 0 0 vs next) (rest_behind w values)
    (goes_on-append k 0 0 (take w values) rest word next so_far (later (0 + length (high_parts k (take w values))) fits so_far.below)) in
    let same : 0 + length (high_parts k values) ≡ length (high_parts k values) = omega arith in
    record { below = subst (λ n. next < 2 ^ n) same all.below; bits = ap (λ n. binary n next) (sym same) ∙ all.bits }

-- ---- groups of values that are gathered

-- the codewords from a value on: those of a group of values, and those of the rest
pub high_parts-group : (k count taken at next : ℕ) (values : List ℕ) → taken ≡ count → next ≡ at + count
    → high_parts k (drop at values) ≡ high_parts k (take taken (drop at values)) ++ high_parts k (drop next values)
high_parts-group k count taken at next values same after =
    let here = drop at values in
    let behind : drop count here ≡ drop next values = drop-drop count at values ∙ ap (λ m. drop m values) (omega arith) in
    rw same (ap (high_parts k) (sym (take-append-drop count here)) ∙ high_parts-append k (take count here) (drop count here)
    ∙ ap (λ (rest : List ℕ). high_parts k (take count here) ++ high_parts k rest) behind)
