-- A number appended to a list of bits in words.
use Rattle.std.proofs.Common.{◌≡◌, ℕ, suc, ◌+◌, ◌-◌, ◌*◌, ◌/◌, ◌%◌, ◌^◌, ◌<◌, Bool, false, List, [], ◌∷◌, ◌++◌, length, take, drop, replicate, set, get_or, sym, ap, ◌∙◌, arith, append_assoc, length-append}
use Rattle.std.proofs.lemmas.Nat.{pow_pos, pow-add, shr_split, shr_below, shl_below, mul-add-lt, shl_whole}
use Rattle.std.proofs.Math.Nat.{mul_assoc, add-mul}
use Rattle.std.proofs.lemmas.List.{take-append-drop, length-take-le, append-nil, take_all, drop_all, set_split, length-set}
use Rattle.aec_params.specs.Codewords.{binary, bits_number}
use Rattle.aec_params.proofs.CodewordLaws.{length-binary, bits_number-binary_mod}
use Rattle.aec_bits.proofs.CodewordLaws.{bits_number-zeros}
use Rattle.aec_bits.proofs.OverwriteLemmas.{take-append-add}
use Rattle.aec_bits.specs.Words.{bits_of_words}
use Rattle.aec_bits.specs.WordBits.{word_bits}
use Rattle.aec_bits.specs.Packed.{ArePacked, Keep}
use Rattle.aec_bits.proofs.WordLemmas.{shl_mod, length-bits_of_words, bits_of_words-append, bits_of_words-cons, bits_of_words-take, binary-add, binary-join, binary-mod, word_bits-join, drop-word_bits, take-word_bits, from_word, from_place}
use Rattle.aec_bits.proofs.ZeroLemmas.{binary-zero}
use Rattle.aec_bits.proofs.PackedLemmas.{length-packed, packed}

-- a word with the lowest `over` bits of a number at its top, then zeros
bits_at_the_top : (over k v : ℕ) → over + k ≡ 64 → word_bits (v * 2 ^ k % 2 ^ 64) ≡ binary over v ++ replicate k false
bits_at_the_top over k v whole =
    let low : v * 2 ^ k % 2 ^ 64 ≡ v % 2 ^ over * 2 ^ k + 0 = ap (λ n. v * 2 ^ k % 2 ^ n) (sym whole) ∙ shl_mod over k v ∙ omega arith in
    ap word_bits low ∙ word_bits-join over k (v % 2 ^ over) 0 whole (pow_pos k)
    ∙ ap (λ l. l ++ binary k 0) (binary-mod over v) ∙ ap (λ l. binary over v ++ l) (binary-zero k)

-- the last word of a list that ends within this word: its unused bits are zeros
last_word : (words : List ℕ) (len n used free : ℕ) → ArePacked words len → len ≡ 64 * n + used → used + free ≡ 64 → length words ≡ n + 1
    → (get_or words n 0 % 2 ^ free ≡ 0)
    × (take len (bits_of_words words) ≡ bits_of_words (take n words) ++ binary used (get_or words n 0 / 2 ^ free))
last_word words len n used free held place whole count =
    let w : ℕ = get_or words n 0 in
    let rest : List Bool = bits_of_words (drop (n + 1) words) in
    let none : rest ≡ [] = ap bits_of_words (drop_all (n + 1) words (omega arith)) in
    let over : 64 * length words - len ≡ free = omega arith in
    let low : binary free w ≡ replicate free false =
    sym (append-nil (binary free w)) ∙ ap (λ l. binary free w ++ l) (sym none) ∙ ap (λ l. l ++ rest) (sym (drop-word_bits used free w whole))
    ∙ sym (from_place words n used 0 (omega arith) (omega arith)) ∙ ap (λ k. drop k (bits_of_words words)) (sym place)
    ∙ held.1 ∙ ap (λ k. replicate k false) over in
    let front : length (bits_of_words (take n words)) ≡ 64 * n =
    length-bits_of_words (take n words) ∙ ap (λ k. 64 * k) (length-take-le n words (omega arith)) in
    let split : bits_of_words words ≡ bits_of_words (take n words) ++ word_bits w =
    sym (take-append-drop (64 * n) (bits_of_words words))
    ∙ ap (λ l. l ++ drop (64 * n) (bits_of_words words)) (sym (bits_of_words-take words n (omega arith)))
    ∙ ap (λ l. bits_of_words (take n words) ++ l)
    (from_word words n 0 (omega arith) ∙ ap (λ l. word_bits w ++ l) none ∙ append-nil (word_bits w)) in (
      sym (bits_number-binary_mod free w) ∙ ap bits_number low ∙ bits_number-zeros free,
      ap (λ k. take k (bits_of_words words)) place ∙ ap (take (64 * n + used)) split
          ∙ take-append-add (bits_of_words (take n words)) (word_bits w) (64 * n) used front
          ∙ ap (λ l. bits_of_words (take n words) ++ l) (take-word_bits used free w whole),
    )

-- the bits of words whose last word was replaced
with_last : (words : List ℕ) (n z : ℕ) → length words ≡ n + 1 → bits_of_words (set words n z) ≡ bits_of_words (take n words) ++ word_bits z
with_last words n z count =
    let none : bits_of_words (drop (suc n) words) ≡ [] = ap bits_of_words (drop_all (suc n) words (omega arith)) in
    ap bits_of_words (set_split words n z (omega arith)) ∙ bits_of_words-append (take n words) (z ∷ drop (suc n) words)
    ∙ ap (λ l. bits_of_words (take n words) ++ l)
    (bits_of_words-cons z (drop (suc n) words) ∙ ap (λ l. word_bits z ++ l) none ∙ append-nil (word_bits z))

-- a number without remainder is its quotient times 2 ^ free
no_remainder : (w free : ℕ) → w % 2 ^ free ≡ 0 → w ≡ w / 2 ^ free * 2 ^ free
no_remainder w free none = let e = shr_split w free in omega arith

sum_fits : (words : List ℕ) (len n used free w y : ℕ) → ArePacked words len → len ≡ 64 * n + used → used + free ≡ 64 → length words ≡ n + 1
    → w ≡ get_or words n 0 → w < 2 ^ 64 → y < 2 ^ free → w + y < 2 ^ 64
sum_fits words len n used free w y held place whole count is small low =
    let none : w % 2 ^ free ≡ 0 = rw is (last_word words len n used free held place whole count).0 in
    let turned : free + used ≡ 64 = omega arith in
    let e : 2 ^ 64 ≡ 2 ^ free * 2 ^ used = ap (λ n. 2 ^ n) (sym turned) ∙ pow-add 2 free used in
    let high : w / 2 ^ free < 2 ^ used = shr_below w used free (rw whole small) in
    let bound = mul-add-lt (w / 2 ^ free) (2 ^ free) y (2 ^ used) high low in
    rw (no_remainder w free none, e) bound

pub sum_within : (words : List ℕ) (len n used free width k w value : ℕ) → ArePacked words len → len ≡ 64 * n + used → used + free ≡ 64
    → length words ≡ n + 1 → width + k ≡ free → value < 2 ^ width → w ≡ get_or words n 0 → w < 2 ^ 64 → w + value * 2 ^ k % 2 ^ 64 < 2 ^ 64
sum_within words len n used free width k w value held place whole count parts fits is small =
    let shifted : value * 2 ^ k % 2 ^ 64 ≡ value * 2 ^ k = shl_whole value width k 64 fits (omega arith) in
    let low : value * 2 ^ k < 2 ^ free = rw (← parts) (shl_below value width k fits) in
    rw shifted (sum_fits words len n used free w (value * 2 ^ k) held place whole count is small low)

pub sum_over : (words : List ℕ) (len n used free width over w value : ℕ) → ArePacked words len → len ≡ 64 * n + used → used + free ≡ 64
    → length words ≡ n + 1 → width ≡ free + over → value < 2 ^ width → w ≡ get_or words n 0 → w < 2 ^ 64 → w + value / 2 ^ over < 2 ^ 64
sum_over words len n used free width over w value held place whole count parts fits is small =
    sum_fits words len n used free w (value / 2 ^ over) held place whole count is small (shr_below value free over (rw parts at fits))

-- a number appended within the last word
pub pushed_within : (words : List ℕ) (len n used free width k w value : ℕ) → ArePacked words len → len ≡ 64 * n + used → used + free ≡ 64
    → length words ≡ n + 1 → 0 < used → width + k ≡ free → value < 2 ^ width → w ≡ get_or words n 0
    → Keep (set words n (w + value * 2 ^ k % 2 ^ 64)) (len + width) (take len (bits_of_words words) ++ binary width value)
pushed_within words len n used free width k w value held place whole count some parts fits is =
    let q : ℕ = w / 2 ^ free in
    let front : List Bool = bits_of_words (take n words) in
    let last = last_word words len n used free held place whole count in
    let none : w % 2 ^ free ≡ 0 = rw is last.0 in
    let before : take len (bits_of_words words) ≡ front ++ binary used q = last.1 ∙ ap (λ x. front ++ binary used (x / 2 ^ free)) (sym is) in
    let high : w ≡ q * 2 ^ width * 2 ^ k =
    no_remainder w free none ∙ ap (λ x. q * 2 ^ x) (sym parts) ∙ ap (λ x. q * x) (pow-add 2 width k) ∙ sym (mul_assoc q (2 ^ width) (2 ^ k)) in
    let shifted : value * 2 ^ k % 2 ^ 64 ≡ value * 2 ^ k = shl_whole value width k 64 fits (omega arith) in
    let both : w + value * 2 ^ k % 2 ^ 64 ≡ (q * 2 ^ width + value) * 2 ^ k + 0 =
    omega (arith, add-mul (q * 2 ^ width) value (2 ^ k)) in
    let word : word_bits (w + value * 2 ^ k % 2 ^ 64) ≡ (binary used q ++ binary width value) ++ replicate k false =
    ap word_bits both ∙ word_bits-join (used + width) k (q * 2 ^ width + value) 0 (omega arith) (pow_pos k)
    ∙ ap (λ l. l ++ binary k 0) (binary-join used width q value fits)
    ∙ ap (λ l. (binary used q ++ binary width value) ++ l) (binary-zero k) in
    let now : List ℕ = set words n (w + value * 2 ^ k % 2 ^ 64) in
    let stands : bits_of_words now ≡ (take len (bits_of_words words) ++ binary width value) ++ replicate k false =
    with_last words n (w + value * 2 ^ k % 2 ^ 64) count ∙ ap (λ l. front ++ l) word
    ∙ sym (append_assoc front (binary used q ++ binary width value) (replicate k false))
    ∙ ap (λ l. l ++ replicate k false) (sym (append_assoc front (binary used q) (binary width value)))
    ∙ ap (λ l. (l ++ binary width value) ++ replicate k false) (sym before) in
    packed now (take len (bits_of_words words) ++ binary width value) (len + width) k stands
    (omega (
      arith,
      length-append (take len (bits_of_words words)) (binary width value),
      length-binary width value,
      length-packed words len (omega arith),
    ))
    (length-set words n (w + value * 2 ^ k % 2 ^ 64) ∙ omega arith)

-- a number appended partly to the last word and partly to a new word
pub pushed_over : (words : List ℕ) (len n used free width over k w value : ℕ) → ArePacked words len → len ≡ 64 * n + used → used + free ≡ 64
    → length words ≡ n + 1 → 0 < used → width ≡ free + over → 0 < over → over + k ≡ 64 → value < 2 ^ width → w ≡ get_or words n 0
    → Keep (set words n (w + value / 2 ^ over) ++ value * 2 ^ k % 2 ^ 64 ∷ []) (len + width) (take len (bits_of_words words) ++ binary width value)
pushed_over words len n used free width over k w value held place whole count some parts more rest fits is =
    let q : ℕ = w / 2 ^ free in
    let z : ℕ = w + value / 2 ^ over in
    let second : ℕ = value * 2 ^ k % 2 ^ 64 in
    let front : List Bool = bits_of_words (take n words) in
    let last = last_word words len n used free held place whole count in
    let none : w % 2 ^ free ≡ 0 = rw is last.0 in
    let before : take len (bits_of_words words) ≡ front ++ binary used q = last.1 ∙ ap (λ x. front ++ binary used (x / 2 ^ free)) (sym is) in
    let high : value / 2 ^ over < 2 ^ free = shr_below value free over (rw parts at fits) in
    let word : word_bits z ≡ binary used q ++ binary free (value / 2 ^ over) =
    ap (λ x. word_bits (x + value / 2 ^ over)) (no_remainder w free none) ∙ word_bits-join used free q (value / 2 ^ over) whole high in
    let number : binary width value ≡ binary free (value / 2 ^ over) ++ binary over value = ap (λ x. binary x value) parts ∙ binary-add free over value in
    let now : List ℕ = set words n z ++ second ∷ [] in
    let stands : bits_of_words now ≡ (take len (bits_of_words words) ++ binary width value) ++ replicate k false =
    bits_of_words-append (set words n z) (second ∷ [])
    ∙ ap (λ l. l ++ bits_of_words (second ∷ [])) (with_last words n z count ∙ ap (λ l. front ++ l) word)
    ∙ ap (λ l. (front ++ (binary used q ++ binary free (value / 2 ^ over))) ++ l)
    (bits_of_words-cons second [] ∙ append-nil (word_bits second) ∙ bits_at_the_top over k value rest)
    ∙ rw (before, number) (simp append_assoc) in
    packed now (take len (bits_of_words words) ++ binary width value) (len + width) k stands
    (omega (
      arith,
      length-append (take len (bits_of_words words)) (binary width value),
      length-binary width value,
      length-packed words len (omega arith),
    ))
    (length-append (set words n z) (second ∷ []) ∙ omega (arith, length-set words n z))

-- a number appended in a new word
pub pushed_after : (words : List ℕ) (len width k value : ℕ) → ArePacked words len → len ≡ 64 * length words → width + k ≡ 64 → 0 < width
    → Keep (words ++ value * 2 ^ k % 2 ^ 64 ∷ []) (len + width) (take len (bits_of_words words) ++ binary width value)
pushed_after words len width k value held full whole some =
    let word : ℕ = value * 2 ^ k % 2 ^ 64 in
    let all : take len (bits_of_words words) ≡ bits_of_words words = take_all len (bits_of_words words) (omega (arith, length-bits_of_words words)) in
    let stands : bits_of_words (words ++ word ∷ []) ≡ (take len (bits_of_words words) ++ binary width value) ++ replicate k false =
    bits_of_words-append words (word ∷ [])
    ∙ ap (λ l. bits_of_words words ++ l) (bits_of_words-cons word [] ∙ append-nil (word_bits word) ∙ bits_at_the_top width k value whole)
    ∙ sym (append_assoc (bits_of_words words) (binary width value) (replicate k false))
    ∙ ap (λ l. (l ++ binary width value) ++ replicate k false) (sym all) in
    packed (words ++ word ∷ []) (take len (bits_of_words words) ++ binary width value) (len + width) k stands
    (omega (
      arith,
      length-append (take len (bits_of_words words)) (binary width value),
      length-binary width value,
      length-packed words len (omega arith),
    ))
    (length-append words (word ∷ []) ∙ omega arith)
