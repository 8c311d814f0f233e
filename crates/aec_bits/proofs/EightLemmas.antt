-- The bytes of words that keep a list are bytes that the list fills.
use Rattle.std.proofs.Common.{◌≡◌, ℕ, zero, suc, ◌+◌, ◌-◌, ◌*◌, ◌/◌, ◌^◌, ◌<◌, ◌≤◌, Bool, false, List, [], ◌∷◌, ◌++◌, length, take, drop, replicate, refl, sym, ap, ap₂, ◌∙◌, arith}
use Rattle.std.specs.List.{AllByRecursion, flat_map}
use Rattle.std.specs.Int.{bytes_high_first}
use Rattle.std.proofs.lemmas.Nat.{mod_below}
use Rattle.std.proofs.lemmas.List.{take_at, drop_at, take-append-drop, drop-append-le, take-replicate, length-take-le, length-drop}
use Rattle.aec_params.specs.Codewords.{bytes_of, bits_of_bytes}
use Rattle.aec_params.specs.Cutting.{up_to_multiple}
use Rattle.aec_params.proofs.ListLaws.{all-append}
use Rattle.aec_params.proofs.ByteLaws.{length-bits_of_bytes, bits_of_bytes-bytes_of, bytes_of-below, bytes_of-bits_of_bytes}
use Rattle.aec_bits.specs.Words.{bits_of_words}
use Rattle.aec_bits.specs.Packed.{ArePacked}
use Rattle.aec_bits.proofs.CodewordLemmas.{bits_of_bytes-append, length-bytes_of}
use Rattle.aec_bits.proofs.ByteLemmas.{byte_of, bits_of_bytes-high_first}
use Rattle.aec_bits.proofs.WordLemmas.{bits_of_words-take, bits_of_words-drop}
use Rattle.aec_bits.proofs.PackedLemmas.{packed_bits, length-packed}
use Rattle.aec_bits.proofs.WindowLemmas.{take_padded}

below_256 : (k n : ℕ) → AllByRecursion (λ b. b < 256) (bytes_high_first k n)
below_256 zero n = tt
below_256 (suc k) n = (rw (byte_of k n) (mod_below (n / 2 ^ (8 * k)) (2 ^ 8) (omega arith)), below_256 k n)

all_taken : (n : ℕ) (bytes : List ℕ) → AllByRecursion (λ b. b < 256) bytes → AllByRecursion (λ b. b < 256) (take n bytes)
all_taken zero bytes all = tt
all_taken (suc n) [] all = tt
all_taken (suc n) (b ∷ bytes) all = (all.0, all_taken n bytes all.1)

all_behind : (n : ℕ) (bytes : List ℕ) → AllByRecursion (λ b. b < 256) bytes → AllByRecursion (λ b. b < 256) (drop n bytes)
all_behind zero bytes all = all
all_behind (suc n) [] all = tt
all_behind (suc n) (b ∷ bytes) all = all_behind n bytes all.1

bits_of_bytes-drop : (bytes : List ℕ) (n : ℕ) → n ≤ length bytes → bits_of_bytes (drop n bytes) ≡ drop (8 * n) (bits_of_bytes bytes)
bits_of_bytes-drop bytes n within =
    let long : length (bits_of_bytes (take n bytes)) ≡ 8 * n = length-bits_of_bytes (take n bytes) ∙ ap (λ m. 8 * m) (length-take-le n bytes within) in
    sym (ap (drop (8 * n)) (ap bits_of_bytes (sym (take-append-drop n bytes)) ∙ bits_of_bytes-append (take n bytes) (drop n bytes))
    ∙ drop_at (bits_of_bytes (take n bytes)) (bits_of_bytes (drop n bytes)) (8 * n) long)

bits_of_bytes-take : (bytes : List ℕ) (n : ℕ) → n ≤ length bytes → bits_of_bytes (take n bytes) ≡ take (8 * n) (bits_of_bytes bytes)
bits_of_bytes-take bytes n within =
    let long : length (bits_of_bytes (take n bytes)) ≡ 8 * n = length-bits_of_bytes (take n bytes) ∙ ap (λ m. 8 * m) (length-take-le n bytes within) in
    sym (ap (take (8 * n)) (ap bits_of_bytes (sym (take-append-drop n bytes)) ∙ bits_of_bytes-append (take n bytes) (drop n bytes))
    ∙ take_at (bits_of_bytes (take n bytes)) (bits_of_bytes (drop n bytes)) (8 * n) long)

-- the first n bits of a list followed by zeros are the same for any sufficient number of zeros
take_filled : (n m : ℕ) (xs : List Bool) → n ≤ length xs + m → take n (xs ++ replicate m false) ≡ take n (xs ++ replicate n false)
take_filled zero m xs enough = refl
take_filled (suc n) m [] enough = take-replicate (suc n) m false (omega arith) ∙ sym (take-replicate (suc n) (suc n) false (omega arith))
take_filled (suc n) m (x ∷ xs) enough = ap (λ l. x ∷ l) (take_filled n m xs (omega arith) ∙ sym (take_padded n (suc n) xs (omega arith)))

-- ---- words

-- the bytes of words have the bits of the words
pub bits_of_bytes-words : (words : List ℕ) → bits_of_bytes (flat_map (bytes_high_first 8) words) ≡ bits_of_words words
bits_of_bytes-words [] = refl
bits_of_bytes-words (w ∷ words) =
    bits_of_bytes-append (bytes_high_first 8 w) (flat_map (bytes_high_first 8) words)
    ∙ ap₂ ◌++◌ (bits_of_bytes-high_first 8 w) (bits_of_bytes-words words)

words_below : (words : List ℕ) → AllByRecursion (λ b. b < 256) (flat_map (bytes_high_first 8) words)
words_below [] = tt
words_below (w ∷ words) = all-append (λ b. b < 256) (bytes_high_first 8 w) (flat_map (bytes_high_first 8) words) (below_256 8 w) (words_below words)

-- bytes with the same bits are equal
same_bytes : (xs ys : List ℕ) → AllByRecursion (λ b. b < 256) xs → AllByRecursion (λ b. b < 256) ys → bits_of_bytes xs ≡ bits_of_bytes ys → xs ≡ ys
same_bytes xs ys first second e = sym (bytes_of-bits_of_bytes xs first) ∙ ap bytes_of e ∙ bytes_of-bits_of_bytes ys second

-- the bits of some of the words that keep a list: bits of the list, then zeros
words_bits : (words : List ℕ) (len first count : ℕ) → ArePacked words len → first + count ≤ length words → 64 * first ≤ len
    → bits_of_words (take count (drop first words))
    ≡ take (64 * count) (drop (64 * first) (take len (bits_of_words words)) ++ replicate (64 * count) false)
words_bits words len first count held within begun =
    let list : List Bool = take len (bits_of_words words) in
    let rest : ℕ = 64 * length words - len in
    let long : length list ≡ len = length-packed words len (omega (arith, held.0)) in
    bits_of_words-take (drop first words) count (omega (arith, length-drop first words))
    ∙ ap (take (64 * count)) (bits_of_words-drop words first (omega arith) ∙ ap (drop (64 * first)) (packed_bits words len held)
    ∙ drop-append-le (64 * first) list (replicate rest false) (omega arith))
    ∙ take_filled (64 * count) rest (drop (64 * first) list) (omega (arith, held.0, long, length-drop (64 * first) list))

-- the bits of some of the bytes that a list fills: bits of the list, then zeros
bytes_bits : (list : List Bool) (at n : ℕ) → at + n ≤ length (bytes_of list) → 8 * at ≤ length list
    → bits_of_bytes (take n (drop at (bytes_of list))) ≡ take (8 * n) (drop (8 * at) list ++ replicate (8 * n) false)
bytes_bits list at n within begun =
    let bytes : List ℕ = bytes_of list in
    let missing : ℕ = up_to_multiple 8 (length list) in
    bits_of_bytes-take (drop at bytes) n (omega (arith, length-drop at bytes))
    ∙ ap (take (8 * n)) (bits_of_bytes-drop bytes at (omega arith) ∙ ap (drop (8 * at)) (bits_of_bytes-bytes_of list)
    ∙ drop-append-le (8 * at) list (replicate missing false) begun)
    ∙ take_filled (8 * n) missing (drop (8 * at) list) (omega (arith, length-bytes_of list, length-drop (8 * at) list))

-- the bytes of some of the words that keep a list are bytes that the list fills
pub bytes_of-words : (words : List ℕ) (len first count n : ℕ) → ArePacked words len → n ≡ 8 * count
    → 8 * first + n ≤ length (bytes_of (take len (bits_of_words words)))
    → flat_map (bytes_high_first 8) (take count (drop first words)) ≡ take n (drop (8 * first) (bytes_of (take len (bits_of_words words))))
bytes_of-words words len first zero n held eights within =
    ap (λ k. take k (drop (8 * first) (bytes_of (take len (bits_of_words words))))) (sym eights)
bytes_of-words words len first (suc more) n held eights within =
    let list : List Bool = take len (bits_of_words words) in
    let count : ℕ = suc more in
    let long : length list ≡ len = length-packed words len (omega (arith, held.0)) in
    let filled = length-bytes_of list in
    let places : 64 * first ≡ 8 * (8 * first) = omega arith in
    let bits : 64 * count ≡ 8 * n = omega (arith, eights) in
    same_bytes (flat_map (bytes_high_first 8) (take count (drop first words))) (take n (drop (8 * first) (bytes_of list)))
    (words_below (take count (drop first words)))
    (all_taken n (drop (8 * first) (bytes_of list)) (all_behind (8 * first) (bytes_of list) (bytes_of-below list)))
    (bits_of_bytes-words (take count (drop first words))
    ∙ words_bits words len first count held (omega (arith, held.0, long, filled, within, eights)) (omega (arith, long, filled, within, eights))
    ∙ ap₂ (λ a b. take a (drop b list ++ replicate a false)) bits places
    ∙ sym (bytes_bits list (8 * first) n within (omega (arith, long, filled, within, eights))))
