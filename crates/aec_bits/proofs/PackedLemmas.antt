-- Words that keep a list of bits: exactly the words that it needs, with zeros past its end.
use Rattle.std.proofs.Common.{◌≡◌, ℕ, zero, suc, ◌+◌, ◌-◌, ◌*◌, ◌≤◌, Bool, false, List, [], ◌++◌, length, take, drop, replicate, refl, sym, ap, ◌∙◌, arith, length-append}
use Rattle.std.specs.Int.{div_ceil}
use Rattle.std.proofs.lemmas.List.{length-replicate, replicate-append-replicate, take-append-drop, take_at, drop_at, length-take-le, append-nil, take_all, take-take, drop_all}
use Rattle.aec_params.specs.Codewords.{binary}
use Rattle.aec_bits.specs.Words.{bits_of_words}
use Rattle.aec_bits.specs.Packed.{ArePacked, Keep}
use Rattle.aec_bits.proofs.WordLemmas.{length-bits_of_words, bits_of_words-append, bits_of_words-take}
use Rattle.aec_bits.proofs.ZeroLemmas.{binary-zero}

-- ---- zero words

pub bits_of_words-zeros : (n : ℕ) → bits_of_words (replicate n 0) ≡ replicate (64 * n) false
bits_of_words-zeros zero = refl
bits_of_words-zeros (suc n) =
    let more : 64 + 64 * n ≡ 64 * suc n = omega arith in
    ap (λ l. l ++ bits_of_words (replicate n 0)) (binary-zero 64)
    ∙ ap (λ l. replicate 64 false ++ l) (bits_of_words-zeros n)
    ∙ replicate-append-replicate 64 (64 * n) false
    ∙ ap (λ m. replicate m false) more

-- zero words appended to words append zeros to their bits
pub grown : (words now : List ℕ) (n more bits : ℕ) → length words ≤ n → now ≡ take n words ++ replicate more 0 → bits ≡ 64 * more
    → bits_of_words now ≡ bits_of_words words ++ replicate bits false
grown words now n more bits longer e sum =
    ap bits_of_words (e ∙ ap (λ l. l ++ replicate more 0) (take_all n words longer))
    ∙ bits_of_words-append words (replicate more 0)
    ∙ ap (λ l. bits_of_words words ++ l) (bits_of_words-zeros more ∙ ap (λ k. replicate k false) (sym sum))

-- ---- words that keep a list of bits

pub length-packed : (words : List ℕ) (len : ℕ) → len ≤ 64 * length words → length (take len (bits_of_words words)) ≡ len
length-packed words len within = length-take-le len (bits_of_words words) (omega (arith, length-bits_of_words words))

pub ruleset packed_lengths = (length-packed)

-- words whose bits are a list and then zeros keep this list
pub packed : (words : List ℕ) (list : List Bool) (len rest : ℕ) → bits_of_words words ≡ list ++ replicate rest false → length list ≡ len
    → length words ≡ div_ceil len 64 → Keep words len list
packed words list len rest e long count =
    let sum : len + rest ≡ 64 * length words =
    omega (arith, length-append list (replicate rest false), length-replicate rest false, length-bits_of_words words, ap length e) in
    let over : rest ≡ 64 * length words - len = omega arith in (
      ap (take len) e ∙ take_at list (replicate rest false) len long,
      (count, ap (drop len) e ∙ drop_at list (replicate rest false) len long ∙ ap (λ n. replicate n false) over),
    )

-- the bits of words that keep a list: the list, then zeros
pub packed_bits : (words : List ℕ) (len : ℕ) → ArePacked words len
    → bits_of_words words ≡ take len (bits_of_words words) ++ replicate (64 * length words - len) false
packed_bits words len held = sym (take-append-drop len (bits_of_words words)) ∙ ap (λ l. take len (bits_of_words words) ++ l) held.1

-- words cut to `len` bits, with zeros written after these, keep the first `len` bits
pub cut_words : (words now : List ℕ) (len n over : ℕ) → len ≤ 64 * length words → n ≡ div_ceil len 64 → over ≡ 64 * n - len
    → length now ≡ length (take n words)
    → bits_of_words now ≡ take len (bits_of_words (take n words)) ++ (binary over 0 ++ drop (len + over) (bits_of_words (take n words)))
    → Keep now len (take len (bits_of_words words))
cut_words words now len n over within count left same e =
    let kept : List Bool = bits_of_words (take n words) in
    let long : length (take n words) ≡ n = length-take-le n words (omega arith) in
    let none : drop (len + over) kept ≡ [] = drop_all (len + over) kept (omega (arith, length-bits_of_words (take n words))) in
    let front : take len kept ≡ take len (bits_of_words words) =
    ap (take len) (bits_of_words-take words n (omega arith)) ∙ take-take len (64 * n) (bits_of_words words) (omega arith) in
    let stands : bits_of_words now ≡ take len (bits_of_words words) ++ replicate over false =
    e ∙ ap (λ l. take len kept ++ (binary over 0 ++ l)) none ∙ ap (λ l. take len kept ++ l) (append-nil (binary over 0) ∙ binary-zero over)
    ∙ ap (λ l. l ++ replicate over false) front in
    packed now (take len (bits_of_words words)) len over stands (length-packed words len within) (same ∙ long ∙ count)
