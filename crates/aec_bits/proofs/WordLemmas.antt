-- Lemmas about bits that are kept in words.
use Rattle.std.proofs.Common.{◌≡◌, ℕ, zero, suc, ◌+◌, ◌-◌, ◌*◌, ◌/◌, ◌%◌, ◌^◌, ◌<◌, ◌≤◌, Bool, List, [], ◌∷◌, ◌++◌, length, take, drop, set, get_or, refl, sym, ap, ◌∙◌, arith, append_assoc, length-append, mod-eq_of_lt, ap₂, mul_assoc, add-mul}
use Rattle.std.specs.Prelude.{◌==◌, bit_and, bit_or}
use Rattle.std.proofs.lemmas.Nat.{shr-shr, shr_high, mod_low, mod_below, pow_pos, pow-add, field_of, shl-shr, mod-pow-add, shr_below, shl_below, or_shifted, shl_whole, one_shl, and_mask}
use Rattle.std.proofs.lemmas.Nat.Bits.{ones_shr, and_high_mask}
use Rattle.std.proofs.lemmas.List.{take_at, drop_at, take-append-drop, drop-append-le, drop-drop, length-take-le, drop_more, set_split, get_or-set_other, length-set}
use Rattle.aec_params.specs.Codewords.{binary}
use Rattle.aec_params.proofs.CodewordLaws.{length-binary, binary-same}
use Rattle.aec_bits.specs.Words.{bits_of_words}
use Rattle.aec_bits.specs.WordBits.{word_bits}
use Rattle.aec_bits.proofs.OverwriteLemmas.{overwritten, rest_after, overwritten_inside, overwritten-overwritten}

-- ---- numbers in bits, cut and joined

pub binary-add : (a b v : ℕ) → binary (a + b) v ≡ binary a (v / 2 ^ b) ++ binary b v
binary-add zero b v = let e : zero + b ≡ b = omega arith in ap (λ (n : ℕ). binary n v) e
binary-add (suc a) b v =
    let e : suc a + b ≡ suc (a + b) = omega arith in
    let f : b + a ≡ a + b = omega arith in
    let top : v / 2 ^ (a + b) ≡ v / 2 ^ b / 2 ^ a = sym (shr-shr v b a ∙ ap (λ (n : ℕ). v / 2 ^ n) f) in
    ap (λ (n : ℕ). binary n v) e
    ∙ ap (λ (n : ℕ). (n % 2 == 1) ∷ binary (a + b) v) top
    ∙ ap (λ (l : List Bool). (v / 2 ^ b / 2 ^ a % 2 == 1) ∷ l) (binary-add a b v)

pub binary-join : (a b high low : ℕ) → low < 2 ^ b → binary (a + b) (high * 2 ^ b + low) ≡ binary a high ++ binary b low
binary-join a b high low fits =
    binary-add a b (high * 2 ^ b + low)
    ∙ ap (λ (n : ℕ). binary a n ++ binary b (high * 2 ^ b + low)) (shr_high high b low fits)
    ∙ ap (λ (l : List Bool). binary a high ++ l)
    (binary-same b (high * 2 ^ b + low) low (mod_low high b low fits ∙ sym (mod-eq_of_lt fits)))

-- ---- one word

pub length-word_bits : (w : ℕ) → length (word_bits w) ≡ 64
unfolding word_bits
length-word_bits w = length-binary 64 w

-- ---- words

pub bits_of_words-cons : (w : ℕ) (ws : List ℕ) → bits_of_words (w ∷ ws) ≡ word_bits w ++ bits_of_words ws
unfolding word_bits
bits_of_words-cons w ws = refl

pub length-bits_of_words : (ws : List ℕ) → length (bits_of_words ws) ≡ 64 * length ws
length-bits_of_words [] = refl
length-bits_of_words (w ∷ ws) =
    ap length (bits_of_words-cons w ws)
    ∙ omega (arith, length-append (word_bits w) (bits_of_words ws), length-word_bits w, length-bits_of_words ws)

pub bits_of_words-append : (xs ys : List ℕ) → bits_of_words (xs ++ ys) ≡ bits_of_words xs ++ bits_of_words ys
bits_of_words-append [] ys = refl
bits_of_words-append (x ∷ xs) ys =
    bits_of_words-cons x (xs ++ ys)
    ∙ ap (λ (l : List Bool). word_bits x ++ l) (bits_of_words-append xs ys)
    ∙ sym (append_assoc (word_bits x) (bits_of_words xs) (bits_of_words ys))
    ∙ ap (λ (l : List Bool). l ++ bits_of_words ys) (sym (bits_of_words-cons x xs))

-- the bits of a word, cut into two parts
pub word_bits-cut : (a b w : ℕ) → a + b ≡ 64 → word_bits w ≡ binary a (w / 2 ^ b) ++ binary b w
unfolding word_bits
word_bits-cut a b w whole = ap (λ (n : ℕ). binary n w) (sym whole) ∙ binary-add a b w

pub drop-word_bits : (a b w : ℕ) → a + b ≡ 64 → drop a (word_bits w) ≡ binary b w
drop-word_bits a b w whole =
    ap (drop a) (word_bits-cut a b w whole) ∙ drop_at (binary a (w / 2 ^ b)) (binary b w) a (length-binary a (w / 2 ^ b))

pub take-word_bits : (a b w : ℕ) → a + b ≡ 64 → take a (word_bits w) ≡ binary a (w / 2 ^ b)
take-word_bits a b w whole =
    ap (take a) (word_bits-cut a b w whole) ∙ take_at (binary a (w / 2 ^ b)) (binary b w) a (length-binary a (w / 2 ^ b))

pub word_bits-join : (a b high low : ℕ) → a + b ≡ 64 → low < 2 ^ b → word_bits (high * 2 ^ b + low) ≡ binary a high ++ binary b low
unfolding word_bits
word_bits-join a b high low whole fits = ap (λ (n : ℕ). binary n (high * 2 ^ b + low)) (sym whole) ∙ binary-join a b high low fits

pub binary-mod : (w v : ℕ) → binary w (v % 2 ^ w) ≡ binary w v
binary-mod w v = binary-same w (v % 2 ^ w) v (mod-eq_of_lt (mod_below v (2 ^ w) (pow_pos w)))

-- ---- a part of a word

-- a part of a word, shifted to the top and then to the bottom
pub part_value : (at width rest w : ℕ) → w * 2 ^ at % 2 ^ (width + (at + rest)) / 2 ^ (at + rest) ≡ w / 2 ^ rest % 2 ^ width
part_value at width rest w =
    field_of (w * 2 ^ at) width (at + rest)
    ∙ ap (λ (n : ℕ). n % 2 ^ width) (sym (shr-shr (w * 2 ^ at) at rest) ∙ ap (λ (n : ℕ). n / 2 ^ rest) (shl-shr w at))

part_in_word : (word at width : ℕ) → at + width ≤ 64 → word * 2 ^ at % 2 ^ 64 / 2 ^ (64 - width) ≡ word / 2 ^ (64 - at - width) % 2 ^ width
part_in_word word at width within =
    let rest : ℕ = 64 - at - width in
    let e : 64 ≡ width + (at + rest) = omega arith in
    let f : 64 - width ≡ at + rest = omega arith in
    ap (λ (n : ℕ). word * 2 ^ at % 2 ^ n / 2 ^ (64 - width)) e
    ∙ ap (λ (n : ℕ). word * 2 ^ at % 2 ^ (width + (at + rest)) / 2 ^ n) f
    ∙ part_value at width rest word

pub part-lt : (word at width : ℕ) → at + width ≤ 64 → word * 2 ^ at % 2 ^ 64 / 2 ^ (64 - width) < 2 ^ width
part-lt word at width within =
    rw (part_in_word word at width within) (mod_below (word / 2 ^ (64 - at - width)) (2 ^ width) (pow_pos width))

pub part_bits : (word at width : ℕ) → at + width ≤ 64
    → drop at (word_bits word) ≡ binary width (word * 2 ^ at % 2 ^ 64 / 2 ^ (64 - width)) ++ drop (at + width) (word_bits word)
part_bits word at width within =
    let rest : ℕ = 64 - at - width in
    let e : at + (width + rest) ≡ 64 = omega arith in
    let value : ℕ = word * 2 ^ at % 2 ^ 64 / 2 ^ (64 - width) in
    let spelled : binary width (word / 2 ^ rest) ≡ binary width value
    = sym (binary-mod width (word / 2 ^ rest)) ∙ ap (binary width) (sym (part_in_word word at width within)) in
    rest_after (word_bits word) (binary width value) (binary rest word) at width (length-binary width value)
    (drop-word_bits at (width + rest) word e ∙ binary-add width rest word ∙ ap (λ (l : List Bool). l ++ binary rest word) spelled)

-- ---- two words joined

pub shl_mod : (a b v : ℕ) → v * 2 ^ b % 2 ^ (a + b) ≡ v % 2 ^ a * 2 ^ b
shl_mod a b v =
    let none : v * 2 ^ b % 2 ^ b ≡ 0 = let e : v * 2 ^ b + 0 ≡ v * 2 ^ b = omega arith in rw (← e) (mod_low v b 0 (pow_pos b)) in
    mod-pow-add (v * 2 ^ b) a b ∙ rw (shl-shr v b, none) (omega arith)

pub joined_bits : (first second at : ℕ) → at ≤ 64 → second < 2 ^ 64
    → word_bits (bit_or (first * 2 ^ at % 2 ^ 64) (second / 2 ^ (64 - at))) ≡ drop at (word_bits first) ++ take at (word_bits second)
joined_bits first second at within small =
    let a : ℕ = 64 - at in
    let e : a + at ≡ 64 = omega arith in
    let f : at + a ≡ 64 = omega arith in
    let high : first * 2 ^ at % 2 ^ 64 ≡ first % 2 ^ a * 2 ^ at = ap (λ (n : ℕ). first * 2 ^ at % 2 ^ n) (sym e) ∙ shl_mod a at first in
    let low : second / 2 ^ a < 2 ^ at = shr_below second at a (rw f small) in
    ap word_bits (ap (λ (n : ℕ). bit_or n (second / 2 ^ a)) high ∙ or_shifted (first % 2 ^ a) at (second / 2 ^ a) low)
    ∙ word_bits-join a at (first % 2 ^ a) (second / 2 ^ a) e low
    ∙ ap (λ (l : List Bool). l ++ binary at (second / 2 ^ a)) (binary-mod a first ∙ sym (drop-word_bits at a first f))
    ∙ ap (λ (l : List Bool). drop at (word_bits first) ++ l) (sym (take-word_bits at a second f))

-- ---- a place among words

pub bits_of_words-drop : (ws : List ℕ) (q : ℕ) → q ≤ length ws → bits_of_words (drop q ws) ≡ drop (64 * q) (bits_of_words ws)
bits_of_words-drop ws q within =
    let long : length (bits_of_words (take q ws)) ≡ 64 * q = length-bits_of_words (take q ws) ∙ ap (λ (n : ℕ). 64 * n) (length-take-le q ws within) in
    let whole : bits_of_words ws ≡ bits_of_words (take q ws) ++ bits_of_words (drop q ws)
    = ap bits_of_words (sym (take-append-drop q ws)) ∙ bits_of_words-append (take q ws) (drop q ws) in
    sym (ap (drop (64 * q)) whole ∙ drop_at (bits_of_words (take q ws)) (bits_of_words (drop q ws)) (64 * q) long)

pub bits_of_words-take : (ws : List ℕ) (q : ℕ) → q ≤ length ws → bits_of_words (take q ws) ≡ take (64 * q) (bits_of_words ws)
bits_of_words-take ws q within =
    let long : length (bits_of_words (take q ws)) ≡ 64 * q = length-bits_of_words (take q ws) ∙ ap (λ (n : ℕ). 64 * n) (length-take-le q ws within) in
    let whole : bits_of_words ws ≡ bits_of_words (take q ws) ++ bits_of_words (drop q ws)
    = ap bits_of_words (sym (take-append-drop q ws)) ∙ bits_of_words-append (take q ws) (drop q ws) in
    sym (ap (take (64 * q)) whole ∙ take_at (bits_of_words (take q ws)) (bits_of_words (drop q ws)) (64 * q) long)

-- the bits from word q on: this word, and the words after it
pub from_word : (ws : List ℕ) (q d : ℕ) → q < length ws
    → drop (64 * q) (bits_of_words ws) ≡ word_bits (get_or ws q d) ++ bits_of_words (drop (q + 1) ws)
from_word ws q d within =
    sym (bits_of_words-drop ws q (omega arith)) ∙ ap bits_of_words (drop_more ws q d within)
    ∙ bits_of_words-cons (get_or ws q d) (drop (q + 1) ws)

-- the bits from a place within word q on: the rest of this word, and the words after it
pub from_place : (ws : List ℕ) (q at d : ℕ) → q < length ws → at ≤ 64
    → drop (64 * q + at) (bits_of_words ws) ≡ drop at (word_bits (get_or ws q d)) ++ bits_of_words (drop (q + 1) ws)
from_place ws q at d within small =
    sym (drop-drop at (64 * q) (bits_of_words ws)) ∙ ap (drop at) (from_word ws q d within)
    ∙ drop-append-le at (word_bits (get_or ws q d)) (bits_of_words (drop (q + 1) ws)) (omega (arith, length-word_bits (get_or ws q d)))

-- a number within one word is at its place among the words
pub number_in_word : (ws : List ℕ) (start q at width d v : ℕ) → start ≡ 64 * q + at → q < length ws → at + width ≤ 64
    → drop at (word_bits (get_or ws q d)) ≡ binary width v ++ drop (at + width) (word_bits (get_or ws q d))
    → drop start (bits_of_words ws) ≡ binary width v ++ drop (start + width) (bits_of_words ws)
number_in_word ws start q at width d v place within small stands =
    let rest : List Bool = bits_of_words (drop (q + 1) ws) in
    let after : List Bool = drop (at + width) (word_bits (get_or ws q d)) in
    rest_after (bits_of_words ws) (binary width v) (after ++ rest) start width (length-binary width v)
    (ap (λ (n : ℕ). drop n (bits_of_words ws)) place ∙ from_place ws q at d within (omega arith)
    ∙ ap (λ (l : List Bool). l ++ rest) stands ∙ append_assoc (binary width v) after rest)

-- 64 bits that are in two words
pub word_across : (ws : List ℕ) (start q at d word : ℕ) → start ≡ 64 * q + at → q + 1 < length ws → at ≤ 64
    → word_bits word ≡ drop at (word_bits (get_or ws q d)) ++ take at (word_bits (get_or ws (q + 1) d))
    → drop start (bits_of_words ws) ≡ word_bits word ++ drop (start + 64) (bits_of_words ws)
word_across ws start q at d word place within small stands =
    let first : List Bool = drop at (word_bits (get_or ws q d)) in
    let second : List Bool = word_bits (get_or ws (q + 1) d) in
    let rest : List Bool = bits_of_words (drop (q + 1 + 1) ws) in
    let behind : bits_of_words (drop (q + 1) ws) ≡ take at second ++ (drop at second ++ rest)
    = bits_of_words-drop ws (q + 1) (omega arith) ∙ from_word ws (q + 1) d within
    ∙ ap (λ (l : List Bool). l ++ rest) (sym (take-append-drop at second)) ∙ append_assoc (take at second) (drop at second) rest in
    rest_after (bits_of_words ws) (word_bits word) (drop at second ++ rest) start 64 (length-word_bits word)
    (ap (λ (n : ℕ). drop n (bits_of_words ws)) place ∙ from_place ws q at d (omega arith) small
    ∙ ap (λ (l : List Bool). first ++ l) behind ∙ sym (append_assoc first (take at second) (drop at second ++ rest))
    ∙ ap (λ (l : List Bool). l ++ (drop at second ++ rest)) (sym stands))

-- a number at the start of 64 bits that begin at a place
pub number_in_front : (bits : List Bool) (start width word v : ℕ) → drop start bits ≡ word_bits word ++ drop (start + 64) bits
    → drop 0 (word_bits word) ≡ binary width v ++ drop (0 + width) (word_bits word)
    → drop start bits ≡ binary width v ++ drop (start + width) bits
number_in_front bits start width word v there stands =
    let after : List Bool = drop (0 + width) (word_bits word) in
    rest_after bits (binary width v) (after ++ drop (start + 64) bits) start width (length-binary width v)
    (there ∙ ap (λ (l : List Bool). l ++ drop (start + 64) bits) stands ∙ append_assoc (binary width v) after (drop (start + 64) bits))

-- ---- a word in which a part was overwritten

-- a word's bits before and after a part, joined with a new part: one number
put_value : (word at width behind value : ℕ) → at + (width + behind) ≡ 64 → 0 < width → word < 2 ^ 64 → value < 2 ^ width
    → bit_or (bit_or (bit_and word (2 ^ 64 - 1 - (2 ^ 64 - 1) / 2 ^ at)) (value * 2 ^ behind % 2 ^ 64)) (bit_and word (1 * 2 ^ behind % 2 ^ 64 - 1))
    ≡ (word / 2 ^ (width + behind) * 2 ^ width + value) * 2 ^ behind + word % 2 ^ behind
put_value word at width behind value whole some small fits =
    let high : ℕ = word / 2 ^ (width + behind) in
    let e : 64 - at ≡ width + behind = omega arith in
    let mask : 2 ^ 64 - 1 - (2 ^ 64 - 1) / 2 ^ at ≡ 2 ^ 64 - 2 ^ (width + behind)
    = ap (λ (n : ℕ). 2 ^ 64 - 1 - n) (ones_shr 64 at (omega arith) ∙ ap (λ (n : ℕ). 2 ^ n - 1) e) ∙ omega (arith, pow_pos (width + behind)) in
    let front : bit_and word (2 ^ 64 - 1 - (2 ^ 64 - 1) / 2 ^ at) ≡ high * 2 ^ (width + behind)
    = ap (bit_and word) mask ∙ and_high_mask 64 (width + behind) (omega arith) word small in
    let middle : value * 2 ^ behind % 2 ^ 64 ≡ value * 2 ^ behind = shl_whole value width behind 64 fits (omega arith) in
    let back : bit_and word (1 * 2 ^ behind % 2 ^ 64 - 1) ≡ word % 2 ^ behind
    = ap (λ (n : ℕ). bit_and word (n - 1)) (one_shl behind 64 (omega arith)) ∙ and_mask word behind in
    let both : bit_or (high * 2 ^ (width + behind)) (value * 2 ^ behind) ≡ (high * 2 ^ width + value) * 2 ^ behind
    = or_shifted high (width + behind) (value * 2 ^ behind) (shl_below value width behind fits)
    ∙ ap (λ (n : ℕ). high * n + value * 2 ^ behind) (pow-add 2 width behind)
    ∙ ap (λ (n : ℕ). n + value * 2 ^ behind) (sym (mul_assoc high (2 ^ width) (2 ^ behind)))
    ∙ sym (add-mul (high * 2 ^ width) value (2 ^ behind)) in
    ap (λ (n : ℕ). bit_or (bit_or n (value * 2 ^ behind % 2 ^ 64)) (bit_and word (1 * 2 ^ behind % 2 ^ 64 - 1))) front
    ∙ ap (λ (n : ℕ). bit_or (bit_or (high * 2 ^ (width + behind)) n) (bit_and word (1 * 2 ^ behind % 2 ^ 64 - 1))) middle
    ∙ ap₂ bit_or both back
    ∙ or_shifted (high * 2 ^ width + value) behind (word % 2 ^ behind) (mod_below word (2 ^ behind) (pow_pos behind))

pub put_bits : (word at width value : ℕ) → at + width ≤ 64 → 0 < width → word < 2 ^ 64 → value < 2 ^ width
    → word_bits (bit_or (bit_or (bit_and word (2 ^ 64 - 1 - (2 ^ 64 - 1) / 2 ^ at)) (value * 2 ^ (64 - at - width) % 2 ^ 64))
    (bit_and word (1 * 2 ^ (64 - at - width) % 2 ^ 64 - 1)))
    ≡ take at (word_bits word) ++ (binary width value ++ drop (at + width) (word_bits word))
put_bits word at width value within some small fits =
    let behind : ℕ = 64 - at - width in
    let high : ℕ = word / 2 ^ (width + behind) in
    let low : ℕ = word % 2 ^ behind in
    let e : at + (width + behind) ≡ 64 = omega arith in
    let f : at + width + behind ≡ 64 = omega arith in
    ap word_bits (put_value word at width behind value e some small fits)
    ∙ word_bits-join (at + width) behind (high * 2 ^ width + value) low f (mod_below word (2 ^ behind) (pow_pos behind))
    ∙ ap₂ ◌++◌ (binary-join at width high value fits) (binary-mod behind word)
    ∙ append_assoc (binary at high) (binary width value) (binary behind word)
    ∙ ap₂ (λ (xs ys : List Bool). xs ++ (binary width value ++ ys)) (sym (take-word_bits at (width + behind) word e))
    (sym (drop-word_bits (at + width) behind word f))

-- ---- words in which one was overwritten

pub bits_of_words-set : (ws : List ℕ) (q v : ℕ) → q < length ws
    → bits_of_words (set ws q v) ≡ take (64 * q) (bits_of_words ws) ++ (word_bits v ++ bits_of_words (drop (q + 1) ws))
bits_of_words-set ws q v within =
    let e : suc q ≡ q + 1 = omega arith in
    ap bits_of_words (set_split ws q v within)
    ∙ bits_of_words-append (take q ws) (v ∷ drop (suc q) ws)
    ∙ ap₂ ◌++◌ (bits_of_words-take ws q (omega arith)) (bits_of_words-cons v (drop (suc q) ws))
    ∙ ap (λ (n : ℕ). take (64 * q) (bits_of_words ws) ++ (word_bits v ++ bits_of_words (drop n ws))) e

-- a stretch overwritten within one word
pub put_in_words : (ws : List ℕ) (start q at n d v : ℕ) (new : List Bool) → start ≡ 64 * q + at → q < length ws → at + n ≤ 64
    → word_bits v ≡ overwritten at n new (word_bits (get_or ws q d))
    → bits_of_words (set ws q v) ≡ overwritten start n new (bits_of_words ws)
put_in_words ws start q at n d v new place within small written =
    let front : List Bool = take (64 * q) (bits_of_words ws) in
    let word : List Bool = word_bits (get_or ws q d) in
    let rest : List Bool = bits_of_words (drop (q + 1) ws) in
    let whole : front ++ (word ++ rest) ≡ bits_of_words ws
    = ap (λ (l : List Bool). front ++ l) (sym (from_word ws q d within)) ∙ take-append-drop (64 * q) (bits_of_words ws) in
    let long : length front ≡ 64 * q = length-take-le (64 * q) (bits_of_words ws) (omega (arith, length-bits_of_words ws)) in
    bits_of_words-set ws q v within
    ∙ ap (λ (l : List Bool). front ++ (l ++ rest)) written
    ∙ overwritten_inside front word rest new at n (64 * q) long (omega (arith, length-word_bits (get_or ws q d)))
    ∙ ap₂ (λ (k : ℕ) (l : List Bool). overwritten k n new l) (sym place) whole

-- the lowest bits of a number
pub low_part : (value over : ℕ) → over < 64 → bit_and value (1 * 2 ^ over % 2 ^ 64 - 1) ≡ value % 2 ^ over
low_part value over within = ap (λ (n : ℕ). bit_and value (n - 1)) (one_shl over 64 within) ∙ and_mask value over

-- a number written across two words
pub put_across : (ws : List ℕ) (start q at width over d first second value low : ℕ) → low ≡ value % 2 ^ over
    → start ≡ 64 * q + at → q + 1 < length ws → at + width ≡ 64 + over → over ≤ width → width ≤ 64
    → word_bits first ≡ overwritten at (width - over) (binary (width - over) (value / 2 ^ over)) (word_bits (get_or ws q d))
    → word_bits second ≡ overwritten 0 over (binary over low) (word_bits (get_or ws (q + 1) d))
    → bits_of_words (set (set ws q first) (q + 1) second) ≡ overwritten start width (binary width value) (bits_of_words ws)
put_across ws start q at width over d first second value low lowest place within reach some small one two =
    let high : List Bool = binary (width - over) (value / 2 ^ over) in
    let last : List Bool = binary over low in
    let part : width - over + over ≡ width = omega arith in
    let same : get_or (set ws q first) (q + 1) d ≡ get_or ws (q + 1) d = get_or-set_other ws q (q + 1) first d (omega arith) in
    let one_done : bits_of_words (set ws q first) ≡ overwritten start (width - over) high (bits_of_words ws)
    = put_in_words ws start q at (width - over) d first high place (omega arith) (omega arith) one in
    let two_done : bits_of_words (set (set ws q first) (q + 1) second) ≡ overwritten (start + (width - over)) over last (bits_of_words (set ws q first))
    = put_in_words (set ws q first) (start + (width - over)) (q + 1) 0 over d second last (omega arith) (omega (arith, length-set ws q first)) (omega arith)
    (two ∙ ap (λ (n : ℕ). overwritten 0 over last (word_bits n)) (sym same)) in
    let spelled : high ++ last ≡ binary width value
    = ap (λ (l : List Bool). high ++ l) (ap (binary over) lowest ∙ binary-mod over value) ∙ sym (binary-add (width - over) over value)
    ∙ ap (λ (n : ℕ). binary n value) part in
    two_done
    ∙ ap (overwritten (start + (width - over)) over last) one_done
    ∙ overwritten-overwritten (bits_of_words ws) high last start (width - over) over (length-binary (width - over) (value / 2 ^ over))
    (omega (arith, length-bits_of_words ws))
    ∙ ap₂ (λ (n : ℕ) (l : List Bool). overwritten start n l (bits_of_words ws)) part spelled
