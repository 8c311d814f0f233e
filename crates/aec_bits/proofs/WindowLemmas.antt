-- Words that hold the next bits of a list, and the codewords read from them.
use Rattle.std.proofs.Common.{◌≡◌, ℕ, zero, suc, ◌+◌, ◌-◌, ◌*◌, ◌/◌, ◌%◌, ◌^◌, ◌<◌, ◌≤◌, Bool, true, false, List, [], ◌∷◌, ◌++◌, length, take, drop, replicate, set, get_or, refl, sym, ap, ◌∙◌, arith, append_assoc, length-append, mod-eq_of_lt, pow_mono, pow-suc, inl, inr}
use Rattle.std.specs.Prelude.{bit_and, bit_or}
use lib.Bits.{bit_xor, xor_add_and}
use lib.Count.{count_leading_zeros}
use Rattle.std.proofs.lemmas.Bool.{cases_lt}
use Rattle.std.specs.Int.Bits.{or_zero_r}
use Rattle.std.proofs.Math.Nat.{zero-div}
use Rattle.std.proofs.lemmas.Nat.{shr-shr, shr_high, mod_low, and_mask, one_shl, leading_top}
use Rattle.std.proofs.lemmas.Nat.Bits.{and_high_mask}
use Rattle.std.proofs.lemmas.List.{take_at, drop_at, take-append-drop, take-append-le, drop-append-le, drop-drop, drop-take, take-take, take-replicate, length-replicate, length-drop, replicate-append-replicate, get_or-take, get_or-append_right, get_or_past}
use Rattle.aec_params.specs.Codewords.{fs, binary}
use Rattle.aec_params.proofs.CodewordLaws.{length-fs, binary-same}
use Rattle.aec_bits.specs.BitReader.{has_one}
use Rattle.aec_bits.specs.Words.{bits_of_words}
use Rattle.aec_bits.specs.WordBits.{word_bits}
use Rattle.aec_bits.specs.Packed.{ArePacked}
use Rattle.aec_bits.specs.Windows.{bits_from, IsWindow, StandsBefore}
use Rattle.aec_bits.proofs.WordLemmas.{binary-add, binary-mod, bits_of_words-append, length-bits_of_words, length-word_bits, word_across, joined_bits}
use Rattle.aec_bits.proofs.ZeroLemmas.{binary-zero, binary_topmost}
use Rattle.aec_bits.proofs.CodewordLemmas.{has_one-zeros}
use Rattle.aec_bits.proofs.BitBufLemmas.{one_after}
use Rattle.aec_bits.proofs.RunLemmas.{stands_more}
use Rattle.aec_bits.proofs.PackedLemmas.{bits_of_words-zeros, length-packed, packed_bits}

-- ---- zeros past the end

-- more zeros after a list don't change its first n bits
pub take_padded : (n m : ℕ) (xs : List Bool) → n ≤ m → take n (xs ++ replicate m false) ≡ take n (xs ++ replicate n false)
take_padded zero m xs enough = refl
take_padded (suc n) m [] enough = take-replicate (suc n) m false enough ∙ sym (take-replicate (suc n) (suc n) false (omega arith))
take_padded (suc n) m (x ∷ xs) enough = ap (λ l. x ∷ l) (take_padded n m xs (omega arith) ∙ sym (take_padded n (suc n) xs (omega arith)))

get_or-zeros : (words : List ℕ) (n i : ℕ) → get_or (words ++ replicate n 0) i 0 ≡ get_or words i 0
get_or-zeros [] zero i = refl
get_or-zeros [] (suc n) zero = refl
get_or-zeros [] (suc n) (suc i) = get_or-zeros [] n i
get_or-zeros (w ∷ words) n zero = refl
get_or-zeros (w ∷ words) n (suc i) = get_or-zeros words n i

shifted_twice : (word at : ℕ) → at < 64 → word / 2 / 2 ^ (63 - at) ≡ word / 2 ^ (64 - at)
shifted_twice word at within = let e : 1 + (63 - at) ≡ 64 - at = omega arith in shr-shr word 1 (63 - at) ∙ ap (λ n. word / 2 ^ n) e

-- a word joined from two words has the 64 bits from place `start` on; zeros follow the last word
across_padded : (words : List ℕ) (start q at word : ℕ) → start ≡ 64 * q + at → at < 64 → start ≤ 64 * length words
    → word_bits word ≡ drop at (word_bits (get_or words q 0)) ++ take at (word_bits (get_or words (q + 1) 0))
    → word_bits word ≡ bits_from start 64 (bits_of_words words)
unfolding bits_from
across_padded words start q at word place small within stands =
    let padded : List ℕ = words ++ replicate 2 0 in
    let bits : List Bool = bits_of_words words in
    let longer : bits_of_words padded ≡ bits ++ replicate 128 false =
    bits_of_words-append words (replicate 2 0) ∙ ap (λ l. bits ++ l) (bits_of_words-zeros 2) in
    let there : word_bits word ≡ drop at (word_bits (get_or padded q 0)) ++ take at (word_bits (get_or padded (q + 1) 0)) =
    rw (get_or-zeros words 2 q, get_or-zeros words 2 (q + 1)) stands in
    let inside : q + 1 < length padded = omega (arith, length-append words (replicate 2 0), length-replicate {A = ℕ} 2 0) in
    let across = word_across padded start q at 0 word place inside (omega arith) there in
    sym (
    sym (take_padded 64 128 (drop start bits) (omega arith))
    ∙ ap (take 64) (sym (drop-append-le start bits (replicate 128 false) (omega (arith, length-bits_of_words words))) ∙ ap (drop start) (sym longer) ∙ across)
    ∙ take_at (word_bits word) (drop (start + 64) (bits_of_words padded)) 64 (length-word_bits word))

pub padded_bits : (words : List ℕ) (start first second : ℕ) → start ≤ 64 * length words → second < 2 ^ 64
    → first ≡ get_or words (start / 64) 0 → second ≡ get_or words (start / 64 + 1) 0
    → word_bits (bit_or (first * 2 ^ (start % 64) % 2 ^ 64) (second / 2 / 2 ^ (63 - start % 64))) ≡ bits_from start 64 (bits_of_words words)
padded_bits words start first second within fits is_first is_second =
    let at : ℕ = start % 64 in
    across_padded words start (start / 64) at (bit_or (first * 2 ^ at % 2 ^ 64) (second / 2 / 2 ^ (63 - at))) (omega arith) (omega arith) within
    (ap (λ n. word_bits (bit_or (first * 2 ^ at % 2 ^ 64) n)) (shifted_twice second at (omega arith))
    ∙ joined_bits first second at (omega arith) fits
    ∙ ap (λ n. drop at (word_bits n) ++ take at (word_bits second)) is_first
    ∙ ap (λ n. drop at (word_bits (get_or words (start / 64) 0)) ++ take at (word_bits n)) is_second)

-- so has the last word, shifted, if `start` is in it; past the end, so has 0
pub padded_last : (words : List ℕ) (start first : ℕ) → start ≤ 64 * length words → length words ≤ start / 64 + 1
    → first ≡ get_or words (start / 64) 0 → word_bits (first * 2 ^ (start % 64) % 2 ^ 64) ≡ bits_from start 64 (bits_of_words words)
padded_last words start first within last is =
    let none : 0 ≡ get_or words (start / 64 + 1) 0 = sym (get_or_past words (start / 64 + 1) 0 last) in
    let zeros : 0 / 2 / 2 ^ (63 - start % 64) ≡ 0 = zero-div (2 ^ (63 - start % 64)) in
    ap word_bits (sym (ap (λ n. bit_or (first * 2 ^ (start % 64) % 2 ^ 64) n) zeros ∙ or_zero_r (first * 2 ^ (start % 64) % 2 ^ 64)))
    ∙ padded_bits words start first 0 within (omega arith) is none

-- from a place of the list on, the words and the list have the same 64 bits
pub bits_from-packed : (words : List ℕ) (len start : ℕ) → ArePacked words len → start ≤ len
    → bits_from start 64 (bits_of_words words) ≡ bits_from start 64 (take len (bits_of_words words))
unfolding bits_from
bits_from-packed words len start held within =
    let list : List Bool = take len (bits_of_words words) in
    let over : ℕ = 64 * length words - len in
    let there : length list ≡ len = length-packed words len (omega (arith, held.0)) in
    ap (λ l. take 64 (drop start l ++ replicate 64 false)) (packed_bits words len held)
    ∙ ap (λ l. take 64 (l ++ replicate 64 false)) (drop-append-le start list (replicate over false) (omega arith))
    ∙ ap (take 64) (append_assoc (drop start list) (replicate over false) (replicate 64 false)
    ∙ ap (λ l. drop start list ++ l) (replicate-append-replicate over 64 false))
    ∙ take_padded 64 (over + 64) (drop start list) (omega arith)

pub whole_window : (list : List Bool) (word start : ℕ) → start ≤ length list → word_bits word ≡ bits_from start 64 list → IsWindow list word 64 (start + 64)
unfolding word_bits
whole_window list word start within same =
    let e : start + 64 - 64 ≡ start = omega arith in
    record {
      size = omega arith;
      order = omega arith;
      within = omega arith;
      same = same ∙ ap (λ n. bits_from n 64 list) (sym e);
    }

-- ---- no 1 in a window

front_none : (n : ℕ) (xs ys : List Bool) → has_one (take n (xs ++ ys)) ≡ false → has_one (take n xs) ≡ false
front_none zero xs ys none = refl
front_none (suc n) [] ys none = refl
front_none (suc n) (true ∷ xs) ys none = absurd (cc)
front_none (suc n) (false ∷ xs) ys none = front_none n xs ys none

pub none_there : (list : List Bool) (word left end start : ℕ) → IsWindow list word left end → left ≡ 64 → end ≡ start + 64 → word ≡ 0
    → has_one (take 64 (drop start list)) ≡ false
unfolding bits_from
none_there list word left end start window whole place none =
    let here : end - left ≡ start = omega arith in
    let zeros : replicate 64 false ≡ take 64 (drop start list ++ replicate 64 false) =
    sym (binary-zero 64) ∙ ap (λ n. binary 64 n) (sym none) ∙ rw (here, whole) at window.same in
    front_none 64 (drop start list) (replicate 64 false) (ap has_one (sym zeros) ∙ has_one-zeros 64)

-- ---- the topmost 1

-- 63 - n for n below 64, as code computes it
lacks : (n : ℕ) → n < 64 → bit_xor n 63 ≡ 63 - n
lacks n small = omega (arith, xor_add_and n 63, and_mask n 6, small)

pub top_place : (word : ℕ) → 0 < word → word < 2 ^ 64
    → (bit_xor (count_leading_zeros 64 word) 63 < 64) × (2 ^ bit_xor (count_leading_zeros 64 word) 63 ≤ word)
    × (word < 2 ^ (bit_xor (count_leading_zeros 64 word) 63 + 1))
top_place word some fits =
    let top = leading_top 64 word some fits in
    let is : bit_xor (count_leading_zeros 64 word) 63 ≡ 63 - count_leading_zeros 64 word = lacks (count_leading_zeros 64 word) (omega (arith, top.1)) in
    let e : top.0 ≡ bit_xor (count_leading_zeros 64 word) 63 = omega (arith, is, top.1) in
    let f : suc top.0 ≡ bit_xor (count_leading_zeros 64 word) 63 + 1 = omega (arith, e) in
    (omega (arith, is), rw e at top.2, rw f at top.3)

-- the topmost 1 of a number of `left` bits is below bit `left`
pub top_below : (word left top : ℕ) → word < 2 ^ left → 2 ^ top ≤ word → top < left
top_below word left top fits least =
    elim (cases_lt top left) [
      | inl less ↦ less
      | inr more ↦ let high : 2 ^ left ≤ 2 ^ top = pow_mono more in absurd (omega arith)
    ]

pow-twice : (n : ℕ) → 2 ^ (n + 1) ≡ 2 ^ n + 2 ^ n
pow-twice n = let e : n + 1 ≡ suc n = omega arith in ap (λ k. 2 ^ k) e ∙ omega (arith, pow-suc 2 n)

-- a number without its topmost 1, as code computes it
pub without_top : (word top : ℕ) → top < 64 → 2 ^ top ≤ word → word < 2 ^ (top + 1) → bit_xor word (1 * 2 ^ top % 2 ^ 64) ≡ word - 2 ^ top
without_top word top small least most =
    let double = pow-twice top in
    let once : word / 2 ^ top ≡ 1 = let e : word ≡ 1 * 2 ^ top + (word - 2 ^ top) = omega arith in rw e (shr_high 1 top (word - 2 ^ top) (omega arith)) in
    let mask : 2 ^ (top + 1) - 2 ^ top ≡ 2 ^ top = omega arith in
    let both : bit_and word (2 ^ top) ≡ 2 ^ top =
    ap (bit_and word) (sym mask) ∙ and_high_mask (top + 1) top (omega arith) word most ∙ ap (λ n. n * 2 ^ top) once ∙ omega arith in
    ap (bit_xor word) (one_shl top 64 small) ∙ omega (arith, xor_add_and word (2 ^ top))

pub without_top-lt : (word top : ℕ) → top < 64 → 2 ^ top ≤ word → word < 2 ^ (top + 1) → bit_xor word (1 * 2 ^ top % 2 ^ 64) < 2 ^ top
without_top-lt word top small least most =
    let double = pow-twice top in
    rw (without_top word top small least most) (omega arith)

pub sequence_first : (word left top : ℕ) → top < 64 → word < 2 ^ left → 2 ^ top ≤ word → word < 2 ^ (top + 1)
    → binary left word ≡ fs (left - top - 1) ++ binary top (bit_xor word (1 * 2 ^ top % 2 ^ 64))
sequence_first word left top small fits least most =
    let below = top_below word left top fits least in
    let double = pow-twice top in
    let e : top + 1 ≡ suc top = omega arith in
    let rest : word - 2 ^ top < 2 ^ top = omega arith in
    let parts : word ≡ 1 * 2 ^ top + (word - 2 ^ top) = omega arith in
    let same : word % 2 ^ top ≡ (word - 2 ^ top) % 2 ^ top =
    ap (λ n. n % 2 ^ top) parts ∙ mod_low 1 top (word - 2 ^ top) rest ∙ sym (mod-eq_of_lt rest) in
    binary_topmost left (left - top - 1) top word (omega arith) least (rw e at most)
    ∙ ap (λ l. fs (left - top - 1) ++ l) (binary-same top word (word - 2 ^ top) same ∙ ap (binary top) (sym (without_top word top small least most)))

-- ---- the first bits of a window

-- the first `width` bits of a window; with width 0 and left 64, code shifts by 0, and keeps no bit
pub number_first : (word left width : ℕ) → width ≤ left → left ≤ 64 → width ≤ 32
    → binary left word ≡ binary width (bit_and (word / 2 ^ ((left - width) % 64)) (1 * 2 ^ width % 2 ^ 64 - 1)) ++ binary (left - width) word
number_first word left width there size few =
    elim (cases_lt (left - width) 64) [
      | inl less ↦
          let e : width + (left - width) ≡ left = omega arith in
          let shift : (left - width) % 64 ≡ left - width = omega arith in
          let mask : 1 * 2 ^ width % 2 ^ 64 - 1 ≡ 2 ^ width - 1 = ap (λ n. n - 1) (one_shl width 64 (omega arith)) in
          let high : ℕ = word / 2 ^ (left - width) in
          let spelled : binary width high ≡ binary width (bit_and (word / 2 ^ ((left - width) % 64)) (1 * 2 ^ width % 2 ^ 64 - 1)) =
          sym (binary-mod width high) ∙ ap (binary width) (sym (and_mask high width) ∙ ap (bit_and high) (sym mask)
          ∙ ap (λ n. bit_and (word / 2 ^ n) (1 * 2 ^ width % 2 ^ 64 - 1)) (sym shift)) in
          ap (λ n. binary n word) (sym e) ∙ binary-add width (left - width) word ∙ ap (λ l. l ++ binary (left - width) word) spelled
      | inr whole ↦
          let none : width ≡ 0 = omega arith in
          let e : left - 0 ≡ left = omega arith in
          rw (none, e) refl
    ]

-- a codeword at the start of a window is in the list at the window's place
pub codeword_first : (list codeword rest : List Bool) (n m : ℕ) → length codeword ≡ n → n ≤ length list
    → codeword ++ rest ≡ take (n + m) (list ++ replicate 64 false)
    → (list ≡ codeword ++ drop n list) × (rest ≡ take m (drop n list ++ replicate 64 false))
codeword_first list codeword rest n m long within stands =
    let padded : List Bool = list ++ replicate 64 false in
    let front : codeword ≡ take n list =
    sym (take_at codeword rest n long) ∙ ap (take n) stands ∙ take-take n (n + m) padded (omega arith)
    ∙ take-append-le n list (replicate 64 false) within in
    let behind : rest ≡ take m (drop n list ++ replicate 64 false) =
    sym (drop_at codeword rest n long) ∙ ap (drop n) stands ∙ drop-take n m padded
    ∙ ap (take m) (drop-append-le n list (replicate 64 false) within) in
    (sym (take-append-drop n list) ∙ ap (λ l. l ++ drop n list) (sym front), behind)

pub codeword_read : (list codeword : List Bool) (word left end later behind stop n : ℕ) → length codeword ≡ n → later + n ≡ left → stop ≡ end
    → end - left + n ≤ length list → IsWindow list word left end → binary left word ≡ codeword ++ binary later behind
    → IsWindow list behind later stop × (drop (end - left) list ≡ codeword ++ drop (stop - later) list)
unfolding bits_from
codeword_read list codeword word left end later behind stop n long parts same within window first =
    let place : ℕ = end - left in
    let sum : n + later ≡ left = omega arith in
    let next : place + n ≡ stop - later = omega (arith, window.order) in
    let read = codeword_first (drop place list) codeword (binary later behind) n later long (omega (arith, length-drop place list))
    (sym first ∙ window.same ∙ ap (λ k. take k (drop place list ++ replicate 64 false)) (sym sum)) in
    let gone : drop n (drop place list) ≡ drop (stop - later) list = drop-drop n place list ∙ ap (λ k. drop k list) next in (
      record {
        size = omega (arith, window.size);
        order = omega (arith, window.order);
        within = omega arith;
        same = read.1 ∙ ap (λ l. take later (l ++ replicate 64 false)) gone;
      },
      read.0 ∙ ap (λ l. codeword ++ l) gone,
    )

-- ---- one more number

no_ones : (n i : ℕ) → get_or (replicate n false) i false ≡ false
no_ones zero i = refl
no_ones (suc n) zero = refl
no_ones (suc n) (suc i) = no_ones n i

-- the 1 of a fundamental sequence is within the list, not in the zeros past its end
pub one_inside : (list rest : List Bool) (v k : ℕ) → v < k → fs v ++ rest ≡ take k (list ++ replicate 64 false) → v < length list
one_inside list rest v k short stands =
    elim (cases_lt v (length list)) [
      | inl less ↦ less
      | inr past ↦
          let one : get_or (take k (list ++ replicate 64 false)) v false ≡ true = ap (λ l. get_or l v false) (sym stands) ∙ one_after v rest in
          let none : get_or (take k (list ++ replicate 64 false)) v false ≡ false =
          get_or-take k (list ++ replicate 64 false) v false short
          ∙ get_or-append_right list (replicate 64 false) (length list) v false refl past ∙ no_ones 64 (v - length list) in
          absurd (cc)
    ]

pub sequence_read : (list : List Bool) (items : List ℕ) (word left end later behind stop i v place start : ℕ) → i < length items → later + (v + 1) ≡ left
    → stop ≡ end → end - left ≡ place → IsWindow list word left end → binary left word ≡ fs v ++ binary later behind
    → StandsBefore fs 64 (take i items) (drop place list) (drop start list)
    → IsWindow list behind later stop × StandsBefore fs 64 (take (i + 1) (set items i v)) (drop (stop - later) list) (drop start list)
unfolding bits_from
sequence_read list items word left end later behind stop i v place start inside parts same here window first so_far =
    let from : ℕ = end - left in
    let short : v < length (drop from list) =
    one_inside (drop from list) (binary later behind) v left (omega arith) (sym first ∙ window.same) in
    let read = codeword_read list (fs v) word left end later behind stop (v + 1) (length-fs v) parts same
    (omega (arith, length-drop from list, window.within)) window first in (
      read.0,
      stands_more fs 64 items i v (drop (stop - later) list) (drop place list) (drop start list) inside (omega (arith, window.size))
          (ap (λ n. drop n list) (sym here) ∙ read.1) so_far,
    )
