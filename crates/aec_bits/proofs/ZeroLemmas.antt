-- Lemmas about zeros before a 1, in one word and across words.
use Rattle.std.proofs.Common.{◌≡◌, ℕ, zero, suc, ◌+◌, ◌-◌, ◌*◌, ◌/◌, ◌%◌, ◌^◌, ◌<◌, ◌≤◌, Bool, true, false, List, [], ◌∷◌, ◌++◌, length, drop, replicate, get_or, refl, sym, ap, ◌∙◌, arith, append_assoc, pow-suc, pow_mono, lt_of_lt_of_le, ap₂, inl, inr}
use Rattle.std.specs.Prelude.{◌==◌, bit_and}
use Rattle.std.proofs.Math.Nat.{div-eq_of_lt}
use Rattle.std.proofs.lemmas.Nat.{shr_high, and_mask, pow_pos, mod_below, leading_top}
use Rattle.std.proofs.lemmas.Bool.{cases_lt}
use lib.Count.{count_leading_zeros}
use Rattle.std.proofs.lemmas.Nat.Bits.{ones_shr}
use Rattle.std.proofs.lemmas.List.{replicate-append-replicate}
use Rattle.aec_params.specs.Codewords.{fs, binary}
use Rattle.aec_params.proofs.CodewordLaws.{length-fs}
use Rattle.aec_bits.specs.BitReader.{has_one}
use Rattle.aec_bits.specs.Words.{bits_of_words}
use Rattle.aec_bits.specs.WordBits.{word_bits}
use Rattle.aec_bits.proofs.OverwriteLemmas.{rest_after}
use Rattle.aec_bits.proofs.WordLemmas.{binary-add, binary-mod, drop-word_bits, from_place, bits_of_words-drop}

zero_div : (n : ℕ) → 0 / 2 ^ n ≡ 0
zero_div n = div-eq_of_lt (pow_pos n)

pub binary-zero : (n : ℕ) → binary n 0 ≡ replicate n false
binary-zero zero = refl
binary-zero (suc n) = ap (λ (k : ℕ). (k % 2 == 1) ∷ binary n 0) (zero_div n) ∙ ap (λ (l : List Bool). false ∷ l) (binary-zero n)

-- a number in n bits: zeros, its topmost 1, and the bits below it
pub binary_topmost : (n zeros j v : ℕ) → n ≡ zeros + suc j → 2 ^ j ≤ v → v < 2 ^ suc j → binary n v ≡ fs zeros ++ binary j v
binary_topmost n zeros j v whole above below =
    let none : v / 2 ^ suc j ≡ 0 = div-eq_of_lt below in
    let double : 2 ^ suc j ≡ 2 ^ j + 2 ^ j = omega (arith, pow-suc 2 j) in
    let small : v - 2 ^ j < 2 ^ j = omega arith in
    let e : v ≡ 1 * 2 ^ j + (v - 2 ^ j) = omega arith in
    let one : v / 2 ^ j ≡ 1 = ap (λ (k : ℕ). k / 2 ^ j) e ∙ shr_high 1 j (v - 2 ^ j) small in
    ap (λ (k : ℕ). binary k v) whole
    ∙ binary-add zeros (suc j) v
    ∙ ap (λ (k : ℕ). binary zeros k ++ binary (suc j) v) none
    ∙ ap (λ (l : List Bool). l ++ binary (suc j) v) (binary-zero zeros)
    ∙ ap (λ (k : ℕ). replicate zeros false ++ ((k % 2 == 1) ∷ binary j v)) one
    ∙ sym (append_assoc (replicate zeros false) (true ∷ []) (binary j v))

pub low_mask : (word at : ℕ) → at ≤ 64 → bit_and word ((2 ^ 64 - 1) / 2 ^ at) ≡ word % 2 ^ (64 - at)
low_mask word at within = ap (bit_and word) (ones_shr 64 at within) ∙ and_mask word (64 - at)

-- zeros from place `at` of a word up to the next 1: the leading zeros of the lower bits, less `at`
pub zeros_in : (word at rest : ℕ) → rest ≡ word % 2 ^ (64 - at) → at < 64 → 0 < rest
    → (at ≤ count_leading_zeros 64 rest) × ((at + (count_leading_zeros 64 rest - at) < 64)
    × (drop at (word_bits word) ≡ fs (count_leading_zeros 64 rest - at) ++ drop (at + (count_leading_zeros 64 rest - at) + 1) (word_bits word)))
zeros_in word at rest same within some =
    let n : ℕ = 64 - at in
    let zeros : ℕ = count_leading_zeros 64 rest in
    let whole : at + n ≡ 64 = omega arith in
    let below : rest < 2 ^ n = rw same (mod_below word (2 ^ n) (pow_pos n)) in
    let short : n ≤ 64 = omega arith in
    let top = leading_top 64 rest some (lt_of_lt_of_le below (pow_mono short)) in
    let j : ℕ = top.0 in
    let all : zeros + suc j ≡ 64 = top.1 in
    let far : j < n = elim (cases_lt j n) [
      | inl less ↦ less
      | inr more ↦ let high : 2 ^ n ≤ 2 ^ j = pow_mono more in absurd (omega (arith, top.2))
    ] in
    let parts : n ≡ zeros - at + suc j = omega arith in
    let one : at + (zeros - at) + 1 ≡ at + (zeros - at + 1) = omega arith in
    let spelled : drop at (word_bits word) ≡ fs (zeros - at) ++ binary j rest
    = drop-word_bits at n word whole ∙ sym (binary-mod n word) ∙ ap (binary n) (sym same) ∙ binary_topmost n (zeros - at) j rest parts top.2 top.3 in (
      omega arith,
      (
        omega arith,
        rest_after (word_bits word) (fs (zeros - at)) (binary j rest) at (zeros - at + 1) (length-fs (zeros - at)) spelled
            ∙ ap (λ (k : ℕ). fs (zeros - at) ++ drop k (word_bits word)) (sym one),
      ),
    )

pub none_in : (word at : ℕ) → at ≤ 64 → word % 2 ^ (64 - at) ≡ 0 → drop at (word_bits word) ≡ replicate (64 - at) false
none_in word at within none =
    let whole : at + (64 - at) ≡ 64 = omega arith in
    drop-word_bits at (64 - at) word whole ∙ sym (binary-mod (64 - at) word) ∙ ap (binary (64 - at)) none ∙ binary-zero (64 - at)

-- ---- across words

-- if a word has only zeros from place `at` on, there are zeros up to the next word
pub zeros_past_word : (ws : List ℕ) (start i at d : ℕ) → start ≤ 64 * i + at → at ≤ 64 → i < length ws
    → drop start (bits_of_words ws) ≡ replicate (64 * i + at - start) false ++ drop (64 * i + at) (bits_of_words ws)
    → drop at (word_bits (get_or ws i d)) ≡ replicate (64 - at) false
    → drop start (bits_of_words ws) ≡ replicate (64 * (i + 1) + 0 - start) false ++ drop (64 * (i + 1) + 0) (bits_of_words ws)
zeros_past_word ws start i at d below small within so_far none =
    let count : 64 * i + at - start + (64 - at) ≡ 64 * (i + 1) + 0 - start = omega arith in
    let e : 64 * (i + 1) ≡ 64 * (i + 1) + 0 = omega arith in
    let rest : List Bool = bits_of_words (drop (i + 1) ws) in
    so_far
    ∙ ap (λ (l : List Bool). replicate (64 * i + at - start) false ++ l)
    (from_place ws i at d within small ∙ ap (λ (l : List Bool). l ++ rest) none)
    ∙ sym (append_assoc (replicate (64 * i + at - start) false) (replicate (64 - at) false) rest)
    ∙ ap (λ (l : List Bool). l ++ rest) (replicate-append-replicate (64 * i + at - start) (64 - at) false)
    ∙ ap₂ (λ (n : ℕ) (l : List Bool). replicate n false ++ l) count
    (bits_of_words-drop ws (i + 1) (omega arith) ∙ ap (λ (n : ℕ). drop n (bits_of_words ws)) e)

-- if a word has v zeros and a 1 from place `at` on, the zeros and this 1 are a fundamental sequence
pub zeros_up_to_one : (ws : List ℕ) (start i at d v zeros : ℕ) → start ≤ 64 * i + at → at + v < 64 → i < length ws → zeros ≡ 64 * i + (at + v) - start
    → drop start (bits_of_words ws) ≡ replicate (64 * i + at - start) false ++ drop (64 * i + at) (bits_of_words ws)
    → drop at (word_bits (get_or ws i d)) ≡ fs v ++ drop (at + v + 1) (word_bits (get_or ws i d))
    → drop start (bits_of_words ws) ≡ fs zeros ++ drop (start + zeros + 1) (bits_of_words ws)
zeros_up_to_one ws start i at d v zeros below within inside count so_far stands =
    let before : List Bool = replicate (64 * i + at - start) false in
    let after : List Bool = drop (at + v + 1) (word_bits (get_or ws i d)) in
    let rest : List Bool = bits_of_words (drop (i + 1) ws) in
    let sum : 64 * i + at - start + v ≡ zeros = omega arith in
    let one : start + zeros + 1 ≡ start + (zeros + 1) = omega arith in
    let joined : before ++ fs v ≡ fs zeros
    = sym (append_assoc before (replicate v false) (true ∷ []))
    ∙ ap (λ (l : List Bool). l ++ true ∷ []) (replicate-append-replicate (64 * i + at - start) v false ∙ ap (λ (n : ℕ). replicate n false) sum) in
    rest_after (bits_of_words ws) (fs zeros) (after ++ rest) start (zeros + 1) (length-fs zeros)
    (so_far
    ∙ ap (λ (l : List Bool). before ++ l) (from_place ws i at d inside (omega arith) ∙ ap (λ (l : List Bool). l ++ rest) stands
    ∙ append_assoc (fs v) after rest)
    ∙ sym (append_assoc before (fs v) (after ++ rest))
    ∙ ap (λ (l : List Bool). l ++ (after ++ rest)) joined)
    ∙ ap (λ (k : ℕ). fs zeros ++ drop k (bits_of_words ws)) (sym one)

-- bits that begin with a fundamental sequence have a 1
pub has_one-fs : (bits rest : List Bool) (v : ℕ) → bits ≡ fs v ++ rest → has_one bits ≡ true
has_one-fs bits rest v e = ap has_one e ∙ found v
  where
    found : (v : ℕ) → has_one (fs v ++ rest) ≡ true
    found zero = refl
    found (suc v) = found v
