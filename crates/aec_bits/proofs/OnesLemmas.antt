-- The place after n 1 bits, found stretch by stretch.
use Rattle.std.proofs.Common.{◌≡◌, ℕ, zero, suc, ◌+◌, ◌-◌, ◌*◌, ◌/◌, ◌%◌, ◌^◌, ◌<◌, ◌≤◌, ◌==◌, Bool, true, false, Option, Some, None, List, [], ◌∷◌, ◌++◌, length, drop, replicate, refl, sym, ap, ◌∙◌, arith, zero-add, mod-eq_of_lt}
use Rattle.std.specs.Prelude.{count_ones}
use lib.Count.{ones-ones}
use Rattle.std.proofs.lemmas.Nat.{ones_cat, ones_le_self, mod-pow-add, mod_below, pow_pos, shr_split, shr_below}
use Rattle.std.proofs.lemmas.List.{take-append-drop, drop-drop, drop_all, length-drop}
use Rattle.aec_params.specs.Codewords.{binary}
use Rattle.aec_params.proofs.CodewordLaws.{length-binary}
use Rattle.aec_bits.specs.BitReader.{further, behind_ones}
use Rattle.aec_bits.specs.WordBits.{word_bits}
use Rattle.aec_bits.specs.Windows.{bits_from}
use Rattle.aec_bits.proofs.WordLemmas.{binary-add, binary-mod, length-word_bits}

-- ---- places further on

pub further-zero : (place : Option ℕ) → further 0 place ≡ place
further-zero None = refl
further-zero (Some m) = ap (λ n. Some n) (zero-add m)

pub further-further : (j k : ℕ) (place : Option ℕ) → further j (further k place) ≡ further (j + k) place
further-further j k None = refl
further-further j k (Some m) = let same : j + (k + m) ≡ j + k + m = omega arith in ap (λ n. Some n) same

pub further-suc : (at : ℕ) (place : Option ℕ) → further at (further 1 place) ≡ further (suc at) place
further-suc at place = let e : at + 1 ≡ suc at = omega arith in further-further at 1 place ∙ ap (λ k. further k place) e

pub record IsFurther (k : ℕ) (place : Option ℕ) (m : ℕ) : Type 0 where
  pub before : ℕ
  pub is : place ≡ Some before
  pub sum : k + before ≡ m

pub further-some : (k : ℕ) (place : Option ℕ) (m : ℕ) → further k place ≡ Some m → IsFurther k place m
further-some k None m e = absurd (cc)
further-some k (Some n) m e = record { before = n; is = refl; sum = cc }

pub further-none : (k : ℕ) (place : Option ℕ) → further k place ≡ None → place ≡ None
further-none k None e = refl
further-none k (Some m) e = absurd (cc)

-- ---- stretches of bits

-- the number of 1 bits
abbrev pub ones_among : List Bool → ℕ
ones_among [] = 0
ones_among (true ∷ bits) = 1 + ones_among bits
ones_among (false ∷ bits) = ones_among bits

-- if a stretch has fewer than n 1 bits, the n-th is after the stretch
behind_ones-past : (n : ℕ) (front rest : List Bool) → ones_among front < n
    → behind_ones n (front ++ rest) ≡ further (length front) (behind_ones (n - ones_among front) rest)
behind_ones-past zero front rest few = absurd (omega arith)
behind_ones-past (suc n) [] rest few =
    let all : suc n ≡ suc n - 0 = omega arith in
    ap (λ k. behind_ones k rest) all ∙ sym (further-zero (behind_ones (suc n - 0) rest))
behind_ones-past (suc n) (true ∷ front) rest few =
    let left : n - ones_among front ≡ suc n - (1 + ones_among front) = omega arith in
    let long : 1 + length front ≡ suc (length front) = omega arith in
    ap (further 1) (behind_ones-past n front rest (omega arith))
    ∙ further-further 1 (length front) (behind_ones (n - ones_among front) rest)
    ∙ ap (λ k. further k (behind_ones (n - ones_among front) rest)) long
    ∙ ap (λ k. further (suc (length front)) (behind_ones k rest)) left
behind_ones-past (suc n) (false ∷ front) rest few =
    let long : 1 + length front ≡ suc (length front) = omega arith in
    ap (further 1) (behind_ones-past (suc n) front rest few)
    ∙ further-further 1 (length front) (behind_ones (suc n - ones_among front) rest)
    ∙ ap (λ k. further k (behind_ones (suc n - ones_among front) rest)) long

-- if a stretch has at least n 1 bits, the n-th is in the stretch
behind_ones-inside : (n : ℕ) (front rest : List Bool) → n ≤ ones_among front → behind_ones n (front ++ rest) ≡ behind_ones n front
behind_ones-inside zero front rest enough = refl
behind_ones-inside (suc n) [] rest enough = absurd (omega arith)
behind_ones-inside (suc n) (true ∷ front) rest enough = ap (further 1) (behind_ones-inside n front rest (omega arith))
behind_ones-inside (suc n) (false ∷ front) rest enough = ap (further 1) (behind_ones-inside (suc n) front rest enough)

-- zeros contain no 1 bit, and zeros at the end change nothing
behind_ones-zeros : (n k : ℕ) → behind_ones (suc n) (replicate k false) ≡ None
behind_ones-zeros n zero = refl
behind_ones-zeros n (suc k) = ap (further 1) (behind_ones-zeros n k)

behind_ones-padded : (n k : ℕ) (bits : List Bool) → behind_ones n (bits ++ replicate k false) ≡ behind_ones n bits
behind_ones-padded zero k bits = refl
behind_ones-padded (suc n) k [] = behind_ones-zeros n k
behind_ones-padded (suc n) k (true ∷ bits) = ap (further 1) (behind_ones-padded n k bits)
behind_ones-padded (suc n) k (false ∷ bits) = ap (further 1) (behind_ones-padded (suc n) k bits)

pub behind_ones-le : (n m : ℕ) (bits : List Bool) → behind_ones n bits ≡ Some m → m ≤ length bits
behind_ones-le zero m bits e = let none : 0 ≡ m = cc in omega arith
behind_ones-le (suc n) m [] e = absurd (cc)
behind_ones-le (suc n) m (true ∷ bits) e =
    let f = further-some 1 (behind_ones n bits) m e in omega (arith, f.sum, behind_ones-le n f.before bits f.is)
behind_ones-le (suc n) m (false ∷ bits) e =
    let f = further-some 1 (behind_ones (suc n) bits) m e in omega (arith, f.sum, behind_ones-le (suc n) f.before bits f.is)

-- ---- words

ones_among-bit : (b : ℕ) (bits : List Bool) → b < 2 → ones_among ((b == 1) ∷ bits) ≡ b + ones_among bits
ones_among-bit zero bits small = sym (zero-add (ones_among bits))
ones_among-bit (suc zero) bits small = refl
ones_among-bit (suc (suc b)) bits small = absurd (omega arith)

count_ones-bit : (b : ℕ) → b < 2 → count_ones b ≡ b
count_ones-bit zero small = omega (arith, ones_le_self 0)
count_ones-bit (suc zero) small = ones-ones 1
count_ones-bit (suc (suc b)) small = absurd (omega arith)

ones_among-binary : (w v : ℕ) → ones_among (binary w v) ≡ count_ones (v % 2 ^ w)
ones_among-binary zero v = let none : v % 2 ^ 0 ≡ 0 = omega arith in sym (ap count_ones none ∙ count_ones-bit 0 (omega arith))
ones_among-binary (suc w) v =
    let bit : ℕ = v / 2 ^ w % 2 in
    let low : ℕ = v % 2 ^ w in
    let small : bit < 2 = omega arith in
    let more : suc w ≡ 1 + w = omega arith in
    let parts : v % 2 ^ suc w ≡ bit * 2 ^ w + low = ap (λ k. v % 2 ^ k) more ∙ mod-pow-add v 1 w in
    ones_among-bit bit (binary w v) small
    ∙ ap (λ k. bit + k) (ones_among-binary w v)
    ∙ ap (λ k. k + count_ones low) (sym (count_ones-bit bit small))
    ∙ sym (ap count_ones parts ∙ ones_cat w bit low (mod_below v (2 ^ w) (pow_pos w)))

pub ones_among-whole : (w v : ℕ) → v < 2 ^ w → ones_among (binary w v) ≡ count_ones v
ones_among-whole w v fits = ones_among-binary w v ∙ ap count_ones (mod-eq_of_lt fits)

-- where the n-th 1 bit of a number of 2 * w bits is: in its high half or in its low half
pub record AreHalves (w v n : ℕ) : Type 0 where
  pub high_fits : v / 2 ^ w < 2 ^ w
  pub high : n ≤ count_ones (v / 2 ^ w) → behind_ones n (binary (2 * w) v) ≡ behind_ones n (binary w (v / 2 ^ w))
  pub low : count_ones (v / 2 ^ w) < n
      → behind_ones n (binary (2 * w) v) ≡ further w (behind_ones (n - count_ones (v / 2 ^ w)) (binary w (v % 2 ^ w)))
  pub left : n ≤ count_ones v → n - count_ones (v / 2 ^ w) ≤ count_ones (v % 2 ^ w)

pub are_halves : (w v n : ℕ) → v < 2 ^ (2 * w) → AreHalves w v n
are_halves w v n fits =
    let top : ℕ = v / 2 ^ w in
    let twice : 2 * w ≡ w + w = omega arith in
    let top_fits : top < 2 ^ w = shr_fits w v (rw twice at fits) in
    let cut : binary (2 * w) v ≡ binary w top ++ binary w v = ap (λ k. binary k v) twice ∙ binary-add w w v in
    let ones : ones_among (binary w top) ≡ count_ones top = ones_among-whole w top top_fits in
    record {
      high_fits = top_fits;
      high = λ enough. ap (behind_ones n) cut ∙ behind_ones-inside n (binary w top) (binary w v) (omega (arith, ones));
      low = λ few. ap (behind_ones n) cut ∙ behind_ones-past n (binary w top) (binary w v) (omega (arith, ones))
          ∙ ap (λ k. further k (behind_ones (n - ones_among (binary w top)) (binary w v))) (length-binary w top)
          ∙ ap (λ k. further w (behind_ones (n - k) (binary w v))) ones
          ∙ ap (λ l. further w (behind_ones (n - count_ones top) l)) (sym (binary-mod w v));
      left = λ enough. omega (arith, both_halves w v);
    }
  where
    shr_fits : (w v : ℕ) → v < 2 ^ (w + w) → v / 2 ^ w < 2 ^ w
    shr_fits w v fits = shr_below v w w fits

    both_halves : (w v : ℕ) → count_ones v ≡ count_ones (v / 2 ^ w) + count_ones (v % 2 ^ w)
    both_halves w v = ap count_ones (sym (shr_split v w)) ∙ ones_cat w (v / 2 ^ w) (v % 2 ^ w) (mod_below v (2 ^ w) (pow_pos w))

pub found_in_word : (word nth bits last before gone : ℕ)
    → further 0 (behind_ones nth (binary 64 word)) ≡ further before (behind_ones last (binary 8 bits)) → Some gone ≡ behind_ones last (binary 8 bits)
    → Some (before + gone) ≡ behind_ones nth (word_bits word)
unfolding word_bits
found_in_word word nth bits last before gone same found =
    sym (sym (further-zero (behind_ones nth (binary 64 word))) ∙ same ∙ ap (further before) (sym found))

-- ---- the bits from a place on

drop-past : (n : ℕ) (bits behind : List Bool) → drop n (bits ++ behind) ≡ drop n bits ++ drop (n - length bits) behind
drop-past zero bits behind = let none : 0 ≡ 0 - length bits = omega arith in ap (λ k. bits ++ drop k behind) none
drop-past (suc n) [] behind = let all : suc n ≡ suc n - 0 = omega arith in ap (λ k. drop k behind) all
drop-past (suc n) (bit ∷ bits) behind =
    let same : n - length bits ≡ suc n - suc (length bits) = omega arith in
    drop-past n bits behind ∙ ap (λ k. drop n bits ++ drop k behind) same

drop-zeros : (m n : ℕ) → drop m (replicate n false) ≡ replicate (n - m) false
drop-zeros zero n = let all : n ≡ n - 0 = omega arith in ap (λ k. replicate k false) all
drop-zeros (suc m) zero = let none : 0 ≡ 0 - suc m = omega arith in ap (λ k. replicate k false) none
drop-zeros (suc m) (suc n) = let same : n - m ≡ suc n - suc m = omega arith in drop-zeros m n ∙ ap (λ k. replicate k false) same

-- the list from a place on, with zeros: the word at this place, then the list after it, with zeros
window_cut : (list : List Bool) (place word : ℕ) → word_bits word ≡ bits_from place 64 list
    → (k : ℕ) × (drop place list ++ replicate 64 false ≡ word_bits word ++ (drop (place + 64) list ++ replicate k false))
unfolding bits_from
window_cut list place word same =
    let padded : List Bool = drop place list ++ replicate 64 false in
    let past : ℕ = 64 - length (drop place list) in
    let behind : drop 64 padded ≡ drop (place + 64) list ++ replicate (64 - past) false =
    drop-past 64 (drop place list) (replicate 64 false)
    ∙ ap (λ l. l ++ drop past (replicate 64 false)) (drop-drop 64 place list)
    ∙ ap (λ l. drop (place + 64) list ++ l) (drop-zeros past 64) in
    (64 - past, sym (take-append-drop 64 padded) ∙ (ap (λ l. l ++ drop 64 padded) (sym same) ∙ ap (λ l. word_bits word ++ l) behind))

pub ones_in_word : (word : ℕ) → word < 2 ^ 64 → ones_among (word_bits word) ≡ count_ones word
unfolding word_bits
ones_in_word word fits = ones_among-whole 64 word fits

pub window_inside : (list : List Bool) (place word n : ℕ) → word < 2 ^ 64 → word_bits word ≡ bits_from place 64 list → n ≤ count_ones word
    → behind_ones n (drop place list) ≡ behind_ones n (word_bits word)
window_inside list place word n fits same enough =
    let cut = window_cut list place word same in
    sym (behind_ones-padded n 64 (drop place list)) ∙ ap (behind_ones n) cut.1
    ∙ behind_ones-inside n (word_bits word) (drop (place + 64) list ++ replicate cut.0 false) (omega (arith, ones_in_word word fits))

pub window_past : (list : List Bool) (place word n : ℕ) → word < 2 ^ 64 → word_bits word ≡ bits_from place 64 list → count_ones word < n
    → behind_ones n (drop place list) ≡ further 64 (behind_ones (n - count_ones word) (drop (place + 64) list))
window_past list place word n fits same few =
    let cut = window_cut list place word same in
    let rest : List Bool = drop (place + 64) list ++ replicate cut.0 false in
    sym (behind_ones-padded n 64 (drop place list)) ∙ ap (behind_ones n) cut.1
    ∙ behind_ones-past n (word_bits word) rest (omega (arith, ones_in_word word fits))
    ∙ ap (λ k. further k (behind_ones (n - ones_among (word_bits word)) rest)) (length-word_bits word)
    ∙ ap (λ k. further 64 (behind_ones (n - k) rest)) (ones_in_word word fits)
    ∙ ap (further 64) (behind_ones-padded (n - count_ones word) cut.0 (drop (place + 64) list))

-- ---- from word to word

-- if the word at a place has enough 1 bits, the search ends in this word
pub found_at : (list : List Bool) (start place word count left ones behind more : ℕ) → word < 2 ^ 64 → word_bits word ≡ bits_from place 64 list
    → ones ≡ count_ones word → left ≤ ones → Some behind ≡ behind_ones left (word_bits word) → more ≡ behind
    → behind_ones count (drop start list) ≡ further (place - start) (behind_ones left (drop place list))
    → Some (place - start + more) ≡ behind_ones count (drop start list)
found_at list start place word count left ones behind more fits same is_ones enough found is_behind so_far =
    sym (so_far ∙ ap (further (place - start)) (window_inside list place word left fits same (omega (arith, is_ones)) ∙ sym found)
    ∙ ap (λ k. Some (place - start + k)) (sym is_behind))

-- if the word has too few 1 bits, the search goes on after the word
pub goes_on : (list : List Bool) (start place word count left ones : ℕ) → start ≤ place → word < 2 ^ 64 → word_bits word ≡ bits_from place 64 list
    → ones ≡ count_ones word → ones < left
    → behind_ones count (drop start list) ≡ further (place - start) (behind_ones left (drop place list))
    → behind_ones count (drop start list) ≡ further (place + 64 - start) (behind_ones (left - ones) (drop (place + 64) list))
goes_on list start place word count left ones order fits same is_ones few so_far =
    let further_on : place - start + 64 ≡ place + 64 - start = omega arith in
    so_far ∙ ap (further (place - start)) (window_past list place word left fits same (omega (arith, is_ones)))
    ∙ further-further (place - start) 64 (behind_ones (left - count_ones word) (drop (place + 64) list))
    ∙ ap (λ k. further k (behind_ones (left - count_ones word) (drop (place + 64) list))) further_on
    ∙ ap (λ k. further (place + 64 - start) (behind_ones (left - k) (drop (place + 64) list))) (sym is_ones)

-- if no bits are left, the search fails
pub none_left : (list : List Bool) (start place count left : ℕ) → length list ≤ place → 0 < left
    → behind_ones count (drop start list) ≡ further (place - start) (behind_ones left (drop place list)) → None ≡ behind_ones count (drop start list)
none_left list start place count zero past some so_far = absurd (omega arith)
none_left list start place count (suc left) past some so_far =
    sym (so_far ∙ ap (λ l. further (place - start) (behind_ones (suc left) l)) (drop_all place list past))

-- a place that is found is within the list
pub ends_within : (list : List Bool) (start count gone : ℕ) → start ≤ length list → Some gone ≡ behind_ones count (drop start list)
    → start + gone ≤ length list
ends_within list start count gone within found =
    omega (arith, behind_ones-le count gone (drop start list) (sym found), length-drop start list)
