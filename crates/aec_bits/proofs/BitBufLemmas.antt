-- What the list of bits that words keep contains.
use Rattle.std.proofs.Common.{◌≡◌, ℕ, zero, suc, ◌+◌, ◌-◌, ◌*◌, ◌/◌, ◌%◌, ◌^◌, ◌<◌, ◌≤◌, Bool, true, false, Option, Some, None, List, [], ◌∷◌, ◌++◌, length, take, drop, replicate, map, get_or, refl, sym, ap, ◌∙◌, arith, length-append, div-one, inl, inr}
use Rattle.std.specs.Prelude.{◌==◌, MatchOption}
use Rattle.std.specs.Int.{div_ceil}
use Rattle.std.proofs.lemmas.Bool.{cases_lt}
use Rattle.std.proofs.lemmas.List.{length-replicate, append-nil, drop-append-le, drop-take, take-replicate, drop-replicate, drop-drop, get_or-drop, get_or-replicate}
use Rattle.aec_params.specs.Codewords.{fs, binary, bits_number, bytes_of, padded_to_byte}
use Rattle.aec_params.specs.Cutting.{pieces_of, up_to_multiple}
use Rattle.aec_params.proofs.CodewordLaws.{length-binary, length-fs}
use Rattle.aec_bits.specs.BitReader.{has_one}
use Rattle.aec_bits.specs.Words.{bits_of_words}
use Rattle.aec_bits.specs.Packed.{ArePacked}
use Rattle.aec_bits.proofs.CodewordLemmas.{byte_at, has_one-zeros, length-bytes_of}
use Rattle.aec_bits.proofs.OverwriteLemmas.{take-append-add}
use Rattle.aec_bits.proofs.WordLemmas.{binary-join, length-bits_of_words}
use Rattle.aec_bits.proofs.PackedLemmas.{length-packed, packed_bits}
use Rattle.aec_bits.proofs.ZeroLemmas.{binary-zero}

-- ---- bits at a place

-- bits that words have at a place are also in their list there, if they end within the list
stands_within : (bits x : List Bool) (len start n : ℕ) → length x ≡ n → start + n ≤ len → drop start bits ≡ x ++ drop (start + n) bits
    → drop start (take len bits) ≡ x ++ drop (start + n) (take len bits)
stands_within bits x len start n long within stands =
    let m : ℕ = len - (start + n) in
    let whole : start + (n + m) ≡ len = omega arith in
    let cut : start + n + m ≡ len = omega arith in
    ap (λ k. drop start (take k bits)) (sym whole) ∙ drop-take start (n + m) bits ∙ ap (take (n + m)) stands
    ∙ take-append-add x (drop (start + n) bits) n m long
    ∙ ap (λ l. x ++ l) (sym (drop-take (start + n) m bits) ∙ ap (λ k. drop (start + n) (take k bits)) cut)

pub number_within : (words : List ℕ) (len start width v : ℕ) → start + width ≤ len
    → drop start (bits_of_words words) ≡ binary width v ++ drop (start + width) (bits_of_words words)
    → drop start (take len (bits_of_words words)) ≡ binary width v ++ drop (start + width) (take len (bits_of_words words))
number_within words len start width v within stands =
    stands_within (bits_of_words words) (binary width v) len start width (length-binary width v) within stands

-- the only bit of a number below 2
one_bit : (v : ℕ) → v < 2 → (v / 2 ^ 0 % 2 == 1) ≡ (v == 1)
one_bit v small = let e : v / 2 ^ 0 % 2 ≡ v = omega (arith, div-one v) in rw e refl

-- ---- zeros before a 1

has_one-append_zeros : (bits : List Bool) (n : ℕ) → has_one (bits ++ replicate n false) ≡ has_one bits
has_one-append_zeros [] n = has_one-zeros n
has_one-append_zeros (true ∷ bits) n = refl
has_one-append_zeros (false ∷ bits) n = has_one-append_zeros bits n

-- from a place of the list on, the words have a 1 exactly if the list has one
pub has_one_within : (words : List ℕ) (len start : ℕ) → ArePacked words len → start ≤ len
    → has_one (drop start (bits_of_words words)) ≡ has_one (drop start (take len (bits_of_words words)))
has_one_within words len start held within =
    let list : List Bool = take len (bits_of_words words) in
    let there : length list ≡ len = length-packed words len (omega (arith, held.0)) in
    ap (λ l. has_one (drop start l)) (packed_bits words len held)
    ∙ ap has_one (drop-append-le start list (replicate (64 * length words - len) false) (omega arith))
    ∙ has_one-append_zeros (drop start list) (64 * length words - len)

pub one_after : (v : ℕ) (rest : List Bool) → get_or (fs v ++ rest) v false ≡ true
one_after zero rest = refl
one_after (suc v) rest = one_after v rest

-- a 1 that words have after v zeros is within their list
one_within : (words : List ℕ) (len start v : ℕ) → ArePacked words len → start + v < 64 * length words
    → drop start (bits_of_words words) ≡ fs v ++ drop (start + v + 1) (bits_of_words words) → start + v < len
one_within words len start v held within stands =
    elim (cases_lt (start + v) len) [
      | inl short ↦ short
      | inr past ↦
          let i : ℕ = start + v - len in
          let place : len + i ≡ start + v = omega arith in
          let zero_there : get_or (bits_of_words words) (start + v) false ≡ false =
          ap (λ k. get_or (bits_of_words words) k false) (sym place) ∙ sym (get_or-drop len (bits_of_words words) i false)
          ∙ ap (λ l. get_or l i false) held.1 ∙ get_or-replicate (64 * length words - len) i false false (omega arith) in
          let one_there : get_or (bits_of_words words) (start + v) false ≡ true =
          sym (get_or-drop start (bits_of_words words) v false) ∙ ap (λ l. get_or l v false) stands
          ∙ one_after v (drop (start + v + 1) (bits_of_words words)) in
          absurd (cc)
    ]

pub zeros_within : (r : Option ℕ) (words : List ℕ) (len start : ℕ) → ArePacked words len → start ≤ len
    → MatchOption r (has_one (drop start (bits_of_words words)) ≡ false)
    (λ v. (start + v < length (bits_of_words words)) × (drop start (bits_of_words words) ≡ fs v ++ drop (start + v + 1) (bits_of_words words)))
    → MatchOption r (has_one (drop start (take len (bits_of_words words))) ≡ false)
    (λ v. (start + v < len) × (drop start (take len (bits_of_words words)) ≡ fs v ++ drop (start + v + 1) (take len (bits_of_words words))))
zeros_within None words len start held within none = sym (has_one_within words len start held within) ∙ none
zeros_within (Some v) words len start held within found =
    let before = one_within words len start v held (omega (arith, found.0, length-bits_of_words words)) found.1 in
    let place : start + v + 1 ≡ start + (v + 1) = omega arith in (
      before,
      stands_within (bits_of_words words) (fs v) len start (v + 1) (length-fs v) (omega arith)
          (found.1 ∙ ap (λ k. fs v ++ drop k (bits_of_words words)) place)
          ∙ ap (λ k. fs v ++ drop k (take len (bits_of_words words))) (sym place),
    )

-- ---- zeros up to a byte boundary

pub padded_within : (words : List ℕ) (len missing : ℕ) → ArePacked words len → missing ≡ up_to_multiple 8 len
    → take (len + missing) (bits_of_words words) ≡ padded_to_byte (take len (bits_of_words words))
padded_within words len missing held count =
    let list : List Bool = take len (bits_of_words words) in
    let over : ℕ = 64 * length words - len in
    let there : length list ≡ len = length-packed words len (omega (arith, held.0)) in
    let same : up_to_multiple 8 (length list) ≡ missing = ap (up_to_multiple 8) there ∙ sym count in
    ap (take (len + missing)) (packed_bits words len held) ∙ take-append-add list (replicate over false) len missing there
    ∙ ap (λ l. list ++ l) (take-replicate missing over false (omega (arith, held.0))) ∙ ap (λ n. list ++ replicate n false) (sym same)

pub padded_packed : (words : List ℕ) (len missing : ℕ) → ArePacked words len → missing ≡ up_to_multiple 8 len → ArePacked words (len + missing)
padded_packed words len missing held count =
    let over : ℕ = 64 * length words - len in
    let less : over - missing ≡ 64 * length words - (len + missing) = omega arith in (
      omega (arith, held.0),
      sym (drop-drop missing len (bits_of_words words)) ∙ ap (drop missing) held.1 ∙ drop-replicate missing over false
          ∙ ap (λ n. replicate n false) less,
    )

pub ruleset padded = (padded_within, padded_packed)

-- ---- short fundamental sequences

pub binary-one : (v : ℕ) → binary (v + 1) 1 ≡ fs v
binary-one v = binary-join v 1 0 1 (omega arith) ∙ ap (λ l. l ++ binary 1 1) (binary-zero v)

-- ---- bytes

-- zeros added up to a byte boundary change no byte
bytes_of-padded : (bits : List Bool) → bytes_of (padded_to_byte bits) ≡ bytes_of bits
bytes_of-padded bits =
    let padded : List Bool = padded_to_byte bits in
    let none : up_to_multiple 8 (length padded) ≡ 0 =
    omega (arith, length-append bits (replicate (up_to_multiple 8 (length bits)) false), length-replicate (up_to_multiple 8 (length bits)) false) in
    ap (λ l. map bits_number (pieces_of 8 l)) (ap (λ n. padded ++ replicate n false) none ∙ append-nil padded)

pub byte_within : (words : List ℕ) (len i v : ℕ) → ArePacked words len → i < length (bytes_of (take len (bits_of_words words))) → v < 2 ^ 8
    → drop (8 * i) (bits_of_words words) ≡ binary 8 v ++ drop (8 * i + 8) (bits_of_words words)
    → v ≡ get_or (bytes_of (take len (bits_of_words words))) i 0
byte_within words len i v held within fits stands =
    let list : List Bool = take len (bits_of_words words) in
    let missing : ℕ = up_to_multiple 8 len in
    let there : length list ≡ len = length-packed words len (omega (arith, held.0)) in
    let longer : length (take (len + missing) (bits_of_words words)) ≡ len + missing = length-packed words (len + missing) (omega (arith, held.0)) in
    let same : bytes_of (take (len + missing) (bits_of_words words)) ≡ bytes_of list =
    ap bytes_of (padded_within words len missing held refl) ∙ bytes_of-padded list in
    let before : i < div_ceil len 8 = omega (arith, length-bytes_of list) in
    omega arith ∙ byte_at (take (len + missing) (bits_of_words words)) i 8 v (omega (arith, ap length same)) (omega arith) fits
    (number_within words (len + missing) (8 * i) 8 v (omega arith) stands)
    ∙ ap (λ l. get_or l i 0) same
