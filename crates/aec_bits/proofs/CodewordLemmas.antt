-- Lemmas about codewords, and about the bytes that bits fill.
use Rattle.std.proofs.Common.{◌≡◌, ℕ, zero, suc, ◌+◌, ◌-◌, ◌*◌, ◌^◌, ◌<◌, ◌≤◌, Bool, false, List, [], ◌∷◌, ◌++◌, length, take, drop, replicate, get_or, refl, sym, ap, ◌∙◌, arith, append_assoc, length-append, mod-eq_of_lt, inl, inr}
use Rattle.std.specs.Prelude.{min}
use Rattle.std.specs.Int.{div_ceil}
use Rattle.std.specs.Simd.{first_chunks}
use Rattle.std.proofs.lemmas.Bool.{cases_lt}
use Rattle.std.proofs.lemmas.List.{append-nil, take_at, drop-append-le, length-replicate, length-map, get_or-map, drop-drop, drop_all, take_all}
use Rattle.aec_params.specs.Codewords.{binary, bits_number, bytes_of, padded_to_byte, bits_of_bytes}
use Rattle.aec_params.specs.Cutting.{pieces_of, up_to_multiple}
use Rattle.aec_bits.specs.BitReader.{has_one}
use Rattle.aec_bits.proofs.CodewordLaws.{length-binary, bits_number-append, bits_number-zeros, bits_number-binary_mod}

pub bits_of_bytes-append : (xs ys : List ℕ) → bits_of_bytes (xs ++ ys) ≡ bits_of_bytes xs ++ bits_of_bytes ys
bits_of_bytes-append [] ys = refl
bits_of_bytes-append (x ∷ xs) ys =
    ap (λ l. binary 8 x ++ l) (bits_of_bytes-append xs ys) ∙ sym (append_assoc (binary 8 x) (bits_of_bytes xs) (bits_of_bytes ys))

-- ---- bytes

length-first_chunks : {X : Type 0} (n k : ℕ) (xs : List X) → length (first_chunks n k xs) ≡ k
length-first_chunks n zero xs = refl
length-first_chunks n (suc k) xs = ap suc (length-first_chunks n k (drop n xs))

get_or-first_chunks : {X : Type 0} (n k i : ℕ) (xs : List X) → i < k → get_or (first_chunks n k xs) i [] ≡ take n (drop (n * i) xs)
get_or-first_chunks n zero i xs h = absurd (omega arith)
get_or-first_chunks n (suc k) zero xs h = let e : n * 0 ≡ 0 = omega arith in rw e refl
get_or-first_chunks n (suc k) (suc i) xs h =
    let e : n + n * i ≡ n * suc i = omega arith in
    get_or-first_chunks n k i (drop n xs) (omega arith) ∙ ap (take n) (drop-drop (n * i) n xs ∙ ap (λ m. drop m xs) e)

length-padded_to_byte : (bits : List Bool) → length (padded_to_byte bits) ≡ length bits + up_to_multiple 8 (length bits)
length-padded_to_byte bits = length-append bits _ ∙ ap (λ n. length bits + n) (length-replicate (up_to_multiple 8 (length bits)) false)

whole_bytes : (n : ℕ) → div_ceil (n + up_to_multiple 8 n) 8 ≡ div_ceil n 8
whole_bytes n = omega arith

pub length-bytes_of : (bits : List Bool) → length (bytes_of bits) ≡ div_ceil (length bits) 8
length-bytes_of bits =
    length-map (pieces_of 8 (padded_to_byte bits)) bits_number
    ∙ length-first_chunks 8 (div_ceil (length (padded_to_byte bits)) 8) (padded_to_byte bits)
    ∙ ap (λ n. div_ceil n 8) (length-padded_to_byte bits)
    ∙ whole_bytes (length bits)

pub ruleset byte_counts = (length-bytes_of)

-- ---- the bytes that bits fill

-- the eight bits of byte i: the w bits that the list has there, then zeros
eight_of : (bits : List Bool) (i w v : ℕ) → 8 * i < length bits → w ≡ min (length bits - 8 * i) 8 → drop (8 * i) bits ≡ binary w v ++ drop (8 * i + w) bits
    → take 8 (drop (8 * i) (padded_to_byte bits)) ≡ binary w v ++ replicate (8 - w) false
eight_of bits i w v within width stands =
    let zs : List Bool = replicate (up_to_multiple 8 (length bits)) false in
    let rest : List Bool = drop (8 * i + w) bits in
    let from_there : drop (8 * i) (bits ++ zs) ≡ binary w v ++ (rest ++ zs) =
    drop-append-le (8 * i) bits zs (omega arith) ∙ ap (λ l. l ++ zs) stands ∙ append_assoc (binary w v) rest zs in
    elim (cases_lt (length bits - 8 * i) 8) [
      | inl short ↦
          let none : rest ≡ [] = drop_all (8 * i + w) bits (omega arith) in
          let missing : up_to_multiple 8 (length bits) ≡ 8 - w = omega arith in
          let whole : binary w v ++ (rest ++ zs) ≡ binary w v ++ replicate (8 - w) false = rw (none, missing) refl in
          ap (take 8) (from_there ∙ whole)
          ∙ take_all 8 (binary w v ++ replicate (8 - w) false)
          (omega (arith, length-append (binary w v) (replicate (8 - w) false), length-binary w v, length-replicate (8 - w) false))
      | inr long ↦
          let none : 8 - w ≡ 0 = omega arith in
          ap (take 8) from_there ∙ take_at (binary w v) (rest ++ zs) 8 (length-binary w v ∙ omega arith)
          ∙ sym (append-nil (binary w v)) ∙ ap (λ n. binary w v ++ replicate n false) (sym none)
    ]

pub byte_at : (bits : List Bool) (i w v : ℕ) → i < length (bytes_of bits) → w ≡ min (length bits - 8 * i) 8 → v < 2 ^ w
    → drop (8 * i) bits ≡ binary w v ++ drop (8 * i + w) bits → v * 2 ^ (8 - w) ≡ get_or (bytes_of bits) i 0
byte_at bits i w v within width fits stands =
    let count : ℕ = div_ceil (length (padded_to_byte bits)) 8 in
    let pieces : length (pieces_of 8 (padded_to_byte bits)) ≡ count = length-first_chunks 8 count (padded_to_byte bits) in
    let same : length (bytes_of bits) ≡ length (pieces_of 8 (padded_to_byte bits)) = length-map (pieces_of 8 (padded_to_byte bits)) bits_number in
    let there : 8 * i < length bits = omega (arith, length-bytes_of bits) in
    let spelled : bits_number (binary w v ++ replicate (8 - w) false) ≡ v * 2 ^ (8 - w) =
    bits_number-append (binary w v) (replicate (8 - w) false)
    ∙ rw (bits_number-binary_mod, bits_number-zeros, length-replicate, mod-eq_of_lt fits) (omega arith) in
    sym (
    get_or-map bits_number (pieces_of 8 (padded_to_byte bits)) i [] 0 (omega arith)
    ∙ ap bits_number (get_or-first_chunks 8 count i (padded_to_byte bits) (omega arith) ∙ eight_of bits i w v there width stands)
    ∙ spelled)

-- ---- zeros before a 1

pub has_one-zeros : (n : ℕ) → has_one (replicate n false) ≡ false
has_one-zeros zero = refl
has_one-zeros (suc n) = has_one-zeros n

-- if only zeros follow up to the end, there is no 1
pub zeros_all : (bits : List Bool) (start i : ℕ) → length bits ≤ i
    → drop start bits ≡ replicate (i - start) false ++ drop i bits → has_one (drop start bits) ≡ false
zeros_all bits start i past so_far =
    ap has_one (so_far ∙ ap (λ l. replicate (i - start) false ++ l) (drop_all i bits past) ∙ append-nil (replicate (i - start) false))
    ∙ has_one-zeros (i - start)
