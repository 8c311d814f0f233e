-- Bits as bytes and back.
use Rattle.std.proofs.Common.{◌≡◌, ℕ, ◌*◌, ◌%◌, ◌^◌, ◌<◌, Bool, false, List, [], ◌∷◌, ◌++◌, length, map, replicate, refl, ap, sym, ◌∙◌, arith, length-append, subst}
use Rattle.std.specs.Int.{div_ceil, next_multiple_of}
use Rattle.std.specs.List.{flat_map, AllByRecursion}
use Rattle.std.proofs.lemmas.List.{append-nil, length-replicate, length-map}
use Rattle.aec_params.specs.Cutting.{pieces_of, up_to_multiple}
use Rattle.aec_params.specs.Codewords.{binary, bits_number, padded_to_byte, bytes_of, bits_of_bytes}
use Rattle.aec_params.proofs.CodewordLaws.{length-binary, bits_number-binary, bits_number-below, binary-bits_number}
use Rattle.aec_params.proofs.CuttingLaws.{pieces_of-append, pieces_of-nil, whole-pieces_of, join-pieces_of, length-pieces_of}

pub length-padded_to_byte : (bits : List Bool) → length (padded_to_byte bits) ≡ next_multiple_of (length bits) 8
length-padded_to_byte bits = simp (length-append, length-replicate)

next_multiple_of-whole : (m : ℕ) → next_multiple_of m 8 % 8 ≡ 0
next_multiple_of-whole m = omega arith

pub padded_to_byte-whole : (bits : List Bool) → length (padded_to_byte bits) % 8 ≡ 0
padded_to_byte-whole bits = ap (λ (t : ℕ). t % 8) (length-padded_to_byte bits) ∙ next_multiple_of-whole (length bits)

-- bits that fill whole bytes are not padded
pub padded_to_byte-of_whole : (bits : List Bool) → length bits % 8 ≡ 0 → padded_to_byte bits ≡ bits
padded_to_byte-of_whole bits e =
    let z : up_to_multiple 8 (length bits) ≡ 0 = omega arith in
    ap (λ (t : ℕ). bits ++ replicate t false) z ∙ append-nil bits

bits_of_groups : (groups : List (List Bool)) → AllByRecursion (λ (g : List Bool). length g ≡ 8) groups
    → bits_of_bytes (map bits_number groups) ≡ flat_map (λ (g : List Bool). g) groups
bits_of_groups [] all = refl
bits_of_groups (g ∷ groups) all =
    let e : binary 8 (bits_number g) ≡ g = ap (λ (t : ℕ). binary t (bits_number g)) (sym all.0) ∙ binary-bits_number g in
    ap (λ (t : List Bool). t ++ bits_of_bytes (map bits_number groups)) e ∙ ap (λ (t : List Bool). g ++ t) (bits_of_groups groups all.1)

pub bits_of_bytes-bytes_of : (bits : List Bool) → bits_of_bytes (bytes_of bits) ≡ padded_to_byte bits
bits_of_bytes-bytes_of bits =
    let h : 0 < 8 = omega arith in
    bits_of_groups (pieces_of 8 (padded_to_byte bits)) (whole-pieces_of 8 (padded_to_byte bits) h (padded_to_byte-whole bits))
    ∙ join-pieces_of 8 (padded_to_byte bits) h

pub length-bits_of_bytes : (bytes : List ℕ) → length (bits_of_bytes bytes) ≡ 8 * length bytes
length-bits_of_bytes [] = refl
length-bits_of_bytes (b ∷ bytes) =
    let h = length-bits_of_bytes bytes in simp (length-append, length-binary) (omega arith)

numbers_of_bits : (bytes : List ℕ) → AllByRecursion (λ (b : ℕ). b < 256) bytes → map bits_number (pieces_of 8 (bits_of_bytes bytes)) ≡ bytes
numbers_of_bits [] all = ap (map bits_number) (pieces_of-nil {X = Bool} 8 (omega arith))
numbers_of_bits (b ∷ bytes) all =
    ap (map bits_number) (pieces_of-append 8 (binary 8 b) (bits_of_bytes bytes) (omega arith) (length-binary 8 b))
    ∙ (ap (λ (t : ℕ). t ∷ map bits_number (pieces_of 8 (bits_of_bytes bytes))) (bits_number-binary 8 b all.0)
    ∙ ap (λ (t : List ℕ). b ∷ t) (numbers_of_bits bytes all.1))

pub bytes_of-bits_of_bytes : (bytes : List ℕ) → AllByRecursion (λ (b : ℕ). b < 256) bytes → bytes_of (bits_of_bytes bytes) ≡ bytes
bytes_of-bits_of_bytes bytes all =
    let e : length (bits_of_bytes bytes) % 8 ≡ 0 = omega (arith, length-bits_of_bytes bytes) in
    ap (λ (t : List Bool). map bits_number (pieces_of 8 t)) (padded_to_byte-of_whole (bits_of_bytes bytes) e) ∙ numbers_of_bits bytes all

div_ceil-next_multiple_of : (m : ℕ) → div_ceil (next_multiple_of m 8) 8 ≡ div_ceil m 8
div_ceil-next_multiple_of m = omega arith

pub length-bytes_of : (bits : List Bool) → length (bytes_of bits) ≡ div_ceil (length bits) 8
length-bytes_of bits =
    length-map (pieces_of 8 (padded_to_byte bits)) bits_number
    ∙ (length-pieces_of 8 (padded_to_byte bits) (omega arith)
    ∙ (ap (λ (t : ℕ). div_ceil t 8) (length-padded_to_byte bits) ∙ div_ceil-next_multiple_of (length bits)))

numbers-below : (groups : List (List Bool)) → AllByRecursion (λ (g : List Bool). length g ≡ 8) groups
    → AllByRecursion (λ (b : ℕ). b < 256) (map bits_number groups)
numbers-below [] all = tt
numbers-below (g ∷ groups) all =
    (subst (λ (t : ℕ). bits_number g < 2 ^ t) all.0 (bits_number-below g), numbers-below groups all.1)

pub bytes_of-below : (bits : List Bool) → AllByRecursion (λ (b : ℕ). b < 256) (bytes_of bits)
bytes_of-below bits =
    numbers-below (pieces_of 8 (padded_to_byte bits)) (whole-pieces_of 8 (padded_to_byte bits) (omega arith) (padded_to_byte-whole bits))
