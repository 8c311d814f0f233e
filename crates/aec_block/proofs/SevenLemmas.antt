-- The last seven of eight values whose first value is 0.
use Rattle.std.proofs.Common.{◌≡◌, ℕ, ◌+◌, ◌*◌, ◌/◌, ◌%◌, ◌^◌, ◌<◌, ◌∷◌, ap, ◌∙◌, sym, subst, arith, Bool, List, length, map, take, drop, get_or, length-drop}
use Rattle.std.proofs.lemmas.List.{take_all}
use Rattle.std.proofs.lemmas.Grind.{get_or_after_one}
use Rattle.aec_params.specs.Codewords.{binary, bits_number}
use Rattle.aec_bits.proofs.CodewordLaws.{bits_number-append}
use Rattle.aec_params.proofs.CodewordLaws.{bits_number-binary, bits_number-binary_mod}
use Rattle.aec_block.specs.HighWords.{GoesOn}
use Rattle.aec_block.specs.Written.{high_parts, low_parts, Spells}
use Rattle.std.proofs.Math.Nat.{zero-mod}
use Rattle.aec_block.proofs.LengthLemmas.{length-low_parts}
use Rattle.aec_block.proofs.CodewordLemmas.{bits_number-lt, binary-bits_number}
use Rattle.aec_block.proofs.HighWordLemmas.{lane-shifted}

-- lane i + 1 has value i of the last seven, without its k low bits
pub lane-of_seven : (k i high d : ℕ) (values highs : List ℕ) → highs ≡ map (λ v. v / 2 ^ k) values → length values ≡ 8 → i < 7
    → high ≡ get_or highs (i + 1) d → high ≡ get_or (drop 1 values) i 0 / 2 ^ k
lane-of_seven k i high d values highs are eight within read =
    lane-shifted k (i + 1) high d values highs are (omega arith) read
    ∙ ap (λ (v : ℕ). v / 2 ^ k) (ap (λ j. get_or values j 0) (omega arith) ∙ sym (get_or_after_one values i 0))

-- the low bits of the first value, 0, add nothing
pub low_of_seven : (k word : ℕ) (all rest : List ℕ) → all ≡ 0 ∷ rest → length all ≡ 8
    → Spells (length all * k) (low_parts k all) word → Spells (7 * k) (low_parts k rest) word
low_of_seven k word all rest first eight spells =
    let low = low_parts k rest in
    let len : length low ≡ 7 * k = length-low_parts k rest ∙ ap (λ n. n * k) (omega (arith, ap (length {A = ℕ}) first, eight)) in
    let none : bits_number (binary k (0 % 2 ^ k)) ≡ 0 = bits_number-binary_mod k (0 % 2 ^ k) ∙ ap (λ n. n % 2 ^ k) (zero-mod (2 ^ k)) ∙ zero-mod (2 ^ k) in
    let split : bits_number (low_parts k (0 ∷ rest)) ≡ bits_number low =
    bits_number-append (binary k (0 % 2 ^ k)) low ∙ ap (λ n. n * 2 ^ length low + bits_number low) none ∙ omega arith in
    let is : word ≡ bits_number low =
    sym (bits_number-binary (length all * k) word spells.below) ∙ ap bits_number (spells.bits ∙ ap (low_parts k) first) ∙ split in
    record {
      below = subst (λ n. word < 2 ^ n) len (subst (λ n. n < 2 ^ length low) (sym is) (bits_number-lt low));
      bits = ap (λ n. binary n word) (sym len) ∙ ap (binary (length low)) is ∙ binary-bits_number low;
    }

pub length-low_of_seven : (k : ℕ) (all : List ℕ) → length all ≡ 8 → length (low_parts k (drop 1 all)) ≡ 7 * k
length-low_of_seven k all eight = length-low_parts k (drop 1 all) ∙ ap (λ n. n * k) (omega (arith, length-drop 1 all, eight))

-- after seven steps, the word has the codewords of all seven values
pub is_seven : (k i : ℕ) (all : List ℕ) (word : ℕ) → length all ≡ 8 → i ≡ 7 → GoesOn k 0 0 (take i (drop 1 all)) word
    → Spells (length (high_parts k (drop 1 all))) (high_parts k (drop 1 all)) word
is_seven k i all word eight end so_far =
    let rest = drop 1 all in
    let whole : take i rest ≡ rest = take_all i rest (omega (arith, length-drop 1 all, eight, end)) in
    let done = subst (λ (vs : List ℕ). GoesOn k 0 0 vs word) whole so_far in
    let same : 0 + length (high_parts k rest) ≡ length (high_parts k rest) = omega arith in
    record { below = subst (λ n. word < 2 ^ n) same done.below; bits = ap (λ n. binary n word) (sym same) ∙ done.bits }

-- the bits of a number, with their length by another name
pub spelled : (len : ℕ) (bits : List Bool) (word : ℕ) → len ≡ length bits → binary (length bits) word ≡ bits → binary len word ≡ bits
spelled len bits word is same = ap (λ n. binary n word) is ∙ same
