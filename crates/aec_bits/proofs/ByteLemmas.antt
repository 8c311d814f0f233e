-- Bytes as words, and words as bytes.
use Rattle.std.proofs.Common.{◌≡◌, ℕ, zero, suc, ◌+◌, ◌*◌, ◌/◌, ◌%◌, ◌^◌, ◌<◌, Bool, List, ◌++◌, length, take, drop, get_or, refl, sym, ap, ◌∙◌, subst, arith, append_assoc, take-add, div-one, pow-suc}
use Rattle.std.specs.Int.{w64, from_be_bytes, bytes_high_first, byte_at}
use Rattle.std.proofs.lemmas.Nat.{be_bytes_8, pow-add}
use Rattle.aec_params.specs.Codewords.{binary, bits_of_bytes}
use Rattle.aec_bits.specs.Words.{bits_of_words}
use Rattle.aec_bits.specs.Packed.{Keep}
use Rattle.aec_bits.proofs.CodewordLemmas.{bits_of_bytes-append}
use Rattle.aec_bits.proofs.WordLemmas.{binary-add, binary-mod}

-- ---- one word

pow_of_256 : (k : ℕ) → 256 ^ k ≡ 2 ^ (8 * k)
pow_of_256 zero = refl
pow_of_256 (suc k) =
    let more : 8 * suc k ≡ 8 + 8 * k = omega arith in
    rw (more, pow-add 2 8 (8 * k), pow-suc) (omega (arith, pow_of_256 k))

pub byte_of : (k n : ℕ) → byte_at k n ≡ n / 2 ^ (8 * k) % 2 ^ 8
byte_of zero n = ap (λ m. m % 256) (sym (div-one n))
byte_of (suc k) n = ap (λ m. n / m % 256) (pow_of_256 (suc k))

pub bits_of_bytes-high_first : (k n : ℕ) → bits_of_bytes (bytes_high_first k n) ≡ binary (8 * k) n
bits_of_bytes-high_first zero n = refl
bits_of_bytes-high_first (suc k) n =
    let more : 8 + 8 * k ≡ 8 * suc k = omega arith in
    ap (λ m. binary 8 m ++ bits_of_bytes (bytes_high_first k n)) (byte_of k n)
    ∙ ap (λ l. l ++ bits_of_bytes (bytes_high_first k n)) (binary-mod 8 (n / 2 ^ (8 * k)))
    ∙ ap (λ l. binary 8 (n / 2 ^ (8 * k)) ++ l) (bits_of_bytes-high_first k n)
    ∙ sym (binary-add 8 (8 * k) n) ∙ ap (λ m. binary m n) more

-- the bits of the word that eight bytes make are the bits of these bytes
pub word_bits_of_bytes : (bytes : List ℕ) (n : ℕ) → length bytes ≡ 8 → ((i : ℕ) → get_or bytes i 0 < 256) → n ≡ from_be_bytes w64 bytes
    → binary 64 n ≡ bits_of_bytes bytes
word_bits_of_bytes bytes n long small is = sym (bits_of_bytes-high_first 8 n) ∙ ap bits_of_bytes (be_bytes_8 bytes n long small is)

-- ---- lists of bytes

-- if words keep a list and the bits of bytes, and the bits of more bytes are appended, the words
-- keep the list and the bits of all these bytes
pub bytes_more : (words new front behind all : List ℕ) (list more : List Bool) (at w next : ℕ) → Keep words at (list ++ bits_of_bytes front)
    → Keep new (at + w) (take at (bits_of_words words) ++ more) → more ≡ bits_of_bytes behind → all ≡ front ++ behind → at + w ≡ next
    → Keep new next (list ++ bits_of_bytes all)
bytes_more words new front behind all list more at w next held pushed bits cut place =
    let stands : take at (bits_of_words words) ++ more ≡ list ++ bits_of_bytes all =
    ap (λ l. l ++ more) held.0 ∙ append_assoc list (bits_of_bytes front) more
    ∙ ap (λ l. list ++ (bits_of_bytes front ++ l)) bits
    ∙ ap (λ l. list ++ l) (sym (bits_of_bytes-append front behind) ∙ ap bits_of_bytes (sym cut)) in
    subst (λ n. Keep new n (list ++ bits_of_bytes all)) place (subst (λ l. Keep new (at + w) l) stands pushed)

-- the first i + 1 groups of eight bytes are the first i groups and then eight bytes
pub eight_behind : (bytes : List ℕ) (i : ℕ) → take (8 * (i + 1)) bytes ≡ take (8 * i) bytes ++ take 8 (drop (8 * i) bytes)
eight_behind bytes i =
    let more : 8 * (i + 1) ≡ 8 * i + 8 = omega arith in
    ap (λ k. take k bytes) more ∙ take-add (8 * i) 8 bytes
