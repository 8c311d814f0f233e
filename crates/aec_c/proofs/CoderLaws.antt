-- Bytes that are taken piece by piece are the bytes of all bits.
use Rattle.std.proofs.Common.{◌≡◌, ℕ, zero, suc, ◌+◌, ◌*◌, ◌/◌, ◌<◌, ◌≤◌, Bool, false, List, ◌∷◌, ◌++◌, length, take, drop, replicate, sym, ap, ◌∙◌, arith}
use Rattle.std.proofs.lemmas.List.{take-append-le, drop-append-le, drop-drop, length-drop, length-append}
use Rattle.std.specs.Prelude.{map}
use Rattle.aec_params.specs.Cutting.{pieces_of, up_to_multiple}
use Rattle.aec_params.specs.Codewords.{bits_number, bytes_of}
use Rattle.aec_params.proofs.CuttingLaws.{pieces_of-step}
use Rattle.aec_c.specs.Coders.{TakenBytesJoin}

abbrev zeros : ℕ → List Bool
zeros n = replicate (up_to_multiple 8 n) false

first_byte : (bits : List Bool) → 8 ≤ length bits → bytes_of bits ≡ bits_number (take 8 bits) ∷ bytes_of (drop 8 bits)
first_byte bits long =
    let zs : List Bool = zeros (length bits) in
    let some : 0 < length (bits ++ zs) = omega (arith, length-append bits zs, long) in
    let up : up_to_multiple 8 (length bits) ≡ up_to_multiple 8 (length (drop 8 bits)) = omega (arith, length-drop 8 bits, long) in
    let rest : drop 8 (bits ++ zs) ≡ drop 8 bits ++ zeros (length (drop 8 bits)) =
    drop-append-le 8 bits zs long ∙ ap (λ n. drop 8 bits ++ replicate n false) up in
    ap (map bits_number) (pieces_of-step 8 (bits ++ zs) (omega arith) some)
    ∙ (ap (λ front. bits_number front ∷ map bits_number (pieces_of 8 (drop 8 (bits ++ zs)))) (take-append-le 8 bits zs long)
    ∙ ap (λ l. bits_number (take 8 bits) ∷ map bits_number (pieces_of 8 l)) rest)

joins : (k : ℕ) (bits more : List Bool) → 8 * k ≤ length bits → bytes_of (bits ++ more) ≡ take k (bytes_of bits) ++ bytes_of (drop (8 * k) bits ++ more)
joins zero bits more within = let none : 8 * 0 ≡ 0 = omega arith in ap (λ n. bytes_of (drop n bits ++ more)) (sym none)
joins (suc k) bits more within =
    let long : 8 ≤ length bits = omega (arith, within) in
    let both : 8 ≤ length (bits ++ more) = omega (arith, length-append bits more, long) in
    let further : 8 + 8 * k ≡ 8 * suc k = omega arith in
    let front : bits_number (take 8 (bits ++ more)) ∷ bytes_of (drop 8 (bits ++ more)) ≡ bits_number (take 8 bits) ∷ bytes_of (drop 8 bits ++ more) =
    ap (λ l. bits_number l ∷ bytes_of (drop 8 (bits ++ more))) (take-append-le 8 bits more long)
    ∙ ap (λ l. bits_number (take 8 bits) ∷ bytes_of l) (drop-append-le 8 bits more long) in
    let rest : drop (8 * k) (drop 8 bits) ≡ drop (8 * suc k) bits = drop-drop (8 * k) 8 bits ∙ ap (λ m. drop m bits) further in
    first_byte (bits ++ more) both ∙ (front
    ∙ (ap (λ bytes. bits_number (take 8 bits) ∷ bytes) (joins k (drop 8 bits) more (omega (arith, within, length-drop 8 bits)))
    ∙ (ap (λ l. bits_number (take 8 bits) ∷ (take k (bytes_of (drop 8 bits)) ++ bytes_of (l ++ more))) rest
    ∙ ap (λ bytes. take (suc k) bytes ++ bytes_of (drop (8 * suc k) bits ++ more)) (sym (first_byte bits long)))))

pub joined : TakenBytesJoin
joined bits more = joins (length bits / 8) bits more (omega arith)
