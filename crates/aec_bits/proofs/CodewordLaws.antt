-- Laws of the numbers that bits spell, in addition to those of aec_params: joined bits, and zeros.
use Rattle.std.proofs.Common.{◌≡◌, ℕ, zero, suc, ◌+◌, ◌*◌, ◌^◌, Bool, true, false, List, [], ◌∷◌, ◌++◌, length, replicate, refl, ap, ◌∙◌, arith, length-append}
use Rattle.std.proofs.lemmas.Nat.{pow-add}
use Rattle.aec_params.specs.Codewords.{bits_number}
pub use Rattle.aec_params.proofs.CodewordLaws.{length-binary, bits_number-binary_mod}

pub bits_number-append : (xs ys : List Bool) → bits_number (xs ++ ys) ≡ bits_number xs * 2 ^ length ys + bits_number ys
bits_number-append [] ys = omega arith
bits_number-append (true ∷ xs) ys =
    let longer : 2 ^ length (xs ++ ys) ≡ 2 ^ length xs * 2 ^ length ys = ap (λ n. 2 ^ n) (length-append xs ys) ∙ pow-add 2 (length xs) (length ys) in
    rw (longer, bits_number-append xs ys) (omega arith)
bits_number-append (false ∷ xs) ys = rw (bits_number-append xs ys) (omega arith)

pub bits_number-zeros : (n : ℕ) → bits_number (replicate n false) ≡ 0
bits_number-zeros zero = refl
bits_number-zeros (suc n) = omega (arith, bits_number-zeros n)
