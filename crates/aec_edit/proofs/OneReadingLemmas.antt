-- The bytes of a stream have one reading with the number of its samples.
use Rattle.std.proofs.Common.{◌≡◌, Bool, false, ℤ, List, length, replicate, sym, ◌∙◌, subst}
use Rattle.aec_params.specs.Cutting.{up_to_multiple}
use Rattle.aec_params.specs.Codewords.{bytes_of}
use Rattle.aec_params.proofs.ByteLaws.{bits_of_bytes-bytes_of}
use Rattle.aec_bits.specs.Codec.{Format, IsLawful, AreHeld, code_of}
use Rattle.aec_bits.proofs.CodeLaws.{same_samples_follow}
use Rattle.aec_edit.specs.Workspace.{HasOneReading}

one_reading : (f : Format) (s : List ℤ) → IsLawful f → AreHeld f s → HasOneReading f (bytes_of (code_of f s)) s
one_reading f s lawful held = record {
  held = held;
  begins = (filler, bits_of_bytes-bytes_of (code_of f s));
  only = λ others rest are_held as_many is.
      (same_samples_follow f others s rest filler lawful are_held held as_many (sym is ∙ bits_of_bytes-bytes_of (code_of f s))).0;
}
  where
    filler : List Bool
    filler = replicate (up_to_multiple 8 (length (code_of f s))) false

-- the same, stated by the code's variables
pub HasOneReading-code : (f : Format) (s samples : List ℤ) → IsLawful f → AreHeld f s → samples ≡ s → HasOneReading f (bytes_of (code_of f s)) samples
HasOneReading-code f s samples lawful held is = subst (HasOneReading f (bytes_of (code_of f s))) (sym is) (one_reading f s lawful held)
