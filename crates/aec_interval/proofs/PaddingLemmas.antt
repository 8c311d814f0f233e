-- The padding of an interval whose bits begin within a list.
use Rattle.std.proofs.Common.{◌≡◌, ℕ, ◌-◌, ◌%◌, ◌≤◌, Bool, true, false, List, ◌++◌, length, take, drop, replicate, arith, if◌then◌else◌}
use Rattle.std.proofs.lemmas.List.{append_assoc, length-drop, take-append-drop}
use Rattle.aec_params.specs.declared.settings.Settings.{Settings}
use Rattle.aec_params.specs.Cutting.{up_to_multiple}
use Rattle.aec_bits.proofs.ZeroLemmas.{binary-zero}
use Rattle.aec_params.specs.Codewords.{binary, padded_to_byte}

-- zeros are appended that pad the bits from `start` on
pub closed-padded : (s : Settings) (start n : ℕ) (old new : List Bool) → start ≤ length old → n ≡ length old → s.pad ≡ true
    → new ≡ old ++ binary ((8 - (n - start) % 8) % 8) 0 → new ≡ take start old ++ (if s.pad then padded_to_byte (drop start old) else drop start old)
closed-padded s start n old new within is_n pad written =
    let missing = replicate (up_to_multiple 8 (length (drop start old))) false in
    let len : n - start ≡ length (drop start old) = omega (arith, length-drop start old) in
    cc (binary-zero (up_to_multiple 8 (length (drop start old))), take-append-drop start old, append_assoc (take start old) (drop start old) missing)
