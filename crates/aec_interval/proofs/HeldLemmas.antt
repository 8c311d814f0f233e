-- Samples appended to others: all of them are held (`IsHeld`).
use Rattle.std.proofs.Common.{◌≡◌, ℕ, ◌+◌, ◌≤◌, ℤ, List, ◌++◌, length, take, arith, append_assoc, length-append}
use Rattle.std.specs.List.{AllByRecursion}
use Rattle.std.proofs.lemmas.List.{take-take, take_at, length-take-le}
use Rattle.aec_params.specs.declared.settings.Settings.{Settings}
use Rattle.aec_params.specs.Params.{IsHeld}
use Rattle.aec_params.proofs.ListLaws.{all-append}

-- the first `len` samples of `old`, which `xs` keeps, and `out` after them are held
pub held_behind : (s : Settings) (old xs out later all : List ℤ) (len end : ℕ) → all ≡ take len xs ++ (out ++ later) → len ≤ length old
    → take (length old) xs ≡ old → end ≡ len + length out → AllByRecursion (IsHeld s) (take len old) → AllByRecursion (IsHeld s) out
    → AllByRecursion (IsHeld s) (take end all)
held_behind s old xs out later all len end is within kept ends before more =
    let front : take len xs ≡ take len old = rw (← (take-take len (length old) xs within), kept) in
    let long : length (take len xs ++ out) ≡ end = grind (arith, length-append, length-take-le) in
    let whole : take end all ≡ take len old ++ out = rw (is, ← append_assoc, take_at, front) in
    rw whole (all-append (IsHeld s) (take len old) out before more)
