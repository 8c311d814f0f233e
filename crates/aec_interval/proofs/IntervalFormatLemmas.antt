-- Intervals of the format are a lawful way to code samples.
use Rattle.std.proofs.Common.{◌≡◌, ℕ, ◌-◌, ◌^◌, ◌<◌, ◌≤◌, Bool, true, false, IsTrue, ℤ, pos, negsuc, List, [], ◌∷◌, arith, FitsSigned, w64, rules}
use Rattle.std.specs.List.{list_all, AllByRecursion}
use Rattle.std.proofs.Math.Nat.{mul-le-mul}
use Rattle.std.proofs.lemmas.Bool.{and_parts}
use Rattle.aec_params.specs.declared.settings.Settings.{Settings}
use Rattle.aec_params.specs.Params.{IsAllowed, is_held, IsHeld, interval_len}
use Rattle.aec_params.proofs.ParamsLemmas.{held-positive, held-negative, values-most, pow-halves, bits-least}
use Rattle.aec_params.proofs.SettingLaws.{block_size-most}
use Rattle.aec_bits.specs.Codec.{IsInterval, IsLawful}
use Rattle.aec_interval.specs.IntervalFormat.{interval_format}
use Rattle.aec_interval.specs.Laws.{AreOfInterval}
use Rattle.aec_interval.proofs.EqualLengthLemmas.{equal_lengths}
use Rattle.aec_interval.proofs.StreamLemmas.{interval_len-positive}

held_from : (t : Bool) → t ≡ true → IsTrue t
held_from true e = search rules
held_from false e = absurd (cc)

-- numbers that pass the test are held
all-held : (s : Settings) (v : List ℤ) → list_all (is_held s) v ≡ true → AllByRecursion (IsHeld s) v
all-held s [] h = tt
all-held s (x ∷ v) h =
    let parts = and_parts (is_held s x) (list_all (is_held s) v) h in
    (held_from (is_held s x) parts.0, all-held s v parts.1)

-- an interval of the format is held samples of one interval
pub AreOfInterval-format : (s : Settings) (v : List ℤ) → IsInterval (interval_format s) v → AreOfInterval s v
AreOfInterval-format s v h = record { held = all-held s v h.held; some = h.some; fits = h.few }

interval-most : (s : Settings) → IsAllowed s → s.interval ≤ 4096
interval-most s allowed = grind arith

pub interval_len-most : (s : Settings) → IsAllowed s → interval_len s ≤ 262144
interval_len-most s a = mul-le-mul (block_size-most s a) (interval-most s a)

-- samples fit signed 64 bits
small_fits : (n : ℕ) → n < 2 ^ 32 → FitsSigned w64 (pos n)
small_fits n h = omega arith

negative_fits : (n : ℕ) → n < 2 ^ 32 → FitsSigned w64 (negsuc n)
negative_fits n h = omega arith

held_fits : (s : Settings) (x : ℤ) → IsAllowed s → IsHeld s x → FitsSigned w64 x
held_fits s (pos m) a h =
    let below : m < 2 ^ s.bits = (held-positive s m a h).0 in
    small_fits m (omega (arith, values-most s a))
held_fits s (negsuc m) a h =
    let below : m < 2 ^ (s.bits - 1) = (held-negative s m h).1 in
    negative_fits m (omega (arith, values-most s a, pow-halves s.bits (bits-least s a)))

pub interval_format-lawful : (s : Settings) → IsAllowed s → IsLawful (interval_format s)
interval_format-lawful s a = record {
  some = interval_len-positive s a;
  few = interval_len-most s a;
  in_range = λ x h. held_fits s x a (held_from (is_held s x) h);
  equal_lengths = λ v w x y h k len e.
      let ours = AreOfInterval-format s v h in
      equal_lengths s v w x y a ours.held (AreOfInterval-format s w k).held ours.some ours.fits len e;
}
