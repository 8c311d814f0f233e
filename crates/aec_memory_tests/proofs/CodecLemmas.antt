-- When samples are an interval of a codec.
use Rattle.std.specs.Prelude.{◌≡◌, ◌≤◌, ℤ, List, None, length}
use Rattle.aec_bits.specs.Codec.{Format, IsInterval}
use Rattle.aec_bits.specs.Refusals.{first_unheld}
use Rattle.aec_edit.proofs.HeldLemmas.{held-from_none}

-- samples that are all held, at least one and no more than an interval has, are an interval
pub interval_of_held : (f : Format) (v : List ℤ) → first_unheld f.holds 0 v ≡ None → 1 ≤ length v → length v ≤ f.most → IsInterval f v
interval_of_held f v h some few = record { some = some; few = few; held = held-from_none f.holds 0 v h }
