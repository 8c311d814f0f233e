-- The place that a reading of coded bits has reached between two calls.
use Rattle.std.specs.Prelude.{◌≡◌, ℕ, ◌+◌, ◌*◌, ◌≤◌, Bool, true, Option, List, ℤ, length}
use Rattle.aec_params.specs.declared.settings.Settings.{Settings}
use Rattle.aec_params.specs.declared.fault.Fault.{Fault}
use Rattle.aec_params.specs.Limits.{most_samples}
use Rattle.aec_interval.specs.Pieces.{Place, place_at, is_wanted_at, IsPlace, HasRead}
use Rattle.aec_interval.specs.Skipping.{IsFaultBefore}
use Rattle.aec_c.specs.declared.held_reader.Stand.{Stand}

-- a place in coded bits, and how many samples lie before it
pub record Standing : Type 0 where
  pub place : Place
  pub before : ℕ

-- a place in these bits, under the greatest limit, with `before` samples before it
abbrev pub standing_at : Settings → Option ℕ → List Bool → ℕ → ℕ → ℕ → Standing
standing_at s count bits block bit before =
    record { place = place_at s count most_samples bits block bit; before = before }

-- another place in the same bits under the same terms
abbrev pub place_in : Place → ℕ → ℕ → Place
place_in p block bit = place_at p.settings p.count p.limit p.bits block bit

-- `before` samples were read up to a place
pub record HasCounted (p : Place) (before : ℕ) : Type 0 where
  pub samples : List ℤ
  pub read : HasRead p samples
  pub counted : length samples ≡ before

-- steps lead to the place from the first bit, and its number of samples was read up to it
pub record IsStanding (r : Standing) : Type 0 where
  pub reached : IsPlace r.place
  pub has : HasCounted r.place r.before

-- the same for a place that the code keeps
abbrev pub standing_in : Place → Stand → Standing
standing_in p at = record { place = place_in p at.place.block at.place.bit; before = at.before }

-- interval k begins at a place, or all was read before it
pub record BeginsInterval (k : ℕ) (p : Place) : Type 0 where
  pub begins : is_wanted_at p ≡ true → p.block ≡ k * p.settings.interval
  pub within : p.block ≤ k * p.settings.interval

-- interval k begins `left` intervals after a place, or all was read before it
pub record IsOnWay (k left : ℕ) (p : Place) : Type 0 where
  pub begins : is_wanted_at p ≡ true → p.block + left * p.settings.interval ≡ k * p.settings.interval
  pub within : p.block + left * p.settings.interval ≤ k * p.settings.interval

-- the fault of a coded data set that would begin before interval k, in bits read from the first on
abbrev pub IsFaultOnWay : ℕ → Place → Fault → Type 0
IsFaultOnWay k p fault = IsFaultBefore p.settings p.count p.limit p.bits 0 0 (k * p.settings.interval) fault
