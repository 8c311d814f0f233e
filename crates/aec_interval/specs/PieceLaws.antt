-- The laws of a reading that goes interval by interval: its steps together are the reading of all
-- bits.
use Rattle.std.specs.Prelude.{◌≡◌, ℕ, ◌%◌, Bool, true, false, Option, ℤ, List, [], ◌++◌}
use Rattle.aec_params.specs.declared.settings.Settings.{Settings}
use Rattle.aec_params.specs.declared.fault.Fault.{Fault}
use Rattle.aec_params.specs.declared.fault.Fault.TheVariants.{Memory}
use Rattle.aec_params.specs.Params.{IsAllowed}
use Rattle.aec_params.specs.Reading.{IsReading}
use Rattle.aec_interval.specs.Reached.{RefusesReading}
use Rattle.aec_interval.specs.Pieces.{Place, place_at, is_wanted_at, ReadsInterval, HasRead, RefusesAt}

-- steps from a place continue the reading of all bits, where xs are the samples up to that place;
-- the refusal of a step is the refusal of that reading
pub record StepsAreTheReading (p : Place) (xs : List ℤ) : Type 0 where
  -- the samples of a step come after xs
  pub more : (ys : List ℤ) (q : Place) → ReadsInterval p ys q → HasRead q (xs ++ ys)
  -- if no more is wanted, the bits decode to xs
  pub all : is_wanted_at p ≡ false → IsReading p.settings p.count p.limit p.bits xs
  -- the refusal of a step is that of all bits
  pub refused : (fault : Fault) → RefusesAt p fault → RefusesReading p.settings p.count p.limit p.bits 0 0 fault
  -- if the bits decode to samples, a step is refused only with `Memory`
  pub memory_only : (samples : List ℤ) (fault : Fault) → IsReading p.settings p.count p.limit p.bits samples
      → RefusesAt p fault → fault ≡ Memory
  -- if the bits decode to samples, xs is a front of them
  pub front : (samples : List ℤ) → (is_wanted_at p ≡ true → p.block % p.settings.interval ≡ 0)
      → IsReading p.settings p.count p.limit p.bits samples
      → (ys : List ℤ) × (samples ≡ xs ++ ys)

-- at the first bit nothing was read, and from there on steps are the reading
pub record AllStepsAreTheReading : Type 0 where
  pub begun : (s : Settings) (count : Option ℕ) (limit : ℕ) (bits : List Bool)
      → HasRead (place_at s count limit bits 0 0) []
  pub steps : (p : Place) (xs : List ℤ) → IsAllowed p.settings → HasRead p xs → StepsAreTheReading p xs
