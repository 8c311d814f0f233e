-- Pieces of input and what they add, computed from the definitions. Each is worked out by hand from
-- the format's rules, so that a wrong definition does not check.
use Rattle.std.proofs.Common.{◌≡◌, Some, [], ◌∷◌, length, map, pos, replicate, refl}
use Rattle.aec_params.specs.declared.settings.Settings.{Settings}
use Rattle.aec_params.specs.declared.fault.Fault.TheVariants.{SampleRange, TooManySamples}
use Rattle.aec_params.specs.Codewords.{bytes_of}
use Rattle.aec_params.proofs.WorkedSettings.{usual}
use Rattle.aec_interval.specs.Feeding.{Coder, fresh_coder, taken_of, fed, fed_bits}

abbrev sixteen_bits : Settings
sixteen_bits = record usual { bits = 16 }

abbrev five_bits : Settings
five_bits = record usual { bits = 5 }

-- five samples, and twelve more: an interval is complete, one sample is held
abbrev begun : Coder
begun = fed (fresh_coder usual 17) (replicate 5 0)

pub five_are_held : begun.held ≡ map pos (replicate 5 0)
five_are_held = refl

pub five_have_no_code : fed_bits (fresh_coder usual 17) (replicate 5 0) ≡ []
five_have_no_code = refl

pub one_is_held : (fed begun (replicate 12 0)).held ≡ pos 0 ∷ []
one_is_held = refl

pub sixteen_are_coded : bytes_of (fed_bits begun (replicate 12 0)) ≡ 0x00 ∷ 0x04 ∷ []
sixteen_are_coded = refl

pub sixteen_have_14_bits : length (fed_bits begun (replicate 12 0)) ≡ 14
sixteen_have_14_bits = refl

pub seventeen_are_counted : (fed begun (replicate 12 0)).count ≡ 17
seventeen_are_counted = refl

-- one more sample is too many
pub eighteen_are_too_many : (taken_of (fed begun (replicate 12 0)) (0 ∷ [])).refusal ≡ Some (TooManySamples 17)
eighteen_are_too_many = refl

-- half a sample is left; the other half completes it
pub half_is_left : (fed (fresh_coder sixteen_bits 1) (0x34 ∷ [])).rest ≡ 0x34 ∷ []
half_is_left = refl

pub both_halves : (fed (fed (fresh_coder sixteen_bits 1) (0x34 ∷ [])) (0x12 ∷ 0x56 ∷ [])).held ≡ pos 0x1234 ∷ []
both_halves = refl

-- the limit is judged before the range
pub limit_first : (taken_of (fresh_coder five_bits 1) (0 ∷ 0x20 ∷ [])).refusal ≡ Some (TooManySamples 1)
limit_first = refl

pub range_within_the_limit : (taken_of (fresh_coder five_bits 2) (0 ∷ 0x20 ∷ 0 ∷ [])).refusal ≡ Some (SampleRange 1)
range_within_the_limit = refl
