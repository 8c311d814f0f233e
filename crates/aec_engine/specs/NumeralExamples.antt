-- The ranges that written-out texts spell. A wrong line here fails the check.
use Rattle.std.specs.Prelude.{◌≡◌, [], Some, None, codes, refl}
use Rattle.aec_engine.specs.Numerals.{range_in}

two_numbers : range_in (codes "2:3") ≡ Some (2, 3)
two_numbers = refl

leading_zeros : range_in (codes "007:00") ≡ Some (7, 0)
leading_zeros = refl

one_number : range_in (codes "3") ≡ None
one_number = refl

no_first : range_in (codes ":3") ≡ None
no_first = refl

two_colons : range_in (codes "1:2:3") ≡ None
two_colons = refl

plus_first : range_in (codes "+1:2") ≡ None
plus_first = refl

blank_inside : range_in (codes "1: 2") ≡ None
blank_inside = refl

empty_range : range_in [] ≡ None
empty_range = refl

greatest : range_in (codes "18446744073709551615:0") ≡ Some (18446744073709551615, 0)
greatest = refl

past_the_greatest : range_in (codes "18446744073709551616:0") ≡ None
past_the_greatest = refl
