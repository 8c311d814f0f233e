-- Edits of small lists, computed from the definitions: the samples after them, and how many
-- intervals they code and open.
use Rattle.std.proofs.Common.{◌≡◌, ℕ, ◌*◌, ℤ, pos, List, [], ◌∷◌, map, replicate, take, length, refl}
use Rattle.aec_params.specs.declared.edit.Edit.{Edit}
use Rattle.aec_params.specs.declared.edit.Edit.TheVariants.{Overwrite, Append, Truncate, Insert, Remove}
use Rattle.aec_params.specs.Codewords.{bytes_of}
use Rattle.aec_params.specs.Streams.{stream_of}
use Rattle.aec_params.specs.Edits.{samples_after, touched_intervals, needed_calls, opened_intervals}
use Rattle.aec_params.proofs.WorkedSettings.{usual}

abbrev coded : List ℤ → List ℕ
coded samples = bytes_of (stream_of usual samples)

-- ---- forty-eight zeros in three intervals of 16, then one interval changed

abbrev zeros : List ℤ
zeros = samples_after [] (Append (map pos (replicate 48 0)))

pub three_intervals : coded zeros ≡ 0x00 ∷ 0x04 ∷ 0x00 ∷ 0x10 ∷ 0x00 ∷ 0x40 ∷ []
three_intervals = refl

pub three_intervals_needed : needed_calls 16 0 (Append (map pos (replicate 48 0))) ≡ 3
three_intervals_needed = refl

abbrev a_one : Edit
a_one = Overwrite 20 (pos 1 ∷ [])

pub one_interval_needed : needed_calls 16 48 a_one ≡ 1
one_interval_needed = refl

pub one_interval_opened : opened_intervals 16 48 a_one ≡ 1
one_interval_opened = refl

pub a_whole_interval_is_not_opened : opened_intervals 16 48 (Overwrite 16 (map pos (replicate 16 1))) ≡ 0
a_whole_interval_is_not_opened = refl

pub places_of_two_intervals : touched_intervals 16 15 2 ≡ 0 ∷ 1 ∷ []
places_of_two_intervals = refl

abbrev changed : List ℤ
changed = samples_after zeros a_one

pub one_changed : coded changed ≡ 0x00 ∷ 0x04 ∷ 0x40 ∷ 0x30 ∷ 0xC2 ∷ 0x00 ∷ 0x08 ∷ []
one_changed = refl

pub one_changed_bits : length (stream_of usual changed) ≡ 53
one_changed_bits = refl

-- each interval begins after the code of all samples before it
pub one_changed_offsets : map (λ i. length (stream_of usual (take (i * 16) changed))) (0 ∷ 1 ∷ 2 ∷ []) ≡ 0 ∷ 14 ∷ 39 ∷ []
one_changed_offsets = refl

-- ---- five sevens, then four samples appended and truncated again

abbrev sevens : List ℤ
sevens = samples_after [] (Append (map pos (replicate 5 7)))

abbrev four_more : Edit
four_more = Append (map pos (7 ∷ 7 ∷ 7 ∷ 8 ∷ []))

pub five_sevens : coded sevens ≡ 0x00 ∷ 0x78 ∷ []
five_sevens = refl

pub nine_samples : coded (samples_after sevens four_more) ≡ 0x00 ∷ 0x78 ∷ 0x8F ∷ []
nine_samples = refl

pub five_again : samples_after (samples_after sevens four_more) (Truncate 5) ≡ sevens
five_again = refl

pub calls_for_sevens : needed_calls 16 0 (Append sevens) ∷ needed_calls 16 5 four_more ∷ needed_calls 16 9 (Truncate 5) ∷ [] ≡ 1 ∷ 1 ∷ 1 ∷ []
calls_for_sevens = refl

-- ---- insertions and removals, beginning with forty-eight zeros

-- how many intervals of 16 an edit of a list of `old` samples codes, and how many it opens
abbrev work : ℕ → Edit → List ℕ
work old edit = needed_calls 16 old edit ∷ opened_intervals 16 old edit ∷ []

abbrev sixteen_zeros : List ℤ
sixteen_zeros = map pos (replicate 16 0)

-- a whole interval inserted at the start of another: it is coded, and none is opened
abbrev four_intervals : List ℤ
four_intervals = samples_after zeros (Insert 16 sixteen_zeros)

pub whole_comes : work 48 (Insert 16 sixteen_zeros) ≡ 1 ∷ 0 ∷ []
whole_comes = refl

pub four_intervals_coded : coded four_intervals ≡ 0x00 ∷ 0x04 ∷ 0x00 ∷ 0x10 ∷ 0x00 ∷ 0x40 ∷ 0x01 ∷ []
four_intervals_coded = refl

-- one sample inserted inside the second interval: all intervals from there on are coded
abbrev one_more : List ℤ
one_more = samples_after four_intervals (Insert 20 (pos 0 ∷ []))

pub one_comes : work 64 (Insert 20 (pos 0 ∷ [])) ≡ 4 ∷ 3 ∷ []
one_comes = refl

pub one_more_coded : coded one_more ≡ 0x00 ∷ 0x04 ∷ 0x00 ∷ 0x10 ∷ 0x00 ∷ 0x40 ∷ 0x01 ∷ 0x00 ∷ 0x08 ∷ []
one_more_coded = refl

-- a whole interval removed, then the last sample, alone in its interval: nothing is coded
abbrev forty_nine : List ℤ
forty_nine = samples_after one_more (Remove 16 16)

pub whole_goes : work 65 (Remove 16 16) ∷ work 49 (Remove 48 1) ∷ [] ≡ (0 ∷ 0 ∷ []) ∷ (0 ∷ 0 ∷ []) ∷ []
whole_goes = refl

pub forty_nine_coded : coded forty_nine ≡ 0x00 ∷ 0x04 ∷ 0x00 ∷ 0x10 ∷ 0x00 ∷ 0x40 ∷ 0x02 ∷ []
forty_nine_coded = refl

pub forty_nine_offsets : map (λ i. length (stream_of usual (take (i * 16) forty_nine))) (0 ∷ 1 ∷ 2 ∷ 3 ∷ []) ≡ 0 ∷ 14 ∷ 28 ∷ 42 ∷ []
forty_nine_offsets = refl

pub zeros_again : samples_after forty_nine (Remove 48 1) ≡ zeros
zeros_again = refl

-- the first sample removed: all three intervals are coded
abbrev forty_seven : List ℤ
forty_seven = samples_after zeros (Remove 0 1)

pub first_goes : work 48 (Remove 0 1) ≡ 3 ∷ 3 ∷ []
first_goes = refl

pub forty_seven_coded : (coded forty_seven ≡ coded zeros) × (length forty_seven ≡ 47)
forty_seven_coded = (refl, refl)

-- no values inserted at the end; 16 samples inserted inside the first interval, and removed again
pub inside_comes_and_goes : work 47 (Insert 47 []) ∷ work 47 (Insert 8 sixteen_zeros) ∷ work 63 (Remove 8 16) ∷ []
    ≡ (0 ∷ 0 ∷ []) ∷ (2 ∷ 1 ∷ []) ∷ (1 ∷ 2 ∷ []) ∷ []
inside_comes_and_goes = refl

pub forty_seven_again : samples_after (samples_after forty_seven (Insert 8 sixteen_zeros)) (Remove 8 16) ≡ forty_seven
forty_seven_again = refl

-- a removal that opens two intervals more than it codes: of 33 samples three remain
pub one_of_three : work 33 (Remove 1 30) ≡ 1 ∷ 3 ∷ []
one_of_three = refl
