-- Samples as they are stored: which bytes a sample has, and which samples bytes are.
use Rattle.std.specs.Prelude.{◌≡◌, ℕ, ◌+◌, ◌-◌, ◌*◌, ◌/◌, ◌%◌, ◌^◌, Bool, ◌&&◌, nat_lt, ◌==◌, if◌then◌else◌, Option, Some, None, Result, Ok, Err, List, [], ◌∷◌, ◌++◌, length, ℤ, pos, negsuc}
use Rattle.std.specs.Simd.{first_chunks}
use Rattle.byteorder.specs.Endian.{big_bytes, little_bytes, big_number, little_number}
use Rattle.aec_params.specs.declared.settings.Settings.{Settings}
use Rattle.aec_params.specs.declared.fault.Fault.{Fault}
use Rattle.aec_params.specs.declared.fault.Fault.TheVariants.{SampleRange, Memory}
use Rattle.aec_params.specs.Params.{storage_len, pattern_value}

-- the number that all bits of a sample's bytes spell: the unused bits are 0 if unsigned, and copies
-- of the sign if signed (§2; by the sign, where the code takes a remainder)
abbrev pub stored_number : Settings → ℤ → ℕ
stored_number s (pos m) = m
stored_number s (negsuc m) = 2 ^ (8 * storage_len s) - (m + 1)

-- the bytes of a sample, in the order of the settings (§2; by the library's digits of a number,
-- where the code calls `byteorder`)
abbrev pub stored_bytes : Settings → ℤ → List ℕ
stored_bytes s x =
    if s.msb_first then big_bytes (storage_len s) (stored_number s x)
    else little_bytes (storage_len s) (stored_number s x)

-- the number that the bytes of one sample spell: the inverse of how `stored_bytes` writes one (§2)
abbrev pub number_in : Settings → List ℕ → ℕ
number_in s bytes =
    if s.msb_first then big_number (storage_len s) bytes else little_number (storage_len s) bytes

-- whether the sign bit, bit n - 1, and all bits above it are set (§2; by a quotient, where the code
-- shifts)
abbrev pub has_sign_above : Settings → ℕ → Bool
has_sign_above s u =
    (u / 2 ^ (s.bits - 1) == 2 ^ (8 * storage_len s - (s.bits - 1)) - 1)

-- the sample of a stored number: its unused bits are zero, or copies of its sign if samples are
-- signed (§2)
abbrev pub sample_of_number : Settings → ℕ → Option ℤ
sample_of_number s u =
    if nat_lt u (2 ^ s.bits) then Some (pattern_value s u)
    else (if s.signed && has_sign_above s u then Some (pattern_value s (u % 2 ^ s.bits)) else None)

-- the groups of bytes that hold one sample each; bytes at the end that fill no group are in none
-- (§2; the list of groups, where the code walks over pieces of a slice)
abbrev pub byte_groups : Settings → List ℕ → List (List ℕ)
byte_groups s bytes = first_chunks (storage_len s) (length bytes / storage_len s) bytes

-- a sample before later samples; if the sample is missing, its index i is the result (§2)
abbrev pub sample_before : Option ℤ → ℕ → Result (List ℤ) ℕ → Result (List ℤ) ℕ
sample_before None i later = Err i
sample_before (Some x) i (Ok xs) = Ok (x ∷ xs)
sample_before (Some x) i (Err k) = Err k

-- the samples of the groups, or the place, counted from i, of the first group that is no sample
-- (§2)
abbrev pub samples_of_groups : Settings → ℕ → List (List ℕ) → Result (List ℤ) ℕ
samples_of_groups s i [] = Ok []
samples_of_groups s i (g ∷ gs) = sample_before (sample_of_number s (number_in s g)) i (samples_of_groups s (i + 1) gs)

-- the samples that bytes hold, or the index of the first group that is no sample (§2; one function
-- with both results, where the code reads the bytes twice: to check them, then to take their
-- samples)
abbrev pub samples_of_bytes : Settings → List ℕ → Result (List ℤ) ℕ
samples_of_bytes s bytes = samples_of_groups s 0 (byte_groups s bytes)

-- given samples followed by those of the bytes, or the index of the first group that is no sample
abbrev pub samples_behind : List ℤ → Result (List ℤ) ℕ → Result (List ℤ) ℕ
samples_behind xs (Ok ys) = Ok (xs ++ ys)
samples_behind xs (Err k) = Err k

-- What a call that reads stored samples returns. If all are samples of the settings: a value of
-- which `view` is their list, or `Memory`. Else `SampleRange` with the index of the first that is
-- none, never `Memory`. (§2)
abbrev pub AnswersSamples : {X : Type 0} → (X → List ℤ) → Result (List ℤ) ℕ → Result X Fault → Type 0
AnswersSamples view (Ok xs) (Ok answer) = view answer ≡ xs
AnswersSamples view (Ok xs) (Err e) = e ≡ Memory
AnswersSamples view (Err index) answer = answer ≡ Err (SampleRange index)
