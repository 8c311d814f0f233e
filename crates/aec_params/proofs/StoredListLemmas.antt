-- Lists of stored samples.
use Rattle.std.proofs.Common.{◌≡◌, ℕ, zero, suc, ◌+◌, ◌-◌, ◌*◌, ◌/◌, ◌^◌, ◌%◌, ◌<◌, ◌≤◌, ◌⊎◌, inl, inr, Bool, true, false, List, [], ◌∷◌, ◌++◌, length, take, drop, set, get_or, slice_index, refl, ap, ap₂, ◌∙◌, sym, arith, subst}
use Rattle.std.specs.Prelude.{ℤ, pos, ◌-ℤ◌, Option, Some, None, Result, Ok, nat_le, nat_lt, ◌&&◌, if◌then◌else◌}
use Rattle.std.specs.List.{AllByRecursion, flat_map}
use Rattle.std.specs.Simd.{first_chunks}
use Rattle.std.specs.Option.{is_some}
use Rattle.std.specs.Result.{result_err}
use Rattle.std.specs.Int.{w64, cast_signed}
use mir.Val.{to_z, of_z}
use Rattle.std.proofs.lemmas.Bool.{cases_lt, cases_Bool, cond-true, cond-false, lt-ltb, lt-leb, le-leb, and_from}
use Rattle.std.proofs.lemmas.Bool.Decides.{nat_tests}
use Rattle.std.proofs.lemmas.List.{get_or-drop, get_or-set_other, get_or-set_same, drop-drop}
use Rattle.std.proofs.lemmas.Nat.{one_shl, pow_pos, pow-add, le_or_l, le_or_r}
use Rattle.std.proofs.lemmas.Int.{ints}
use Rattle.std.proofs.Math.Nat.{mod-lt, mod-eq_of_lt, mul-add-mod_self_right, div-add-mod', div-eq_of_lt-le, pow-le-pow_right}
use Rattle.byteorder.proofs.Bytes.{pow256}
use Rattle.byteorder.specs.Endian.{big_bytes, little_bytes, big_number, little_number, low_bytes}
use Rattle.byteorder.specs.Numbers.{big_from-take, little_from-take, big_from-lt, little_from-lt}
use Rattle.aec_params.specs.declared.settings.Settings.{Settings}
use Rattle.aec_params.specs.Params.{IsAllowed, IsHeld, pattern_value, storage_len}
use Rattle.aec_params.specs.Stored.{stored_number, stored_bytes, samples_of_groups, samples_of_bytes, sample_of_number, number_in, sample_before, has_sign_above}
use Rattle.aec_params.specs.StoredLists.{IsOutside, AreOutside, least_extended}
use Rattle.aec_params.proofs.ParamsLemmas.{bits-least, bits-greatest, values-most, pow-halves, pattern-negative, pattern-positive, negative-held, positive-held}
use Rattle.aec_params.proofs.StoredLemmas.{bits-stored, storage-most, low_bits-stored, sample-low, fault-behind}

-- ---- one number

-- the low w bytes of a number, as code computes them, are below 256 ^ w
pub low_number-lt : (u w : ℕ) → w ≤ 4 → u % (1 * 2 ^ (8 * w) % 2 ^ 64) < 256 ^ w
low_number-lt u w few =
    let fits : 8 * w < 64 = omega arith in
    let whole : 1 * 2 ^ (8 * w) % 2 ^ 64 ≡ 256 ^ w = one_shl (8 * w) 64 fits ∙ sym (pow256 w) in
    let some : 0 < 256 ^ w = rw pow256 (pow_pos (8 * w)) in
    rw whole (mod-lt u some)

-- a number is read from the bytes of its group alone
number_in-take : (s : Settings) (g : List ℕ) → number_in s (take (storage_len s) g) ≡ number_in s g
number_in-take s g = by_order s.msb_first
  where
    by_order : (msb : Bool)
        → (if msb then big_number (storage_len s) (take (storage_len s) g) else little_number (storage_len s) (take (storage_len s) g))
        ≡ (if msb then big_number (storage_len s) g else little_number (storage_len s) g)
    by_order true = big_from-take 0 (storage_len s) (storage_len s) g (omega arith)
    by_order false = little_from-take 0 (storage_len s) (storage_len s) g (omega arith)

number_in-lt : (s : Settings) (g : List ℕ) → ((i : ℕ) → slice_index g i < 256) → number_in s g < 256 ^ storage_len s
number_in-lt s g bytes = by_order s.msb_first
  where
    by_order : (msb : Bool) → (if msb then big_number (storage_len s) g else little_number (storage_len s) g) < 256 ^ storage_len s
    by_order true = big_from-lt 0 (storage_len s) g bytes
    by_order false = little_from-lt 0 (storage_len s) g bytes

-- numbers are read in the byte order of the settings
pub number_in-big : (s : Settings) → s.msb_first ≡ true → (g : List ℕ) → number_in s g ≡ big_number (storage_len s) g
number_in-big s big g = cond-true s.msb_first (big_number (storage_len s) g) (little_number (storage_len s) g) big

pub number_in-little : (s : Settings) → s.msb_first ≡ false → (g : List ℕ) → number_in s g ≡ little_number (storage_len s) g
number_in-little s little g = cond-false s.msb_first (big_number (storage_len s) g) (little_number (storage_len s) g) little

-- the quotient by 2 ^ k of one of the last 2 ^ k numbers below 2 ^ (k + j)
last_quotient : (u k j : ℕ) → 2 ^ (k + j) - 2 ^ k ≤ u → u < 2 ^ (k + j) → u / 2 ^ k ≡ 2 ^ j - 1
last_quotient u k j above below =
    let whole : 2 ^ (k + j) ≡ 2 ^ k * 2 ^ j = pow-add 2 k j in
    let some : 1 ≤ 2 ^ j = pow_pos j in
    let one_less : (2 ^ j - 1) + 1 ≡ 2 ^ j = omega arith in
    let split : 2 ^ k * 2 ^ j ≡ (2 ^ j - 1) * 2 ^ k + 2 ^ k = ap (λ m. 2 ^ k * m) (sym one_less) ∙ omega arith in
    let again : ((2 ^ j - 1) + 1) * 2 ^ k ≡ (2 ^ j - 1) * 2 ^ k + 2 ^ k = omega arith in
    div-eq_of_lt-le (2 ^ k) (omega (arith, above, whole, split)) (omega (arith, below, whole, split, again))

either_is_some : (first second : Bool) (x y : ℤ) → (first ≡ true) ⊎ (second ≡ true)
    → is_some (if first then Some x else (if second then Some y else None)) ≡ true
either_is_some true second x y h = refl
either_is_some false true x y h = refl
either_is_some false false x y (inl at_first) = absurd (cc)
either_is_some false false x y (inr at_second) = absurd (cc)

-- a number below 2 ^ n, or from `least_extended` on, is the number of a sample
outside-sample : (s : Settings) (u : ℕ) → IsAllowed s → u < 256 ^ storage_len s → IsOutside (2 ^ s.bits) (least_extended s) u
    → is_some (sample_of_number s u) ≡ true
outside-sample s u a fits outside =
    either_is_some (nat_lt u (2 ^ s.bits)) (s.signed && has_sign_above s u) (pattern_value s u) (pattern_value s (u % 2 ^ s.bits)) (by_side outside)
  where
    k : ℕ
    k = s.bits - 1

    j : ℕ
    j = 8 * storage_len s - (s.bits - 1)

    all : s.bits - 1 + (8 * storage_len s - (s.bits - 1)) ≡ 8 * storage_len s
    all = let most = bits-stored s a in omega arith

    below : u < 2 ^ (8 * storage_len s)
    below = rw (← pow256 (storage_len s)) fits

    extended : s.signed ≡ true → least_extended s ≤ u → has_sign_above s u ≡ true
    extended signed above =
        let half : (if s.signed then 2 ^ (s.bits - 1) else 0) ≡ 2 ^ (s.bits - 1) = cond-true s.signed (2 ^ (s.bits - 1)) 0 signed in
        let same : 2 ^ (s.bits - 1 + (8 * storage_len s - (s.bits - 1))) ≡ 2 ^ (8 * storage_len s) = ap (λ n. 2 ^ n) all in
        let quotient = last_quotient u (s.bits - 1) (8 * storage_len s - (s.bits - 1)) (omega (arith, above, half, same)) (omega (arith, below, same)) in
        grind (arith, nat_tests, quotient)

    by_side : IsOutside (2 ^ s.bits) (least_extended s) u → (nat_lt u (2 ^ s.bits) ≡ true) ⊎ ((s.signed && has_sign_above s u) ≡ true)
    by_side (inl low) = inl (lt-ltb u (2 ^ s.bits) low)
    by_side (inr high) = elim (cases_Bool s.signed) [
      | inl signed ↦ inr (and_from s.signed (has_sign_above s u) signed (extended signed high))
      | inr unsigned ↦
          let none : (if s.signed then 2 ^ (s.bits - 1) else 0) ≡ 0 = cond-false s.signed (2 ^ (s.bits - 1)) 0 unsigned in
          absurd (omega (arith, high, none, below))
    ]

-- ---- the sample of the low bits of a number

-- the least number past n bits, as code computes it
pub past_bits : (s : Settings) (b : ℕ) → IsAllowed s → b ≡ s.bits → 1 * 2 ^ b % 2 ^ 64 ≡ 2 ^ s.bits
past_bits s b a e =
    let few = bits-greatest s a in
    ap (λ b. 1 * 2 ^ b % 2 ^ 64) e ∙ one_shl s.bits 64 (omega arith)

-- the low bits of u + k depend only on the low bits of u
low_bits-raised : (u k t : ℕ) → (u + k) % t ≡ (u % t + k) % t
low_bits-raised u k t =
    let whole = div-add-mod' u t in
    let split : u + k ≡ u / t * t + (u % t + k) = omega (arith, whole) in
    ap (λ (n : ℕ). n % t) split ∙ mul-add-mod_self_right (u / t) t (u % t + k)

-- (p + k) mod t, minus k, is p for the lower half of t = 2 * k patterns, and p - t for the upper
raised-value : (k t p : ℕ) → t ≡ k + k → p < t → pos ((p + k) % t) -ℤ pos k ≡ (if nat_le k p then pos p -ℤ pos t else pos p)
raised-value k t p halves below = elim (cases_lt p k) [
  | inl low ↦
      let uncut : (p + k) % t ≡ p + k = mod-eq_of_lt (omega arith) in
      let back : pos (p + k) -ℤ pos k ≡ pos p = omega (arith, ints) in
      ap (λ (n : ℕ). pos n -ℤ pos k) uncut ∙ back ∙ sym (cond-false (nat_le k p) (pos p -ℤ pos t) (pos p) (lt-leb k p low))
  | inr high ↦
      let over : p + k ≡ 1 * t + (p - k) = omega arith in
      let cut : (p + k) % t ≡ p - k =
      ap (λ (n : ℕ). n % t) over ∙ mul-add-mod_self_right 1 t (p - k) ∙ mod-eq_of_lt (omega arith) in
      let back : pos (p - k) -ℤ pos k ≡ pos p -ℤ pos t = omega (arith, ints) in
      ap (λ (n : ℕ). pos n -ℤ pos k) cut ∙ back ∙ sym (cond-true (nat_le k p) (pos p -ℤ pos t) (pos p) (le-leb k p high))
]

-- for signed samples that computation returns the sample of the low bits of any number u
raised-pattern : (s : Settings) (u : ℕ) → IsAllowed s → s.signed ≡ true
    → pos ((u + 2 ^ (s.bits - 1)) % 2 ^ s.bits) -ℤ pos (2 ^ (s.bits - 1)) ≡ pattern_value s (u % 2 ^ s.bits)
raised-pattern s u a signed =
    ap (λ (n : ℕ). pos n -ℤ pos (2 ^ (s.bits - 1))) (low_bits-raised u (2 ^ (s.bits - 1)) (2 ^ s.bits))
    ∙ raised-value (2 ^ (s.bits - 1)) (2 ^ s.bits) (u % 2 ^ s.bits) (pow-halves s.bits (bits-least s a)) (mod-lt u (pow_pos s.bits))
    ∙ ap (λ (b : Bool). if b && nat_le (2 ^ (s.bits - 1)) (u % 2 ^ s.bits) then pos (u % 2 ^ s.bits) -ℤ pos (2 ^ s.bits) else pos (u % 2 ^ s.bits)) (sym signed)

-- the difference of two numbers of 32 bits, as code computes it
difference-code : (x y : ℤ) (m k : ℕ) → m < 2 ^ 32 → k < 2 ^ 32 → x ≡ cast_signed w64 m → y ≡ cast_signed w64 k
    → to_z w64 (of_z w64 (to_z w64 (of_z w64 x) -ℤ to_z w64 (of_z w64 y))) ≡ pos m -ℤ pos k
difference-code x y m k low few first second =
    ap₂ (λ (x y : ℤ). to_z w64 (of_z w64 (to_z w64 (of_z w64 x) -ℤ to_z w64 (of_z w64 y)))) first second ∙ omega (arith, ints)

-- the sample of the low bits of u, as code computes it; b and c are the bits per sample
pub raised-sample : (s : Settings) (x y : ℤ) (u b c : ℕ) → IsAllowed s → s.signed ≡ true → b ≡ s.bits → c ≡ s.bits
    → x ≡ cast_signed w64 ((u + 1 * 2 ^ (b - 1) % 2 ^ 64) % (1 * 2 ^ c % 2 ^ 64)) → y ≡ cast_signed w64 (1 * 2 ^ (b - 1) % 2 ^ 64)
    → to_z w64 (of_z w64 (to_z w64 (of_z w64 x) -ℤ to_z w64 (of_z w64 y))) ≡ pattern_value s (u % 2 ^ s.bits)
raised-sample s x y u b c a signed bits again first second =
    let few = bits-greatest s a in
    let most = values-most s a in
    let halves = pow-halves s.bits (bits-least s a) in
    let some = pow_pos (s.bits - 1) in
    let half : 1 * 2 ^ (b - 1) % 2 ^ 64 ≡ 2 ^ (s.bits - 1) =
    ap (λ (n : ℕ). 1 * 2 ^ (n - 1) % 2 ^ 64) bits ∙ one_shl (s.bits - 1) 64 (omega arith) in
    let whole : 1 * 2 ^ c % 2 ^ 64 ≡ 2 ^ s.bits = past_bits s c a again in
    let low = mod-lt (u + 2 ^ (s.bits - 1)) (pow_pos s.bits) in
    difference-code x y ((u + 2 ^ (s.bits - 1)) % 2 ^ s.bits) (2 ^ (s.bits - 1)) (omega (arith, low, most)) (omega (arith, halves, most, some))
    (first ∙ ap₂ (λ (h w : ℕ). cast_signed w64 ((u + h) % w)) half whole) (second ∙ ap (cast_signed w64) half)
    ∙ raised-pattern s u a signed

-- the sample of each pattern is held
pub pattern-held : (s : Settings) (p : ℕ) → IsAllowed s → p < 2 ^ s.bits → IsHeld s (pattern_value s p)
pattern-held s p a below = elim (cases_Bool (s.signed && nat_le (2 ^ (s.bits - 1)) p)) [
  | inl negative ↦ subst (IsHeld s) (pattern-negative s p below negative) (negative-held s p a below negative)
  | inr positive ↦ subst (IsHeld s) (pattern-positive s p positive) (positive-held s p below positive)
]

-- ---- numbers one after the other

-- the bytes from the next number on
drop_next : (w k : ℕ) (bytes : List ℕ) → drop (w * k) (drop w bytes) ≡ drop (w * suc k) bytes
drop_next w k bytes =
    let next : w + w * k ≡ w * suc k = omega arith in
    drop-drop (w * k) w bytes ∙ ap (λ m. drop m bytes) next

-- the number of the first group
first_number : (s : Settings) (bytes : List ℕ) → number_in s (take (storage_len s) bytes) ≡ number_in s (drop (storage_len s * 0) bytes)
first_number s bytes =
    let at_start : 0 ≡ storage_len s * 0 = omega arith in
    number_in-take s bytes ∙ ap (λ m. number_in s (drop m bytes)) at_start

-- if each number is the number of a sample, no sample is bad
good_groups : (s : Settings) (n i : ℕ) (bytes : List ℕ)
    → ((k : ℕ) → k < n → is_some (sample_of_number s (number_in s (drop (storage_len s * k) bytes))) ≡ true)
    → result_err (samples_of_groups s i (first_chunks (storage_len s) n bytes)) ≡ None
good_groups s zero i bytes each = refl
good_groups s (suc n) i bytes each =
    let w = storage_len s in
    let first : is_some (sample_of_number s (number_in s (take w bytes))) ≡ true =
    ap (λ u. is_some (sample_of_number s u)) (first_number s bytes) ∙ each 0 (omega arith) in
    fault-behind s i (sample_of_number s (number_in s (take w bytes))) (samples_of_groups s (i + 1) (first_chunks w n (drop w bytes))) first
    ∙ good_groups s n (i + 1) (drop w bytes) (λ k within.
    ap (λ g. is_some (sample_of_number s (number_in s g))) (drop_next w k bytes) ∙ each (suc k) (omega arith))

-- if no sample is bad, each sample is that of its number's low n bits
sample_first : (s : Settings) (o : Option ℤ) (i : ℕ) (x : ℤ) (xs : List ℤ) (later : Result (List ℤ) ℕ) → (o ≡ None) ⊎ (o ≡ Some x)
    → result_err (sample_before o i later) ≡ None → (result_err later ≡ None → later ≡ Ok xs) → sample_before o i later ≡ Ok (x ∷ xs)
sample_first s o i x xs later (inl none) good rest =
    let bad : result_err (sample_before o i later) ≡ Some i = ap (λ p. result_err (sample_before p i later)) none in
    absurd (cc)
sample_first s o i x xs later (inr some) good rest =
    let behind : result_err later ≡ None =
    sym (fault-behind s i (Some x) later refl) ∙ ap (λ p. result_err (sample_before p i later)) (sym some) ∙ good in
    ap (λ p. sample_before p i later) some ∙ ap (sample_before (Some x) i) (rest behind)

loaded_groups : (s : Settings) (i : ℕ) (bytes : List ℕ) (xs : List ℤ)
    → ((d : ℤ) (k : ℕ) → k < length xs → get_or xs k d ≡ pattern_value s (number_in s (drop (storage_len s * k) bytes) % 2 ^ s.bits))
    → result_err (samples_of_groups s i (first_chunks (storage_len s) (length xs) bytes)) ≡ None
    → samples_of_groups s i (first_chunks (storage_len s) (length xs) bytes) ≡ Ok xs
loaded_groups s i bytes [] each good = refl
loaded_groups s i bytes (x ∷ xs) each good =
    let w = storage_len s in
    let u = number_in s (take w bytes) in
    let first : pattern_value s (u % 2 ^ s.bits) ≡ x =
    ap (λ u. pattern_value s (u % 2 ^ s.bits)) (first_number s bytes) ∙ sym (each x 0 (omega arith)) in
    let low : (sample_of_number s u ≡ None) ⊎ (sample_of_number s u ≡ Some x) =
    subst (λ y. (sample_of_number s u ≡ None) ⊎ (sample_of_number s u ≡ Some y)) first (sample-low s u) in
    sample_first s (sample_of_number s u) i x xs (samples_of_groups s (i + 1) (first_chunks w (length xs) (drop w bytes))) low good
    (loaded_groups s (i + 1) (drop w bytes) xs (λ d k within.
    each d (suc k) (omega (arith, within)) ∙ ap (λ g. pattern_value s (number_in s g % 2 ^ s.bits)) (sym (drop_next w k bytes))))

-- ---- lists

-- if all numbers, read in the byte order of the settings, are outside, no sample is bad
pub outside-none : (s : Settings) (bytes : List ℕ) (number : ℕ → List ℕ → ℕ) (w low high : ℕ) → IsAllowed s → ((i : ℕ) → slice_index bytes i < 256)
    → w ≡ storage_len s → low ≡ 2 ^ s.bits → high ≡ least_extended s → ((g : List ℕ) → number_in s g ≡ number (storage_len s) g)
    → AreOutside (number w) w bytes low high → result_err (samples_of_bytes s bytes) ≡ None
outside-none s bytes number w low high a below width first last order outside =
    good_groups s (length bytes / storage_len s) 0 bytes (λ k within. outside-sample s (number_in s (drop (storage_len s * k) bytes)) a
    (number_in-lt s (drop (storage_len s * k) bytes)
    (λ i. subst (λ n. n < 256) (sym (get_or-drop (storage_len s * k) bytes i 0)) (below (storage_len s * k + i))))
    (each k within))
  where
    each : (k : ℕ) → k < length bytes / storage_len s → IsOutside (2 ^ s.bits) (least_extended s) (number_in s (drop (storage_len s * k) bytes))
    each k within =
        subst (λ u. IsOutside (2 ^ s.bits) (least_extended s) u) (sym (order (drop (storage_len s * k) bytes)))
        (subst (λ h. IsOutside (2 ^ s.bits) h (number (storage_len s) (drop (storage_len s * k) bytes))) last
        (subst (λ l. IsOutside l high (number (storage_len s) (drop (storage_len s * k) bytes))) first
        (subst (λ w. AreOutside (number w) w bytes low high) width outside k within)))

-- the OR of two numbers is at least each of them
pub ruleset joins = (le_or_l, le_or_r)

-- if no number is from low up to high, all numbers are outside
pub nothing_between : (number : List ℕ → ℕ) (n low high : ℕ) (bytes : List ℕ) → high ≤ low → AreOutside number n bytes low high
nothing_between number n low high bytes none k within = elim (cases_lt (number (drop (n * k) bytes)) low) [
  | inl below ↦ inl below
  | inr above ↦ inr (omega (arith, above, none))
]

-- samples loaded in the byte order of the settings are those of the bytes, if none is bad
pub loaded-samples : (s : Settings) (bytes : List ℕ) (xs : List ℤ) (number : ℕ → List ℕ → ℕ) (w : ℕ) → w ≡ storage_len s
    → length xs ≡ length bytes / storage_len s → ((g : List ℕ) → number_in s g ≡ number (storage_len s) g)
    → ((d : ℤ) (k : ℕ) → k < length xs → get_or xs k d ≡ pattern_value s (number w (drop (w * k) bytes) % 2 ^ s.bits))
    → result_err (samples_of_bytes s bytes) ≡ None → samples_of_bytes s bytes ≡ Ok xs
loaded-samples s bytes xs number w width many order each good =
    let count = ap (λ n. samples_of_groups s 0 (first_chunks (storage_len s) n bytes)) (sym many) in
    count ∙ loaded_groups s 0 bytes xs (λ d k within.
    subst (λ w. get_or xs k d ≡ pattern_value s (number w (drop (w * k) bytes) % 2 ^ s.bits)) width (each d k within)
    ∙ ap (λ u. pattern_value s (u % 2 ^ s.bits)) (sym (order (drop (storage_len s * k) bytes))))
    (ap result_err (sym count) ∙ good)

-- a property that holds below place i holds below i + 1, after x with that property is stored at i
pub placed_step : (P : ℤ → Type 0) (xs : List ℤ) (i : ℕ) (x : ℤ) → i < length xs → P x → ((d : ℤ) (k : ℕ) → k < i → P (get_or xs k d))
    → (d : ℤ) (k : ℕ) → k < i + 1 → P (get_or (set xs i x) k d)
placed_step P xs i x fits holds before d k within = elim (cases_lt k i) [
  | inl below ↦ subst P (sym (get_or-set_other xs i k x d (omega arith))) (before d k below)
  | inr at ↦
      let here : i ≡ k = omega arith in
      subst (λ k. P (get_or (set xs i x) k d)) here (subst P (sym (get_or-set_same xs i x d fits)) holds)
]

pub all_from_places : (P : ℤ → Type 0) (xs : List ℤ) → ((d : ℤ) (k : ℕ) → k < length xs → P (get_or xs k d)) → AllByRecursion P xs
all_from_places P [] each = tt
all_from_places P (x ∷ xs) each = (each x 0 (omega arith), all_from_places P xs (λ d k within. each d (suc k) (omega (arith, within))))

-- the low bytes of held samples, in the byte order of the settings, are their stored bytes
pub bytes-stored : (s : Settings) (xs : List ℤ) (spelled : ℕ → ℕ → List ℕ) (w : ℕ) → IsAllowed s → w ≡ storage_len s
    → ((n : ℕ) → (if s.msb_first then big_bytes (storage_len s) n else little_bytes (storage_len s) n) ≡ spelled (storage_len s) n)
    → AllByRecursion (IsHeld s) xs → flat_map (λ x. spelled w (low_bytes w64 w x)) xs ≡ flat_map (stored_bytes s) xs
bytes-stored s xs spelled w a width order held =
    ap (λ w. flat_map (λ x. spelled w (low_bytes w64 w x)) xs) width ∙ all xs held
  where
    all : (xs : List ℤ) → AllByRecursion (IsHeld s) xs
        → flat_map (λ x. spelled (storage_len s) (low_bytes w64 (storage_len s) x)) xs ≡ flat_map (stored_bytes s) xs
    all [] held = refl
    all (x ∷ xs) held =
        ap₂ ◌++◌ (ap (spelled (storage_len s)) (low_bits-stored s x a held.0) ∙ sym (order (stored_number s x))) (all xs held.1)

-- numbers are written in the byte order of the settings
pub bytes-big : (s : Settings) → s.msb_first ≡ true
    → (n : ℕ) → (if s.msb_first then big_bytes (storage_len s) n else little_bytes (storage_len s) n) ≡ big_bytes (storage_len s) n
bytes-big s big n = cond-true s.msb_first (big_bytes (storage_len s) n) (little_bytes (storage_len s) n) big

pub bytes-little : (s : Settings) → s.msb_first ≡ false
    → (n : ℕ) → (if s.msb_first then big_bytes (storage_len s) n else little_bytes (storage_len s) n) ≡ little_bytes (storage_len s) n
bytes-little s little n = cond-false s.msb_first (big_bytes (storage_len s) n) (little_bytes (storage_len s) n) little

-- the sign bit is in the bytes of a sample
pub sign_within : (s : Settings) (b w : ℕ) → IsAllowed s → b ≡ s.bits → w ≡ storage_len s → 1 * 2 ^ (b - 1) % 2 ^ 64 ≤ 1 * 2 ^ (8 * w) % 2 ^ 64
sign_within s b w a bits width =
    let few = bits-greatest s a in
    let room = bits-stored s a in
    let most = storage-most s a in
    let sign : 1 * 2 ^ (b - 1) % 2 ^ 64 ≡ 2 ^ (b - 1) = one_shl (b - 1) 64 (omega arith) in
    let past : 1 * 2 ^ (8 * w) % 2 ^ 64 ≡ 2 ^ (8 * w) = one_shl (8 * w) 64 (omega arith) in
    omega (arith, sign, past, pow-le-pow_right {n = 2} (omega arith) {i = b - 1} {j = 8 * w} (omega arith))
