-- The stored number of a sample, byte groups, and the first bad sample.
use Rattle.std.proofs.Common.{◌≡◌, ℕ, suc, ◌+◌, ◌-◌, ◌*◌, ◌/◌, ◌^◌, ◌%◌, ◌<◌, ◌≤◌, ◌⊎◌, inl, inr, List, [], ◌∷◌, ◌++◌, length, take, drop, refl, ap, ap₂, ◌∙◌, sym, arith, length-append}
use Rattle.std.proofs.lemmas.Bool.{cases_Bool, cond-true, cond-false, ltb-true}
use Rattle.std.proofs.lemmas.Bool.Decides.{nat_tests}
use Rattle.std.proofs.Math.Nat.{div-eq-sub-div, div-eq_of_lt, mod-eq_of_lt, mod-lt, pow-le-pow_right}
use Rattle.std.proofs.lemmas.Nat.{one_shl, pow_pos}
use Rattle.byteorder.proofs.Bytes.{pow256}
use mir.Val.{SFits, to_z}
use Rattle.std.specs.Simd.{first_chunks}
use Rattle.std.proofs.lemmas.Grind.{common_steps}
use Rattle.std.specs.Result.{result_err}
use Rattle.std.specs.Option.{is_some}
use Rattle.std.specs.Prelude.{ℤ, pos, negsuc, Bool, true, false, nat_le, nat_lt, if◌then◌else◌, ◌&&◌, Option, Some, None, Result, Ok, Err}
use Rattle.std.specs.Int.{cast_unsigned, w64}
use Rattle.aec_params.specs.declared.settings.Settings.{Settings}
use Rattle.aec_params.specs.Params.{IsAllowed, IsHeld, pattern_value, storage_len}
use Rattle.aec_params.specs.Stored.{stored_number, byte_groups, samples_of_groups, sample_of_number, number_in, sample_before, has_sign_above}
use Rattle.aec_params.proofs.ParamsLemmas.{bits-least, bits-greatest, pow-halves, low_bits-code, low_bits-negative, held-positive, held-negative}

-- a sample of n bits is stored in 1 to 4 bytes, which have room for n bits
storage-at : (three : Bool) (n : ℕ) → n ≤ 32
    → (n ≤ 8 * (if nat_le n 8 then 1 else (if nat_le n 16 then 2 else (if three && nat_le n 24 then 3 else 4))))
    × (1 ≤ (if nat_le n 8 then 1 else (if nat_le n 16 then 2 else (if three && nat_le n 24 then 3 else 4))))
    × ((if nat_le n 8 then 1 else (if nat_le n 16 then 2 else (if three && nat_le n 24 then 3 else 4))) ≤ 4)
storage-at three n few = grind (arith, nat_tests)

pub bits-stored : (s : Settings) → IsAllowed s → s.bits ≤ 8 * storage_len s
bits-stored s a = (storage-at s.three_byte s.bits (bits-greatest s a)).0

pub storage-least : (s : Settings) → IsAllowed s → 1 ≤ storage_len s
storage-least s a = (storage-at s.three_byte s.bits (bits-greatest s a)).1

pub storage-most : (s : Settings) → IsAllowed s → storage_len s ≤ 4
storage-most s a = (storage-at s.three_byte s.bits (bits-greatest s a)).2

-- the low bits of a held sample that fill its bytes are its stored number
pub low_bits-stored : (s : Settings) (x : ℤ) → IsAllowed s → IsHeld s x → cast_unsigned w64 x % 2 ^ (8 * storage_len s) ≡ stored_number s x
low_bits-stored s (pos m) a h =
    let room = pow-le-pow_right {n = 2} (omega arith) {i = s.bits} {j = 8 * storage_len s} (bits-stored s a) in
    let held = (held-positive s m a h).0 in
    mod-eq_of_lt (omega arith)
low_bits-stored s (negsuc m) a h =
    let room = pow-le-pow_right {n = 2} (omega arith) {i = s.bits} {j = 8 * storage_len s} (bits-stored s a) in
    let halves = pow-halves s.bits (bits-least s a) in
    let few = storage-most s a in
    let low = (held-negative s m h).1 in
    let next : suc m ≡ m + 1 = omega arith in
    ap (λ (k : ℕ). (2 ^ 64 - k) % 2 ^ (8 * storage_len s)) next ∙ low_bits-negative (8 * storage_len s) m (omega arith) (omega arith)

-- the stored number, as code computes it from the sample's bits u and the number w of its bytes
pub low_bits-full : (s : Settings) (x : ℤ) (u w : ℕ) → IsAllowed s → IsHeld s x → SFits w64 x
    → u ≡ cast_unsigned w64 (to_z w64 (cast_unsigned w64 x)) → w ≡ storage_len s → u % (1 * 2 ^ (8 * w) % 2 ^ 64) ≡ stored_number s x
low_bits-full s x u w a h fits e width =
    let few = storage-most s a in
    ap (λ (k : ℕ). u % (1 * 2 ^ (8 * k) % 2 ^ 64)) width ∙ low_bits-code x u (8 * storage_len s) fits e (omega arith)
    ∙ low_bits-stored s x a h

pub low_bits-lt : (s : Settings) (u w : ℕ) → IsAllowed s → w ≡ storage_len s → u % (1 * 2 ^ (8 * w) % 2 ^ 64) < 256 ^ storage_len s
low_bits-lt s u w a width =
    let few = storage-most s a in
    let fits : 8 * storage_len s < 64 = omega arith in
    let whole : 1 * 2 ^ (8 * w) % 2 ^ 64 ≡ 256 ^ storage_len s =
    ap (λ (k : ℕ). 1 * 2 ^ (8 * k) % 2 ^ 64) width ∙ one_shl (8 * storage_len s) 64 fits ∙ sym (pow256 (storage_len s)) in
    let some : 0 < 256 ^ storage_len s = rw pow256 (pow_pos (8 * storage_len s)) in
    let low = mod-lt u some in
    rw whole low

-- a whole group before other bytes is the first of their groups
first_chunks-group : (n : ℕ) (g xs : List ℕ) → 1 ≤ n → length g ≡ n
    → first_chunks n (length (g ++ xs) / n) (g ++ xs) ≡ g ∷ first_chunks n (length xs / n) xs
first_chunks-group n g xs some whole =
    let long : n ≤ length (g ++ xs) = simp length-append (omega arith) in
    let fewer : length (g ++ xs) - n ≡ length xs = simp length-append (omega arith) in
    let next : length xs / n + 1 ≡ suc (length xs / n) = omega arith in
    let count : length (g ++ xs) / n ≡ suc (length xs / n) =
    div-eq-sub-div some long ∙ ap (λ (k : ℕ). k / n + 1) fewer ∙ next in
    let front : take n (g ++ xs) ≡ g = grind (arith, common_steps) in
    let back : drop n (g ++ xs) ≡ xs = grind (arith, common_steps) in
    ap (λ (k : ℕ). first_chunks n k (g ++ xs)) count ∙ ap₂ ◌∷◌ front (ap (first_chunks n (length xs / n)) back)

pub byte_groups-group : (s : Settings) (g xs : List ℕ) → IsAllowed s → length g ≡ storage_len s → byte_groups s (g ++ xs) ≡ g ∷ byte_groups s xs
byte_groups-group s g xs a whole = first_chunks-group (storage_len s) g xs (storage-least s a) whole

-- fewer bytes than one sample takes make no group
pub byte_groups-short : (s : Settings) (xs : List ℕ) → length xs < storage_len s → byte_groups s xs ≡ []
byte_groups-short s xs short = ap (λ (k : ℕ). first_chunks (storage_len s) k xs) (div-eq_of_lt short)

-- after a good sample the first bad sample is the first bad one of the rest
pub fault-behind : (s : Settings) (i : ℕ) (o : Option ℤ) (later : Result (List ℤ) ℕ) → is_some o ≡ true
    → result_err (sample_before o i later) ≡ result_err later
fault-behind s i None later good = absurd (cc)
fault-behind s i (Some x) (Ok xs) good = refl
fault-behind s i (Some x) (Err k) good = refl

pub fault-later : (s : Settings) (i : ℕ) (g rest later : List ℕ) (o : Option ℤ) → IsAllowed s → rest ≡ g ++ later → length g ≡ storage_len s
    → o ≡ sample_of_number s (number_in s g) → is_some o ≡ true
    → result_err (samples_of_groups s i (byte_groups s rest)) ≡ result_err (samples_of_groups s (i + 1) (byte_groups s later))
fault-later s i g rest later o a cut whole sample good =
    ap (λ (bytes : List ℕ). result_err (samples_of_groups s i (byte_groups s bytes))) cut
    ∙ ap (λ (gs : List (List ℕ)). result_err (samples_of_groups s i gs)) (byte_groups-group s g later a whole)
    ∙ ap (λ (p : Option ℤ). result_err (sample_before p i (samples_of_groups s (i + 1) (byte_groups s later)))) (sym sample)
    ∙ fault-behind s i o (samples_of_groups s (i + 1) (byte_groups s later)) good

-- a bad sample before others is the first bad one
fault-at : (s : Settings) (i : ℕ) (o : Option ℤ) (later : Result (List ℤ) ℕ) → is_some o ≡ false → result_err (sample_before o i later) ≡ Some i
fault-at s i None later bad = refl
fault-at s i (Some x) later bad = absurd (cc)

pub fault-here : (s : Settings) (i : ℕ) (g rest later : List ℕ) (o : Option ℤ) → IsAllowed s → rest ≡ g ++ later → length g ≡ storage_len s
    → o ≡ sample_of_number s (number_in s g) → is_some o ≡ false → result_err (samples_of_groups s i (byte_groups s rest)) ≡ Some i
fault-here s i g rest later o a cut whole sample bad =
    ap (λ (bytes : List ℕ). result_err (samples_of_groups s i (byte_groups s bytes))) cut
    ∙ ap (λ (gs : List (List ℕ)). result_err (samples_of_groups s i gs)) (byte_groups-group s g later a whole)
    ∙ ap (λ (p : Option ℤ). result_err (sample_before p i (samples_of_groups s (i + 1) (byte_groups s later)))) (sym sample)
    ∙ fault-at s i o (samples_of_groups s (i + 1) (byte_groups s later)) bad

-- a stored number is no sample, or the sample of its low n bits
pub sample-low : (s : Settings) (u : ℕ) → (sample_of_number s u ≡ None) ⊎ (sample_of_number s u ≡ Some (pattern_value s (u % 2 ^ s.bits)))
sample-low s u =
    let low : Option ℤ = Some (pattern_value s (u % 2 ^ s.bits)) in
    let rest : Option ℤ = if s.signed && has_sign_above s u then low else None in
    elim (cases_Bool (nat_lt u (2 ^ s.bits))) as (λ w. (sample_of_number s u ≡ None) ⊎ (sample_of_number s u ≡ low)) [
      | inl plain ↦ inr (cond-true (nat_lt u (2 ^ s.bits)) (Some (pattern_value s u)) rest plain
          ∙ ap (λ (k : ℕ). Some (pattern_value s k)) (sym (mod-eq_of_lt (ltb-true u (2 ^ s.bits) plain))))
      | inr wide ↦
          let second : sample_of_number s u ≡ rest = cond-false (nat_lt u (2 ^ s.bits)) (Some (pattern_value s u)) rest wide in
          elim (cases_Bool (s.signed && has_sign_above s u)) as (λ w. (sample_of_number s u ≡ None) ⊎ (sample_of_number s u ≡ low)) [
            | inl extended ↦ inr (second ∙ cond-true (s.signed && has_sign_above s u) low None extended)
            | inr other ↦ inl (second ∙ cond-false (s.signed && has_sign_above s u) low None other)
          ]
    ]
