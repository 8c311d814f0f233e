-- How long runs are, and that a single block is never shorter than a run of one.
use Rattle.std.proofs.Common.{◌≡◌, ℕ, ◌+◌, ◌<◌, ◌≤◌, Bool, true, false, Option, List, [], ◌∷◌, ◌++◌, length, arith}
use Rattle.std.specs.List.{flat_map}
use Rattle.std.proofs.lemmas.List.{length-append}
use Rattle.aec_params.specs.declared.settings.Settings.{Settings}
use Rattle.aec_params.specs.Params.{IsAllowed, id_len}
use Rattle.aec_params.specs.Codewords.{fs, binary}
use Rattle.aec_params.specs.CodedDataSets.{uncompressed_values, value_pairs, split_values, zero_blocks, pair_number, pair_bits, reference_bits, cds_bits, written_count}
use Rattle.aec_params.specs.Runs.{run_code}
use Rattle.aec_params.proofs.SettingLaws.{at_least_one_bit}
use Rattle.aec_params.proofs.CodewordLaws.{length-binary, length-fs}

-- ---- runs

pub run_code-joined : (k a : ℕ) (t : Bool) → 0 < k → 0 < a → run_code (k + a) t ≤ run_code k false + run_code a t + 2
run_code-joined k a t h l = grind arith

pub run_code-last : (z : ℕ) → run_code z true ≤ run_code z false
run_code-last z = grind arith

-- ---- the least number of bits of a single block

-- the bits of a run
pub length-run : (s : Settings) (reference : Option ℕ) (m : ℕ)
    → length (cds_bits s (record { reference = reference; body = zero_blocks m })) ≡ id_len s + length (reference_bits s reference) + m + 2
length-run s reference m = grind (arith, length-append, length-binary, length-fs)

length-flat_map-least : {X : Type 0} (code : X → List Bool) (xs : List X) → ((x : X) → 0 < length (code x)) → length xs ≤ length (flat_map code xs)
length-flat_map-least code [] h = omega arith
length-flat_map-least code (x ∷ xs) h = omega (arith, length-append (code x) (flat_map code xs), length-flat_map-least code xs h)

written_count-least : (s : Settings) (t : Bool) → IsAllowed s → 7 ≤ written_count s t
written_count-least s t a = grind arith

-- a single block is never shorter than a run of one
pub plain-longer : (s : Settings) (t : Bool) (reference : Option ℕ) (values : List ℕ) → IsAllowed s → length values ≡ written_count s t
    → id_len s + length (reference_bits s reference) + 2 ≤ length (cds_bits s (record { reference = reference; body = uncompressed_values values }))
plain-longer s t reference values a h = grind (arith, length-append, length-binary, written_count-least, length-flat_map-least, at_least_one_bit)

pub split-longer : (s : Settings) (t : Bool) (reference : Option ℕ) (k : ℕ) (values : List ℕ) → IsAllowed s → length values ≡ written_count s t
    → id_len s + length (reference_bits s reference) + 2 ≤ length (cds_bits s (record { reference = reference; body = split_values k values }))
split-longer s t reference k values a h = grind (arith, length-append, length-binary, written_count-least, length-flat_map-least, length-fs)

pub pairs-longer : (s : Settings) (reference : Option ℕ) (members : List ℕ) → 2 ≤ length members
    → id_len s + length (reference_bits s reference) + 2 ≤ length (cds_bits s (record { reference = reference; body = value_pairs members }))
pairs-longer s reference [] h = absurd (omega arith)
pairs-longer s reference (a ∷ []) h = absurd (omega arith)
pairs-longer s reference (a ∷ (b ∷ members)) h =
    let head = binary (id_len s + 1) 1 in
    let r = reference_bits s reference in
    let first = fs (pair_number a b) in
    omega (
      arith,
      length-append head (r ++ (first ++ pair_bits members)),
      length-append r (first ++ pair_bits members),
      length-append first (pair_bits members),
      length-binary (id_len s + 1) 1,
      length-fs (pair_number a b),
    )
