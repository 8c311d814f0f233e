-- When no coded data set of one block begins the bits, or one with a value that is too large.
use Rattle.std.proofs.Common.{◌≡◌, ℕ, ◌+◌, ◌/◌, ◌^◌, Bool, true, false, Option, Some, None, Result, Ok, Err, is_ok, List, length, drop, sym, ap, ◌∙◌, refl}
use Rattle.std.specs.Option.{is_some}
use Rattle.std.specs.Result.{result_unwrap_or}
use Rattle.aec_params.specs.declared.settings.Settings.{Settings}
use Rattle.aec_params.specs.declared.fault.Fault.{Fault}
use Rattle.aec_params.specs.Params.{IsAllowed, id_len}
use Rattle.aec_params.specs.CodedDataSets.{zero_blocks, CodedDataSet, cds_bits, has_small_values}
use Rattle.aec_params.specs.Faults.{IsSetAt}
use Rattle.aec_bits.specs.BitReader.{Cursor}
use Rattle.aec_block.specs.declared.reading.Kind.{Kind}
use Rattle.aec_block.specs.declared.reading.Kind.TheVariants.{ZeroBlocks, SecondExtension, Split, NoCompression}
use Rattle.aec_block.specs.declared.cds.Cds.TheVariants.{Single}
use Rattle.aec_block.specs.ReadAt.{Taken, nothing, taken, then_at, map_taken, fs_at, binary_at, values_at, split_at, members_at, kind_at, cds_at, set_of, reference_at, set_after_reference, set_after_kind}
use Rattle.aec_block.specs.Gathering.{bits_at, when, small_values, small_members, as_taken_by}
use Rattle.aec_block.specs.BlockShape.{block_with}
use Rattle.aec_block.specs.ReadCds.{checked, cds_of, is_single, is_run_body, is_single_taken, begins_single, HasNoSingle}
use Rattle.aec_block.proofs.CodewordLemmas.{map_taken-mapped}
use Rattle.aec_block.proofs.SetLemmas.{what_is_spelled_is_read}
use Rattle.aec_block.proofs.SingleLemmas.{set_read, numbers_body, split_body, pairs_body}
use Rattle.aec_block.proofs.StandingLemmas.{when-none}

-- one of the values is too large
pub large_set : (s : Settings) (is_reference : Bool) (bits rest : List Bool) → map_taken (checked s) (cds_at s is_reference bits) ≡ taken None rest
    → HasNoSingle s is_reference bits
large_set s is_reference bits rest large c end read single =
    let both : taken (checked s c) end ≡ taken None rest = sym (ap (map_taken (checked s)) read) ∙ large in
    let none : checked s c ≡ None = cc in
    when-none (has_small_values s c) (cds_of c) none

-- the bits end before the coded data set does
pub cut_set : (s : Settings) (is_reference : Bool) (bits : List Bool) → map_taken (checked s) (cds_at s is_reference bits) ≡ nothing
    → HasNoSingle s is_reference bits
cut_set s is_reference bits cut c end read single =
    let both : taken (checked s c) end ≡ nothing = sym (ap (map_taken (checked s)) read) ∙ cut in
    absurd (cc)

-- if no identifier of a coded data set of one block begins the bits, none of one block does
pub not_begun : (s : Settings) (is_reference : Bool) (bits : List Bool) → begins_single s bits ≡ false → HasNoSingle s is_reference bits
not_begun s is_reference bits none c rest read single = by_kind (kind_at (id_len s) bits) none read
  where
    no_run : (reference : Option ℕ) (found : Taken ℕ) → map_taken (set_of reference) (map_taken zero_blocks found) ≡ taken c rest
        → has_small_values s c ≡ false
    no_run reference found there =
        let m = map_taken-mapped (set_of reference) (map_taken zero_blocks found) c rest there in
        let body = map_taken-mapped zero_blocks found m.value rest m.before in
        let same : true ≡ false = ap is_run_body body.after ∙ (ap (λ (c : CodedDataSet). is_run_body c.body) m.after ∙ single) in
        absurd (cc)

    by_reference : (kind : Kind) (t : Taken (Option ℕ)) → is_single kind ≡ false → then_at t (set_after_reference s is_reference kind) ≡ taken c rest
        → has_small_values s c ≡ false
    by_reference kind nothing none there = absurd (cc)
    by_reference ZeroBlocks (taken reference after) none there = no_run reference (fs_at after) there
    by_reference SecondExtension (taken reference after) none there = absurd (cc)
    by_reference NoCompression (taken reference after) none there = absurd (cc)
    by_reference (Split k) (taken reference after) none there = absurd (cc)

    by_kind : (t : Taken Kind) → is_single_taken t ≡ false → then_at t (set_after_kind s is_reference) ≡ taken c rest → has_small_values s c ≡ false
    by_kind nothing none there = absurd (cc)
    by_kind (taken kind behind) none there = by_reference kind (reference_at s is_reference behind) none there

-- what a reading of values says about the bits: a coded data set of one block begins them, or none
-- with small values does
pub record IsJudged (s : Settings) (reference : Option ℕ) (bits rest : List Bool) (values : List ℕ) (read : Bool) : Type 0 where
  pub there : read ≡ true → map_taken (checked s) (cds_at s (is_some reference) bits) ≡ taken (Some (Single (block_with reference values))) rest
  pub none : read ≡ false → HasNoSingle s (is_some reference) bits

-- by whether values that were read are small
judged : {E : Type 0} (s : Settings) (reference : Option ℕ) (bits rest : List Bool) (values : List ℕ) (result : Result Bool E) (read : Bool)
    → read ≡ result_unwrap_or result false
    → map_taken (checked s) (cds_at s (is_some reference) bits) ≡ as_taken_by (λ fit. when fit (Single (block_with reference values))) result rest
    → IsJudged s reference bits rest values read
judged s reference bits rest values (Ok true) read is there = record { there = λ yes. there; none = λ no. absurd (cc) }
judged s reference bits rest values (Ok false) read is there =
    record { there = λ yes. absurd (cc); none = λ no. large_set s (is_some reference) bits rest there }
judged s reference bits rest values (Err e) read is there =
    record { there = λ yes. absurd (cc); none = λ no. cut_set s (is_some reference) bits there }

-- by whether there were enough bits, if all values are small
judged_small : {X E : Type 0} (s : Settings) (reference : Option ℕ) (bits rest : List Bool) (values : List ℕ) (result : Result X E) (read : Bool)
    → read ≡ is_ok result
    → map_taken (checked s) (cds_at s (is_some reference) bits) ≡ as_taken_by (λ _. Some (Single (block_with reference values))) result rest
    → IsJudged s reference bits rest values read
judged_small s reference bits rest values (Ok x) read is there = record { there = λ yes. there; none = λ no. absurd (cc) }
judged_small s reference bits rest values (Err e) read is there =
    record { there = λ yes. absurd (cc); none = λ no. cut_set s (is_some reference) bits there }

-- without a reference sample, by the body after the identifier
pub other_numbers : (s : Settings) (kind : Kind) (width n : ℕ) (bits behind rest : List Bool) (values : List ℕ) (result : Result (Unit {0}) Fault)
    (read : Bool) → read ≡ is_ok result → kind_at (id_len s) bits ≡ taken kind behind → kind ≡ NoCompression → width ≡ s.bits → n ≡ s.block_size
    → values_at (binary_at width) n behind ≡ as_taken_by (λ _. values) result rest → IsJudged s None bits rest values read
other_numbers s kind width n bits behind rest values result read is kind_read is_kind width_is count found =
    judged_small s None bits rest values result read is
    (set_read s kind None bits behind behind _ kind_read refl (numbers_body s None kind width n behind rest values result is_kind width_is count found))

pub other_split : (s : Settings) (kind : Kind) (k n : ℕ) (bits behind rest : List Bool) (values : List ℕ) (result : Result Bool Fault) (read : Bool)
    → read ≡ result_unwrap_or result false → kind_at (id_len s) bits ≡ taken kind behind → kind ≡ Split k → n ≡ s.block_size
    → map_taken (small_values (2 ^ s.bits)) (split_at k n behind) ≡ as_taken_by (λ fit. when fit values) result rest
    → IsJudged s None bits rest values read
other_split s kind k n bits behind rest values result read is kind_read is_kind count found =
    judged s None bits rest values result read is
    (set_read s kind None bits behind behind _ kind_read refl (split_body s None kind k n behind rest values result is_kind count found))

pub other_pairs : (s : Settings) (kind : Kind) (n : ℕ) (bits behind rest : List Bool) (values : List ℕ) (result : Result Bool Fault) (read : Bool)
    → read ≡ result_unwrap_or result false → kind_at (id_len s) bits ≡ taken kind behind → kind ≡ SecondExtension → n ≡ s.block_size
    → map_taken (small_members (2 ^ s.bits) false) (members_at (n / 2) behind) ≡ as_taken_by (λ fit. when fit values) result rest
    → IsJudged s None bits rest values read
other_pairs s kind n bits behind rest values result read is kind_read is_kind count found =
    judged s None bits rest values result read is
    (set_read s kind None bits behind behind _ kind_read refl (pairs_body s None kind n behind rest values result is_kind count found))

-- by the identifier alone
pub none_judged : (s : Settings) (reference : Option ℕ) (bits rest : List Bool) (values : List ℕ) (read : Bool) → read ≡ false
    → begins_single s bits ≡ false → IsJudged s reference bits rest values read
none_judged s reference bits rest values read is none =
    record { there = λ yes. absurd (cc); none = λ no. not_begun s (is_some reference) bits none }

-- the same for an equal cursor and equal values
pub judged_to : (s : Settings) (reference : Option ℕ) (bits : List Bool) (new now : Cursor) (found values : List ℕ) (read : Bool) → now ≡ new
    → values ≡ found → IsJudged s reference bits (bits_at new) found read → IsJudged s reference bits (bits_at now) values read
judged_to s reference bits new now found values read place is judged = rw (place, is) judged

-- if no coded data set of one block with small values begins the bits, none is at the cursor's
-- position
pub none_stands : (s : Settings) (is_reference : Bool) (old : Cursor) → IsAllowed s → HasNoSingle s is_reference (bits_at old)
    → (c : CodedDataSet) → IsSetAt s is_reference old.list old.pos c → is_run_body c.body ≡ false → has_small_values s c ≡ false
none_stands s is_reference old allowed none c set single =
    let rest = drop (old.pos + length (cds_bits s c)) old.list in
    none c rest (ap (cds_at s is_reference) set.stands ∙ what_is_spelled_is_read s allowed is_reference c rest set.shape) single
