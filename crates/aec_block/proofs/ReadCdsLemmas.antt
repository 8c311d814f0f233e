-- What the parts of a coded data set stand for, from the bits that were taken.
use Rattle.std.proofs.Common.{◌≡◌, ℕ, ◌+◌, ◌-◌, ◌/◌, ◌^◌, ◌<◌, ◌≤◌, Bool, true, false, Option, Some, None, List, refl, sym, ap, ◌∙◌, arith}
use Rattle.std.specs.Option.{is_some}
use Rattle.std.specs.List.{AllByRecursion}
use Rattle.std.proofs.lemmas.Nat.{pow_pos}
use Rattle.aec_params.specs.declared.settings.Settings.{Settings}
use Rattle.aec_params.specs.Codewords.{fs, binary}
use Rattle.aec_params.specs.Blocks.{Block}
use Rattle.aec_params.specs.Places.{block_of_values}
use Rattle.aec_params.specs.CodedDataSets.{uncompressed_values, written_count}
use Rattle.aec_block.specs.declared.cds.Cds.TheVariants.{Single}
use Rattle.aec_block.specs.declared.reading.Kind.{Kind}
use Rattle.aec_block.specs.declared.reading.Kind.TheVariants.{NoCompression}
use Rattle.aec_bits.specs.BitReader.{AreBelow}
use Rattle.aec_block.specs.ReadAt.{taken, map_taken, fs_at, binary_at, values_at, split_at, joined_values, body_at}
use Rattle.aec_block.specs.Gathering.{when, all_below, small_values}
use Rattle.aec_block.specs.ReadCds.{checked_body}
use Rattle.aec_block.proofs.CodewordLemmas.{map_taken-mapped, binary_reader, fs_reader, values_at-spelled}
use Rattle.aec_block.proofs.JoiningLemmas.{below-from_test, test-from_below, highs_below, joined_below, high_fails}

-- ---- split values

record SameWhen (b c : Bool) (x y : List ℕ) : Type 0 where
  test : b ≡ c
  value : b ≡ true → x ≡ y

when_same : (b c : Bool) (x y : List ℕ) → when b x ≡ when c y → SameWhen b c x y
when_same true true x y e = record { test = refl; value = λ t. cc }
when_same true false x y e = absurd (cc)
when_same false true x y e = absurd (cc)
when_same false false x y e = record { test = refl; value = λ t. absurd (cc) }

-- high parts that were read, and whether all are small
pub record AreRead (limit n : ℕ) (start middle : List Bool) (highs : List ℕ) (fit : Bool) : Type 0 where
  pub read : values_at fs_at n start ≡ taken highs middle
  pub test : all_below limit highs ≡ fit

pub highs_read : (limit n : ℕ) (start middle : List Bool) (highs : List ℕ) (fit : Bool)
    → map_taken (small_values limit) (values_at fs_at n start) ≡ taken (when fit highs) middle
    → (read : List ℕ) × (AreRead limit n start middle read fit × (fit ≡ true → read ≡ highs))
highs_read limit n start middle highs fit read =
    let m = map_taken-mapped (small_values limit) (values_at fs_at n start) (when fit highs) middle read in
    let same = when_same (all_below limit m.value) fit m.value highs m.after in
    (m.value, (record { read = m.before; test = same.test }, λ small. same.value (same.test ∙ small)))

-- high parts and low bits that were read make split values
pub split_read : (limit k n : ℕ) (start middle rest : List Bool) (highs lows : List ℕ) → values_at fs_at n start ≡ taken highs middle
    → values_at (binary_at k) n middle ≡ taken lows rest
    → map_taken (small_values limit) (split_at k n start) ≡ taken (small_values limit (joined_values k highs lows)) rest
split_read limit k n start middle rest highs lows high_read low_read = rw (high_read, low_read) refl

pub split_large : (bits limit high_limit k n : ℕ) (start middle rest : List Bool) (highs lows : List ℕ) (fit : Bool)
    → limit ≡ 2 ^ bits → high_limit ≡ (limit - 1) / 2 ^ k + 1 → fit ≡ false
    → map_taken (small_values high_limit) (values_at fs_at n start) ≡ taken (when fit highs) middle
    → values_at (binary_at k) n middle ≡ taken lows rest → map_taken (small_values (2 ^ bits)) (split_at k n start) ≡ taken None rest
split_large bits limit high_limit k n start middle rest highs lows fit is_limit is_high_limit large high_read low_read =
    let some : 0 < limit = omega (arith, is_limit, pow_pos bits) in
    let h = highs_read high_limit n start middle highs fit high_read in
    let highs_spelled = values_at-spelled fs (λ v. Unit {0}) fs_at fs_reader n start h.0 middle h.1.0.read in
    let lows_spelled = values_at-spelled (binary k) (λ v. v < 2 ^ k) (binary_at k) (binary_reader k) n middle lows rest low_read in
    let test : all_below ((limit - 1) / 2 ^ k + 1) h.0 ≡ false = ap (λ l. all_below l h.0) (sym is_high_limit) ∙ (h.1.0.test ∙ large) in
    let fails = high_fails limit k h.0 lows some (highs_spelled.count ∙ sym lows_spelled.count) test in
    rw (← is_limit) (split_read limit k n start middle rest h.0 lows h.1.0.read low_read ∙ ap (λ b. taken (when b (joined_values k h.0 lows)) rest) fails)

pub split_small : (bits limit high_limit k n : ℕ) (start middle rest : List Bool) (highs lows values : List ℕ) (fit : Bool)
    → limit ≡ 2 ^ bits → fit ≡ true → map_taken (small_values high_limit) (values_at fs_at n start) ≡ taken (when fit highs) middle
    → values_at (binary_at k) n middle ≡ taken lows rest → values ≡ joined_values k highs lows
    → map_taken (small_values (2 ^ bits)) (split_at k n start) ≡ taken (when (all_below limit values) values) rest
split_small bits limit high_limit k n start middle rest highs lows values fit is_limit small high_read low_read joined =
    let h = highs_read high_limit n start middle highs fit high_read in
    rw (← is_limit, joined, ← h.1.1 small) (split_read limit k n start middle rest h.0 lows h.1.0.read low_read)

-- small high parts are below a power of two
pub small_highs : (m limit high_limit k n : ℕ) (start middle : List Bool) (highs : List ℕ) (fit : Bool)
    → k ≤ m → 0 < limit → limit ≤ 2 ^ m → high_limit ≡ (limit - 1) / 2 ^ k + 1 → fit ≡ true
    → map_taken (small_values high_limit) (values_at fs_at n start) ≡ taken (when fit highs) middle → AreBelow (2 ^ (m - k)) highs
small_highs m limit high_limit k n start middle highs fit within some fits is_high_limit small high_read =
    let h = highs_read high_limit n start middle highs fit high_read in
    let test : all_below ((limit - 1) / 2 ^ k + 1) highs ≡ true =
    rw (← h.1.1 small) (ap (λ l. all_below l h.0) (sym is_high_limit) ∙ (h.1.0.test ∙ small)) in
    highs_below m k limit highs within some fits (below-from_test ((limit - 1) / 2 ^ k + 1) highs test)

-- if k is at most n, small high parts make small values
pub split_fits : (bits limit high_limit k n : ℕ) (start middle rest : List Bool) (highs lows values : List ℕ) (fit : Bool)
    → limit ≡ 2 ^ bits → high_limit ≡ (limit - 1) / 2 ^ k + 1 → k ≤ bits → fit ≡ true
    → map_taken (small_values high_limit) (values_at fs_at n start) ≡ taken (when fit highs) middle
    → values_at (binary_at k) n middle ≡ taken lows rest → AreBelow (2 ^ k) lows → values ≡ joined_values k highs lows
    → map_taken (small_values (2 ^ bits)) (split_at k n start) ≡ taken (Some values) rest
split_fits bits limit high_limit k n start middle rest highs lows values fit is_limit is_high_limit within small high_read low_read below joined =
    let some : 0 < limit = omega (arith, is_limit, pow_pos bits) in
    let highs_small = small_highs bits limit high_limit k n start middle highs fit within some (omega (arith, is_limit)) is_high_limit small high_read in
    let all : all_below limit values ≡ true =
    rw (joined, is_limit) (test-from_below (2 ^ bits) (joined_values k highs lows) (joined_below bits k highs lows within highs_small below)) in
    split_small bits limit high_limit k n start middle rest highs lows values fit is_limit small high_read low_read joined
    ∙ ap (λ b. taken (when b values) rest) all

-- ---- values of n bits

plain_checked : (s : Settings) (reference : Option ℕ) (values : List ℕ) → AllByRecursion (λ v. v < 2 ^ s.bits) values
    → checked_body s reference (uncompressed_values values) ≡ Some (Single (block_of_values reference values))
plain_checked s reference values all = rw (test-from_below (2 ^ s.bits) values all) refl

pub plain_taken : (s : Settings) (reference : Option ℕ) (n : ℕ) (start rest : List Bool) (block : Block)
    → map_taken (block_of_values reference) (values_at (binary_at s.bits) n start) ≡ taken block rest
    → map_taken (checked_body s reference) (map_taken uncompressed_values (values_at (binary_at s.bits) n start)) ≡ taken (Some (Single block)) rest
plain_taken s reference n start rest block read =
    let m = map_taken-mapped (block_of_values reference) (values_at (binary_at s.bits) n start) block rest read in
    let spelled = values_at-spelled (binary s.bits) (λ v. v < 2 ^ s.bits) (binary_at s.bits) (binary_reader s.bits) n start m.value rest m.before in
    ap (λ t. map_taken (checked_body s reference) (map_taken uncompressed_values t)) m.before
    ∙ ap (λ o. taken o rest) (plain_checked s reference m.value spelled.all ∙ ap (λ b. Some (Single b)) m.after)

pub plain_body : (s : Settings) (reference : Option ℕ) (kind : Kind) (start rest : List Bool) (block : Block) → kind ≡ NoCompression
    → map_taken (block_of_values reference) (values_at (binary_at s.bits) (written_count s (is_some reference)) start) ≡ taken block rest
    → map_taken (checked_body s reference) (body_at s (is_some reference) kind start) ≡ taken (Some (Single block)) rest
plain_body s reference kind start rest block is_kind read =
    rw is_kind (plain_taken s reference (written_count s (is_some reference)) start rest block read)
