-- A coded data set of one block, read part by part.
use Rattle.std.proofs.Common.{◌≡◌, ℕ, ◌/◌, ◌<◌, ◌≤◌, ◌^◌, Bool, true, Option, Some, None, Result, Ok, Err, IfSome, List, [], ◌∷◌, ◌++◌, ◌-◌, length, take, drop, append-nil, refl, sym, ap, ◌∙◌, subst, arith}
use Rattle.std.specs.Option.{is_some}
use Rattle.std.specs.Prelude.{option_map}
use Rattle.std.specs.List.{AllByRecursion}
use Rattle.std.proofs.lemmas.Nat.{pow_pos}
use Rattle.std.proofs.lemmas.List.{drop_all, length-drop, length-take-le}
use borrow.Rule.Slice.PartMut.{put_mid}
use Rattle.aec_params.specs.declared.settings.Settings.{Settings}
use Rattle.aec_params.specs.declared.fault.Fault.{Fault}
use Rattle.aec_params.specs.Params.{IsAllowed, id_len}
use Rattle.aec_params.specs.Blocks.{Block}
use Rattle.aec_params.specs.Places.{block_of_values, block_of_members}
use Rattle.aec_params.specs.CodedDataSets.{CodedDataSet, Body, uncompressed_values, value_pairs, split_values, zero_blocks, written_count, judged_in, has_small_values}
use Rattle.aec_bits.specs.BitReader.{Cursor}
use Rattle.aec_block.specs.declared.cds.Cds.{Cds}
use Rattle.aec_block.specs.declared.cds.Cds.TheVariants.{Single, Zeros}
use Rattle.aec_block.specs.declared.reading.Kind.{Kind}
use Rattle.aec_block.specs.declared.reading.Kind.TheVariants.{SecondExtension, Split, NoCompression}
use Rattle.aec_block.specs.ReadAt.{Taken, nothing, taken, then_at, map_taken, binary_at, values_at, split_at, members_at, kind_at, body_at, cds_at, set_of, reference_at, set_after_reference, set_after_kind}
use Rattle.aec_block.specs.Gathering.{bits_at, when, all_below, small_values, small_members, as_taken_by}
use Rattle.aec_block.specs.BlockShape.{block_with}
use Rattle.aec_block.specs.ReadCds.{cds_of, checked, checked_body, IsReadSingle}
use Rattle.aec_block.proofs.FillingLemmas.{map_taken-as, map_taken-twice, option_map-when, uncompressed_filled, split_filled, pairs_filled}
use Rattle.aec_block.proofs.JoiningLemmas.{below-from_test}
use Rattle.aec_block.proofs.ReadCdsLemmas.{plain_body}
use Rattle.aec_block.proofs.StandingLemmas.{read_as}

map_taken-map_taken : {X Y Z : Type 0} (g : X → Y) (f : Y → Z) (t : Taken X) → map_taken f (map_taken g t) ≡ map_taken (λ x. f (g x)) t
map_taken-map_taken g f nothing = refl
map_taken-map_taken g f (taken x rest) = refl

-- what the body after the identifier and the reference sample is told to be, the coded data set is
pub set_told : {Y : Type 0} (told : CodedDataSet → Y) (s : Settings) (kind : Kind) (reference : Option ℕ) (start behind after : List Bool)
    (answer : Taken Y) → kind_at (id_len s) start ≡ taken kind behind → reference_at s (is_some reference) behind ≡ taken reference after
    → map_taken (λ body. told (set_of reference body)) (body_at s (is_some reference) kind after) ≡ answer
    → map_taken told (cds_at s (is_some reference) start) ≡ answer
set_told told s kind reference start behind after answer kind_read reference_read body_read =
    let due : Bool = is_some reference in
    ap (λ t. map_taken told (then_at t (set_after_kind s due))) kind_read
    ∙ (ap (λ t. map_taken told (then_at t (set_after_reference s due kind))) reference_read
    ∙ (map_taken-map_taken (set_of reference) told (body_at s due kind after) ∙ body_read))

-- what that body decodes to, the coded data set does
pub set_read : (s : Settings) (kind : Kind) (reference : Option ℕ) (start behind after : List Bool) (answer : Taken (Option Cds))
    → kind_at (id_len s) start ≡ taken kind behind → reference_at s (is_some reference) behind ≡ taken reference after
    → map_taken (checked_body s reference) (body_at s (is_some reference) kind after) ≡ answer
    → map_taken (checked s) (cds_at s (is_some reference) start) ≡ answer
set_read s kind reference start behind after answer = set_told (checked s) s kind reference start behind after answer

-- ---- each body

-- a block, if a test holds, as what a coded data set decodes to
as_single : {X : Type 0} (test : X → Bool) (form : X → Block) (t : Taken X) (block : Block) (result : Result Bool Fault) (rest : List Bool)
    → map_taken (λ x. when (test x) (form x)) t ≡ as_taken_by (λ fit. when fit block) result rest
    → map_taken (λ x. when (test x) (Single (form x))) t ≡ as_taken_by (λ fit. when fit (Single block)) result rest
as_single test form t block result rest read =
    map_taken-twice (λ x. when (test x) (form x)) (option_map Single) (λ x. when (test x) (Single (form x))) t
    (λ x. sym (option_map-when Single (test x) (form x)))
    ∙ map_taken-as (option_map Single) (λ fit. when fit block) (λ fit. when fit (Single block)) (map_taken (λ x. when (test x) (form x)) t) result rest
    (λ fit. option_map-when Single fit block) read

pub numbers_body : (s : Settings) (reference : Option ℕ) (kind : Kind) (width n : ℕ) (after rest : List Bool) (values : List ℕ)
    (result : Result (Unit {0}) Fault) → kind ≡ NoCompression → width ≡ s.bits → n ≡ written_count s (is_some reference)
    → values_at (binary_at width) n after ≡ as_taken_by (λ _. values) result rest
    → map_taken (checked_body s reference) (body_at s (is_some reference) kind after)
    ≡ as_taken_by (λ _. Some (Single (block_of_values reference values))) result rest
numbers_body s reference kind width n after rest values (Ok x) is_kind width_is count read =
    plain_body s reference kind after rest (block_of_values reference values) is_kind
    (uncompressed_filled reference s.bits width (written_count s (is_some reference)) n after rest values (block_of_values reference values) (Ok x)
    width_is count refl read)
numbers_body s reference kind width n after rest values (Err e) is_kind width_is count read =
    rw (is_kind, ← width_is, ← count, read) refl

pub split_body : (s : Settings) (reference : Option ℕ) (kind : Kind) (k n : ℕ) (after rest : List Bool) (values : List ℕ) (result : Result Bool Fault)
    → kind ≡ Split k → n ≡ written_count s (is_some reference)
    → map_taken (small_values (2 ^ s.bits)) (split_at k n after) ≡ as_taken_by (λ fit. when fit values) result rest
    → map_taken (checked_body s reference) (body_at s (is_some reference) kind after)
    ≡ as_taken_by (λ fit. when fit (Single (block_of_values reference values))) result rest
split_body s reference kind k n after rest values result is_kind count read =
    let block : Block = block_of_values reference values in
    let t : Taken (List ℕ) = split_at k (written_count s (is_some reference)) after in
    ap (λ kind. map_taken (checked_body s reference) (body_at s (is_some reference) kind after)) is_kind
    ∙ (map_taken-map_taken (split_values k) (checked_body s reference) t
    ∙ as_single (λ values. all_below (2 ^ s.bits) values) (block_of_values reference) t block result rest
    (split_filled reference (2 ^ s.bits) k (written_count s (is_some reference)) n after rest values block result count refl read))

pub pairs_body : (s : Settings) (reference : Option ℕ) (kind : Kind) (n : ℕ) (after rest : List Bool) (values : List ℕ) (result : Result Bool Fault)
    → kind ≡ SecondExtension → n ≡ s.block_size
    → map_taken (small_members (2 ^ s.bits) (is_some reference)) (members_at (n / 2) after) ≡ as_taken_by (λ fit. when fit values) result rest
    → map_taken (checked_body s reference) (body_at s (is_some reference) kind after)
    ≡ as_taken_by (λ fit. when fit (Single (block_with reference values))) result rest
pairs_body s reference kind n after rest values result is_kind count read =
    let block : Block = block_with reference values in
    let t : Taken (List ℕ) = members_at (s.block_size / 2) after in
    ap (λ kind. map_taken (checked_body s reference) (body_at s (is_some reference) kind after)) is_kind
    ∙ (map_taken-map_taken value_pairs (checked_body s reference) t
    ∙ as_single (λ members. all_below (2 ^ s.bits) (judged_in reference (value_pairs members))) (block_of_members reference) t block result rest
    (pairs_filled reference (is_some reference) (2 ^ s.bits) (s.block_size / 2) (n / 2) after rest values block result
    (pow_pos s.bits) refl (ap (λ m. m / 2) count) refl read))

pub single_read : (s : Settings) (reference : Option ℕ) (old new : Cursor) (values : List ℕ) → IsAllowed s → old.pos ≤ length old.list
    → new.pos ≤ length new.list → new.list ≡ old.list
    → map_taken (checked s) (cds_at s (is_some reference) (bits_at old)) ≡ taken (Some (Single (block_with reference values))) (bits_at new)
    → IsReadSingle s old new reference values
single_read s reference old new values allowed inside_old inside_new same there =
    let read = read_as s (is_some reference) old new (Single (block_with reference values)) allowed inside_old inside_new same there in
    record { set = read.0; read = read.1 }

-- ---- the values

abbrev values_in : Cds → List ℕ
values_in (Single b) = b.values
values_in (Zeros reference len) = []

-- the values of the block, and the 0 in the reference place, are below 2^n
pub single-below : (s : Settings) (old new : Cursor) (reference : Option ℕ) (values : List ℕ) → IsReadSingle s old new reference values
    → AllByRecursion (λ v. v < 2 ^ s.bits) values
single-below s old new reference values read = by_body read.set.reference read.set.body read.read.small (ap values_in read.read.answer)
  where
    all : (found : List ℕ) → all_below (2 ^ s.bits) found ≡ true → values ≡ found → AllByRecursion (λ v. v < 2 ^ s.bits) values
    all found small is = below-from_test (2 ^ s.bits) values (ap (all_below (2 ^ s.bits)) is ∙ small)

    behind : (found : List ℕ) → all_below (2 ^ s.bits) found ≡ true → values ≡ 0 ∷ found → AllByRecursion (λ v. v < 2 ^ s.bits) values
    behind found small is = subst (AllByRecursion (λ v. v < 2 ^ s.bits)) (sym is) (pow_pos s.bits, below-from_test (2 ^ s.bits) found small)

    by_body : (found : Option ℕ) (body : Body) → has_small_values s (set_of found body) ≡ true → values ≡ values_in (cds_of (set_of found body))
        → AllByRecursion (λ v. v < 2 ^ s.bits) values
    by_body None (uncompressed_values written) small is = all written small is
    by_body None (value_pairs members) small is = all members small is
    by_body None (split_values k written) small is = all written small is
    by_body None (zero_blocks m) small is = subst (AllByRecursion (λ v. v < 2 ^ s.bits)) (sym is) tt
    by_body (Some r) (uncompressed_values written) small is = behind written small is
    by_body (Some r) (value_pairs members) small is = behind (drop 1 members) small is
    by_body (Some r) (split_values k written) small is = behind written small is
    by_body (Some r) (zero_blocks m) small is = subst (AllByRecursion (λ v. v < 2 ^ s.bits)) (sym is) tt

-- ---- after the reference place

placed_first : (items part : List ℕ) → items ≡ 0 ∷ drop 1 items → put_mid 1 (length items - 1) items part ≡ 0 ∷ part
placed_first [] part placed = absurd (cc)
placed_first (v ∷ items) part placed =
    let zero : v ≡ 0 = cc in
    let none : drop (length (v ∷ items) - 1) items ≡ [] = drop_all (length (v ∷ items) - 1) items (omega arith) in
    ap (λ l. v ∷ (part ++ l)) none ∙ (ap (λ l. v ∷ l) (append-nil part) ∙ ap (λ v. v ∷ part) zero)

pub written_after : (s : Settings) (items : List ℕ) → length items ≡ s.block_size
    → length (take (length items - 1) (drop 1 items)) ≡ written_count s true
written_after s items count =
    length-take-le (length items - 1) (drop 1 items) (omega (arith, length-drop 1 items)) ∙ omega (arith, count)

-- values that were written after the 0 in the reference place
pub first_read : (s : Settings) (kind : Kind) (pattern : ℕ) (start behind after rest : List Bool) (items part : List ℕ) (fit : Bool) → fit ≡ true
    → items ≡ 0 ∷ drop 1 items → kind_at (id_len s) start ≡ taken kind behind → binary_at s.bits behind ≡ taken pattern after
    → map_taken (checked_body s (Some pattern)) (body_at s true kind after) ≡ taken (when fit (Single (block_of_values (Some pattern) part))) rest
    → map_taken (checked s) (cds_at s true start)
    ≡ taken (Some (Single (block_with (Some pattern) (put_mid 1 (length items - 1) items part)))) rest
first_read s kind pattern start behind after rest items part fit fits placed kind_read pattern_read read =
    set_read s kind (Some pattern) start behind after (taken (when fit (Single (block_of_values (Some pattern) part))) rest) kind_read
    (ap (map_taken (λ r. Some r)) pattern_read) read
    ∙ (ap (λ fit. taken (when fit (Single (block_of_values (Some pattern) part))) rest) fits
    ∙ ap (λ values. taken (Some (Single (block_with (Some pattern) values))) rest) (sym (placed_first items part placed)))

-- a statement about an optional value, if there is one, is about this value
pub of_some : {X : Type 0} (P : X → Type 0) (o : Option X) (x : X) → o ≡ Some x → IfSome o P → P x
of_some P o x is said = subst (λ o. IfSome o P) is said
