-- A block that was begun anew, and is filled with the values that were read.
use Rattle.std.proofs.Common.{◌≡◌, ℕ, ◌-◌, ◌<◌, ◌≤◌, Bool, true, false, Option, Some, None, Result, Ok, Err, List, [], ◌∷◌, ◌++◌, length, take, drop, refl, sym, ap, ◌∙◌, append_assoc, arith}
use Rattle.std.specs.Option.{is_some}
use Rattle.std.specs.Prelude.{option_map}
use Rattle.std.specs.List.{refill}
use Rattle.std.proofs.lemmas.Bool.{lt-ltb}
use Rattle.std.proofs.lemmas.List.{length-append, length-take-le, length-drop}
use Rattle.std.proofs.Math.Seq.{take-append_seam}
use Rattle.aec_params.specs.declared.settings.Settings.{Settings}
use Rattle.aec_params.specs.declared.fault.Fault.{Fault}
use Rattle.aec_params.specs.Blocks.{Block}
use Rattle.aec_params.specs.BlockShapes.{HasReferencePlace}
use Rattle.aec_params.specs.CodedDataSets.{written_count}
use Rattle.aec_params.specs.Places.{placed_values, block_of_values}
use Rattle.aec_block.specs.BlockShape.{block_with, most_values, IsSound}
use Rattle.aec_block.specs.ReadAt.{Taken, nothing, taken, map_taken, binary_at, values_at, members_at, split_at}
use Rattle.aec_block.specs.Gathering.{as_taken_by, when, all_below, small_values, kept_members, small_members, small_block, pair_block}

-- ---- what a result stands for

pub map_taken-as : {X Y Z : Type 0} (f : Y → Z) (g : X → Y) (h : X → Z) (t : Taken Y) (result : Result X Fault) (rest : List Bool)
    → ((x : X) → f (g x) ≡ h x) → t ≡ as_taken_by g result rest → map_taken f t ≡ as_taken_by h result rest
map_taken-as f g h t (Ok x) rest same read = rw read (ap (λ z. taken z rest) (same x))
map_taken-as f g h t (Err e) rest same read = rw read refl

pub map_taken-twice : {X Y Z : Type 0} (f : X → Y) (g : Y → Z) (h : X → Z) (t : Taken X)
    → ((x : X) → h x ≡ g (f x)) → map_taken h t ≡ map_taken g (map_taken f t)
map_taken-twice f g h nothing same = refl
map_taken-twice f g h (taken x rest) same = ap (λ z. taken z rest) (same x)

pub option_map-when : {X Y : Type 0} (f : X → Y) (b : Bool) (x : X) → option_map f (when b x) ≡ when b (f x)
option_map-when f true x = refl
option_map-when f false x = refl

-- ---- the block

-- a block of n values, with a reference and 0 in the reference place, or without
pub record HasBegun (n : ℕ) (reference inside : Option ℕ) (items : List ℕ) : Type 0 where
  pub same : inside ≡ reference
  pub count : length items ≡ n
  pub place : HasReferencePlace reference items

pub begun : (n : ℕ) (reference inside : Option ℕ) (items : List ℕ) (block : Block) → record { reference = inside; values = items } ≡ block
    → block.reference ≡ reference → length block.values ≡ n → HasReferencePlace inside items → HasBegun n reference inside items
begun n reference inside items block view is_reference count place =
    let same : inside ≡ reference = ap (λ (b : Block). b.reference) view ∙ is_reference in
    record {
      same = same;
      count = ap (λ (b : Block). length b.values) view ∙ count;
      place = rw same at place;
    }

-- how many values follow the first `first` ones
count_behind : (n first : ℕ) (reference inside : Option ℕ) (items shown : List ℕ) → HasBegun n reference inside items → shown ≡ items → first ≤ n
    → length (take (length shown - first) (drop first shown)) ≡ n - first
count_behind n first reference inside items shown b same within =
    let all : length shown ≡ n = ap length same ∙ b.count in
    length-take-le (length shown - first) (drop first shown) (omega (arith, length-drop first shown)) ∙ omega arith

places-due : (s : Settings) (first : ℕ) (reference : Option ℕ) → first ≡ length (placed_values reference [])
    → s.block_size - first ≡ written_count s (is_some reference)
places-due s first None is = omega arith
places-due s first (Some r) is = omega arith

front : (reference : Option ℕ) (items values : List ℕ) → HasReferencePlace reference items
    → take (length (placed_values reference [])) items ++ values ≡ placed_values reference values
front None items values place = refl
front (Some r) items values place = ap (λ l. take 1 l ++ values) place

-- values written after the reference place fill the block, whatever follows them
refilled : (n first : ℕ) (reference inside : Option ℕ) (items shown values behind : List ℕ) → HasBegun n reference inside items → shown ≡ items
    → first ≡ length (placed_values reference []) → first ≤ n → length values ≡ n - first
    → refill (length items) items (take first shown ++ (values ++ behind)) ≡ placed_values reference values
refilled n first reference inside items shown values behind b same is_first within count =
    let before : List ℕ = take first items ++ values in
    let all : length before ≡ length items =
    length-append (take first items) values ∙ omega (arith, length-take-le first items (omega (arith, b.count)), b.count) in
    let ws : List ℕ = take first items ++ (values ++ behind) in
    let rest : List ℕ = drop (length ws) items in
    let seam : ws ++ rest ≡ before ++ (behind ++ rest) =
    ap (λ l. l ++ rest) (sym (append_assoc (take first items) values behind)) ∙ append_assoc before behind rest in
    let filled : refill (length items) items ws ≡ before =
    ap (take (length items)) seam ∙ (ap (λ m. take m (before ++ (behind ++ rest))) (sym all) ∙ take-append_seam before (behind ++ rest)) in
    let place : before ≡ placed_values reference values =
    ap (λ m. take m items ++ values) is_first ∙ front reference items values b.place in
    rw same (filled ∙ place)

block_filled : (n first : ℕ) (reference inside : Option ℕ) (items shown values behind : List ℕ) → HasBegun n reference inside items → shown ≡ items
    → first ≡ length (placed_values reference []) → first ≤ n → length values ≡ n - first → let block : Block = record {
      reference = inside;
      values = refill (length items) items (take first shown ++ (values ++ behind));
    } in block_of_values reference values ≡ block
block_filled n first reference inside items shown values behind b same is_first within count =
    rw (b.same, refilled n first reference inside items shown values behind b same is_first within count) refl

-- after its reference place the begun block has as many places as a coded data set writes values,
-- and filled with values it is their block
pub record IsFilled (s : Settings) (first : ℕ) (reference inside : Option ℕ) (items shown values behind : List ℕ) : Type 0 where
  pub count : length (take (length shown - first) (drop first shown)) ≡ written_count s (is_some reference)
  pub block : block_of_values reference values
      ≡ record { reference = inside; values = refill (length items) items (take first shown ++ (values ++ behind)) }

pub filled_behind : (s : Settings) (n first : ℕ) (reference inside : Option ℕ) (items shown values behind : List ℕ) → HasBegun n reference inside items
    → shown ≡ items → first ≡ length (placed_values reference []) → first ≤ n → n ≡ s.block_size
    → length values ≡ length (take (length shown - first) (drop first shown)) → IsFilled s first reference inside items shown values behind
filled_behind s n first reference inside items shown values behind b same is_first within size len =
    let count = count_behind n first reference inside items shown b same within in
    record {
      count = count ∙ (ap (λ m. m - first) size ∙ places-due s first reference is_first);
      block = block_filled n first reference inside items shown values behind b same is_first within (len ∙ count);
    }

-- ---- filled by each option

pub uncompressed_filled : (reference : Option ℕ) (bits width count n : ℕ) (start rest : List Bool) (values : List ℕ) (block : Block)
    (result : Result (Unit {0}) Fault)
    → width ≡ bits → n ≡ count → block_of_values reference values ≡ block → values_at (binary_at width) n start ≡ as_taken_by (λ _. values) result rest
    → map_taken (block_of_values reference) (values_at (binary_at bits) count start) ≡ as_taken_by (λ _. block) result rest
uncompressed_filled reference bits width count n start rest values block result is_width same filled read =
    map_taken-as (block_of_values reference) (λ _. values) (λ _. block) (values_at (binary_at bits) count start) result rest (λ _. filled)
    (ap (λ m. values_at (binary_at bits) m start) (sym same) ∙ (ap (λ w. values_at (binary_at w) n start) (sym is_width) ∙ read))

small_block-values : (limit : ℕ) (reference : Option ℕ) (values : List ℕ)
    → small_block limit reference values ≡ option_map (block_of_values reference) (small_values limit values)
small_block-values limit reference values = sym (option_map-when (block_of_values reference) (all_below limit values) values)

pub split_filled : (reference : Option ℕ) (limit k count n : ℕ) (start rest : List Bool) (values : List ℕ) (block : Block) (result : Result Bool Fault)
    → n ≡ count → block_of_values reference values ≡ block
    → map_taken (small_values limit) (split_at k n start) ≡ as_taken_by (λ fit. when fit values) result rest
    → map_taken (small_block limit reference) (split_at k count start) ≡ as_taken_by (λ fit. when fit block) result rest
split_filled reference limit k count n start rest values block result same filled read =
    map_taken-twice (small_values limit) (option_map (block_of_values reference)) (small_block limit reference) (split_at k count start)
    (small_block-values limit reference)
    ∙ map_taken-as (option_map (block_of_values reference)) (λ fit. when fit values) (λ fit. when fit block)
    (map_taken (small_values limit) (split_at k count start)) result rest
    (λ fit. option_map-when (block_of_values reference) fit values ∙ ap (when fit) filled)
    (ap (λ m. map_taken (small_values limit) (split_at k m start)) (sym same) ∙ read)

pair_block-members : (limit : ℕ) (reference : Option ℕ) → 0 < limit → (members : List ℕ)
    → pair_block limit reference members ≡ option_map (block_with reference) (small_members limit (is_some reference) members)
pair_block-members limit None some members = sym (option_map-when (block_with None) (all_below limit members) members)
pair_block-members limit (Some r) some members =
    rw (lt-ltb 0 limit some) (sym (option_map-when (block_with (Some r)) (all_below limit (drop 1 members)) (0 ∷ drop 1 members)))

pub pairs_filled : (reference : Option ℕ) (placed : Bool) (limit count n : ℕ) (start rest : List Bool) (values : List ℕ) (block : Block)
    (result : Result Bool Fault)
    → 0 < limit → placed ≡ is_some reference → n ≡ count → block_with reference values ≡ block
    → map_taken (small_members limit placed) (members_at n start) ≡ as_taken_by (λ fit. when fit values) result rest
    → map_taken (pair_block limit reference) (members_at count start) ≡ as_taken_by (λ fit. when fit block) result rest
pairs_filled reference placed limit count n start rest values block result some is_placed same filled read =
    map_taken-twice (small_members limit (is_some reference)) (option_map (block_with reference)) (pair_block limit reference)
    (members_at count start) (pair_block-members limit reference some)
    ∙ map_taken-as (option_map (block_with reference)) (λ fit. when fit values) (λ fit. when fit block)
    (map_taken (small_members limit (is_some reference)) (members_at count start)) result rest
    (λ fit. option_map-when (block_with reference) fit values ∙ ap (when fit) filled)
    (ap (λ m. map_taken (small_members limit (is_some reference)) (members_at m start)) (sym same)
    ∙ (ap (λ b. map_taken (small_members limit b) (members_at n start)) (sym is_placed) ∙ read))

-- if all n values are written, they are the block's values
refilled_all : (n : ℕ) (reference inside : Option ℕ) (items values : List ℕ) → HasBegun n reference inside items → length values ≡ n
    → refill (length items) items values ≡ values
refilled_all n reference inside items values b count =
    let all : length items ≡ length values = b.count ∙ sym count in
    ap (λ m. take m (values ++ drop (length values) items)) all ∙ take-append_seam values (drop (length values) items)

pub block_with_all : (n : ℕ) (reference inside : Option ℕ) (items values : List ℕ) → HasBegun n reference inside items → length values ≡ n
    → let block : Block = record { reference = inside; values = refill (length items) items values } in block_with reference values ≡ block
block_with_all n reference inside items values b count = rw (b.same, refilled_all n reference inside items values b count) refl

placed-from_kept : (reference : Option ℕ) (values : List ℕ) → values ≡ kept_members (is_some reference) values → HasReferencePlace reference values
placed-from_kept None values kept = refl
placed-from_kept (Some r) values kept = kept

pub sound_all : (n : ℕ) (placed : Bool) (reference inside : Option ℕ) (items values : List ℕ) → HasBegun n reference inside items
    → length values ≡ n → n ≤ most_values
    → placed ≡ is_some reference → values ≡ kept_members placed values → IsSound (record { reference = inside; values = refill (length items) items values })
sound_all n placed reference inside items values b count most is_placed kept =
    rw (b.same, refilled_all n reference inside items values b count)
    (record { len = omega arith; placed = placed-from_kept reference values (kept ∙ ap (λ b. kept_members b values) is_placed) })
