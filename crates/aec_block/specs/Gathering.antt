-- What the private functions of reading return: what was taken, instead of a result, and values if
-- they are small enough. Of the public functions only `is_single_next`, `read_run`, `read_single`
-- and `read_single_first` cite this file, of which they need only `bits_at`.
use Rattle.std.specs.Prelude.{◌≡◌, ◌≤◌, ◌<◌, ◌^◌, ℕ, Bool, nat_lt, true, false, if◌then◌else◌, Option, Some, None, Result, Ok, Err, List, [], ◌∷◌, length, drop}
use Rattle.std.specs.List.{list_all}
use Rattle.aec_bits.specs.BitReader.{Cursor, IsBehindWord}
use Rattle.aec_params.specs.declared.settings.Settings.{Settings}
use Rattle.aec_params.specs.Blocks.{Block}
use Rattle.aec_params.specs.Places.{block_of_values, block_of_members}
use Rattle.aec_params.specs.CodedDataSets.{value_pairs, judged_in}
use Rattle.aec_block.specs.ReadAt.{Taken, nothing, taken, map_taken, pair_with_number, before_members, fs_at, binary_at, values_at, split_at}

-- the bits from a cursor's place on
abbrev pub bits_at : Cursor → List Bool
bits_at c = drop c.pos c.list

-- what a reader took: the value of a result, with the bits after it; nothing for an error
abbrev pub as_taken : {X E : Type 0} → Result X E → List Bool → Taken X
as_taken (Ok x) rest = taken x rest
as_taken (Err e) rest = nothing

-- what a reader took: f of the value of a result, with the bits after it; nothing for an error
abbrev pub as_taken_by : {X Y E : Type 0} → (X → Y) → Result X E → List Bool → Taken Y
as_taken_by f (Ok x) rest = taken (f x) rest
as_taken_by f (Err e) rest = nothing

-- values, of which nothing is kept
abbrev pub no_values : List ℕ → Unit {0}
no_values values = tt

-- something, if a test holds
abbrev pub when : {X : Type 0} → Bool → X → Option X
when b x = if b then Some x else None

-- whether all values are below a limit
abbrev pub all_below : ℕ → List ℕ → Bool
all_below limit values = list_all (λ v. nat_lt v limit) values

-- values, if they are below the limit
abbrev pub small_values : ℕ → List ℕ → Option (List ℕ)
small_values limit values = when (all_below limit values) values

-- the members of the pairs with these numbers
abbrev pub members_of_numbers : List ℕ → List ℕ
members_of_numbers [] = []
members_of_numbers (m ∷ numbers) = before_members (pair_with_number m) (members_of_numbers numbers)

-- the members of pairs, with 0 instead of the first member if it is in the reference place
abbrev pub kept_members : Bool → List ℕ → List ℕ
kept_members true members = 0 ∷ drop 1 members
kept_members false members = members

-- the members of pairs that are kept, if they are below the limit
abbrev pub small_members : ℕ → Bool → List ℕ → Option (List ℕ)
small_members limit placed members = small_values limit (kept_members placed members)

-- the block of values without the reference place, if they are below the limit
abbrev pub small_block : ℕ → Option ℕ → List ℕ → Option Block
small_block limit reference values = when (all_below limit values) (block_of_values reference values)

-- the block of the members of pairs, if those that are values are below the limit
abbrev pub pair_block : ℕ → Option ℕ → List ℕ → Option Block
pair_block limit reference members =
    when (all_below limit (judged_in reference (value_pairs members))) (block_of_members reference members)

-- Applied to the bits at the old cursor, the reader `there` takes the returned value and leaves the
-- bits at the new cursor; for an error it takes nothing. The list is unchanged, and the new place
-- is within it.
pub record Takes {Y : Type 0} (there : List Bool → Taken Y) (old : Cursor) (returned : List Bool → Taken Y)
    (new : Cursor) : Type 0 where
  pub taken : there (bits_at old) ≡ returned (bits_at new)
  pub list : new.list ≡ old.list
  pub within : new.pos ≤ length new.list

-- The numbers of the next fundamental sequences replace the list `before`, one for one. The result
-- says whether all are below a limit: only then is the new list theirs. It is an error if fewer
-- sequences follow. The bits are unchanged, and the place is within them.
pub record PutsHighs {E : Type 0} (limit : ℕ) (old : Cursor) (before : List ℕ) (result : Result Bool E)
    (new : Cursor) (highs : List ℕ)
    : Type 0 where
  pub taken : map_taken (small_values limit) (values_at fs_at (length before) (bits_at old))
      ≡ as_taken_by (λ fit. when fit highs) result (bits_at new)
  pub len : length highs ≡ length before
  pub list : new.list ≡ old.list
  pub within : new.pos ≤ length new.list

-- The next numbers of `width` bits each replace the list `before`, one for one. The result is an
-- error if fewer follow. The bits are unchanged, and the place is within them.
pub record PutsNumbers {X E : Type 0} (width : ℕ) (old : Cursor) (before : List ℕ) (result : Result X E) (new : Cursor)
    (numbers : List ℕ) : Type 0 where
  pub taken : values_at (binary_at width) (length before) (bits_at old)
      ≡ as_taken_by (λ _. numbers) result (bits_at new)
  pub len : length numbers ≡ length before
  pub list : new.list ≡ old.list
  pub within : new.pos ≤ length new.list

-- The next values, split at bit k, replace the list `before`, one for one. The result says whether
-- all are at most 2^n - 1: only then is the new list theirs. It is an error if fewer follow. The
-- bits are unchanged, and the place is within them.
pub record PutsSplit {E : Type 0} (s : Settings) (k : ℕ) (old : Cursor) (before : List ℕ) (result : Result Bool E)
    (new : Cursor) (values : List ℕ)
    : Type 0 where
  pub taken : map_taken (small_values (2 ^ s.bits)) (split_at k (length before) (bits_at old))
      ≡ as_taken_by (λ fit. when fit values) result (bits_at new)
  pub len : length values ≡ length before
  pub list : new.list ≡ old.list
  pub within : new.pos ≤ length new.list

-- the first n bits of the word w, not none and not all, are those before a cursor
pub record IsSeen (c : Cursor) (n w : ℕ) : Type 0 where
  pub some : 0 < n
  pub inside : n < 64
  pub word : IsBehindWord c n w
