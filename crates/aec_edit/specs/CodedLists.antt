-- For proofs alone: no public contract cites this file.
-- What calls do to the code of samples with its index. The contract of `apply` cites
-- `samples_after`, `needed_calls` and `opened_intervals` instead.
use Rattle.std.specs.Prelude.{◌≡◌, ℕ, ◌+◌, ◌-◌, ◌^◌, ◌<◌, ◌≤◌, List, [], ◌++◌, length, map, take, drop, slice_index, vec_len, vec_capacity, ℤ}
use Rattle.std.specs.declared.vec.Vec.{Vec}
use Rattle.aec_bits.specs.Codec.{Format}
use Rattle.aec_edit.specs.Workspace.{start_of}
use Rattle.aec_edit.specs.declared.coded.Coded.{Coded}
use Rattle.aec_edit.specs.declared.coded.Cut.{Cut}

-- the code of no samples
pub record IsNoCode (coded : Coded) : Type 0 where
  pub bits : coded.bits.list ≡ []
  pub starts : coded.starts.items ≡ []
  pub count : coded.count ≡ 0

-- the same code; its room may differ
pub record IsSameCode (old new : Coded) : Type 0 where
  pub bits : new.bits.list ≡ old.bits.list
  pub starts : new.starts.items ≡ old.starts.items
  pub count : new.count ≡ old.count

-- room for `bits` more bits, and for `intervals` more starts
pub record HasRoomOf (bits intervals : ℕ) (coded : Coded) : Type 0 where
  pub bits_fit : bits ≤ coded.bits.room
  pub starts_fit : vec_len coded.starts + intervals ≤ vec_capacity coded.starts

-- at least the room that there was before
pub record KeepsRoom (old new : Coded) : Type 0 where
  pub bits : old.bits.room ≤ new.bits.room
  pub starts : vec_capacity old.starts ≤ vec_capacity new.starts

-- room for at most `bits` bits and `starts` starts
pub record HasRoomAtMost (bits starts : ℕ) (coded : Coded) : Type 0 where
  pub bits_few : coded.bits.room ≤ bits
  pub starts_few : vec_capacity coded.starts ≤ starts

-- the starts from number to on lie between a place and the end of the bits
abbrev pub AreLater : ℕ → ℕ → ℕ → List ℕ → Type 0
AreLater to place end starts = (k : ℕ) → to ≤ k → k < length starts
    → (place ≤ slice_index starts k) × (slice_index starts k ≤ end)

-- no start is past a place
abbrev pub AreUpTo : ℕ → List ℕ → Type 0
AreUpTo end starts = (k : ℕ) → k < length starts → slice_index starts k ≤ end

-- two cuts between which other code can be inserted
pub record CanBeReplaced (coded with : Coded) (from to : Cut) : Type 0 where
  pub intervals : from.interval ≤ to.interval
  pub intervals_within : to.interval ≤ length coded.starts.items
  pub bits : from.bit ≤ to.bit
  pub bits_within : to.bit ≤ length coded.bits.list
  pub short : AreUpTo (length with.bits.list) with.starts.items
  pub later : AreLater to.interval to.bit (length coded.bits.list) coded.starts.items

-- where interval i begins in the code of samples, with its number
pub record IsCutAt (f : Format) (s : List ℤ) (i : ℕ) (cut : Cut) : Type 0 where
  pub interval : cut.interval ≡ i
  pub bit : cut.bit ≡ start_of f s i

-- starts of which those between two cuts are replaced by others, each moved on by the first cut's
-- bit, and those after them moved from the second cut's bit on to new_end on
abbrev pub with_starts : List ℕ → Cut → Cut → List ℕ → ℕ → List ℕ
with_starts starts from to with new_end =
    take from.interval starts
    ++ (map (λ x. from.bit + x) with ++ map (λ x. x - to.bit + new_end) (drop to.interval starts))

-- other code was inserted between two cuts, and the starts after them were moved
pub record IsReplaced (old new with : Coded) (from to : Cut) (count : ℕ) : Type 0 where
  pub bits : new.bits.list ≡ take from.bit old.bits.list ++ (with.bits.list ++ drop to.bit old.bits.list)
  pub starts : new.starts.items
      ≡ with_starts old.starts.items from to with.starts.items (from.bit + length with.bits.list)
  pub count_is : new.count ≡ count

-- starts that can be moved on by base
pub record CanMoveOn (base : ℕ) (starts : List ℕ) : Type 0 where
  pub base_few : base ≤ 2 ^ 62
  pub short : AreUpTo (2 ^ 62) starts

-- starts of which those from number at on can be moved from old_end on to new_end on
pub record CanShift (at old_end new_end : ℕ) (starts : List ℕ) : Type 0 where
  pub end_few : new_end ≤ 2 ^ 63
  pub later : AreLater at old_end (2 ^ 62) starts

-- a list of starts in which others can replace those between two cuts
pub record CanTakeStarts {Z : Type 0} (starts : Vec ℕ Z) (from to : Cut) (with : List ℕ) (new_end : ℕ)
    : Type 0 where
  pub order : from.interval ≤ to.interval
  pub within : to.interval ≤ vec_len starts
  pub room : vec_len starts + length with ≤ vec_capacity starts + (to.interval - from.interval)
  pub moved : CanMoveOn from.bit with
  pub shifted : CanShift to.interval to.bit new_end starts.items
