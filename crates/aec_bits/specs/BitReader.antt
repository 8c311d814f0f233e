-- A reader of bits as its callers see it.
use Rattle.std.specs.Prelude.{ℕ, zero, suc, ◌+◌, ◌-◌, ◌^◌, ◌<◌, ◌≤◌, ◌≡◌, Bool, true, false, Option, Some, None, MatchOption, is_some, Result, MatchResult, OnOk, OnErr, List, [], ◌∷◌, ◌++◌, length, take, drop, replicate}
use Rattle.std.specs.List.{list_any, flat_map, AllByRecursion}
use Rattle.aec_params.specs.declared.fault.Fault.{Fault}
use Rattle.aec_params.specs.declared.fault.Fault.TheVariants.{Truncated}
use Rattle.aec_params.specs.Codewords.{fs, binary}

-- all bits of the list, and the place of the next one to be read
pub record Cursor : Type 0 where
  pub list : List Bool
  pub pos : ℕ

-- A reader's bits are unchanged, and its place is within them. A refused call does not move it.
pub record StaysWithin {X : Type 0} (old new : Cursor) (result : Result X Fault) : Type 0 where
  pub within : new.pos ≤ length new.list
  pub list : new.list ≡ old.list
  pub err : OnErr result (new ≡ old)

-- A reader moves past the next n bits. If fewer are left, the call fails with `Truncated` and the
-- present place, and the reader is unchanged.
pub record MovesBy {X : Type 0} (n : ℕ) (old new : Cursor) (result : Result X Fault) : Type 0 where
  pub moves : OnOk result (new.pos ≡ old.pos + n)
  pub refuses : MatchResult result (λ _. old.pos + n ≤ length old.list)
      (λ e. (length old.list < old.pos + n) × (e ≡ Truncated old.pos))
  pub within : new.pos ≤ length new.list
  pub list : new.list ≡ old.list
  pub err : OnErr result (new ≡ old)

-- whether one of the bits is set
abbrev pub has_one : List Bool → Bool
has_one bits = list_any (λ b. b) bits

-- the first n bits of a list spell a number, and the rest follows them
pub record BeginsWithNumber (n value : ℕ) (list rest : List Bool) : Type 0 where
  pub fits : value < 2 ^ n
  pub bits : list ≡ binary n value ++ rest

-- the number of zeros from a place of a list up to the next 1 bit; `None` if no 1 bit follows
pub record CountsZeros (list : List Bool) (start : ℕ) (zeros : Option ℕ) : Type 0 where
  pub cases : MatchOption zeros (has_one (drop start list) ≡ false)
      (λ v. (start + v < length list) × (drop start list ≡ fs v ++ drop (start + v + 1) list))
  pub some : is_some zeros ≡ has_one (drop start list)

-- a place k further on
abbrev pub further : ℕ → Option ℕ → Option ℕ
further k None = None
further k (Some place) = Some (k + place)

-- the place after n 1 bits; none if there are fewer (bit by bit, where the code counts the 1 bits
-- of words, and then of halves)
abbrev pub behind_ones : ℕ → List Bool → Option ℕ
behind_ones zero bits = Some 0
behind_ones (suc n) [] = None
behind_ones (suc n) (true ∷ bits) = further 1 (behind_ones n bits)
behind_ones (suc n) (false ∷ bits) = further 1 (behind_ones (suc n) bits)

-- whether all numbers of a list are below a limit
abbrev pub AreBelow : ℕ → List ℕ → Type 0
AreBelow limit numbers = AllByRecursion (λ v. v < limit) numbers

-- fewer than `count` fundamental sequences begin the bits, and the 64 bits after these have no 1
-- (states that their numbers exist, where the code shifts a word)
pub record StopsBefore (count : ℕ) (bits : List Bool) : Type 0 where
  pub numbers : List ℕ
  pub rest : List Bool
  pub few : length numbers < count
  pub stands : bits ≡ flat_map fs numbers ++ rest
  pub none : has_one (take 64 rest) ≡ false

-- the first `gone` bits of a word are those before a cursor, and its others are the next bits;
-- zeros follow the last bit of the list
pub record IsBehindWord (c : Cursor) (gone word : ℕ) : Type 0 where
  pub there : gone ≤ c.pos
  pub bits : binary 64 word ≡ take 64 (drop (c.pos - gone) c.list ++ replicate 64 false)
