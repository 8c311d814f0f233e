-- For proofs alone: no public contract cites this file.
-- What coding fresh samples does to them and to a workspace, one interval at a time. The contract
-- of `apply` cites `samples_after`, `needed_calls` and `opened_intervals` instead.
use Rattle.std.specs.Prelude.{◌≡◌, ℕ, ◌+◌, ◌-◌, ◌^◌, ◌<◌, ◌≤◌, ◌⊎◌, List, [], ◌∷◌, ◌++◌, length, take, drop, ℤ}
use Rattle.std.specs.Int.{div_ceil}
use Rattle.aec_bits.specs.Codec.{Format, AreHeld, code_of}
use Rattle.aec_edit.specs.Workspace.{Contents, interval_count}
use Rattle.aec_edit.specs.Index.{starts_of}
use Rattle.aec_edit.specs.Fresh.{to_come, OpensAtMost}
use Rattle.aec_params.specs.Edits.{Stretch}
use Rattle.aec_edit.specs.Changes.{head_of, tail_of}
use Rattle.aec_edit.specs.declared.coded.Coded.{Coded}
use Rattle.aec_edit.specs.declared.workspace.fresh_coding.Fresh.{Fresh}

-- the fresh samples that are still to be coded, those of old intervals out of a workspace
abbrev pub coming : {C : Type 0} → (C → Format) → Contents C → Fresh → List ℤ
coming format_of w fresh =
    to_come (format_of w.codec).most w.samples fresh.front.items fresh.values.now fresh.back.items fresh.next fresh.end

-- a workspace has the old intervals that fresh samples still take from it
pub record HasOldPart {C : Type 0} (format_of : C → Format) (w : Contents C) (fresh : Fresh) : Type 0 where
  pub order : fresh.next ≤ fresh.end
  pub within : fresh.end ≤ interval_count (format_of w.codec) w.samples

-- fresh samples of which some were moved to the front, until it contains n, or all but old
-- intervals
pub record MovesToFront (n : ℕ) (old new : Fresh) : Type 0 where
  pub all : new.front.items ++ (new.values.now ++ new.back.items) ≡ old.front.items
      ++ (old.values.now ++ old.back.items)
  pub full : (n ≤ length new.front.items) ⊎ ((new.values.now ≡ []) × (new.back.items ≡ []))
  pub next : new.next ≡ old.next
  pub end : new.end ≡ old.end

-- fresh samples of which some old intervals were taken: the count of reads rose by at most one for
-- each
pub record MovesOn (reads reads_after : ℕ) (old new : Fresh) : Type 0 where
  pub order : new.next ≤ new.end
  pub end : new.end ≡ old.end
  pub opens : OpensAtMost (old.end - old.next) (new.end - new.next) reads reads_after

-- the same fresh samples are still to be coded, after some of their old intervals were decoded
pub record Gathers {C : Type 0} (format_of : C → Format) (read : C → ℕ) (w w_after : Contents C)
    (old new : Fresh) : Type 0 where
  pub same : coming format_of w new ≡ coming format_of w old
  pub moves : MovesOn (read w.codec) (read w_after.codec) old new

-- there is an interval of fresh samples that can be coded
pub record HasNext {C : Type 0} (format_of : C → Format) (called : C → ℕ) (w : Contents C)
    (fresh : Fresh) : Type 0 where
  pub there : HasOldPart format_of w fresh
  pub some : 1 ≤ length (coming format_of w fresh)
  pub held : AreHeld (format_of w.codec) (coming format_of w fresh)
  pub calls : called w.codec < 2 ^ 64 - 1

-- the code of one more interval was appended
pub record AddsInterval (f : Format) (interval : List ℤ) (old new : Coded) : Type 0 where
  pub bits : new.bits.list ≡ old.bits.list ++ f.bits_of interval
  pub starts : new.starts.items ≡ old.starts.items ++ length old.bits.list ∷ []

-- the next interval of fresh samples has been coded, by one call
pub record CodesNext {C : Type 0} (format_of : C → Format) (called read : C → ℕ) (w w_after : Contents C)
    (old new : Fresh) (coded coded_after : Coded)
    : Type 0 where
  pub left : coming format_of w new ≡ drop (format_of w.codec).most (coming format_of w old)
  pub adds : AddsInterval (format_of w.codec) (take (format_of w.codec).most (coming format_of w old)) coded coded_after
  pub calls : called w_after.codec ≡ called w.codec + 1
  pub moves : MovesOn (read w.codec) (read w_after.codec) old new

-- count fresh samples, which can be coded
pub record CanBeCoded {C : Type 0} (format_of : C → Format) (w : Contents C) (fresh : Fresh) (count : ℕ) : Type 0 where
  pub there : HasOldPart format_of w fresh
  pub held : AreHeld (format_of w.codec) (coming format_of w fresh)
  pub count_is : count ≡ length (coming format_of w fresh)

-- the code of these fresh samples; the count of calls rises by one for each interval
pub record CodesFresh {C : Type 0} (format_of : C → Format) (called : C → ℕ) (w w_after : Contents C) (fresh : Fresh)
    (count : ℕ) (coded : Coded)
    : Type 0 where
  pub bits : coded.bits.list ≡ code_of (format_of w.codec) (coming format_of w fresh)
  pub starts : coded.starts.items ≡ starts_of (format_of w.codec) 0 (coming format_of w fresh)
  pub count_is : coded.count ≡ count
  pub calls : called w_after.codec ≡ called w.codec + div_ceil count (format_of w.codec).most

-- of the samples that front contained, the first n were kept before the values and the last n'
-- after them
pub record KeepsEnds (n n' : ℕ) (old new : Fresh) : Type 0 where
  pub all : new.front.items ++ (new.values.now ++ new.back.items)
      ≡ take n old.front.items ++ (old.values.now ++ drop (length old.front.items - n') old.front.items)
  pub next : new.next ≡ old.next
  pub end : new.end ≡ old.end

-- the fresh samples of an exchange of places for values, whose old intervals up to number to are
-- coded again
pub record IsFreshFor (n : ℕ) (s : List ℤ) (gone : Stretch) (to : ℕ) (values : List ℤ) (fresh : Fresh) : Type 0 where
  pub all : fresh.front.items ++ (fresh.values.now ++ fresh.back.items) ≡ head_of n gone.first s
      ++ (values ++ tail_of n gone.stop s)
  pub next : fresh.next ≡ div_ceil gone.stop n
  pub end : fresh.end ≡ to
