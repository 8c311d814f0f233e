-- The laws of edits: how many intervals an edit codes and opens.
use Rattle.std.specs.Prelude.{◌≡◌, ℕ, ◌+◌, ◌-◌, ◌*◌, ◌/◌, ◌%◌, ◌<◌, ◌≤◌, ◌==◌, nat_lt, min, if◌then◌else◌, ⊤, true, false, Option, Some, None, List, [], length}
use Rattle.std.specs.List.{range_with_len, list_any}
use Rattle.std.specs.Int.{div_ceil}
use Rattle.aec_params.specs.declared.edit.Edit.{Edit}
use Rattle.aec_params.specs.declared.edit.Edit.TheVariants.{Overwrite, Append, Truncate, Insert, Remove}
use Rattle.aec_params.specs.declared.samples.Samples.{Samples}
use Rattle.aec_params.specs.Edits.{Stretch, touched_intervals, reached_intervals, moved_intervals, keeping_intervals, opened_intervals, needed_calls}

-- an edit that leaves each sample that it keeps at its place
abbrev pub MovesNone : Edit → Type 0
MovesNone (Overwrite first values) = ⊤
MovesNone (Append values) = ⊤
MovesNone (Truncate count) = ⊤
MovesNone (Insert first values) = ⊥
MovesNone (Remove first len) = ⊥

-- the intervals that an edit touches are consecutive; an edit that moves no sample opens at most
-- two of the intervals that it codes
pub record EditsTouchFew : Type 0 where
  pub touched : (n first len : ℕ) → 0 < n → 0 < len
      → touched_intervals n first len ≡ range_with_len (first / n) ((first + len - 1) / n - first / n + 1)
  pub count : (n first len : ℕ) → 0 < n → 0 < len
      → length (touched_intervals n first len) ≡ (first + len - 1) / n - first / n + 1
  pub none : (n first : ℕ) → touched_intervals n first 0 ≡ []
  pub appended : (n old : ℕ) (values : Samples) → 0 < n
      → needed_calls n old (Append values) ≡ length (touched_intervals n old (length values))
  pub opened : (n old : ℕ) (edit : Edit) → 0 < n → MovesNone edit
      → (opened_intervals n old edit ≤ 2) × (opened_intervals n old edit ≤ needed_calls n old edit)

-- 0 for a place where an interval of n samples begins, 1 for a place inside of an interval
abbrev pub inside_calls : ℕ → ℕ → ℕ
inside_calls n first = if first % n == 0 then 0 else 1

-- how many `moved_intervals` there are. If whole intervals are inserted, they are coded, and so is
-- the interval that their place is inside of; if whole intervals are removed, only that interval is
-- coded. Otherwise all intervals from that of the place on are coded, and those that keep a sample
-- are opened
pub record MovesByLength : Type 0 where
  pub inserted : (n old first : ℕ) (values : Samples) → 0 < n
      → needed_calls n old (Insert first values)
      ≡ (let len : ℕ = length values in
      if len == 0 then 0 else (if len % n == 0 then len / n + inside_calls n first
      else div_ceil (old + len) n - first / n))
  pub removed : (n old first len : ℕ) → 0 < n
      → needed_calls n old (Remove first len)
      ≡ (if len == 0 then 0 else (if len % n == 0 then inside_calls n first else div_ceil (old - len) n - first / n))
  pub opened_by_insertion : (n old first : ℕ) (values : Samples) → 0 < n → first ≤ old
      → opened_intervals n old (Insert first values)
      ≡ (let len : ℕ = length values in
      if len == 0 then 0 else (if len % n == 0 then inside_calls n first else div_ceil old n - first / n))
  pub opened_by_removal : (n old first len : ℕ) → 0 < n → first + len ≤ old
      → opened_intervals n old (Remove first len)
      ≡ (let kept : List ℕ =
      keeping_intervals n old (record { first = first; stop = first + len })
      (reached_intervals n (record { first = first; stop = old })) in
      if len == 0 then 0
      else (if len % n == 0 then (if first % n == 0 then 0 else (if first + len == old then 1 else 2))
      else length kept))

-- an exchange among old samples: the places of `gone` for `fresh` new places
pub record Exchange : Type 0 where
  pub old : ℕ
  pub gone : Stretch
  pub fresh : ℕ

-- how many samples there are after an exchange
abbrev pub count_after : Exchange → ℕ
count_after x = x.gone.first + x.fresh + (x.old - x.gone.stop)

-- the place before an exchange of the sample that is at `place` after it; none if the sample is new
abbrev pub stood_at : Exchange → ℕ → Option ℕ
stood_at x place =
    if nat_lt place x.gone.first then Some place
    else (if nat_lt place (x.gone.first + x.fresh) then None else Some (place - (x.gone.first + x.fresh) + x.gone.stop))

-- interval k of n samples after an exchange has exactly the samples of interval i before it, in the
-- same order
pub record IsFromBefore (n : ℕ) (x : Exchange) (k i : ℕ) : Type 0 where
  pub count : min (k * n + n) (count_after x) - k * n ≡ min (i * n + n) x.old - i * n
  pub each : (j : ℕ) → k * n + j < min (k * n + n) (count_after x) → stood_at x (k * n + j) ≡ Some (i * n + j)

-- interval k after an exchange is among the given intervals exactly if no interval before the
-- exchange has its samples
pub record IsNewIfOneOf (n : ℕ) (x : Exchange) (intervals : List ℕ) (k : ℕ) : Type 0 where
  pub one : list_any (λ i. i == k) intervals ≡ true → (i : ℕ) → IsFromBefore n x k i → ⊥
  pub none : list_any (λ i. i == k) intervals ≡ false → (i : ℕ) × IsFromBefore n x k i

-- in the samples after an insertion or a removal, `moved_intervals` are those intervals that did
-- not exist before it
pub record MovesCodeWhatIsNew : Type 0 where
  pub inserted : (n old first len k : ℕ) → 0 < n → first ≤ old → k < div_ceil (old + len) n
      → IsNewIfOneOf n (record { old = old; gone = record { first = first; stop = first }; fresh = len })
      (moved_intervals n len (old + len) (record { first = first; stop = first + len })) k
  pub removed : (n old first len k : ℕ) → 0 < n → first + len ≤ old → k < div_ceil (old - len) n
      → IsNewIfOneOf n (record { old = old; gone = record { first = first; stop = first + len }; fresh = 0 })
      (moved_intervals n len (old - len) (record { first = first; stop = first })) k

-- interval i before an exchange is among the given intervals exactly if no interval after the
-- exchange has its samples
pub record IsLostIfOneOf (n : ℕ) (x : Exchange) (intervals : List ℕ) (i : ℕ) : Type 0 where
  pub one : list_any (λ k. k == i) intervals ≡ true → (k : ℕ) → IsFromBefore n x k i → ⊥
  pub none : list_any (λ k. k == i) intervals ≡ false → (k : ℕ) × IsFromBefore n x k i

-- in the samples before an insertion or a removal, `moved_intervals` are those intervals that no
-- longer exist after it. Those that keep a sample are opened
pub record MovesOpenWhatIsLost : Type 0 where
  pub inserted : (n old first len i : ℕ) → 0 < n → first ≤ old → i < div_ceil old n
      → IsLostIfOneOf n (record { old = old; gone = record { first = first; stop = first }; fresh = len })
      (moved_intervals n len old (record { first = first; stop = first })) i
  pub removed : (n old first len i : ℕ) → 0 < n → first + len ≤ old → i < div_ceil old n
      → IsLostIfOneOf n (record { old = old; gone = record { first = first; stop = first + len }; fresh = 0 })
      (moved_intervals n len old (record { first = first; stop = first + len })) i

-- an insertion after the last sample codes the same number of intervals as the append, and a
-- removal up to the end the same number as the truncate
pub record EndsMeet : Type 0 where
  pub inserted : (n old : ℕ) (values : Samples) → 0 < n
      → needed_calls n old (Insert old values) ≡ needed_calls n old (Append values)
  pub removed : (n old first : ℕ) → 0 < n → first ≤ old
      → needed_calls n old (Remove first (old - first)) ≡ needed_calls n old (Truncate first)

-- an insertion opens no more intervals than it codes, and a removal at most two more: the first and
-- the last that it cuts
pub record MovesOpenFew : Type 0 where
  pub inserted : (n old first : ℕ) (values : Samples) → 0 < n → first ≤ old
      → opened_intervals n old (Insert first values) ≤ needed_calls n old (Insert first values)
  pub removed : (n old first len : ℕ) → 0 < n → first + len ≤ old
      → opened_intervals n old (Remove first len) ≤ needed_calls n old (Remove first len) + 2

-- These code nothing: an insertion of no values, a removal of no samples, a removal of whole
-- intervals, and a removal from the beginning of an interval to the end of the samples
pub record MovesCodeNothing : Type 0 where
  pub inserted : (n old first : ℕ) → needed_calls n old (Insert first []) ≡ 0
  pub removed : (n old first : ℕ) → needed_calls n old (Remove first 0) ≡ 0
  pub whole : (n old k j : ℕ) → 0 < n → needed_calls n old (Remove (k * n) (j * n)) ≡ 0
  pub to_the_end : (n old k : ℕ) → 0 < n → k * n ≤ old → needed_calls n old (Remove (k * n) (old - k * n)) ≡ 0
