-- Edits: the samples that one leaves, and the intervals that it has to code.
use Rattle.std.specs.Prelude.{ℕ, ◌+◌, ◌-◌, ◌*◌, ◌/◌, ◌%◌, min, Bool, ◌||◌, nat_lt, ◌==◌, if◌then◌else◌, ℤ, List, [], ◌++◌, length, take, drop, filter, map}
use Rattle.std.specs.List.{range_with_len, dedup}
use Rattle.std.specs.Int.{div_ceil}
use Rattle.aec_params.specs.declared.edit.Edit.{Edit}
use Rattle.aec_params.specs.declared.edit.Edit.TheVariants.{Overwrite, Append, Truncate, Insert, Remove}

-- the samples after an edit that fits (COMMAND: Edits)
abbrev pub samples_after : List ℤ → Edit → List ℤ
samples_after samples (Overwrite first values) = take first samples ++ (values ++ drop (first + length values) samples)
samples_after samples (Append values) = samples ++ values
samples_after samples (Truncate count) = take count samples
samples_after samples (Insert first values) = take first samples ++ (values ++ drop first samples)
samples_after samples (Remove first len) = take first samples ++ drop (first + len) samples

-- the numbers, each once, of the intervals of n samples with one of the `len` places from `first`
-- on (consecutive: law `edits_touch_few`)
abbrev pub touched_intervals : ℕ → ℕ → ℕ → List ℕ
touched_intervals n first len = dedup (λ i k. i == k) (map (λ place. place / n) (range_with_len first len))

-- the places from `first` up to `stop`
pub record Stretch : Type 0 where
  pub first : ℕ
  pub stop : ℕ

-- the numbers of the intervals of n samples, from the one that contains the first place up to the
-- last that begins before `stop`
abbrev pub reached_intervals : ℕ → Stretch → List ℕ
reached_intervals n places = range_with_len (places.first / n) (div_ceil places.stop n - places.first / n)

-- how many intervals a truncate to `count` samples codes: one if the count changes and is no
-- multiple of n
abbrev pub cut_calls : ℕ → ℕ → ℕ → ℕ
cut_calls n old count = if count == old then 0 else (if count % n == 0 then 0 else 1)

-- the intervals that are cut anew if len samples are inserted or removed: none if len is 0; if n
-- divides len, those in `reached_intervals`, since later samples keep their grouping; otherwise all
-- from that of the first place to the last of `count` samples
abbrev pub moved_intervals : ℕ → ℕ → ℕ → Stretch → List ℕ
moved_intervals n len count places =
    if len == 0 then [] else reached_intervals n
    (record { first = places.first; stop = if len % n == 0 then places.stop else count })

-- how many intervals, each of n samples, an edit codes if the list has `old` samples: those of the
-- result that hold a new sample or are cut anew. By the law `moves_code_what_is_new` an insertion
-- or a removal codes exactly the intervals that did not exist before; the law `moves_by_length`
-- states their number.
abbrev pub needed_calls : ℕ → ℕ → Edit → ℕ
needed_calls n old (Overwrite first values) = length (touched_intervals n first (length values))
needed_calls n old (Append values) = if length values == 0 then 0 else div_ceil (old + length values) n - old / n
needed_calls n old (Truncate count) = cut_calls n old count
needed_calls n old (Insert first values) =
    length (moved_intervals n (length values) (old + length values)
    (record { first = first; stop = first + length values }))
needed_calls n old (Remove first len) = length
    (moved_intervals n len (old - len) (record { first = first; stop = first }))

-- whether interval k of n samples, of old samples in all, has a sample outside some places
abbrev pub keeps_a_sample : ℕ → ℕ → Stretch → ℕ → Bool
keeps_a_sample n old places k = nat_lt (k * n) places.first || nat_lt places.stop (min (k * n + n) old)

-- the numbers of those intervals that keep a sample
abbrev pub keeping_intervals : ℕ → ℕ → Stretch → List ℕ → List ℕ
keeping_intervals n old places intervals = filter (keeps_a_sample n old places) intervals

-- how many intervals hold a sample that an edit keeps and codes anew, so that they have to be
-- decoded first (of an insertion or a removal those that no longer exist after it: law
-- `moves_open_what_is_lost`)
abbrev pub opened_intervals : ℕ → ℕ → Edit → ℕ
opened_intervals n old (Overwrite first values) =
    length (keeping_intervals n old (record { first = first; stop = first + length values })
    (touched_intervals n first (length values)))
opened_intervals n old (Append values) = if length values == 0 then 0 else (if old % n == 0 then 0 else 1)
opened_intervals n old (Truncate count) = cut_calls n old count
opened_intervals n old (Insert first values) =
    let place : Stretch = record { first = first; stop = first } in
    length (keeping_intervals n old place (moved_intervals n (length values) old place))
opened_intervals n old (Remove first len) =
    let gone : Stretch = record { first = first; stop = first + len } in
    length (keeping_intervals n old gone (moved_intervals n len old gone))
