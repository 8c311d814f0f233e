-- The second reading into a buffer: bytes of a range of samples are written there, one part after
-- the other.
use Rattle.std.proofs.Common.{◌≡◌, ℕ, ◌+◌, ◌-◌, ◌*◌, ◌%◌, ◌≤◌, true, false, Some, Ok, ℤ, List, [], ◌∷◌, ◌++◌, length, take, drop, refl, sym, ap, ap₂, ◌∙◌, subst, arith, append-nil, append_assoc, ◌⊎◌}
use Rattle.std.proofs.KnownBytes.{Appends-nil}
use Rattle.std.proofs.lemmas.Bool.{cond_both}
use Rattle.std.proofs.lemmas.List.{length-append, length-take, length-drop, take_all, take_at, nil_from_length}
use Rattle.byteorder.specs.Endian.{big_bytes, little_bytes}
use Rattle.byteorder.specs.Numbers.{length-bytes_high_first, length-bytes_low_first}
use Rattle.aec_params.specs.declared.settings.Settings.{Settings}
use Rattle.aec_params.specs.Params.{IsAllowed, storage_len}
use Rattle.aec_params.specs.Stored.{stored_number, stored_bytes}
use Rattle.aec_params.specs.Reading.{IsReading}
use Rattle.aec_interval.specs.Pieces.{Place, is_wanted_at, ReadsIntervals, HasRead}
use Rattle.aec_interval.proofs.ReadingLemmas.{bits_are_read_in_one_way}
use Rattle.aec_interval.proofs.PieceReadingLemmas.{has_read_several, has_read_front}
use Rattle.aec_engine.specs.Output.{all_stored, samples_from}
use Rattle.aec_engine.specs.ReadingTwice.{AreSamplesOf}
use Rattle.aec_engine.specs.Delivering.{PutsPart}
use Rattle.aec_engine.proofs.ReadTwiceLemmas.{place_from, settings-same, same_next}
use Rattle.aec_engine.proofs.PutRangeLemmas.{PutsSoFar, samples_from-append, puts_rest}

-- ---- how many bytes samples have

length-stored_bytes : (s : Settings) (x : ℤ) → length (stored_bytes s x) ≡ storage_len s
length-stored_bytes s x =
    cond_both s.msb_first (big_bytes (storage_len s) (stored_number s x)) (little_bytes (storage_len s) (stored_number s x))
    (λ bytes. length bytes ≡ storage_len s)
    (λ _. length-bytes_high_first (storage_len s) (stored_number s x)) (λ _. length-bytes_low_first 0 (storage_len s) (stored_number s x))

pub length-all_stored : (s : Settings) (xs : List ℤ) → length (all_stored s xs) ≡ storage_len s * length xs
length-all_stored s [] = omega arith
length-all_stored s (x ∷ xs) = omega (arith, length-append (stored_bytes s x) (all_stored s xs), length-stored_bytes s x, length-all_stored s xs)

-- ---- bytes written after others

pub puts_behind : (s : Settings) (at end : ℕ) (before after : List ℕ) (part : List ℤ) → at ≤ length before
    → after ≡ take at before ++ (all_stored s part ++ drop (at + storage_len s * length part) before) → end ≡ at + storage_len s * length part
    → PutsPart (Some (take at before)) (Some (take end after)) [] (all_stored s part) []
puts_behind s at end before after part within is ends = record {
  put = all_stored s part;
  appended = ap (take end) (is ∙ sym (append_assoc (take at before) (all_stored s part) _)) ∙ take_at (take at before ++ all_stored s part) _ end long;
  all = append-nil (all_stored s part);
}
  where
    long : length (take at before ++ all_stored s part) ≡ end
    long = omega (arith, length-append (take at before) (all_stored s part), length-take at before, length-all_stored s part)

pub length-behind : (s : Settings) (at : ℕ) (before after : List ℕ) (part : List ℤ) → at + storage_len s * length part ≤ length before
    → after ≡ take at before ++ (all_stored s part ++ drop (at + storage_len s * length part) before) → length after ≡ length before
length-behind s at before after part within is =
    let later = drop (at + storage_len s * length part) before in
    omega (
      arith,
      ap length is,
      length-append (take at before) (all_stored s part ++ later),
      length-append (all_stored s part) later,
      length-take at before,
      length-drop (at + storage_len s * length part) before,
      length-all_stored s part,
    )

-- at first nothing is put
pub taken_none : (now : List ℕ) → take 0 now ≡ []
taken_none now = nil_from_length (take 0 now) (length-take 0 now ∙ omega arith)

-- ---- what was written so far, and what is to come

-- bits are read as samples whose range has `size` bytes
abbrev pub HasSize : Place → Settings → ℕ → ℕ → ℕ → Type 0
HasSize start s first len size = (xs : List ℤ) × AreSamplesOf start xs × (size ≡ storage_len s * length (samples_from first len xs))

module _ (start p : Place) (s : Settings) (first len skip left at : ℕ) (now : List ℕ) (a : IsAllowed start.settings)
    (so_far : PutsSoFar start p s first len skip left (Some []) (Some (take at now)) []) (within : at ≤ length now)
    (size : HasSize start s first len (length now)) where
  put_bytes : take at now ≡ all_stored s (samples_from first len so_far.samples)
  put_bytes = so_far.appended ∙ sym (append-nil so_far.put) ∙ so_far.all

  put_count : at ≡ storage_len s * length (samples_from first len so_far.samples)
  put_count = omega (arith, ap length put_bytes, length-take at now, length-all_stored s (samples_from first len so_far.samples), within)

  -- there is room for a further part
  pub part_fits : (q : Place) (ys part : List ℤ) → ReadsIntervals p ys q → (is_wanted_at q ≡ true → q.block % q.settings.interval ≡ 0)
      → part ≡ samples_from skip left ys → at + storage_len s * length part ≤ length now
  part_fits q ys part step begins is =
      omega (arith, put_count, size.2, ap (λ n. storage_len s * n) counted)
    where
      both : List ℤ
      both = so_far.samples ++ ys

      same : q ≡ place_from start q.block q.bit
      same = same_next start p q so_far.same step.piece.same

      read : HasRead q both
      read = has_read_several p q so_far.samples ys (subst IsAllowed (sym (settings-same start p so_far.same)) a) so_far.read step

      rest : (zs : List ℤ) × (size.0 ≡ both ++ zs)
      rest = has_read_front q both size.0 (subst IsAllowed (sym (settings-same start q same)) a) read begins
          (subst (λ (p : Place). IsReading p.settings p.count p.limit p.bits size.0) (sym same) size.1.reading)

      later : List ℤ
      later = samples_from (first - length both) (len - (length both - first)) rest.0

      here : samples_from first len both ≡ samples_from first len so_far.samples ++ part
      here = samples_from-append first len so_far.samples ys
          ∙ ap (λ part. samples_from first len so_far.samples ++ part) (sym (is ∙ ap₂ (λ k n. samples_from k n ys) so_far.skip_is so_far.left_is))

      counted : length (samples_from first len size.0) ≡ length (samples_from first len so_far.samples) + length part + length later
      counted = omega (
        arith,
        ap length (ap (samples_from first len) rest.1 ∙ samples_from-append first len both rest.0),
        length-append (samples_from first len both) later,
        ap length here,
        length-append (samples_from first len so_far.samples) part,
      )

  -- at the end the buffer is full
  pub all_filled : (left ≡ 0) ⊎ (is_wanted_at p ≡ false) → (xs : List ℤ) → AreSamplesOf start xs → now ≡ all_stored s (samples_from first len xs)
  all_filled ends xs given = sym (take_all at now full) ∙ bytes
    where
      bytes : take at now ≡ all_stored s (samples_from first len xs)
      bytes = puts_rest start p s first len skip left (Some []) (Some (take at now)) (Some (take at now)) [] [] (Ok tt) a so_far ends refl
          (Appends-nil (Some (take at now))) tt xs given

      one : size.0 ≡ xs
      one = (bits_are_read_in_one_way start.settings start.count start.limit start.bits a).one_reading size.0 xs size.1.reading given.reading

      full : length now ≤ at
      full = omega (
        arith,
        ap length bytes,
        length-take at now,
        length-all_stored s (samples_from first len xs),
        size.2,
        ap (λ xs. storage_len s * length (samples_from first len xs)) one,
      )
