-- What a buffer contains after the kept bytes and the bytes of the rest were written to it.
use Rattle.std.proofs.Common.{◌≡◌, ℕ, ◌+◌, ◌*◌, ◌-◌, ◌<◌, ◌≤◌, Bool, None, Some, Option, Result, Ok, Err, ℤ, List, [], ◌++◌, length, take, drop, append-nil, append_assoc, refl, sym, ap, ap₂, ◌∙◌, subst, arith}
use Rattle.std.specs.Prelude.{nat_le, IfOk, IfErr}
use Rattle.std.proofs.lemmas.Bool.{cond-true, cond-false, le-leb, lt-leb}
use Rattle.std.proofs.lemmas.List.{length-append, take_at, drop-drop}
use Rattle.std.proofs.lemmas.Slice.{drop-append-drop}
use Rattle.aec_params.specs.declared.settings.Settings.{Settings}
use Rattle.aec_params.specs.declared.fault.Fault.{Fault}
use Rattle.aec_params.specs.declared.fault.Fault.TheVariants.{StreamTooLong, Memory}
use Rattle.aec_params.specs.Params.{IsAllowed, storage_len}
use Rattle.aec_params.specs.Codewords.{bits_of_bytes}
use Rattle.aec_params.specs.Reading.{IsReading}
use Rattle.aec_interval.specs.Reached.{count_refusal, RefusesReading}
use Rattle.aec_interval.specs.Pieces.{Place, place_at}
use Rattle.aec_engine.specs.Transfers.{RefusesIntake, no_memory, too_many_bytes}
use Rattle.aec_engine.specs.Output.{all_stored, samples_from}
use Rattle.aec_engine.specs.ReadingTwice as twice
use Rattle.aec_engine.specs.ReadingTwice.{GaveWhole, AreSamplesOf, HaveSamples, KeepsFront, DecodesBits}
use Rattle.aec_engine.specs.Buffers.{FillsOne}
use Rattle.aec_engine.proofs.ReadTwiceLemmas.{place_from}
use Rattle.aec_engine.proofs.PutRangeLemmas.{samples_from-most}
use Rattle.aec_engine.proofs.SettlingLemmas.{samples_there, refuses_reading}
use Rattle.aec_engine.proofs.BufferLemmas.{HasRange, size_of, fills_map}
use Rattle.aec_engine.proofs.KeepingLemmas.{kept_and_rest}

-- ---- bytes in memory

pub given_past : (coded : List ℕ) (limit : ℕ) → limit < length coded → RefusesIntake (Some coded) (Some []) 0 limit (StreamTooLong limit)
given_past coded limit past = too_many_bytes coded (record { taken = sym (append-nil coded); sound = refl; past = past })

pub given_all : {X : Type 0} (list : X → List Bool) (r : Result X Fault) (coded : List ℕ) (limit : ℕ) → length coded ≤ limit
    → IfOk r (λ x. list x ≡ bits_of_bytes coded) → IfOk r (λ x. GaveWhole (Some coded) (Some []) 0 limit (list x))
given_all list (Ok x) coded limit within spelled = record {
  bytes = coded;
  taken = record { taken = sym (append-nil coded); at_end = refl; sound = refl; within = within };
  spelled = spelled;
}
given_all list (Err fault) coded limit within spelled = spelled

pub given_none : {X : Type 0} (r : Result X Fault) (coded : List ℕ) (limit : ℕ) → IfErr r (λ e. (e ≡ Memory) × (0 < length coded))
    → IfErr r (RefusesIntake (Some coded) (Some []) 0 limit)
given_none (Ok x) coded limit is = is
given_none (Err fault) coded limit is = subst (RefusesIntake (Some coded) (Some []) 0 limit) (sym is.0) no_memory

-- ---- two parts, one after the other

-- the only answer is these bytes
abbrev pub IsOnly : List ℕ → Result (List ℕ) Fault → Type 0
IsOnly bytes answer = answer ≡ Ok bytes

pub only_not : (bytes before : List ℕ) (size : ℕ) → length bytes ≡ size → length before < size → FillsOne (IsOnly bytes) before before (Ok size)
only_not bytes before size same long = record {
  answer = Ok bytes;
  answered = refl;
  told = ap Ok (sym same);
  left = sym (cond-false (nat_le (length bytes) (length before)) (bytes ++ drop (length bytes) before) before
      (lt-leb (length bytes) (length before) (omega (arith, same, long))));
}

pub only_front : (bytes before after : List ℕ) (size : ℕ) → length bytes ≡ size → size ≤ length before → after ≡ bytes ++ drop size before
    → FillsOne (IsOnly bytes) before after (Ok size)
only_front bytes before after size same short put = record {
  answer = Ok bytes;
  answered = refl;
  told = ap Ok (sym same);
  left = put ∙ ap (λ n. bytes ++ drop n before) (sym same)
      ∙ sym (cond-true (nat_le (length bytes) (length before)) (bytes ++ drop (length bytes) before) before
      (le-leb (length bytes) (length before) (omega (arith, same, short))));
}

module _ (p : Place) (s : Settings) (kept left size : ℕ) (bytes before : List ℕ) (xs : List ℤ) (a : IsAllowed p.settings) (range : HasRange p kept left)
    (told : AreSamplesOf p xs) (is : size ≡ length bytes + left * storage_len s) where
  abbrev rest : List ℕ
  rest = all_stored s (samples_from kept left xs)

  both_len : length (bytes ++ rest) ≡ size
  both_len = omega (arith, length-append bytes rest, is, size_of p s kept left (left * storage_len s) xs a range told refl)

  -- both parts are too long for the buffer
  pub kept_not : length before < size → FillsOne (IsOnly (bytes ++ rest)) before before (Ok size)
  kept_not long = only_not (bytes ++ rest) before size both_len long

  -- both parts are written to the front of the buffer
  pub kept_front : (mid after : List ℕ) (k : ℕ) → size ≤ length before → mid ≡ bytes ++ drop (length bytes) before → k ≡ size - length bytes
      → after ≡ take (length bytes) mid ++ (rest ++ drop k (drop (length bytes) mid)) → FillsOne (IsOnly (bytes ++ rest)) before after (Ok size)
  kept_front mid after k short first many second =
      only_front (bytes ++ rest) before after size both_len short (second ∙ ap₂ (λ l m. l ++ (rest ++ m)) front behind ∙ sym (append_assoc bytes rest _))
    where
      front : take (length bytes) mid ≡ bytes
      front = ap (take (length bytes)) first ∙ take_at bytes (drop (length bytes) before) (length bytes) refl

      behind : drop k (drop (length bytes) mid) ≡ drop size before
      behind = drop-drop k (length bytes) mid ∙ ap (λ n. drop n mid) (omega (arith, many, is)) ∙ ap (drop size) first
          ∙ drop-append-drop (length bytes) before bytes size (omega (arith, is)) refl

-- ---- the answer of decoding

-- a reader at the start of the same bits has the same number of samples
pub have_from : (start p : Place) (total : ℕ) → p ≡ place_from start p.block p.bit → HaveSamples p total → HaveSamples start total
have_from start p total same have = record {
  samples = have.samples;
  reading = subst (λ (p : Place). IsReading p.settings p.count p.limit p.bits have.samples) same have.reading;
  counted = have.counted;
}

-- the range of all samples after the first `kept`
pub rest_range : (start p : Place) (kept left total : ℕ) → p ≡ place_from start p.block p.bit → HaveSamples start total → left ≡ total - kept
    → HasRange p kept left
rest_range start p kept left total same have is =
    let there = samples_there start p total same have in
    (there.samples, record { reading = there.reading }, samples_from-most kept left there.samples ∙ omega (arith, there.counted, is))

pub refused_there : (start p : Place) (fault : Fault) → p ≡ place_from start p.block p.bit → RefusesReading p.settings p.count p.limit p.bits 0 0 fault
    → RefusesReading start.settings start.count start.limit start.bits 0 0 fault
refused_there start p fault same refuses = subst (λ (p : Place). RefusesReading p.settings p.count p.limit p.bits 0 0 fault) same refuses

-- a refusal to read the bits is a refusal to decode them
pub refused_under : (s : Settings) (p : Place) (fault : Fault) → p.settings ≡ s → None ≡ count_refusal p.limit p.count
    → RefusesReading p.settings p.count p.limit p.bits 0 0 fault → DecodesBits s p.count p.limit p.bits (Err fault)
refused_under s p fault settings none refuses =
    twice.unread fault (refuses_reading s p.count p.limit p.bits (place_at s p.count p.limit p.bits 0 0) fault refl none
    (subst (λ s. RefusesReading s p.count p.limit p.bits 0 0 fault) settings refuses))

pub decodes_kept : (s : Settings) (count : Option ℕ) (limit most : ℕ) (bits : List Bool) (start p q : Place) (before total left : ℕ)
    (bytes old new : List ℕ) (r : Result ℕ Fault) → IsAllowed s → limit ≡ most → start ≡ place_at s count limit bits 0 0
    → None ≡ count_refusal limit count → p ≡ place_from start p.block p.bit → q ≡ place_from p q.block q.bit → KeepsFront p s before bytes
    → (have : HaveSamples p total) → left ≡ total - before
    → ((xs : List ℤ) → AreSamplesOf q xs → FillsOne (IsOnly (bytes ++ all_stored s (samples_from before left xs))) old new r)
    → FillsOne (DecodesBits s count most bits) old new r
decodes_kept s count limit most bits start p q before total left bytes old new r a same is none here there keeps have rest fills =
    subst (λ limit. FillsOne (DecodesBits s count limit bits) old new r) same
    (fills_map _ (DecodesBits s count limit bits) old new r answer (fills xs given))
  where
    xs : List ℤ
    xs = have.samples

    from_start : p ≡ place_at s count limit bits p.block p.bit
    from_start = here ∙ ap (λ (start : Place). place_from start p.block p.bit) is

    reading : IsReading s count limit bits xs
    reading = subst (λ (p : Place). IsReading p.settings p.count p.limit p.bits xs) from_start have.reading

    allowed : IsAllowed p.settings
    allowed = subst IsAllowed (sym (ap (λ (p : Place). p.settings) from_start)) a

    given : AreSamplesOf q xs
    given = record { reading = subst (λ (p : Place). IsReading p.settings p.count p.limit p.bits xs) (sym there) have.reading }

    whole : bytes ++ all_stored s (samples_from before left xs) ≡ all_stored s xs
    whole = ap (λ n. bytes ++ all_stored s (samples_from before n xs)) rest ∙ kept_and_rest p s before total bytes xs allowed keeps have.reading have.counted

    answer : (a : Result (List ℕ) Fault) → IsOnly (bytes ++ all_stored s (samples_from before left xs)) a → DecodesBits s count limit bits a
    answer a only = subst (DecodesBits s count limit bits) (sym (only ∙ ap Ok whole)) (twice.read xs (sym none) reading)
