-- What a buffer contains, from what is proved of the answer before its bytes are written there.
use Rattle.std.proofs.Common.{◌≡◌, ℕ, ◌*◌, ◌<◌, ◌≤◌, Bool, false, Option, None, Some, Result, Ok, Err, ℤ, List, ◌++◌, length, drop, refl, sym, ap, ◌∙◌, subst, arith, inl, inr}
use Rattle.std.specs.Prelude.{nat_le}
use Rattle.std.proofs.lemmas.Bool.{cond-true, cond-false, le-leb, lt-leb}
use Rattle.aec_params.specs.declared.settings.Settings.{Settings}
use Rattle.aec_params.specs.declared.fault.Fault.{Fault}
use Rattle.aec_params.specs.Limits.{Caps}
use Rattle.aec_params.specs.Params.{IsAllowed, storage_len}
use Rattle.aec_params.specs.Reading.{IsReading}
use Rattle.aec_interval.specs.Reached.{count_refusal}
use Rattle.aec_interval.specs.Pieces.{Place, place_at}
use Rattle.aec_interval.proofs.ReadingLemmas.{bits_are_read_in_one_way}
use Rattle.aec_engine.specs.Laws.{IsJudgedWhole}
use Rattle.aec_engine.specs.Transfers.{Input, input_of, Taking, are_past, RefusesIntake, IsTakenWhole, GivesAnswer, given, lacks_memory}
use Rattle.aec_engine.specs.Output.{IsDecoded, all_stored, samples_from}
use Rattle.aec_engine.specs.ReadingTwice as twice
use Rattle.aec_engine.specs.ReadingTwice.{GaveWhole, AreSamplesOf, HaveSamples, StoresPart, DecodesBits}
use Rattle.aec_engine.specs.Buffers.{FillsOne, OrMemory}
use Rattle.aec_engine.proofs.FrontLemmas.{decoding-whole}
use Rattle.aec_engine.proofs.LoadingLemmas.{read-within}
use Rattle.aec_engine.proofs.SettlingLemmas.{gives_decoded, intake_decoded}
use Rattle.aec_engine.proofs.FillLemmas.{length-all_stored}

-- ---- what is put

-- a refusal, with nothing put
pub fills_refusal : (answers : Result (List ℕ) Fault → Type 0) (before : List ℕ) (r : Result ℕ Fault) (fault f : Fault) → r ≡ Err fault → fault ≡ f
    → answers (Err f) → FillsOne answers before before r
fills_refusal answers before r fault f is same answered = record { answer = Err f; answered = answered; told = is ∙ ap Err same; left = refl }

-- the bits have a reading with `len` samples in the range from `first` on
abbrev pub HasRange : Place → ℕ → ℕ → Type 0
HasRange p first len = (xs : List ℤ) × AreSamplesOf p xs × (length (samples_from first len xs) ≡ len)

-- the number of bytes of the range
pub size_of : (p : Place) (s : Settings) (first len size : ℕ) (xs : List ℤ) → IsAllowed p.settings → HasRange p first len → AreSamplesOf p xs
    → size ≡ len * storage_len s → length (all_stored s (samples_from first len xs)) ≡ size
size_of p s first len size xs a range told is =
    let one : range.0 ≡ xs = (bits_are_read_in_one_way p.settings p.count p.limit p.bits a).one_reading range.0 xs range.1.reading told.reading in
    omega (
      arith,
      length-all_stored s (samples_from first len xs),
      ap (λ n. storage_len s * n) (sym (ap (λ xs. length (samples_from first len xs)) one) ∙ range.2),
    )

-- the range is too long for the buffer
pub fills_not : (p : Place) (s : Settings) (first len size : ℕ) (before : List ℕ) (xs : List ℤ) → IsAllowed p.settings → HasRange p first len
    → AreSamplesOf p xs → size ≡ len * storage_len s → length before < size → FillsOne (StoresPart s first len xs) before before (Ok size)
fills_not p s first len size before xs a range told is long =
    let bytes = all_stored s (samples_from first len xs) in
    let same = size_of p s first len size xs a range told is in
    record {
      answer = Ok bytes;
      answered = twice.stored;
      told = ap Ok (sym same);
      left = sym (cond-false (nat_le (length bytes) (length before)) (bytes ++ drop (length bytes) before) before
          (lt-leb (length bytes) (length before) (omega (arith, same))));
    }

-- the range is written to the front of the buffer
pub fills_front : (p : Place) (s : Settings) (first len size : ℕ) (before after : List ℕ) (xs : List ℤ) → IsAllowed p.settings → HasRange p first len
    → AreSamplesOf p xs → size ≡ len * storage_len s → size ≤ length before → after ≡ all_stored s (samples_from first len xs) ++ drop size before
    → FillsOne (StoresPart s first len xs) before after (Ok size)
fills_front p s first len size before after xs a range told is short put =
    let bytes = all_stored s (samples_from first len xs) in
    let same = size_of p s first len size xs a range told is in
    record {
      answer = Ok bytes;
      answered = twice.stored;
      told = ap Ok (sym same);
      left = put ∙ ap (λ n. bytes ++ drop n before) (sym same)
          ∙ sym (cond-true (nat_le (length bytes) (length before)) (bytes ++ drop (length bytes) before) before
          (le-leb (length bytes) (length before) (omega (arith, same))));
    }

-- ---- which answer it is

pub fills_map : (answers others : Result (List ℕ) Fault → Type 0) (before after : List ℕ) (r : Result ℕ Fault)
    → ((answer : Result (List ℕ) Fault) → answers answer → others answer) → FillsOne answers before after r → FillsOne others before after r
fills_map answers others before after r weaker one =
    record { answer = one.answer; answered = weaker one.answer one.answered; told = one.told; left = one.left }

-- no more samples are read than the limit allows
pub few_samples : (s : Settings) (count : Option ℕ) (limit : ℕ) (bits : List Bool) (p : Place) (total : ℕ) → IsAllowed s → p ≡ place_at s count limit bits 0 0
    → None ≡ count_refusal limit count → HaveSamples p total → total ≤ limit
few_samples s count limit bits p total a is none have =
    let reading = subst (λ (p : Place). IsReading p.settings p.count p.limit p.bits have.samples) is have.reading in
    omega (arith, have.counted, read-within s limit bits count have.samples a (sym none) reading)

-- the answer to all bytes of a source that did not fail
pub whole_answer : (answers : Input → Result (List ℕ) Fault → Type 0) (enough : List ℕ → Bool) (source : Taking) (bytes : List ℕ)
    (answer : Result (List ℕ) Fault)
    → IsJudgedWhole answers enough → source.before ≡ Some bytes → source.failures ≡ 0 → GivesAnswer answers source enough answer
    → OrMemory (answers (input_of bytes false)) answer
whole_answer answers enough source bytes answer whole before sound (given input a gave answered) =
    inr (whole source input bytes a before sound gave answered)
whole_answer answers enough source bytes answer whole before sound lacks_memory = inl refl

pub refused_into : (s : Settings) (caps : Caps) (count : Option ℕ) (before after : Option (List ℕ)) (failures limit : ℕ) (coded old : List ℕ)
    (r : Result ℕ Fault) (fault f : Fault) → r ≡ Err fault → fault ≡ f → limit ≡ caps.bytes → before ≡ Some coded → failures ≡ 0
    → RefusesIntake before after failures limit f
    → FillsOne (OrMemory (IsDecoded s caps count (input_of coded false))) old old r
refused_into s caps count before after failures limit coded old r fault f is same limited known sound refuses =
    fills_refusal (OrMemory (IsDecoded s caps count (input_of coded false))) old r fault f is same
    (whole_answer (IsDecoded s caps count) (are_past caps.bytes) (record { before = before; after = after; failures = failures }) coded (Err f)
    (decoding-whole s caps count) known sound (intake_decoded s caps count before after failures limit f limited refuses))

pub decoded_into : (s : Settings) (caps : Caps) (count : Option ℕ) (before after : Option (List ℕ)) (failures limit : ℕ) (bits : List Bool)
    (coded old new : List ℕ) (r : Result ℕ Fault) → limit ≡ caps.bytes → before ≡ Some coded → failures ≡ 0 → GaveWhole before after failures limit bits
    → FillsOne (DecodesBits s count caps.samples bits) old new r → FillsOne (OrMemory (IsDecoded s caps count (input_of coded false))) old new r
decoded_into s caps count before after failures limit bits coded old new r limited known sound gave one =
    fills_map (DecodesBits s count caps.samples bits) (OrMemory (IsDecoded s caps count (input_of coded false))) old new r
    (λ answer answered. whole_answer (IsDecoded s caps count) (are_past caps.bytes) (record { before = before; after = after; failures = failures })
    coded answer (decoding-whole s caps count) known sound
    (gives_decoded s caps count before after failures gave.bytes answer
    (subst (λ limit. IsTakenWhole before after failures limit gave.bytes) limited gave.taken)
    (subst (λ bits. DecodesBits s count caps.samples bits answer) gave.spelled answered))) one
