-- Answers that are written or refused, from what is proved of them before they are stored.
use Rattle.std.proofs.Common.{◌≡◌, ℕ, ◌+◌, ◌<◌, ◌≤◌, Bool, Option, None, Some, Result, Ok, Err, OnOk, OnErr, ℤ, List, length, refl, sym, ap, ◌∙◌, subst, arith}
use Rattle.std.specs.Io.KnownBytes.{Appends}
use Rattle.aec_params.specs.declared.settings.Settings.{Settings}
use Rattle.aec_params.specs.declared.fault.Fault.{Fault}
use Rattle.aec_params.specs.declared.fault.Fault.TheVariants.{Memory, OutOfRange}
use Rattle.aec_params.specs.Limits.{Caps}
use Rattle.aec_params.specs.Codewords.{bits_of_bytes}
use Rattle.aec_params.specs.Reading.{IsReading}
use Rattle.aec_bits.specs.Devices.{AppendsFront}
use Rattle.aec_interval.specs.Reached.{count_refusal, RefusesReading, RefusesDecoding, above_limit, unread}
use Rattle.aec_interval.specs.Pieces.{Place, place_at}
use Rattle.aec_engine.specs.Output.{IsDecoded, decoded, IsRanged, outside, cut_out, all_stored, samples_from}
use Rattle.aec_engine.specs.Transfers.{Input, Taking, are_past, Putting, IsBegunFirst, RefusesIntake, IsTakenWhole, GivesAnswer, given, Settles, not_begun, Leaves}
use Rattle.aec_engine.specs.ReadingTwice as twice
use Rattle.aec_engine.specs.Transfers as transfers
use Rattle.aec_engine.specs.ReadingTwice.{GaveWhole, AreSamplesOf, HaveSamples, StoresPart, DecodesBits, CutsBits, SettlesOne}
use Rattle.aec_engine.specs.Delivering.{Delivers, PutsAllOrFront}
use Rattle.aec_engine.proofs.ReadTwiceLemmas.{place_from}
use Rattle.aec_engine.proofs.RangingLemmas.{refused_as_decoding}
use Rattle.aec_engine.proofs.OutputLemmas.{Keeps-same, settles_delivered, leaves_settled, refused_intake, refused_decoding, read_samples}

-- a refusal with nothing written
pub settles_refusal : (answers : Result (List ℕ) Fault → Type 0) (r : Result (Unit {0}) Fault) (fault f : Fault) (before mark : Option (List ℕ))
    (begun failures : ℕ)
    → r ≡ Err fault → fault ≡ f → answers (Err f)
    → SettlesOne answers (record { before = before; after = before; begun_before = begun; begun_after = begun; mark = mark; failures = failures }) r
settles_refusal answers r fault f before mark begun failures is same answered =
    let sink : Putting = record { before = before; after = before; begun_before = begun; begun_after = begun; mark = mark; failures = failures } in
    subst (SettlesOne answers sink) (sym (is ∙ ap Err same))
    (record { answer = Err f; answered = answered; settles = not_begun f (record { kept = Keeps-same before; begun = refl }) })

-- bytes that are written
pub settles_written : (answers : Result (List ℕ) Fault → Type 0) (r : Result (Unit {0}) Fault) (bytes : List ℕ) (sink : Putting) → answers (Ok bytes)
    → Delivers bytes sink r → SettlesOne answers sink r
settles_written answers r bytes sink answered delivers = record {
  answer = Ok bytes;
  answered = answered;
  settles = settles_delivered r bytes sink (all_put r delivers.puts) (front_put r delivers.puts) delivers.begun delivers.fault delivers.sound;
}
  where
    all_put : (r : Result (Unit {0}) Fault) → PutsAllOrFront sink.before sink.after bytes r → OnOk r (Appends sink.before sink.after bytes)
    all_put (Ok u) puts = puts
    all_put (Err e) puts = tt

    front_put : (r : Result (Unit {0}) Fault) → PutsAllOrFront sink.before sink.after bytes r → OnErr r (AppendsFront sink.before sink.after bytes)
    front_put (Ok u) puts = tt
    front_put (Err e) puts = puts

settles_map : (answers others : Result (List ℕ) Fault → Type 0) (sink : Putting) (r : Result (Unit {0}) Fault)
    → ((answer : Result (List ℕ) Fault) → answers answer → others answer) → SettlesOne answers sink r → SettlesOne others sink r
settles_map answers others sink r weaker one = record { answer = one.answer; answered = weaker one.answer one.answered; settles = one.settles }

-- ---- bits

abbrev pub samples_told : (p : Place) (total : ℕ) → HaveSamples p total → (xs : List ℤ) × AreSamplesOf p xs
samples_told p total have = (have.samples, record { reading = have.reading })

-- a reader of the same bits has the same samples
pub samples_there : (start p : Place) (total : ℕ) → p ≡ place_from start p.block p.bit → HaveSamples start total → HaveSamples p total
samples_there start p total same have =
    subst (λ (p : Place). HaveSamples p total) (sym same) (record { samples = have.samples; reading = have.reading; counted = have.counted })

reading_at : (s : Settings) (count : Option ℕ) (limit : ℕ) (bits : List Bool) (p : Place) (xs : List ℤ) → p ≡ place_at s count limit bits 0 0
    → IsReading p.settings p.count p.limit p.bits xs → IsReading s count limit bits xs
reading_at s count limit bits p xs is reading = subst (λ (p : Place). IsReading p.settings p.count p.limit p.bits xs) is reading

pub refuses_count : (s : Settings) (count : Option ℕ) (limit : ℕ) (bits : List Bool) (fault : Fault) → Some fault ≡ count_refusal limit count
    → RefusesDecoding s count limit bits fault
refuses_count s count limit bits fault is = above_limit fault (sym is)

pub refuses_reading : (s : Settings) (count : Option ℕ) (limit : ℕ) (bits : List Bool) (p : Place) (fault : Fault) → p ≡ place_at s count limit bits 0 0
    → None ≡ count_refusal limit count → RefusesReading p.settings p.count p.limit p.bits 0 0 fault → RefusesDecoding s count limit bits fault
refuses_reading s count limit bits p fault is none refuses =
    unread fault (sym none) (subst (λ (p : Place). RefusesReading p.settings p.count p.limit p.bits 0 0 fault) is refuses)

pub cuts_part : (s : Settings) (count : Option ℕ) (limit most first len : ℕ) (bits : List Bool) (start p : Place) (total : ℕ) (sink : Putting)
    (r : Result (Unit {0}) Fault) → limit ≡ most → start ≡ place_at s count limit bits 0 0 → None ≡ count_refusal limit count
    → (have : HaveSamples start total) → p ≡ place_from start p.block p.bit → first + len ≤ total
    → ((xs : List ℤ) → AreSamplesOf p xs → SettlesOne (StoresPart s first len xs) sink r) → SettlesOne (CutsBits s count most first len bits) sink r
cuts_part s count limit most first len bits start p total sink r same is none have there within settles =
    subst (λ limit. SettlesOne (CutsBits s count limit first len bits) sink r) same
    (settles_map (StoresPart s first len have.samples) (CutsBits s count limit first len bits) sink r answer (settles have.samples read))
  where
    read : AreSamplesOf p have.samples
    read = record { reading = subst (λ (p : Place). IsReading p.settings p.count p.limit p.bits have.samples) (sym there) have.reading }

    answer : (a : Result (List ℕ) Fault) → StoresPart s first len have.samples a → CutsBits s count limit first len bits a
    answer a twice.stored =
        twice.cut have.samples (sym none) (reading_at s count limit bits start have.samples is have.reading) (omega (arith, within, have.counted))
    answer a twice.no_room = twice.lacks_memory

pub cuts_past : (s : Settings) (count : Option ℕ) (limit first len : ℕ) (bits : List Bool) (p : Place) (total : ℕ) (fault : Fault)
    → p ≡ place_at s count limit bits 0 0 → None ≡ count_refusal limit count → HaveSamples p total → (fault ≡ OutOfRange total) × (total < first + len)
    → CutsBits s count limit first len bits (Err fault)
cuts_past s count limit first len bits p total fault is none have past =
    subst (λ f. CutsBits s count limit first len bits (Err f)) (sym (past.0 ∙ ap OutOfRange (sym have.counted)))
    (twice.past have.samples (sym none) (reading_at s count limit bits p have.samples is have.reading) (omega (arith, past.1, have.counted)))

-- ---- sources

pub leaves_refusal : (answers : Input → Result (List ℕ) Fault → Type 0) (source : Taking) (enough : List ℕ → Bool) (r : Result (Unit {0}) Fault)
    (fault f : Fault) (before mark : Option (List ℕ)) (begun failures : ℕ) → r ≡ Err fault → fault ≡ f → GivesAnswer answers source enough (Err f)
    → Leaves answers source enough
    (record { before = before; after = before; begun_before = begun; begun_after = begun; mark = mark; failures = failures }) r
leaves_refusal answers source enough r fault f before mark begun failures is same gives =
    let one = settles_refusal (λ a. GivesAnswer answers source enough a) r fault f before mark begun failures is same gives in
    leaves_settled answers source enough _ one.answer r one.answered one.settles

pub leaves_memory : (answers : Input → Result (List ℕ) Fault → Type 0) (source : Taking) (enough : List ℕ → Bool) (r : Result (Unit {0}) Fault)
    (fault f : Fault) (before mark : Option (List ℕ)) (begun failures : ℕ) → r ≡ Err fault → fault ≡ f → f ≡ Memory
    → Leaves answers source enough
    (record { before = before; after = before; begun_before = begun; begun_after = begun; mark = mark; failures = failures }) r
leaves_memory answers source enough r fault f before mark begun failures is same memory =
    leaves_refusal answers source enough r fault Memory before mark begun failures is (same ∙ memory) transfers.lacks_memory

pub leaves_delivered : (answers : Input → Result (List ℕ) Fault → Type 0) (source : Taking) (enough : List ℕ → Bool) (sink : Putting)
    (r : Result (Unit {0}) Fault) (bytes : List ℕ) → GivesAnswer answers source enough (Ok bytes) → Delivers bytes sink r
    → Leaves answers source enough sink r
leaves_delivered answers source enough sink r bytes gives delivers =
    let one = settles_written (λ a. GivesAnswer answers source enough a) r bytes sink gives delivers in
    leaves_settled answers source enough sink one.answer r one.answered one.settles

pub gives_decoded : (s : Settings) (caps : Caps) (count : Option ℕ) (before after : Option (List ℕ)) (failures : ℕ) (bytes : List ℕ)
    (answer : Result (List ℕ) Fault)
    → IsTakenWhole before after failures caps.bytes bytes → DecodesBits s count caps.samples (bits_of_bytes bytes) answer
    → GivesAnswer (IsDecoded s caps count) (record { before = before; after = after; failures = failures }) (are_past caps.bytes) answer
gives_decoded s caps count before after failures bytes answer taken (twice.read xs none reading) =
    let gave = read_samples s caps count before after failures bytes xs taken none reading in
    given gave.input (Ok (all_stored s xs)) gave.gave (decoded xs gave.read)
gives_decoded s caps count before after failures bytes answer taken (twice.unread fault refuses) =
    refused_decoding s caps count before after failures bytes fault taken refuses
gives_decoded s caps count before after failures bytes answer taken twice.no_memory = transfers.lacks_memory

pub leaves_decoded : (s : Settings) (caps : Caps) (count : Option ℕ) (before after : Option (List ℕ)) (failures limit most : ℕ) (bits : List Bool)
    (sink : Putting)
    (r : Result (Unit {0}) Fault) → limit ≡ caps.bytes → most ≡ caps.samples → GaveWhole before after failures limit bits
    → SettlesOne (DecodesBits s count most bits) sink r
    → Leaves (IsDecoded s caps count) (record { before = before; after = after; failures = failures }) (are_past caps.bytes) sink r
leaves_decoded s caps count before after failures limit most bits sink r limited counted gave one =
    leaves_settled (IsDecoded s caps count) _ (are_past caps.bytes) sink one.answer r
    (gives_decoded s caps count before after failures gave.bytes one.answer
    (subst (λ limit. IsTakenWhole before after failures limit gave.bytes) limited gave.taken)
    (subst (λ bits. DecodesBits s count caps.samples bits one.answer) gave.spelled
    (subst (λ most. DecodesBits s count most bits one.answer) counted one.answered)))
    one.settles

pub gives_ranged : (s : Settings) (caps : Caps) (count : Option ℕ) (first len : ℕ) (before after : Option (List ℕ)) (failures : ℕ) (bytes : List ℕ)
    (answer : Result (List ℕ) Fault) → IsTakenWhole before after failures caps.bytes bytes
    → CutsBits s count caps.samples first len (bits_of_bytes bytes) answer
    → GivesAnswer (IsRanged s caps count first len) (record { before = before; after = after; failures = failures }) (are_past caps.bytes) answer
gives_ranged s caps count first len before after failures bytes answer taken (twice.cut xs none reading within) =
    let gave = read_samples s caps count before after failures bytes xs taken none reading in
    given gave.input (Ok (all_stored s (samples_from first len xs))) gave.gave (cut_out xs gave.read within)
gives_ranged s caps count first len before after failures bytes answer taken (twice.past xs none reading beyond) =
    let gave = read_samples s caps count before after failures bytes xs taken none reading in
    given gave.input (Err (OutOfRange (length xs))) gave.gave (outside xs gave.read beyond)
gives_ranged s caps count first len before after failures bytes answer taken (twice.not_read fault refuses) =
    refused_as_decoding s caps count first len _ (Err fault) fault refl (refused_decoding s caps count before after failures bytes fault taken refuses)
gives_ranged s caps count first len before after failures bytes answer taken twice.lacks_memory = transfers.lacks_memory

pub leaves_ranged : (s : Settings) (caps : Caps) (count : Option ℕ) (first len : ℕ) (before after : Option (List ℕ)) (failures limit most : ℕ)
    (bits : List Bool)
    (sink : Putting) (r : Result (Unit {0}) Fault) → limit ≡ caps.bytes → most ≡ caps.samples → GaveWhole before after failures limit bits
    → SettlesOne (CutsBits s count most first len bits) sink r
    → Leaves (IsRanged s caps count first len) (record { before = before; after = after; failures = failures }) (are_past caps.bytes) sink r
leaves_ranged s caps count first len before after failures limit most bits sink r limited counted gave one =
    leaves_settled (IsRanged s caps count first len) _ (are_past caps.bytes) sink one.answer r
    (gives_ranged s caps count first len before after failures gave.bytes one.answer
    (subst (λ limit. IsTakenWhole before after failures limit gave.bytes) limited gave.taken)
    (subst (λ bits. CutsBits s count caps.samples first len bits one.answer) gave.spelled
    (subst (λ most. CutsBits s count most first len bits one.answer) counted one.answered))) one.settles

-- a source that was not read whole
pub intake_decoded : (s : Settings) (caps : Caps) (count : Option ℕ) (before after : Option (List ℕ)) (failures limit : ℕ) (f : Fault) → limit ≡ caps.bytes
    → RefusesIntake before after failures limit f
    → GivesAnswer (IsDecoded s caps count) (record { before = before; after = after; failures = failures }) (are_past caps.bytes) (Err f)
intake_decoded s caps count before after failures limit f limited refuses =
    refused_intake s caps count before after failures f (subst (λ limit. RefusesIntake before after failures limit f) limited refuses)

pub intake_ranged : (s : Settings) (caps : Caps) (count : Option ℕ) (first len : ℕ) (before after : Option (List ℕ)) (failures limit : ℕ) (f : Fault)
    → limit ≡ caps.bytes → RefusesIntake before after failures limit f
    → GivesAnswer (IsRanged s caps count first len) (record { before = before; after = after; failures = failures }) (are_past caps.bytes) (Err f)
intake_ranged s caps count first len before after failures limit f limited refuses =
    refused_as_decoding s caps count first len _ (Err f) f refl (intake_decoded s caps count before after failures limit f limited refuses)
