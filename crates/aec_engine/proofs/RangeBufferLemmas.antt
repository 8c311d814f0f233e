-- What a buffer contains after a range was written to it.
use Rattle.std.proofs.Common.{◌≡◌, ℕ, ◌+◌, ◌≤◌, Bool, false, Option, None, Some, Result, Err, ℤ, List, sym, ◌∙◌, subst, arith}
use Rattle.aec_params.specs.declared.settings.Settings.{Settings}
use Rattle.aec_params.specs.declared.fault.Fault.{Fault}
use Rattle.aec_params.specs.Limits.{Caps}
use Rattle.aec_params.specs.Params.{IsAllowed}
use Rattle.aec_params.specs.Reading.{IsReading}
use Rattle.aec_interval.specs.Reached.{count_refusal}
use Rattle.aec_interval.specs.Pieces.{Place, place_at}
use Rattle.aec_engine.specs.Transfers.{input_of, are_past, RefusesIntake, IsTakenWhole}
use Rattle.aec_engine.specs.Output.{IsRanged}
use Rattle.aec_engine.specs.ReadingTwice as twice
use Rattle.aec_engine.specs.ReadingTwice.{GaveWhole, AreSamplesOf, HaveSamples, StoresPart, CutsBits}
use Rattle.aec_engine.specs.Buffers.{FillsOne, OrMemory}
use Rattle.aec_engine.proofs.FrontLemmas.{ranging-whole}
use Rattle.aec_engine.proofs.ReadTwiceLemmas.{place_from}
use Rattle.aec_engine.proofs.PutRangeLemmas.{samples_from-most}
use Rattle.aec_engine.proofs.SettlingLemmas.{samples_there, gives_ranged, intake_ranged}
use Rattle.aec_engine.proofs.BufferLemmas.{fills_refusal, fills_map, HasRange, few_samples, whole_answer}

pub part_range : (start p : Place) (first len total : ℕ) → p ≡ place_from start p.block p.bit → HaveSamples start total → first + len ≤ total
    → HasRange p first len
part_range start p first len total same have within =
    let there = samples_there start p total same have in
    (there.samples, record { reading = there.reading }, samples_from-most first len there.samples ∙ omega (arith, there.counted))

pub few_of_range : (s : Settings) (count : Option ℕ) (limit : ℕ) (bits : List Bool) (p : Place) (first len total : ℕ) → IsAllowed s
    → p ≡ place_at s count limit bits 0 0 → None ≡ count_refusal limit count → HaveSamples p total → first + len ≤ total → len ≤ limit
few_of_range s count limit bits p first len total a is none have within = omega (arith, few_samples s count limit bits p total a is none have)

pub cuts_into : (s : Settings) (count : Option ℕ) (limit most first len : ℕ) (bits : List Bool) (start p : Place) (total : ℕ) (before after : List ℕ)
    (r : Result ℕ Fault) → limit ≡ most → start ≡ place_at s count limit bits 0 0 → None ≡ count_refusal limit count
    → (have : HaveSamples start total) → p ≡ place_from start p.block p.bit → first + len ≤ total
    → ((xs : List ℤ) → AreSamplesOf p xs → FillsOne (StoresPart s first len xs) before after r) → FillsOne (CutsBits s count most first len bits) before after r
cuts_into s count limit most first len bits start p total before after r same is none have there within fills =
    subst (λ limit. FillsOne (CutsBits s count limit first len bits) before after r) same
    (fills_map (StoresPart s first len have.samples) (CutsBits s count limit first len bits) before after r answer (fills have.samples read))
  where
    read : AreSamplesOf p have.samples
    read = record { reading = subst (λ (p : Place). IsReading p.settings p.count p.limit p.bits have.samples) (sym there) have.reading }

    reading : IsReading s count limit bits have.samples
    reading = subst (λ (p : Place). IsReading p.settings p.count p.limit p.bits have.samples) is have.reading

    answer : (a : Result (List ℕ) Fault) → StoresPart s first len have.samples a → CutsBits s count limit first len bits a
    answer a twice.stored = twice.cut have.samples (sym none) reading (omega (arith, within, have.counted))
    answer a twice.no_room = twice.lacks_memory

pub refused_range_into : (s : Settings) (caps : Caps) (count : Option ℕ) (first len : ℕ) (before after : Option (List ℕ)) (failures limit : ℕ)
    (coded old : List ℕ) (r : Result ℕ Fault) (fault f : Fault) → r ≡ Err fault → fault ≡ f → limit ≡ caps.bytes → before ≡ Some coded → failures ≡ 0
    → RefusesIntake before after failures limit f → FillsOne (OrMemory (IsRanged s caps count first len (input_of coded false))) old old r
refused_range_into s caps count first len before after failures limit coded old r fault f is same limited known sound refuses =
    fills_refusal (OrMemory (IsRanged s caps count first len (input_of coded false))) old r fault f is same
    (whole_answer (IsRanged s caps count first len) (are_past caps.bytes) (record { before = before; after = after; failures = failures }) coded (Err f)
    (ranging-whole s caps count first len) known sound (intake_ranged s caps count first len before after failures limit f limited refuses))

pub ranged_into : (s : Settings) (caps : Caps) (count : Option ℕ) (first len : ℕ) (before after : Option (List ℕ)) (failures limit : ℕ) (bits : List Bool)
    (coded old new : List ℕ) (r : Result ℕ Fault) → limit ≡ caps.bytes → before ≡ Some coded → failures ≡ 0 → GaveWhole before after failures limit bits
    → FillsOne (CutsBits s count caps.samples first len bits) old new r → FillsOne (OrMemory (IsRanged s caps count first len (input_of coded false))) old new r
ranged_into s caps count first len before after failures limit bits coded old new r limited known sound gave one =
    fills_map (CutsBits s count caps.samples first len bits) (OrMemory (IsRanged s caps count first len (input_of coded false))) old new r
    (λ answer answered. whole_answer (IsRanged s caps count first len) (are_past caps.bytes)
    (record { before = before; after = after; failures = failures }) coded answer (ranging-whole s caps count first len) known sound
    (gives_ranged s caps count first len before after failures gave.bytes answer
    (subst (λ limit. IsTakenWhole before after failures limit gave.bytes) limited gave.taken)
    (subst (λ bits. CutsBits s count caps.samples first len bits answer) gave.spelled answered))) one
