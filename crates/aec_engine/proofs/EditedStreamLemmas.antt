-- The stream that edits leave, decoded with the number of samples.
use Rattle.std.proofs.Common.{◌≡◌, ℕ, ◌≤◌, Bool, true, false, IsTrue, Some, Result, Err, IfErr, List, [], ◌∷◌, ◌++◌, length, replicate, ℤ, refl, sym, ap, ◌∙◌, subst, arith, rules}
use Rattle.std.specs.List.{list_all, AllByRecursion}
use Rattle.std.proofs.lemmas.Bool.{and_parts, le-ltb}
use Rattle.aec_params.specs.declared.settings.Settings.{Settings}
use Rattle.aec_params.specs.declared.fault.Fault.{Fault}
use Rattle.aec_params.specs.declared.fault.Fault.TheVariants.{Memory}
use Rattle.aec_params.specs.declared.edit.Edit.{Edit}
use Rattle.aec_params.specs.Params.{IsAllowed, is_held, IsHeld}
use Rattle.aec_params.specs.Cutting.{up_to_multiple}
use Rattle.aec_params.specs.Codewords.{bytes_of, bits_of_bytes}
use Rattle.aec_params.specs.Streams.{stream_of}
use Rattle.aec_params.specs.Reading.{IsReading}
use Rattle.aec_params.proofs.ByteLaws.{bits_of_bytes-bytes_of}
use Rattle.aec_interval.specs.IntervalFormat.{interval_format}
use Rattle.aec_interval.specs.Reached.{RefusesReading, no_memory, faulty, RefusesDecoding, above_limit, unread}
use Rattle.aec_interval.specs.Laws.{StreamsAreReadBack, AllBitsAreReadInOneWay}
use Rattle.aec_edit.specs.declared.outcome.Outcome.{Outcome}
use Rattle.aec_edit.specs.Runs.{all_left}
use Rattle.aec_edit.specs.Laws.{RunsLeaveSamples}
use Rattle.aec_engine.specs.EditedStreams.{IsWritten}

held_from : (t : Bool) → t ≡ true → IsTrue t
held_from true e = search rules
held_from false e = absurd (cc)

-- numbers that pass the test are held
all-held : (s : Settings) (v : List ℤ) → list_all (is_held s) v ≡ true → AllByRecursion (IsHeld s) v
all-held s [] h = tt
all-held s (x ∷ v) h =
    let parts = and_parts (is_held s x) (list_all (is_held s) v) h in
    (held_from (is_held s x) parts.0, all-held s v parts.1)

is_read : StreamsAreReadBack → RunsLeaveSamples
    → (s : Settings) (limit : ℕ) (edits : List Edit) (done : List Outcome) (after : ℕ) (bits : List Bool) (count : ℕ)
    → IsWritten s limit edits done after bits count → (IsReading s (Some count) limit bits (all_left [] edits done)) × (count ≤ limit)
is_read back leave s limit edits done after bits count w =
    let left : List ℤ = all_left [] edits done in
    let stream : List Bool = stream_of s left in
    let within = leave (interval_format s) limit [] 0 edits done after w.answers refl (omega arith) in
    let held = all-held s left within.0 in
    let filled : bits ≡ stream ++ replicate (up_to_multiple 8 (length stream)) false = w.bits_are ∙ bits_of_bytes-bytes_of stream in
    let read = back s limit left (replicate (up_to_multiple 8 (length stream)) false) w.allowed held in (
      subst (λ n. IsReading s (Some n) limit bits left) (sym w.count_is) (subst (λ b. IsReading s (Some (length left)) limit b left) (sym filled) read),
      omega (arith, w.count_is, within.1),
    )

pub decoded_left : StreamsAreReadBack → AllBitsAreReadInOneWay → RunsLeaveSamples
    → (s : Settings) (limit : ℕ) (edits : List Edit) (done : List Outcome) (after : ℕ)
    (bits : List Bool) (count : ℕ) (samples : List ℤ)
    → IsWritten s limit edits done after bits count → IsReading s (Some count) limit bits samples → samples ≡ all_left [] edits done
decoded_left back one leave s limit edits done after bits count samples w read =
    (one s (Some count) limit bits w.allowed).one_reading samples (all_left [] edits done) read (is_read back leave s limit edits done after bits count w).0

unread_memory : (s : Settings) (count limit : ℕ) (bits : List Bool) (left : List ℤ) (fault : Fault) → IsAllowed s → AllBitsAreReadInOneWay
    → IsReading s (Some count) limit bits left
    → RefusesReading s (Some count) limit bits 0 0 fault → fault ≡ Memory
unread_memory s count limit bits left fault a one read (no_memory behind) = refl
unread_memory s count limit bits left fault a one read (faulty f wrong) = absurd ((one s (Some count) limit bits a).not_both left f read wrong)

undecoded_memory : (s : Settings) (count limit : ℕ) (bits : List Bool) (left : List ℤ) (fault : Fault) → IsAllowed s → AllBitsAreReadInOneWay
    → IsReading s (Some count) limit bits left
    → count ≤ limit → RefusesDecoding s (Some count) limit bits fault → fault ≡ Memory
undecoded_memory s count limit bits left fault a one read few (above_limit f over) =
    let within = le-ltb limit count few in
    absurd (cc (within, over))
undecoded_memory s count limit bits left fault a one read few (unread f none refuses) = unread_memory s count limit bits left f a one read refuses

pub decoding_lacks_memory : StreamsAreReadBack → AllBitsAreReadInOneWay → RunsLeaveSamples
    → (s : Settings) (limit : ℕ) (edits : List Edit) (done : List Outcome) (after : ℕ)
    (bits : List Bool) (count : ℕ) (fault : Fault)
    → IsWritten s limit edits done after bits count → RefusesDecoding s (Some count) limit bits fault → fault ≡ Memory
decoding_lacks_memory back one leave s limit edits done after bits count fault w refuses =
    let read = is_read back leave s limit edits done after bits count w in
    undecoded_memory s count limit bits (all_left [] edits done) fault w.allowed one read.0 read.1 refuses

pub refused_for_memory : {X : Type 0} → StreamsAreReadBack → AllBitsAreReadInOneWay → RunsLeaveSamples → (s : Settings) (limit : ℕ) (edits : List Edit)
    (done : List Outcome) (after : ℕ) (bits : List Bool) (count : ℕ) (r : Result X Fault) (fault other : Fault)
    → IsWritten s limit edits done after bits count → r ≡ Err fault → fault ≡ other → RefusesDecoding s (Some count) limit bits other
    → IfErr r (λ e. e ≡ Memory)
refused_for_memory {X} back one leave s limit edits done after bits count r fault other w is same refuses =
    let P : Result X Fault → Type 0 = λ r. IfErr r (λ e. e ≡ Memory) in
    subst P (sym is) (same ∙ decoding_lacks_memory back one leave s limit edits done after bits count other w refuses)

-- the decoded samples are the reading of the bytes with their own number as the count
pub read_as_counted : StreamsAreReadBack → AllBitsAreReadInOneWay → RunsLeaveSamples
    → (s : Settings) (limit : ℕ) (edits : List Edit) (done : List Outcome) (after : ℕ) (bits : List Bool) (count : ℕ) (stream : List ℕ) (samples : List ℤ)
    → IsWritten s limit edits done after bits count → stream ≡ bytes_of (stream_of s (all_left [] edits done))
    → IsReading s (Some count) limit bits samples → IsReading s (Some (length samples)) limit (bits_of_bytes stream) samples
read_as_counted back one leave s limit edits done after bits count stream samples w streamed read =
    let left : samples ≡ all_left [] edits done = decoded_left back one leave s limit edits done after bits count samples w read in
    let counted : count ≡ length samples = w.count_is ∙ sym (ap length left) in
    let spelled : bits ≡ bits_of_bytes stream = w.bits_are ∙ sym (ap bits_of_bytes streamed) in
    subst (λ n. IsReading s (Some n) limit (bits_of_bytes stream) samples) counted (subst (λ b. IsReading s (Some count) limit b samples) spelled read)
