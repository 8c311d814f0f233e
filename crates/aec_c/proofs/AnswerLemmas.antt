-- The answers of coding, decoding and ranges, from the contracts of the engine's calls.
use Rattle.std.proofs.Common.{ℕ, false, Option, Result, Ok, Err, List, inl, inr, refl, sym, subst}
use Rattle.aec_params.specs.declared.settings.Settings.{Settings}
use Rattle.aec_params.specs.declared.fault.Fault.{Fault}
use Rattle.aec_params.specs.Params.{IsAllowed}
use Rattle.aec_engine.specs.Transfers.{input_of}
use Rattle.aec_engine.specs.Output.{IsEncoded, IsDecoded, IsRanged}
use Rattle.aec_engine.specs.Buffers.{FillsOne, OrMemory}
use Rattle.aec_engine.proofs.InMemoryLemmas.{code_of, code_refusal, reading_of, refusal_of}
use Rattle.aec_engine.proofs.BufferLemmas.{fills_map}
use Rattle.aec_c.specs.Calls.{most, IsCoding, coded, not_coded, lacks_memory, IsDecoding, decoded, not_decoded, no_memory, IsRanging, ranged, no_room}

-- ---- coding

coding : (s : Settings) (samples : List ℕ) (answer : Result (List ℕ) Fault) → IsAllowed s
    → OrMemory (IsEncoded s most (input_of samples false)) answer → IsCoding s samples answer
coding s samples answer allowed (inl lacks) = subst (IsCoding s samples) (sym lacks) (lacks_memory allowed)
coding s samples (Ok bytes) allowed (inr answered) = coded bytes allowed (code_of s most samples bytes (Ok bytes) refl answered)
coding s samples (Err fault) allowed (inr answered) = not_coded fault allowed (code_refusal s most samples (Err fault) fault refl answered)

pub coding_into : (s : Settings) (samples before after : List ℕ) (r : Result ℕ Fault) → IsAllowed s
    → FillsOne (OrMemory (IsEncoded s most (input_of samples false))) before after r → FillsOne (IsCoding s samples) before after r
coding_into s samples before after r allowed =
    fills_map (OrMemory (IsEncoded s most (input_of samples false))) (IsCoding s samples) before after r (λ answer. coding s samples answer allowed)

-- ---- decoding

decoding : (s : Settings) (count : Option ℕ) (bytes : List ℕ) (answer : Result (List ℕ) Fault) → IsAllowed s
    → OrMemory (IsDecoded s most count (input_of bytes false)) answer → IsDecoding s count bytes answer
decoding s count bytes answer allowed (inl lacks) = subst (IsDecoding s count bytes) (sym lacks) (no_memory allowed)
decoding s count bytes (Ok samples) allowed (inr answered) = decoded samples allowed (reading_of s most count bytes samples (Ok samples) refl answered)
decoding s count bytes (Err fault) allowed (inr answered) = not_decoded fault allowed (refusal_of s most count bytes (Err fault) fault refl answered)

pub decoding_into : (s : Settings) (count : Option ℕ) (bytes before after : List ℕ) (r : Result ℕ Fault) → IsAllowed s
    → FillsOne (OrMemory (IsDecoded s most count (input_of bytes false))) before after r → FillsOne (IsDecoding s count bytes) before after r
decoding_into s count bytes before after r allowed =
    fills_map (OrMemory (IsDecoded s most count (input_of bytes false))) (IsDecoding s count bytes) before after r
    (λ answer. decoding s count bytes answer allowed)

-- ---- ranges

ranging : (s : Settings) (count : Option ℕ) (first len : ℕ) (bytes : List ℕ) (answer : Result (List ℕ) Fault) → IsAllowed s
    → OrMemory (IsRanged s most count first len (input_of bytes false)) answer → IsRanging s count first len bytes answer
ranging s count first len bytes answer allowed (inl lacks) = subst (IsRanging s count first len bytes) (sym lacks) (no_room allowed)
ranging s count first len bytes answer allowed (inr answered) = ranged answer allowed answered

pub ranging_into : (s : Settings) (count : Option ℕ) (first len : ℕ) (bytes before after : List ℕ) (r : Result ℕ Fault) → IsAllowed s
    → FillsOne (OrMemory (IsRanged s most count first len (input_of bytes false))) before after r
    → FillsOne (IsRanging s count first len bytes) before after r
ranging_into s count first len bytes before after r allowed =
    fills_map (OrMemory (IsRanged s most count first len (input_of bytes false))) (IsRanging s count first len bytes) before after r
    (λ answer. ranging s count first len bytes answer allowed)
