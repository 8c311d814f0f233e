-- What the definitions of what a run writes were meant to say.
use Rattle.std.specs.Prelude.{◌≡◌, ◌↔◌, ℕ, ◌/◌, ◌<◌, Bool, true, false, Option, Some, None, Result, Ok, Err, ℤ, List, [], ◌++◌, length}
use Rattle.aec_params.specs.declared.settings.Settings.{Settings}
use Rattle.aec_params.specs.Limits.{Caps}
use Rattle.std.specs.Int.{div_ceil}
use Rattle.aec_params.specs.Params.{IsAllowed, interval_len, storage_len}
use Rattle.aec_params.specs.Codewords.{bytes_of}
use Rattle.aec_params.specs.Streams.{stream_of}
use Rattle.aec_engine.specs.Transfers.{Input, input_of, Taking, are_past, Gave}
use Rattle.aec_engine.specs.Output.{IsEncoded, are_refused, IsRead, IsDecoded, IsRanged}
use Rattle.aec_engine.specs.Scripts.{listing_of}
use Rattle.aec_engine.specs.Editing.{script_refusal, IsEdited}

-- ---- bytes or one refusal

-- an input has one result
pub record HasOneAnswer {A E : Type 0} (answers : Input → Result A E → Type 0) (input : Input) : Type 0 where
  pub answer : Result A E
  pub is_answer : answers input answer
  pub only : (other : Result A E) → answers input other → other ≡ answer

-- each input has one result of coding, of decoding and of each range
pub record EachInputHasOneAnswer : Type 0 where
  pub coding : (s : Settings) (caps : Caps) (input : Input) → HasOneAnswer (IsEncoded s caps) input
  pub decoding : (s : Settings) (caps : Caps) (count : Option ℕ) (input : Input) → IsAllowed s
      → HasOneAnswer (IsDecoded s caps count) input
  pub ranging : (s : Settings) (caps : Caps) (count : Option ℕ) (first len : ℕ) (input : Input) → IsAllowed s
      → HasOneAnswer (IsRanged s caps count first len) input

-- each script and input have one result
abbrev pub EachScriptHasOneAnswer : Type 0
EachScriptHasOneAnswer = (s : Settings) (caps : Caps) (count : Option ℕ) (script input : Input) → IsAllowed s
    → HasOneAnswer (IsEdited s caps count script) input

-- a script that asks for nothing leaves all samples: the result for each input is the code of what
-- it decodes to, with one call for each interval
abbrev pub NoEditsKeepTheSamples : Type 0
NoEditsKeepTheSamples = (s : Settings) (caps : Caps) (count : Option ℕ) (script input : Input) (samples : List ℤ)
    → script_refusal caps.bytes script ≡ None → (listing_of script.bytes).edits ≡ [] → IsRead s caps count input samples
    → IsEdited s caps count script input
    (Ok (record { bytes = bytes_of (stream_of s samples); calls = div_ceil (length samples) (interval_len s) }))

-- ---- inputs of which a front is enough

-- the front of an input is enough: both have one result, the same refusal, whether or not their
-- source failed
pub record IsJudgedByFront {A E : Type 0} (answers : Input → Result A E → Type 0) (front rest : List ℕ) : Type 0 where
  pub fault : E
  pub of_front : (failed : Bool) (answer : Result A E) → answers (input_of front failed) answer ↔ (answer ≡ Err fault)
  pub of_whole : (failed : Bool) (answer : Result A E)
      → answers (input_of (front ++ rest) failed) answer ↔ (answer ≡ Err fault)

-- a front is enough if it contains a refused sample; for coded data and scripts, if it is longer
-- than the limit
pub record RefusedFrontsAreEnough : Type 0 where
  pub coding : (s : Settings) (caps : Caps) (front rest : List ℕ) → IsAllowed s
      → are_refused s caps.samples front ≡ true
      → IsJudgedByFront (IsEncoded s caps) front rest
  -- so is each front with more whole samples than the limit
  pub samples : (s : Settings) (caps : Caps) (front : List ℕ) → caps.samples < length front / storage_len s
      → are_refused s caps.samples front ≡ true
  pub decoding : (s : Settings) (caps : Caps) (count : Option ℕ) (front rest : List ℕ) → caps.bytes < length front
      → IsJudgedByFront (IsDecoded s caps count) front rest
  pub ranging : (s : Settings) (caps : Caps) (count : Option ℕ) (first len : ℕ) (front rest : List ℕ)
      → caps.bytes < length front
      → IsJudgedByFront (IsRanged s caps count first len) front rest
  -- with any script, a coded input; and with any coded input, a script
  pub editing : (s : Settings) (caps : Caps) (count : Option ℕ) (script : Input) (front rest : List ℕ)
      → caps.bytes < length front
      → IsJudgedByFront (IsEdited s caps count script) front rest
  pub scripts : (s : Settings) (caps : Caps) (count : Option ℕ) (input : Input) (front rest : List ℕ)
      → caps.bytes < length front
      → IsJudgedByFront (λ script. IsEdited s caps count script input) front rest

-- the result for what a source returned is the result for all bytes that it had left, if it did not
-- fail
abbrev pub IsJudgedWhole : {A E : Type 0} → (Input → Result A E → Type 0) → (List ℕ → Bool) → Type 0
IsJudgedWhole {A} {E} answers enough = (source : Taking) (input : Input) (bytes : List ℕ) (answer : Result A E)
    → source.before ≡ Some bytes → source.failures ≡ 0 → Gave source enough input → answers input answer
    → answers (input_of bytes false) answer

-- this holds for what coding, decoding, a range and edits take, and for what is taken of a script
pub record WhatIsTakenIsEnough : Type 0 where
  pub coding : (s : Settings) (caps : Caps) → IsAllowed s
      → IsJudgedWhole (IsEncoded s caps) (are_refused s caps.samples)
  pub decoding : (s : Settings) (caps : Caps) (count : Option ℕ)
      → IsJudgedWhole (IsDecoded s caps count) (are_past caps.bytes)
  pub ranging : (s : Settings) (caps : Caps) (count : Option ℕ) (first len : ℕ)
      → IsJudgedWhole (IsRanged s caps count first len) (are_past caps.bytes)
  pub editing : (s : Settings) (caps : Caps) (count : Option ℕ) (script : Input)
      → IsJudgedWhole (IsEdited s caps count script) (are_past caps.bytes)
  pub scripts : (s : Settings) (caps : Caps) (count : Option ℕ) (input : Input)
      → IsJudgedWhole (λ script. IsEdited s caps count script input) (are_past caps.bytes)
