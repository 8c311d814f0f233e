-- What an engine takes from a source and leaves in a sink.
use Rattle.std.specs.Prelude.{◌≡◌, ℕ, ◌<◌, ◌≤◌, nat_lt, Bool, true, false, Option, Result, Ok, Err, List, length}
use Rattle.std.specs.Io.KnownBytes.{Consumes, IsAtEnd, Appends, Keeps}
use Rattle.aec_bits.specs.Devices.{counted, AppendsFront}
use Rattle.aec_params.specs.declared.fault.Fault.{Fault}
use Rattle.aec_params.specs.declared.fault.Fault.TheVariants.{StreamTooLong, Memory, Read, Write}

-- the bytes of a source up to its end, which are within the limit: by what was left before and
-- after, and by its count of failures after
pub record IsTakenWhole (before after : Option (List ℕ)) (failures limit : ℕ) (bytes : List ℕ) : Type 0 where
  pub taken : Consumes before after bytes
  pub at_end : IsAtEnd after
  pub sound : failures ≡ 0
  pub within : length bytes ≤ limit

-- the bytes of a source that then failed, within the limit
pub record FailsWithin (before after : Option (List ℕ)) (failures limit : ℕ) (bytes : List ℕ) : Type 0 where
  pub taken : Consumes before after bytes
  pub failed : failures ≡ 1
  pub within : length bytes ≤ limit

-- bytes of a source that exceed the limit (COMMAND: Limits, time and memory)
pub record PassesLimit (before after : Option (List ℕ)) (failures limit : ℕ) (bytes : List ℕ) : Type 0 where
  pub taken : Consumes before after bytes
  pub sound : failures ≡ 0
  pub past : limit < length bytes

-- why a source was not read whole (COMMAND: Diagnostics)
pub data RefusesIntake (before after : Option (List ℕ)) (failures limit : ℕ) : Fault → Type 0 where
  no_memory : RefusesIntake before after failures limit Memory
  source_failed : (bytes : List ℕ) → FailsWithin before after failures limit bytes
      → RefusesIntake before after failures limit Read
  too_many_bytes : (bytes : List ℕ) → PassesLimit before after failures limit bytes
      → RefusesIntake before after failures limit (StreamTooLong limit)

-- what a source returned: its bytes in order, and whether it failed after them
pub record Input : Type 0 where
  pub bytes : List ℕ
  pub failed : Bool

-- these bytes, and whether the source failed after them
abbrev pub input_of : List ℕ → Bool → Input
input_of bytes failed = record { bytes = bytes; failed = failed }

-- a source before and after a run
pub record Taking : Type 0 where
  pub before : Option (List ℕ)
  pub after : Option (List ℕ)
  pub failures : ℕ

-- a source before and after a run, in the terms of its kind: the bytes that are left, and how often
-- it has failed
abbrev pub taking_of : {R : Type 0} → (R → Option (List ℕ)) → (R → ℕ) → R → R → Taking
taking_of left failed old new = record { before = left old; after = left new; failures = failed new }

-- a sink before and after a run
pub record Putting : Type 0 where
  pub before : Option (List ℕ)
  pub after : Option (List ℕ)
  pub begun_before : ℕ
  pub begun_after : ℕ
  pub mark : Option (List ℕ)
  pub failures : ℕ

-- a sink before and after a run, in the terms of its kind: the bytes that it has taken, how often
-- it was begun, what it had taken when it was last begun, and how often it has failed
abbrev pub putting_of : {W : Type 0} → (W → Option (List ℕ)) → (W → ℕ) → (W → Option (List ℕ)) → (W → ℕ) → W → W
    → Putting
putting_of taken begun mark failed old new =
    record {
      before = taken old;
      after = taken new;
      begun_before = begun old;
      begun_after = begun new;
      mark = mark new;
      failures = failed new;
    }

-- whether bytes are more than a limit
abbrev pub are_past : ℕ → List ℕ → Bool
are_past limit bytes = nat_lt limit (length bytes)

-- the source returned this input: all to its end or its failure, or bytes that are enough for a
-- result, whatever follows
pub record Gave (source : Taking) (enough : List ℕ → Bool) (input : Input) : Type 0 where
  pub taken : Consumes source.before source.after input.bytes
  pub failed : input.failed ≡ true → source.failures ≡ 1
  pub sound : input.failed ≡ false → source.failures ≡ 0
  pub whole : enough input.bytes ≡ false → input.failed ≡ false → IsAtEnd source.after

-- nothing was written, and begin was not called
pub record WroteNothing (sink : Putting) : Type 0 where
  pub kept : Keeps sink.before sink.after
  pub begun : sink.begun_after ≡ sink.begun_before

-- `begin` was called once, before anything was taken: what the sink had taken by then, if known, is
-- what it had taken before the run
pub record IsBegunFirst (sink : Putting) : Type 0 where
  pub once : sink.begun_after ≡ counted sink.begun_before
  pub first : Keeps sink.mark sink.before

-- What an engine whose results are a function of its input leaves: its result, written after one
-- `begin`; or its refusal or `Memory`, and nothing written; or a prefix of its result if the sink
-- failed. (COMMAND: Coding and DEST)
pub data Leaves (answers : Input → Result (List ℕ) Fault → Type 0) (source : Taking) (enough : List ℕ → Bool)
    (sink : Putting)
    : Result (Unit {0}) Fault → Type 0 where
  written : (input : Input) (bytes : List ℕ) → Gave source enough input → answers input (Ok bytes)
      → Appends sink.before sink.after bytes
      → IsBegunFirst sink → sink.failures ≡ 0 → Leaves answers source enough sink (Ok tt)
  refused : (input : Input) (fault : Fault) → Gave source enough input → answers input (Err fault) → WroteNothing sink
      → Leaves answers source enough sink (Err fault)
  no_answer : WroteNothing sink → Leaves answers source enough sink (Err Memory)
  not_written : (input : Input) (bytes : List ℕ) → Gave source enough input → answers input (Ok bytes)
      → AppendsFront sink.before sink.after bytes
      → IsBegunFirst sink → sink.failures ≡ 1 → Leaves answers source enough sink (Err Write)

-- the result of a run over a source before anything is written: the result for its input, or
-- `Memory`
pub data GivesAnswer (answers : Input → Result (List ℕ) Fault → Type 0) (source : Taking)
    (enough : List ℕ → Bool) : Result (List ℕ) Fault → Type 0 where
  given : (input : Input) (answer : Result (List ℕ) Fault) → Gave source enough input → answers input answer
      → GivesAnswer answers source enough answer
  lacks_memory : GivesAnswer answers source enough (Err Memory)

-- a result in terms of what is asked of it, as its bytes; or its refusal
abbrev pub answer_by : {X A E : Type 0} → (X → A) → Result X E → Result A E
answer_by asked (Ok x) = Ok (asked x)
answer_by asked (Err fault) = Err fault

-- what writing a result leaves: its bytes, after one `begin`; nothing for a refusal; or a prefix of
-- its bytes if the sink failed
pub data Settles (sink : Putting) : Result (List ℕ) Fault → Result (Unit {0}) Fault → Type 0 where
  settled : (bytes : List ℕ) → Appends sink.before sink.after bytes → IsBegunFirst sink → sink.failures ≡ 0
      → Settles sink (Ok bytes) (Ok tt)
  not_begun : (fault : Fault) → WroteNothing sink → Settles sink (Err fault) (Err fault)
  stopped : (bytes : List ℕ) → AppendsFront sink.before sink.after bytes → IsBegunFirst sink → sink.failures ≡ 1
      → Settles sink (Ok bytes) (Err Write)
