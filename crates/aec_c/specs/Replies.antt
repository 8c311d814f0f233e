-- What a call leaves in the buffer and in the reply.
use Rattle.std.specs.Prelude.{◌≡◌, ℕ, nat_le, if◌then◌else◌, Result, Ok, Err, List, ◌++◌, length, drop}
use Rattle.aec_params.specs.declared.fault.Fault.{Fault}
use Rattle.aec_params.specs.declared.fault.Fault.TheVariants.{BitsPerSample, BlockSize, Interval, RestrictedWidth, SampleRange, Truncated, ValueTooLarge, RunTooLong, TooManySamples, OutOfRange, Spent, Memory, Read, Write, Script, StreamTooLong, EvenBlockSize}
use Rattle.aec_engine.specs.Buffers.{left_of}
use Rattle.aec_c.specs.declared.reply.Reply.{Reply}

-- the number of a refusal
abbrev pub number_of : Fault → ℕ
number_of BitsPerSample = 1
number_of BlockSize = 2
number_of Interval = 3
number_of RestrictedWidth = 4
number_of (SampleRange index) = 5
number_of (Truncated bit) = 6
number_of (ValueTooLarge bit) = 7
number_of (RunTooLong bit) = 8
number_of (TooManySamples limit) = 9
number_of (OutOfRange count) = 10
number_of Spent = 11
number_of Memory = 12
number_of Read = 13
number_of Write = 14
number_of (Script line) = 15
number_of (StreamTooLong limit) = 16
number_of EvenBlockSize = 17

-- the bit, index, line, count or limit that a refusal names
abbrev pub place_of : Fault → ℕ
place_of BitsPerSample = 0
place_of BlockSize = 0
place_of Interval = 0
place_of RestrictedWidth = 0
place_of (SampleRange index) = index
place_of (Truncated bit) = bit
place_of (ValueTooLarge bit) = bit
place_of (RunTooLong bit) = bit
place_of (TooManySamples limit) = limit
place_of (OutOfRange count) = count
place_of Spent = 0
place_of Memory = 0
place_of Read = 0
place_of Write = 0
place_of (Script line) = line
place_of (StreamTooLong limit) = limit
place_of EvenBlockSize = 0

-- the reply for a result of `len` bytes
abbrev pub done : ℕ → Reply
done len = record { fault = 0; place = 0; len = len }

-- the reply if a result takes `len` bytes and the buffer has fewer
abbrev pub wants_room : ℕ → Reply
wants_room len = record { fault = 18; place = 0; len = len }

-- the reply for a refusal
abbrev pub refused_for : Fault → Reply
refused_for fault = record { fault = number_of fault; place = place_of fault; len = 0 }

-- the reply for a result of `len` bytes, or for a refusal, in a buffer of `room` bytes
abbrev pub reply_of : Result ℕ Fault → ℕ → Reply
reply_of (Ok len) room = if nat_le len room then done len else wants_room len
reply_of (Err fault) room = refused_for fault

-- the reply for a result or a refusal
abbrev pub reply_to : {X : Type 0} → Result (List X) Fault → ℕ → Reply
reply_to (Ok answer) room = if nat_le (length answer) room then done (length answer) else wants_room (length answer)
reply_to (Err fault) room = refused_for fault

-- bytes written over the front, the rest unchanged
abbrev pub over_front : {X : Type 0} → List X → List X → List X
over_front answer before = answer ++ drop (length answer) before

-- a call had one of these results
pub record Replies (answers : Result (List ℕ) Fault → Type 0) (before after : List ℕ) (reply : Reply) : Type 0 where
  pub answer : Result (List ℕ) Fault
  pub answered : answers answer
  pub left : after ≡ left_of answer before
  pub replied : reply ≡ reply_to answer (length before)
