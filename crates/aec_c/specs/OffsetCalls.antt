-- The results of decoding from a bit on, and of finding the bits where intervals begin.
-- `aecp.h` has the sentences.
use Rattle.std.specs.Prelude.{◌≡◌, ℕ, ◌-◌, ◌*◌, ◌%◌, ◌^◌, ◌==◌, ◌&&◌, ◌||◌, nat_lt, min, not, Bool, true, false, Option, Some, Result, Err, List, length}
use Rattle.aec_params.specs.declared.settings.Settings.{Settings}
use Rattle.aec_params.specs.declared.fault.Fault.{Fault}
use Rattle.aec_params.specs.Params.{IsAllowed, settings_fault}
use Rattle.aec_engine.specs.Buffers.{OrMemory}
use Rattle.aec_engine.specs.Offsets.{IsDecodedAt, AreFound}
use Rattle.aec_c.specs.declared.reply.Reply.{Reply}
use Rattle.aec_c.specs.Calls.{most}
use Rattle.aec_c.specs.Replies.{Replies}

-- whether no decoding begins at a bit of coded bytes: it is after their end; or, with padding, it
-- isn't the first bit of a byte
abbrev pub is_bit_refused : Settings → List ℕ → ℕ → Bool
is_bit_refused s coded bit = nat_lt (8 * length coded) bit || (s.pad && not (bit % 8 == 0))

-- the reply of a call that is refused for its bit: it names the number of bits of the coded bytes
abbrev pub bit_refused : List ℕ → Reply
bit_refused coded = record { fault = 20; place = min (8 * length coded) (2 ^ 64 - 1); len = 0 }

-- the result of decoding coded bytes from a bit on (the refusal of the options, else what
-- `decode_at_into` promises, or `Memory`)
pub data IsDecodingAt (s : Settings) (bit : ℕ) (count : Option ℕ) (coded : List ℕ) : Result (List ℕ) Fault
    → Type 0 where
  read_at : (answer : Result (List ℕ) Fault) → IsAllowed s → is_bit_refused s coded bit ≡ false
      → OrMemory (IsDecodedAt s most bit count coded) answer → IsDecodingAt s bit count coded answer
  refused_options : (fault : Fault) → settings_fault s ≡ Some fault → IsDecodingAt s bit count coded (Err fault)

-- decoding from a bit on, into a buffer: a result; or, with allowed options, the refusal of the
-- bit, which leaves the buffer unchanged
pub data DecodesAt (s : Settings) (bit : ℕ) (count : Option ℕ) (coded before after : List ℕ)
    (reply : Reply) : Type 0 where
  has_result : Replies (IsDecodingAt s bit count coded) before after reply
      → DecodesAt s bit count coded before after reply
  has_bad_bit : IsAllowed s → is_bit_refused s coded bit ≡ true → after ≡ before → reply ≡ bit_refused coded
      → DecodesAt s bit count coded before after reply

-- the result of finding offsets (the refusal of the options, else what `offsets_into` promises, or
-- `Memory`)
pub data IsFinding (s : Settings) (count : Option ℕ) (coded : List ℕ) : Result (List ℕ) Fault → Type 0 where
  offsets_found : (answer : Result (List ℕ) Fault) → IsAllowed s → OrMemory (AreFound s most count coded) answer
      → IsFinding s count coded answer
  wrong_options : (fault : Fault) → settings_fault s ≡ Some fault → IsFinding s count coded (Err fault)
