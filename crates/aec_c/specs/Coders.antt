-- What the calls on a coder that takes samples in pieces do and reply.
use Rattle.std.specs.Prelude.{◌≡◌, ℕ, ◌*◌, ◌/◌, ◌<◌, ◌≤◌, Bool, Option, Some, None, MatchOption, Ok, List, [], ◌++◌, length, take, drop}
use Rattle.aec_params.specs.declared.settings.Settings.{Settings}
use Rattle.aec_params.specs.declared.fault.Fault.{Fault}
use Rattle.aec_params.specs.declared.fault.Fault.TheVariants.{Memory}
use Rattle.aec_params.specs.Params.{IsAllowed}
use Rattle.aec_params.specs.Codewords.{bytes_of, padded_to_byte}
use Rattle.aec_params.specs.Streams.{stream_of}
use Rattle.aec_params.specs.Limits.{most_samples}
use Rattle.aec_interval.specs.Feeding.{Coder, fresh_coder, Feeds, StopsFeeding}
use Rattle.aec_engine.specs.Buffers.{left_of}
use Rattle.aec_c.specs.declared.kinds.OpenCoder.{OpenCoder}
use Rattle.aec_c.specs.declared.kinds.Open.{Open}
use Rattle.aec_c.specs.Kinds.{coder_in}
use Rattle.aec_c.specs.declared.reply.Reply.{Reply}
use Rattle.aec_c.specs.Replies.{done, refused_for, reply_to}
use Rattle.aec_c.specs.Calls.{CannotBegin}
use Rattle.aec_c.specs.HandleCalls.{not_open}

-- the whole bytes that bits fill
abbrev pub ready_bytes : List Bool → List ℕ
ready_bytes bits = take (length bits / 8) (bytes_of bits)

-- the bits after these bytes
abbrev pub left_bits : List Bool → List Bool
left_bits bits = drop (8 * (length bits / 8)) bits

-- opening: a coder that was fed nothing replaces what was held, or a refusal changes nothing
pub data OpensCoder (s : Settings) (old new : Option Open) (reply : Reply) : Type 0 where
  opened : (made : OpenCoder) → IsAllowed s → coder_in new ≡ Some made → made.coder ≡ Some (fresh_coder s most_samples)
      → made.bits.list ≡ [] → reply ≡ done 0
      → OpensCoder s old new reply
  not_opened : (fault : Fault) → CannotBegin s fault → new ≡ old
      → reply ≡ refused_for fault → OpensCoder s old new reply

-- a piece was taken, and the reply is how many whole bytes can be taken now; or it was refused,
-- with the first refusal of all pieces, which stays
pub data FeedsPiece (piece : List ℕ) (before after : OpenCoder) (reply : Reply) : Type 0 where
  fed : (c d : Coder) → before.coder ≡ Some c → after.coder ≡ Some d → Feeds c piece before.bits.list after.bits.list d
      → reply ≡ done (length after.bits.list / 8) → FeedsPiece piece before after reply
  not_fed : (c d : Coder) (fault : Fault) → before.coder ≡ Some c → after.coder ≡ Some d → d.refusal ≡ Some fault
      → MatchOption c.refusal (StopsFeeding c piece before.bits.list after.bits.list fault)
      (λ was. (fault ≡ was) × (after.bits.list ≡ before.bits.list))
      → reply ≡ refused_for fault → FeedsPiece piece before after reply
  ended : before.coder ≡ None → after.coder ≡ None → after.bits ≡ before.bits → reply ≡ not_open
      → FeedsPiece piece before after reply

-- the stream was ended: the code of the samples still held comes last, and zeros fill the last
-- byte; or a refusal, which leaves the bits; in both cases the coder takes no more
pub data FinishesStream (before after : OpenCoder) (reply : Reply) : Type 0 where
  finished : (c : Coder) → before.coder ≡ Some c → c.refusal ≡ None → after.coder ≡ None
      → after.bits.list ≡ padded_to_byte (before.bits.list ++ stream_of c.settings c.held)
      → reply ≡ done (length after.bits.list / 8)
      → FinishesStream before after reply
  not_finished : (c : Coder) (fault : Fault) → before.coder ≡ Some c → after.coder ≡ None
      → after.bits.list ≡ before.bits.list
      → MatchOption c.refusal ((fault ≡ Memory) × (0 < length c.held)) (λ was. fault ≡ was) → reply ≡ refused_for fault
      → FinishesStream before after reply
  was_finished : before.coder ≡ None → after.coder ≡ None → after.bits ≡ before.bits → reply ≡ not_open
      → FinishesStream before after reply

-- whole bytes were moved from the code into a buffer, if there was room for all of them
pub data TakesBytes (before after : OpenCoder) (old new : List ℕ) (reply : Reply) : Type 0 where
  taken : after.coder ≡ before.coder → after.bits.list ≡ left_bits before.bits.list
      → length (ready_bytes before.bits.list) ≤ length old
      → new ≡ left_of (Ok (ready_bytes before.bits.list)) old
      → reply ≡ reply_to (Ok (ready_bytes before.bits.list)) (length old)
      → TakesBytes before after old new reply
  no_room : after ≡ before → length old < length (ready_bytes before.bits.list)
      → new ≡ left_of (Ok (ready_bytes before.bits.list)) old
      → reply ≡ reply_to (Ok (ready_bytes before.bits.list)) (length old)
      → TakesBytes before after old new reply
  no_memory : after ≡ before → new ≡ old → reply ≡ refused_for Memory → TakesBytes before after old new reply

-- the same for what a handle holds: nothing is taken if it holds no coder
pub data TakesOut (old new : Option Open) (before after : List ℕ) (reply : Reply) : Type 0 where
  taken_out : (w w' : OpenCoder) → coder_in old ≡ Some w → coder_in new ≡ Some w' → TakesBytes w w' before after reply
      → TakesOut old new before after reply
  none_taken : coder_in old ≡ None → new ≡ old → after ≡ before → reply ≡ not_open
      → TakesOut old new before after reply

-- the whole bytes that were taken, and then those of the bits that were left and of all bits after
-- them, are the bytes of all bits
abbrev pub TakenBytesJoin : Type 0
TakenBytesJoin = (bits more : List Bool)
    → bytes_of (bits ++ more) ≡ ready_bytes bits ++ bytes_of (left_bits bits ++ more)
