-- What the calls on a reader that returns samples interval by interval do and reply.
use Rattle.std.specs.Prelude.{◌≡◌, ℕ, ◌*◌, ◌<◌, ◌≤◌, ◌⊎◌, false, Option, Some, None, Ok, List, ℤ, length}
use Rattle.aec_params.specs.declared.settings.Settings.{Settings}
use Rattle.aec_params.specs.declared.fault.Fault.{Fault}
use Rattle.aec_params.specs.declared.fault.Fault.TheVariants.{Memory}
use Rattle.aec_params.specs.Params.{IsAllowed, settings_fault, interval_len, storage_len}
use Rattle.aec_params.specs.Codewords.{bits_of_bytes}
use Rattle.aec_params.specs.Limits.{most_samples}
use Rattle.aec_interval.specs.Reached.{count_refusal}
use Rattle.aec_interval.specs.Pieces.{Place, is_wanted_at, HasRead, ReadsInterval}
use Rattle.aec_interval.specs.Skipping.{IsFaultAt}
use Rattle.aec_engine.specs.Output.{all_stored}
use Rattle.aec_engine.specs.Buffers.{left_of}
use Rattle.aec_c.specs.declared.kinds.OpenReader.{OpenReader}
use Rattle.aec_c.specs.declared.kinds.Open.{Open}
use Rattle.aec_c.specs.Kinds.{reader_in}
use Rattle.aec_c.specs.declared.reply.Reply.{Reply}
use Rattle.aec_c.specs.Replies.{done, refused_for, reply_to}
use Rattle.aec_c.specs.HandleCalls.{not_open}
use Rattle.aec_c.specs.Standing.{standing_at, place_in, BeginsInterval, IsFaultOnWay}

-- why coded bytes aren't opened: the options; or, if they are allowed, a count above the limit or
-- `Memory`
abbrev pub CannotOpen : Settings → Option ℕ → Fault → Type 0
CannotOpen s count fault =
    (settings_fault s ≡ Some fault)
    ⊎ (IsAllowed s × ((fault ≡ Memory) ⊎ (count_refusal most_samples count ≡ Some fault)))

-- opening: a reader at the first bit of coded bytes replaces what was held, and the reply is how
-- many bytes the samples of a whole interval take; or a refusal changes nothing
pub data OpensReader (s : Settings) (count : Option ℕ) (bytes : List ℕ) (old new : Option Open)
    (reply : Reply) : Type 0 where
  opened : (made : OpenReader) → IsAllowed s → reader_in new ≡ Some made
      → made.reader ≡ standing_at s count (bits_of_bytes bytes) 0 0 0
      → reply ≡ done (interval_len s * storage_len s) → OpensReader s count bytes old new reply
  not_opened : (fault : Fault) → CannotOpen s count fault → new ≡ old → reply ≡ refused_for fault
      → OpensReader s count bytes old new reply

-- the stored samples of the next interval were written to a buffer, if there was room for all of
-- them, and the reader is after them; no bytes if all samples were read; or the fault in that
-- interval, never `Memory`
pub data ReadsNext (before after : OpenReader) (old new : List ℕ) (reply : Reply) : Type 0 where
  next : (samples : List ℤ) → ReadsInterval before.reader.place samples after.reader.place
      → length (all_stored before.reader.place.settings samples) ≤ length old
      → new ≡ left_of (Ok (all_stored before.reader.place.settings samples)) old
      → reply ≡ reply_to (Ok (all_stored before.reader.place.settings samples)) (length old)
      → ReadsNext before after old new reply
  no_room : (samples : List ℤ) (q : Place) → ReadsInterval before.reader.place samples q
      → length old < length (all_stored before.reader.place.settings samples) → after.reader ≡ before.reader → new ≡ old
      → reply ≡ reply_to (Ok (all_stored before.reader.place.settings samples)) (length old)
      → ReadsNext before after old new reply
  at_end : is_wanted_at before.reader.place ≡ false → after.reader ≡ before.reader → new ≡ old → reply ≡ done 0
      → ReadsNext before after old new reply
  not_read : (fault : Fault) → IsFaultAt before.reader.place fault → after.reader ≡ before.reader → new ≡ old
      → reply ≡ refused_for fault
      → ReadsNext before after old new reply

-- the same for what a handle holds: nothing is written if it holds no reader
pub data PutsNext (old new : Option Open) (before after : List ℕ) (reply : Reply) : Type 0 where
  put : (w w' : OpenReader) → reader_in old ≡ Some w → reader_in new ≡ Some w' → ReadsNext w w' before after reply
      → PutsNext old new before after reply
  none_put : reader_in old ≡ None → new ≡ old → after ≡ before → reply ≡ not_open
      → PutsNext old new before after reply

-- the reader is where interval k begins, or after the last sample if there are fewer intervals, and
-- the reply is the number of samples before it; or the fault of all bits, if it lies before there
pub data GoesTo (k : ℕ) (before after : OpenReader) (reply : Reply) : Type 0 where
  gone : (samples : List ℤ) → after.reader.place
      ≡ place_in before.reader.place after.reader.place.block after.reader.place.bit
      → BeginsInterval k after.reader.place → HasRead after.reader.place samples → reply ≡ done (length samples)
      → GoesTo k before after reply
  not_reached : (fault : Fault) → IsFaultOnWay k before.reader.place fault → after.reader ≡ before.reader
      → reply ≡ refused_for fault
      → GoesTo k before after reply
