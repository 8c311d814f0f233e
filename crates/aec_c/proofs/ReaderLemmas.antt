-- What the calls on a reader do, from the contracts of their steps.
use Rattle.std.proofs.Common.{leb, ◌≡◌, ℕ, ◌*◌, ◌^◌, ◌<◌, ◌≤◌, Ok, List, ℤ, ◌++◌, length, drop, refl, sym, ap, subst, ◌∙◌, arith, Option, Some}
use Rattle.std.specs.Prelude.{nat_le, IfSome}
use Rattle.std.proofs.Math.Nat.{mul-le-mul_left, mul-le-mul_right}
use Rattle.std.proofs.lemmas.Bool.{and_parts, leb-true, cond-true, cond-false, le-leb, lt-leb}
use Rattle.aec_params.specs.declared.settings.Settings.{Settings}
use Rattle.aec_params.specs.declared.fault.Fault.{Fault}
use Rattle.aec_params.specs.declared.fault.Fault.TheVariants.{Memory}
use Rattle.aec_params.specs.Params.{IsAllowed, interval_len, storage_len}
use Rattle.aec_params.proofs.SettingLaws.{block_size-most}
use Rattle.aec_params.proofs.StoredLemmas.{storage-most}
use Rattle.aec_interval.specs.Pieces.{Place, ReadsInterval, RefusesAt}
use Rattle.aec_interval.specs.Reached as reached
use Rattle.aec_interval.specs.Reached.{wrong_before}
use Rattle.aec_interval.specs.Skipping.{IsFaultAt}
use Rattle.aec_engine.specs.Output.{all_stored}
use Rattle.aec_engine.specs.Buffers.{left_of}
use Rattle.aec_engine.proofs.FillLemmas.{length-all_stored}
use Rattle.aec_c.specs.declared.kinds.OpenReader.{OpenReader}
use Rattle.aec_c.specs.declared.reply.Reply.{Reply}
use Rattle.aec_c.specs.Replies.{done, wants_room, reply_to}
use Rattle.aec_c.specs.Readers.{ReadsNext, next, no_room}

module _ (s : Settings) (samples : List ℤ) (old : List ℕ) (size : ℕ) (is : size ≡ storage_len s * length samples) where
  abbrev bytes : List ℕ
  bytes = all_stored s samples

  pub bytes_are : length bytes ≡ size
  bytes_are = length-all_stored s samples ∙ sym is

  put_left : (new : List ℕ) → size ≤ length old → new ≡ bytes ++ drop size old → new ≡ left_of (Ok bytes) old
  put_left new short put =
      put ∙ ap (λ n. bytes ++ drop n old) (sym bytes_are)
      ∙ sym (cond-true (nat_le (length bytes) (length old)) (bytes ++ drop (length bytes) old) old
      (le-leb (length bytes) (length old) (omega (arith, bytes_are, short))))

  put_reply : (reply : Reply) → size ≤ length old → reply ≡ done size → reply ≡ reply_to (Ok bytes) (length old)
  put_reply reply short told =
      told ∙ ap done (sym bytes_are)
      ∙ sym (cond-true (nat_le (length bytes) (length old)) (done (length bytes)) (wants_room (length bytes))
      (le-leb (length bytes) (length old) (omega (arith, bytes_are, short))))

  long_reply : (reply : Reply) → length old < size → reply ≡ wants_room size → reply ≡ reply_to (Ok bytes) (length old)
  long_reply reply long told =
      told ∙ ap wants_room (sym bytes_are)
      ∙ sym (cond-false (nat_le (length bytes) (length old)) (done (length bytes)) (wants_room (length bytes))
      (lt-leb (length bytes) (length old) (omega (arith, bytes_are, long))))

-- the next interval was written to the buffer, and the reader is after it
pub puts_next : (before after : OpenReader) (old new : List ℕ) (reply : Reply) (samples : List ℤ) (q : Place) (size : ℕ)
    → size ≡ storage_len before.reader.place.settings * length samples → ReadsInterval before.reader.place samples q → after.reader.place ≡ q
    → size ≤ length old → new ≡ all_stored before.reader.place.settings samples ++ drop size old → reply ≡ done size
    → ReadsNext before after old new reply
puts_next before after old new reply samples q size is read there short put told =
    let s = before.reader.place.settings in
    next samples (subst (ReadsInterval before.reader.place samples) (sym there) read) (omega (arith, bytes_are s samples old size is, short))
    (put_left s samples old size is new short put) (put_reply s samples old size is reply short told)

-- the buffer has no room for the next interval, and the reader is unchanged
pub lacks_room : (before after : OpenReader) (old : List ℕ) (reply : Reply) (samples : List ℤ) (q : Place) (size : ℕ)
    → size ≡ storage_len before.reader.place.settings * length samples → ReadsInterval before.reader.place samples q → after.reader ≡ before.reader
    → length old < size → reply ≡ wants_room size → ReadsNext before after old old reply
lacks_room before after old reply samples q size is read stays long told =
    let s = before.reader.place.settings in
    no_room samples q read (omega (arith, bytes_are s samples old size is, long)) stays refl (long_reply s samples old size is reply long told)

-- the samples of an interval take at most 2^20 bytes
pub bytes-most : (s : Settings) (n w : ℕ) → IsAllowed s → n ≤ interval_len s → w ≡ storage_len s → n * w ≤ 2 ^ 20
bytes-most s n w a len width =
    let long : s.interval ≤ 4096 = leb-true s.interval 4096 (and_parts (leb 1 s.interval) (leb s.interval 4096) a.interval).1 in
    let rows : s.block_size * s.interval ≤ 64 * s.interval = mul-le-mul_right s.interval (block_size-most s a) in
    let bytes : n * w ≤ n * 4 = mul-le-mul_left n (omega (arith, width, storage-most s a)) in
    omega (arith, len, long, rows, bytes)

pub if_some : {X : Type 0} (P : X → Type 0) (o : Option X) (x : X) → o ≡ Some x → IfSome o P → P x
if_some P o x is holds = subst (λ o. IfSome o P) is holds

-- with room for an interval, the fault is one of the bits, not `Memory`
pub fault_at : (p : Place) (fault : Fault) (room : ℕ) → RefusesAt p fault → (fault ≡ Memory → room < interval_len p.settings)
    → interval_len p.settings ≤ room → IsFaultAt p fault
fault_at p fault room (reached.no_room h within) full roomy = absurd (omega (arith, full refl, roomy))
fault_at p fault room (wrong_before f h before) full roomy = record { wrong = h; before = before }
