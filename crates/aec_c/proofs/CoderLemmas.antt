-- What the calls on a coder do, from the contracts of their steps.
use Rattle.std.proofs.Common.{◌≡◌, ℕ, ◌*◌, ◌/◌, ◌<◌, ◌≤◌, Bool, Option, None, Some, Result, Ok, Err, List, length, take, drop, refl, sym, ap, subst, ◌∙◌, arith}
use Rattle.std.specs.Prelude.{IfErr, MatchOption}
use Rattle.std.specs.Int.{div_ceil}
use Rattle.std.proofs.lemmas.List.{length-take-le}
use Rattle.aec_params.specs.declared.fault.Fault.{Fault}
use Rattle.aec_params.specs.declared.fault.Fault.TheVariants.{Memory}
use Rattle.aec_params.specs.Codewords.{bytes_of}
use Rattle.aec_bits.proofs.CodewordLemmas.{length-bytes_of}
use Rattle.aec_interval.specs.Feeding.{Coder, StopsFeeding}
use Rattle.aec_engine.specs.Buffers.{left_of}
use Rattle.aec_c.specs.declared.kinds.OpenCoder.{OpenCoder}
use Rattle.aec_c.specs.declared.reply.Reply.{Reply}
use Rattle.aec_c.specs.Replies.{reply_to}
use Rattle.aec_c.specs.Coders.{ready_bytes, TakesBytes, taken, no_room}

-- the fault of a refused call: the coder's earlier refusal, or else the call's own
refused_by : {U : Type 0} (Q : Type 0) (o : Option Fault) (r : Result U Fault) (fault : Fault) (Stops : Fault → Type 0) → r ≡ Err fault
    → MatchOption o (IfErr r Stops) (λ was. (r ≡ Err was) × Q) → MatchOption o (Stops fault) (λ was. (fault ≡ was) × Q)
refused_by Q None r fault Stops e is = subst (λ r. IfErr r Stops) e is
refused_by Q (Some was) r fault Stops e is = let answer = is.0 in let same : fault ≡ was = cc in (same, is.1)

not_finished_by : {U : Type 0} (o : Option Fault) (r : Result U Fault) (fault : Fault) (Lacks : Fault → Type 0) → r ≡ Err fault
    → MatchOption o (IfErr r Lacks) (λ was. r ≡ Err was) → MatchOption o (Lacks fault) (λ was. fault ≡ was)
not_finished_by None r fault Lacks e is = subst (λ r. IfErr r Lacks) e is
not_finished_by (Some was) r fault Lacks e is = cc

pub stops_by : (c : Coder) (piece : List ℕ) (before after : List Bool) (r : Result (Unit {0}) Fault) (fault : Fault) → r ≡ Err fault
    → MatchOption c.refusal (IfErr r (λ f. StopsFeeding c piece before after f)) (λ was. (r ≡ Err was) × (after ≡ before))
    → MatchOption c.refusal (StopsFeeding c piece before after fault) (λ was. (fault ≡ was) × (after ≡ before))
stops_by c piece before after r fault e is = refused_by (after ≡ before) c.refusal r fault (StopsFeeding c piece before after) e is

pub lacks_by : (c : Coder) (r : Result (Unit {0}) Fault) (fault : Fault) → r ≡ Err fault
    → MatchOption c.refusal (IfErr r (λ e. (e ≡ Memory) × (0 < length c.held))) (λ was. r ≡ Err was)
    → MatchOption c.refusal ((fault ≡ Memory) × (0 < length c.held)) (λ was. fault ≡ was)
lacks_by c r fault e is = not_finished_by c.refusal r fault (λ e. (e ≡ Memory) × (0 < length c.held)) e is

pub never_refused : {U : Type 0} (P : Type 0) (o : Option Fault) (r : Result U Fault) (u : U) → r ≡ Ok u → MatchOption o P (λ fault. r ≡ Err fault)
    → o ≡ None
never_refused P None r u e is = refl
never_refused P (Some fault) r u e is = absurd (cc)

-- ---- whole bytes

whole_bytes : (n : ℕ) → n / 8 ≤ div_ceil n 8
whole_bytes n = omega (arith)

pub ready_fits : (before : OpenCoder) (n : ℕ) (bytes : List ℕ) → n ≡ length before.bits.list → bytes ≡ bytes_of before.bits.list
    → n / 8 ≡ length (take (n / 8) bytes)
ready_fits before n bytes many is =
    sym (length-take-le (n / 8) bytes (omega (arith, whole_bytes n, ap length is, length-bytes_of before.bits.list, ap (λ n. div_ceil n 8) many)))

ready_is : (before : OpenCoder) (n : ℕ) (bytes : List ℕ) → n ≡ length before.bits.list → bytes ≡ bytes_of before.bits.list
    → take (n / 8) bytes ≡ ready_bytes before.bits.list
ready_is before n bytes many is = ap (λ n. take (n / 8) bytes) many ∙ ap (take (length before.bits.list / 8)) is

module _ (before after : OpenCoder) (old new : List ℕ) (reply : Reply) (n : ℕ) (bytes : List ℕ) (many : n ≡ length before.bits.list)
    (is : bytes ≡ bytes_of before.bits.list) (left : new ≡ left_of (Ok (take (n / 8) bytes)) old)
    (replied : reply ≡ reply_to (Ok (take (n / 8) bytes)) (length old)) where
  same : take (n / 8) bytes ≡ ready_bytes before.bits.list
  same = ready_is before n bytes many is

  filled : new ≡ left_of (Ok (ready_bytes before.bits.list)) old
  filled = left ∙ ap (λ front. left_of (Ok front) old) same

  told : reply ≡ reply_to (Ok (ready_bytes before.bits.list)) (length old)
  told = replied ∙ ap (λ (front : List ℕ). reply_to (Ok front) (length old)) same

  long : length (ready_bytes before.bits.list) ≡ n / 8
  long = ap length (sym same) ∙ sym (ready_fits before n bytes many is)

  pub takes_all : n / 8 ≤ length old → after.coder ≡ before.coder → after.bits.list ≡ drop (8 * (n / 8)) before.bits.list
      → TakesBytes before after old new reply
  takes_all room coder rest =
      taken coder (rest ∙ ap (λ n. drop (8 * (n / 8)) before.bits.list) many) (omega (arith, long, room)) filled told

  pub takes_none : length old < n / 8 → after ≡ before → TakesBytes before after old new reply
  takes_none short stays = no_room stays (omega (arith, long, short)) filled told
