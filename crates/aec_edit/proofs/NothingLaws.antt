-- Edits that code no interval.
use Rattle.std.proofs.Common.{◌≡◌, ℕ, ◌*◌, ◌%◌, ◌<◌, eqb, Option, None, MatchOption, length, ap, ◌∙◌, refl, arith}
use Rattle.std.specs.Option.{option_or}
use Rattle.std.proofs.lemmas.Bool.{eq-eqb}
use Rattle.std.proofs.Math.Nat.{mul-mod_left}
use Rattle.aec_params.proofs.MoveLaws.{none_if_whole, needed_calls-remove_whole, needed_calls-remove_rest}
use Rattle.aec_params.specs.declared.fault.Fault.{Fault}
use Rattle.aec_params.specs.Edits.{needed_calls}
use Rattle.aec_bits.specs.Refusals.{refusal_of}
use Rattle.aec_edit.specs.declared.outcome.Outcome.TheVariants.{Done, Refused}
use Rattle.aec_edit.specs.Calls.{want_of_calls}
use Rattle.aec_edit.specs.Steps.{LacksMemory}
use Rattle.aec_edit.specs.Laws.{CodesNothing, IsAlwaysMade}
use Rattle.aec_edit.proofs.CallLemmas.{calls_left}

pub codes_nothing : (n old : ℕ) → 0 < n → CodesNothing n old
codes_nothing n old some = record {
  overwrite = λ first. refl;
  append = refl;
  keep = rw (eq-eqb old old refl) refl;
  cut = λ k. rw (eq-eqb (k * n % n) 0 (mul-mod_left k n)) (none_if_whole (eqb (k * n) old));
  insert = λ first. refl;
  remove = λ first. refl;
  remove_whole = λ k j. needed_calls-remove_whole n old k j some;
  remove_rest = λ k within. needed_calls-remove_rest n old k some within;
}

-- an edit that fits and needs no call is not refused
not_refused : (refusal : Option Fault) (calls needed : ℕ) (fault : Fault) (after : ℕ) → refusal ≡ None → needed ≡ 0
    → MatchOption (option_or refusal (want_of_calls calls needed)) (LacksMemory needed calls fault after) (λ due. (fault ≡ due) × (after ≡ calls)) → ⊥
not_refused refusal calls needed fault after fits none answer =
    let enough : MatchOption (want_of_calls calls 0) (LacksMemory 0 calls fault after) (λ due. (fault ≡ due) × (after ≡ calls)) = rw (fits, none) at answer in
    let lacks : LacksMemory 0 calls fault after = rw (calls_left calls 0 (omega arith)) at enough in
    absurd (omega (arith, lacks.some))

pub always_made : IsAlwaysMade
always_made f limit s calls e (Done coded) after fits none answer =
    (ap Done (answer.coded_is ∙ none), omega (arith, answer.calls_are, answer.coded_is, none))
always_made f limit s calls e (Refused fault) after fits none answer =
    absurd (not_refused (refusal_of f limit s e) calls (needed_calls f.most (length s) e) fault after fits none answer)
