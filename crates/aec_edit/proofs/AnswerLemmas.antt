-- The result of an exchange is the result of the edit that it makes.
use Rattle.std.proofs.Common.{◌≡◌, ℕ, ◌≤◌, cond, Some, None, Ok, Err, Option, Result, List, length, ℤ, sym, ap, ◌∙◌, subst, arith}
use Rattle.std.specs.Option.{MatchOption, option_or, is_some}
use Rattle.std.specs.Result.{MatchResult, OnOk, OnErr}
use Rattle.aec_params.specs.declared.fault.Fault.{Fault}
use Rattle.aec_params.specs.declared.edit.Edit.{Edit}
use Rattle.aec_params.specs.Edits.{needed_calls, opened_intervals, samples_after}
use Rattle.aec_bits.specs.Codec.{Format}
use Rattle.aec_bits.specs.Refusals.{refusal_of}
use Rattle.aec_edit.specs.Calls.{want_of_calls, due_refusal, opened_at_most, RisesAtMost}
use Rattle.aec_edit.specs.Steps.{Applies, LacksMemory}
use Rattle.aec_edit.specs.Changes.{IsExchanged, IsNotExchanged, opened_by}

none_if_refused : (w : Option Fault) (a b : ℕ) → a ≤ b → cond (is_some w) 0 a ≤ cond (is_some w) 0 b
none_if_refused None a b h = h
none_if_refused (Some fault) a b h = omega arith

module _ (f : Format) (limit calls reads : ℕ) (s : List ℤ) (e : Edit) (needed opened : ℕ)
    (fits : refusal_of f limit s e ≡ None) (needed_is : needed ≡ needed_calls f.most (length s) e) (opened_few : opened ≤ opened_intervals f.most
    (length s) e) where
  due : due_refusal f limit s calls e ≡ want_of_calls calls needed
  due = ap (λ p. option_or p (want_of_calls calls (needed_calls f.most (length s) e))) fits ∙ ap (want_of_calls calls) (sym needed_is)

  opens : (reads' : ℕ) → RisesAtMost (opened_by needed calls opened) reads reads' → RisesAtMost (opened_at_most f limit s calls e) reads reads'
  opens reads' rises =
      let few = none_if_refused (want_of_calls calls needed) opened (opened_intervals f.most (length s) e) opened_few in
      let same = ap (λ w. cond (is_some w) 0 (opened_intervals f.most (length s) e)) due in
      record { stays = rises.stays; few = omega (arith, rises.few) }

  pub from_exchange : (r : Result ℕ Fault) (s' : List ℤ) (calls' reads' : ℕ)
      → MatchResult r (λ coded. IsExchanged needed calls coded calls') (λ fault. IsNotExchanged needed calls fault calls')
      → OnOk r (s' ≡ samples_after s e) → OnErr r (s' ≡ s) → RisesAtMost (opened_by needed calls opened) reads reads'
      → Applies f limit s calls reads e r s' calls' reads'
  from_exchange (Ok coded) s' calls' reads' answer ok err rises = record {
    answer = record { fits = due ∙ answer.left; coded_is = answer.coded_is ∙ needed_is; calls_are = omega (arith, answer.calls_are, answer.coded_is) };
    samples = ok;
    opens = opens reads' rises;
  }
  from_exchange (Err fault) s' calls' reads' answer ok err rises = record {
    answer =
        rw due
        (subst (λ n. MatchOption (want_of_calls calls needed) (LacksMemory n calls fault calls') (λ refusal. (fault ≡ refusal) ×
        (calls' ≡ calls))) needed_is answer);
    samples = err;
    opens = opens reads' rises;
  }
