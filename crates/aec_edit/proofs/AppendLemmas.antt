-- What an append codes and decodes: its definition and the code agree.
use Rattle.std.proofs.Common.{◌≡◌, ℕ, ◌+◌, ◌<◌, ◌≤◌, List, ◌++◌, length, drop, ℤ, refl, ap, ◌∙◌, inl, arith, Result}
use Rattle.std.specs.Result.{MatchResult, OnOk, OnErr}
use Rattle.std.proofs.lemmas.Bool.{ne_eqb}
use Rattle.std.proofs.lemmas.List.{append-nil, drop_all, take_all}
use Rattle.aec_params.specs.declared.fault.Fault.{Fault}
use Rattle.aec_params.specs.declared.samples.Samples.{Samples}
use Rattle.aec_params.specs.declared.edit.Edit.TheVariants.{Append}
use Rattle.aec_params.specs.Edits.{needed_calls, opened_intervals}
use Rattle.aec_params.proofs.MoveLaws.{from_to}
use Rattle.aec_bits.specs.Codec.{Format, AreHeld}
use Rattle.aec_bits.proofs.RefusalLaws.{append_fits}
use Rattle.aec_edit.specs.Calls.{RisesAtMost}
use Rattle.aec_edit.specs.Steps.{Applies}
use Rattle.aec_edit.specs.Changes.{IsExchange, IsExchanged, IsNotExchanged, exchanged, exchange_calls, opened_by}
use Rattle.aec_edit.specs.Opened.{opened_count}
use Rattle.aec_edit.proofs.AnswerLemmas.{from_exchange}
use Rattle.aec_edit.proofs.InsertLemmas.{ends_opened}

pub append_can : (f : Format) (limit old : ℕ) (s values : List ℤ) → old ≡ length s → AreHeld f values → length s + length values ≤ limit
    → IsExchange f limit s (from_to old old) values
append_can f limit old s values old_is held few = record {
  order = omega arith;
  within = omega (arith, old_is);
  held = held;
  fitting = inl old_is;
  few = omega (arith, old_is, few);
}

pub append_calls : (n old : ℕ) (values : Samples) → 0 < length values → exchange_calls n old (length values) ≡ needed_calls n old (Append values)
append_calls n old values some = rw (ne_eqb (length values) 0 (λ e. absurd (omega arith))) refl

append_opens : (n old : ℕ) (values : Samples) → 0 < n → 0 < length values → opened_count n old (from_to old old) ≤ opened_intervals n old (Append values)
append_opens n old values h some = rw (ne_eqb (length values) 0 (λ e. absurd (omega arith))) (ends_opened n old old h)

-- an exchange that is an append
pub appended : (f : Format) (limit calls reads old : ℕ) (s values : List ℤ) (r : Result ℕ Fault) (s' : List ℤ) (calls' reads' : ℕ) → 1 ≤ f.most
    → 0 < length values → old ≡ length s → AreHeld f values → length s + length values ≤ limit
    → MatchResult r (λ coded. IsExchanged (exchange_calls f.most old (length values)) calls coded calls')
    (λ fault. IsNotExchanged (exchange_calls f.most old (length values)) calls fault calls')
    → OnOk r (s' ≡ exchanged (from_to old old) values s) → OnErr r (s' ≡ s)
    → RisesAtMost (opened_by (exchange_calls f.most old (length values)) calls (opened_count f.most (length s) (from_to old old))) reads reads'
    → Applies f limit s calls reads (Append values) r s' calls' reads'
appended f limit calls reads old s values r s' calls' reads' h some old_is held few answer ok err rises =
    from_exchange f limit calls reads s (Append values) (exchange_calls f.most old (length values)) (opened_count f.most (length s) (from_to old old))
    (append_fits f limit s values held few)
    (ap (λ k. exchange_calls f.most k (length values)) old_is ∙ append_calls f.most (length s) values some)
    (omega (arith, ap (λ k. opened_count f.most (length s) (from_to k k)) old_is, append_opens f.most (length s) values h some))
    r s' calls' reads' answer (rw all at ok) err rises
  where
    all : exchanged (from_to old old) values s ≡ s ++ values
    all =
        ap (λ l. l ++ (values ++ drop old s)) (take_all old s (omega (arith, old_is)))
        ∙ ap (λ l. s ++ (values ++ l)) (drop_all old s (omega (arith, old_is)))
        ∙ ap (λ l. s ++ l) (append-nil values)
