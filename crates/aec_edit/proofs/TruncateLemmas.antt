-- What a truncation codes and decodes: its definition and the code agree.
use Rattle.std.proofs.Common.{◌≡◌, ℕ, ◌+◌, ◌<◌, ◌≤◌, List, [], ◌++◌, length, take, ℤ, refl, ap, ◌∙◌, inl, inr, arith, Result}
use Rattle.std.specs.Result.{MatchResult, OnOk, OnErr}
use Rattle.std.specs.Int.{div_ceil}
use Rattle.std.proofs.lemmas.Bool.{ne_eqb}
use Rattle.std.proofs.lemmas.List.{append-nil, drop_all}
use Rattle.aec_params.specs.declared.fault.Fault.{Fault}
use Rattle.aec_params.specs.declared.edit.Edit.TheVariants.{Truncate}
use Rattle.aec_params.specs.Edits.{cut_calls}
use Rattle.aec_params.specs.EditLaws.{inside_calls}
use Rattle.aec_params.proofs.MoveLaws.{from_to}
use Rattle.aec_bits.specs.Codec.{Format}
use Rattle.aec_bits.proofs.RefusalLaws.{truncate_fits}
use Rattle.aec_edit.specs.Calls.{RisesAtMost}
use Rattle.aec_edit.specs.Steps.{Applies}
use Rattle.aec_edit.specs.Changes.{IsExchange, IsExchanged, IsNotExchanged, exchanged, exchange_calls, opened_by}
use Rattle.aec_edit.specs.Opened.{opened_count}
use Rattle.aec_edit.proofs.ExchangeLemmas.{begins_before}
use Rattle.aec_edit.proofs.AnswerLemmas.{from_exchange}
use Rattle.aec_edit.proofs.MoveLemmas.{places}
use Rattle.aec_edit.proofs.OpenedLemmas.{nothing_first, nothing_last, first_few, opened-count}

-- a truncation that takes a sample away codes the interval of which it keeps a part
cut_inside : (n old stop : ℕ) → stop < old → cut_calls n old stop ≡ inside_calls n stop
cut_inside n old stop less = rw (ne_eqb stop old (λ e. absurd (omega arith))) refl

pub truncate_calls : (n old stop : ℕ) → 0 < n → stop < old → exchange_calls n stop 0 ≡ cut_calls n old stop
truncate_calls n old stop h less =
    let inside = cut_inside n old stop less in
    let same : stop + 0 ≡ stop = omega arith in
    let count = ap (λ m. div_ceil m n) same in
    elim (places n stop h) [
      | inl start ↦ omega (arith, inside, count, start.1, start.2)
      | inr cut ↦ omega (arith, inside, count, cut.1, cut.2)
    ]

truncate_opens : (n old stop : ℕ) → 0 < n → stop < old → opened_count n old (from_to stop old) ≤ cut_calls n old stop
truncate_opens n old stop h less =
    let order : stop ≤ old = omega arith in
    let inside = cut_inside n old stop less in
    let count = opened-count n old stop old h order in
    let none_last = ap length (nothing_last n old stop old h order (omega arith)) in
    elim (places n stop h) [
      | inl start ↦
          let none_first = ap length (nothing_first n old stop old h order (omega (arith, start.0, (begins_before stop n h).2)) (omega arith)) in
          omega (arith, count, inside)
      | inr cut ↦ omega (arith, count, inside, cut.1, first_few n old stop old h order)
    ]

pub truncate_can : (f : Format) (limit stop old : ℕ) (s : List ℤ) → old ≡ length s → stop < old → length s ≤ limit
    → IsExchange f limit s (from_to stop old) []
truncate_can f limit stop old s old_is less few = record {
  order = omega arith;
  within = omega (arith, old_is);
  held = refl;
  fitting = inl old_is;
  few = omega (arith, old_is, less, few);
}

-- an exchange that is a truncation
pub truncated : (f : Format) (limit calls reads stop old : ℕ) (s : List ℤ) (r : Result ℕ Fault) (s' : List ℤ) (calls' reads' : ℕ) → 1 ≤ f.most
    → old ≡ length s → stop < old
    → MatchResult r (λ coded. IsExchanged (exchange_calls f.most stop 0) calls coded calls')
    (λ fault. IsNotExchanged (exchange_calls f.most stop 0) calls fault calls')
    → OnOk r (s' ≡ exchanged (from_to stop old) [] s) → OnErr r (s' ≡ s)
    → RisesAtMost (opened_by (exchange_calls f.most stop 0) calls (opened_count f.most (length s) (from_to stop old))) reads reads'
    → Applies f limit s calls reads (Truncate stop) r s' calls' reads'
truncated f limit calls reads stop old s r s' calls' reads' h old_is less answer ok err rises =
    from_exchange f limit calls reads s (Truncate stop) (exchange_calls f.most stop 0) (opened_count f.most (length s) (from_to stop old))
    (truncate_fits f limit stop s (omega arith)) (truncate_calls f.most (length s) stop h (omega arith))
    (omega (arith, ap (λ m. opened_count f.most (length s) (from_to stop m)) old_is, truncate_opens f.most (length s) stop h (omega arith)))
    r s' calls' reads' answer (rw no_more at ok) err rises
  where
    no_more : exchanged (from_to stop old) [] s ≡ take stop s
    no_more = ap (λ l. take stop s ++ l) (drop_all old s (omega arith)) ∙ append-nil (take stop s)
