-- What an overwrite codes and decodes: its definition and the code agree.
use Rattle.std.proofs.Common.{◌≡◌, ℕ, ◌+◌, ◌-◌, ◌*◌, ◌/◌, ◌<◌, ◌≤◌, inr, refl}
use Rattle.std.proofs.Common.{Result, List, length, ℤ, sym, ap, ◌∙◌, arith}
use Rattle.std.specs.Result.{MatchResult, OnOk, OnErr}
use Rattle.std.specs.Int.{div_ceil}
use Rattle.std.specs.List.{range_with_len, filter}
use Rattle.aec_params.specs.declared.fault.Fault.{Fault}
use Rattle.aec_params.specs.declared.edit.Edit.TheVariants.{Overwrite}
use Rattle.aec_params.specs.Edits.{touched_intervals, reached_intervals, keeps_a_sample}
use Rattle.std.proofs.lemmas.Nat.{le-div}
use Rattle.aec_params.proofs.MoveLaws.{from_to}
use Rattle.aec_params.proofs.EditLaws.{touched_intervals-is, length-touched_intervals}
use Rattle.aec_bits.specs.Codec.{Format, AreHeld}
use Rattle.aec_bits.proofs.RefusalLaws.{overwrite_fits}
use Rattle.aec_edit.specs.Calls.{RisesAtMost}
use Rattle.aec_edit.specs.Steps.{Applies}
use Rattle.aec_edit.specs.Changes.{IsExchange, IsExchanged, IsNotExchanged, exchanged, exchange_calls, opened_by}
use Rattle.aec_edit.specs.Opened.{opened_count}
use Rattle.aec_params.proofs.CountLaws.{ceil_unique}
use Rattle.aec_edit.proofs.ExchangeLemmas.{begins_before}
use Rattle.aec_edit.proofs.AnswerLemmas.{from_exchange}

-- ---- how many are coded

-- the last of m places is in the last interval that they fill
pub ceil_last : (m n : ℕ) → 0 < n → 0 < m → div_ceil m n ≡ (m - 1) / n + 1
ceil_last m n h some =
    let begins = begins_before (m - 1) n h in
    let product : ((m - 1) / n + 1) * n ≡ (m - 1) / n * n + n = omega arith in
    ceil_unique m n ((m - 1) / n + 1) (omega (arith, begins.1)) (omega (arith, begins.0))

pub last_after : (n first len : ℕ) → 0 < n → 0 < len → first / n ≤ (first + len - 1) / n
last_after n first len h some = le-div (first / n) (first + len - 1) n h (omega (arith, (begins_before first n h).0))

pub overwrite_calls : (n first len : ℕ) → 0 < n → 0 < len → exchange_calls n first len ≡ length (touched_intervals n first len)
overwrite_calls n first len h some =
    let last = ceil_last (first + len) n h (omega arith) in
    let later = last_after n first len h some in
    omega (arith, length-touched_intervals n first len h some)

-- ---- how many are decoded

pub overwrite_opens : (n old first len : ℕ) → 0 < n → 0 < len
    → opened_count n old (from_to first (first + len))
    ≡ length (filter (keeps_a_sample n old (from_to first (first + len))) (touched_intervals n first len))
overwrite_opens n old first len h some =
    let last = ceil_last (first + len) n h (omega arith) in
    let later = last_after n first len h some in
    let number : div_ceil (first + len) n - first / n ≡ (first + len - 1) / n - first / n + 1 = omega (arith, last, later) in
    let reached : reached_intervals n (from_to first (first + len)) ≡ touched_intervals n first len =
    ap (range_with_len (first / n)) number ∙ sym (touched_intervals-is n first len h some) in
    ap (λ l. length (filter (keeps_a_sample n old (from_to first (first + len))) l)) reached

-- ---- the result

pub overwrite_can : (f : Format) (limit first : ℕ) (s values : List ℤ) → AreHeld f values → first + length values ≤ length s → length s ≤ limit
    → IsExchange f limit s (from_to first (first + length values)) values
overwrite_can f limit first s values held within few = record {
  order = omega arith;
  within = within;
  held = held;
  fitting = inr refl;
  few = omega (arith, within, few);
}

-- an exchange that is an overwrite
pub overwritten : (f : Format) (limit calls reads first : ℕ) (s values : List ℤ) (r : Result ℕ Fault) (s' : List ℤ) (calls' reads' : ℕ) → 1 ≤ f.most
    → 0 < length values
    → AreHeld f values → first + length values ≤ length s
    → MatchResult r (λ coded. IsExchanged (exchange_calls f.most first (length values)) calls coded calls')
    (λ fault. IsNotExchanged (exchange_calls f.most first (length values)) calls fault calls')
    → OnOk r (s' ≡ exchanged (from_to first (first + length values)) values s) → OnErr r (s' ≡ s)
    → RisesAtMost (opened_by (exchange_calls f.most first (length values)) calls
    (opened_count f.most (length s) (from_to first (first + length values)))) reads reads'
    → Applies f limit s calls reads (Overwrite first values) r s' calls' reads'
overwritten f limit calls reads first s values r s' calls' reads' h some held within answer ok err rises =
    from_exchange f limit calls reads s (Overwrite first values) (exchange_calls f.most first (length values))
    (opened_count f.most (length s) (from_to first (first + length values)))
    (overwrite_fits f limit first s values held within) (overwrite_calls f.most first (length values) h some)
    (omega (arith, overwrite_opens f.most (length s) first (length values) h some)) r s' calls' reads' answer ok err rises
