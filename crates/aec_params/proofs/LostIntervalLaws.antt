-- The intervals that an insertion or a removal cuts anew are those that don't exist after it: the
-- edit that undoes it would code them.
use Rattle.std.proofs.Common.{◌≡◌, ℕ, ◌+◌, ◌-◌, ◌*◌, ◌<◌, ◌≤◌, inl, inr, Some, List, refl, sym, ap, ◌∙◌, subst, arith}
use Rattle.std.specs.Int.{div_ceil}
use Rattle.std.proofs.lemmas.Bool.{cases_lt}
use Rattle.aec_params.specs.Edits.{moved_intervals}
use Rattle.aec_params.specs.EditLaws.{Exchange, stood_at, IsFromBefore, IsNewIfOneOf, IsLostIfOneOf}
use Rattle.aec_params.proofs.MoveLaws.{from_to}
use Rattle.aec_params.proofs.NewIntervalLaws.{stood-front, stood-fresh, stood-behind, insertion_new, removal_new}

from_some : {a b : ℕ} → Some a ≡ Some b → a ≡ b
from_some e = cc

-- an exchange of `taken` old samples for `fresh` new ones, and the exchange that undoes it
module _ (n old new first stop end taken fresh : ℕ) (h : 0 < n) (is_stop : stop ≡ first + taken) (is_end : end ≡ first + fresh)
    (within : stop ≤ old) (is_new : new ≡ end + (old - stop)) where
  abbrev made : Exchange
  made = record { old = old; gone = from_to first stop; fresh = fresh }

  abbrev undone : Exchange
  undone = record { old = new; gone = from_to first end; fresh = taken }

  stood-undone : (p q : ℕ) → stood_at made p ≡ Some q → stood_at undone q ≡ Some p
  stood-undone p q was =
      elim (cases_lt p first) [
        | inl less ↦
            let place : p ≡ q = from_some (sym (stood-front n old first stop fresh h (omega arith) within p less) ∙ was) in
            stood-front n new first end taken h (omega arith) (omega arith) q (omega arith) ∙ ap Some (sym place)
        | inr later ↦
            elim (cases_lt p (first + fresh)) [
              | inl less ↦ let none = stood-fresh n old first stop fresh h (omega arith) within p later less in absurd (cc)
              | inr past ↦
                  let place : p - (first + fresh) + stop ≡ q =
                  from_some (sym (stood-behind n old first stop fresh h (omega arith) within p past) ∙ was) in
                  let again : q - (first + taken) + end ≡ p = omega arith in
                  stood-behind n new first end taken h (omega arith) (omega arith) q (omega arith) ∙ ap Some again
            ]
      ]

  -- an interval that an exchange keeps, the exchange that undoes it keeps too
  kept-undone : (k i : ℕ) → IsFromBefore n made k i → IsFromBefore n undone i k
  kept-undone k i same = record {
    count = omega (arith, same.count);
    each = λ j less. stood-undone (k * n + j) (i * n + j) (same.each j (omega (arith, same.count)));
  }

-- the intervals that don't exist after an exchange are those that are new after it is undone
lost_by_new : (n old new first stop end taken fresh : ℕ) → 0 < n → stop ≡ first + taken → end ≡ first + fresh → stop ≤ old → new ≡ end + (old - stop)
    → (intervals : List ℕ) (i : ℕ) → IsNewIfOneOf n (record { old = new; gone = from_to first end; fresh = taken }) intervals i
    → IsLostIfOneOf n (record { old = old; gone = from_to first stop; fresh = fresh }) intervals i
lost_by_new n old new first stop end taken fresh h is_stop is_end within is_new intervals i is = record {
  one = λ e k same. is.one e k (kept-undone n old new first stop end taken fresh h is_stop is_end within is_new k i same);
  none = λ e.
      let found = is.none e in
      (found.0, kept-undone n new old first end stop fresh taken h is_end is_stop (omega arith) (omega arith) i found.0 found.1);
}

pub insertion_loses : (n old first len i : ℕ) → 0 < n → first ≤ old → i < div_ceil old n
    → IsLostIfOneOf n (record { old = old; gone = from_to first first; fresh = len }) (moved_intervals n len old (from_to first first)) i
insertion_loses n old first len i h within below =
    let same : old + len - len ≡ old = omega arith in
    lost_by_new n old (old + len) first first (first + len) 0 len h (omega arith) refl within (omega arith) (moved_intervals n len old (from_to first first)) i
    (subst (λ m. IsNewIfOneOf n (record { old = old + len; gone = from_to first (first + len); fresh = 0 }) (moved_intervals n len m (from_to first first)) i)
    same (removal_new n (old + len) first len i h (omega arith) (subst (λ m. i < div_ceil m n) (sym same) below)))

pub removal_loses : (n old first len i : ℕ) → 0 < n → first + len ≤ old → i < div_ceil old n
    → IsLostIfOneOf n (record { old = old; gone = from_to first (first + len); fresh = 0 }) (moved_intervals n len old (from_to first (first + len))) i
removal_loses n old first len i h within below =
    let same : old - len + len ≡ old = omega arith in
    lost_by_new n old (old - len) first (first + len) first len 0 h refl (omega arith) within (omega arith)
    (moved_intervals n len old (from_to first (first + len))) i
    (subst (λ m. IsNewIfOneOf n (record { old = old - len; gone = from_to first first; fresh = len }) (moved_intervals n len m (from_to first (first + len))) i)
    same (insertion_new n (old - len) first len i h (omega arith) (subst (λ m. i < div_ceil m n) (sym same) below)))
