-- The samples of the intervals that an exchange decodes.
use Rattle.std.proofs.Common.{◌≡◌, ℕ, ◌+◌, ◌-◌, ◌*◌, ◌/◌, ◌%◌, ◌<◌, ◌≤◌, min}
use Rattle.std.proofs.Common.{List, ◌++◌, length, take, drop, ℤ, refl, sym, ap, ◌∙◌, inl, inr, arith, length-append}
use Rattle.std.specs.Int.{div_ceil}
use Rattle.std.proofs.Math.Nat.{mul-le-mul_right}
use Rattle.std.proofs.lemmas.Bool.{cases_lt}
use Rattle.std.proofs.lemmas.List.{append-nil, length-take, length-drop, drop_all, drop-drop, drop-take, drop_at, take-take, take-append-le}
use Rattle.aec_edit.specs.Changes.{head_of, tail_of}
use Rattle.aec_edit.specs.Opened.{opened_first, opened_behind, opened_count, samples_of, opened_samples}
use Rattle.aec_params.proofs.CountLaws.{ceil_bounds}
use Rattle.aec_edit.proofs.ExchangeLemmas.{begins_before, ends_after}
use Rattle.aec_edit.proofs.OpenedLemmas.{first-head, first-both, behind-tail, behind-one, nothing_first, nothing_last, opened-count, opened_samples-parts, one_of, none_of}
use Rattle.aec_params.proofs.MoveLaws.{from_to}

-- ---- the samples

module _ (n first stop : ℕ) (s : List ℤ) (some : 0 < n) (order : first ≤ stop) (within : stop ≤ length s) where
  -- the samples that are decoded of the first interval, and of the intervals after it
  abbrev front_samples : List ℤ
  front_samples = samples_of n s (opened_first n (length s) (from_to first stop))

  abbrev back_samples : List ℤ
  back_samples = samples_of n s (opened_behind n (length s) (from_to first stop))

  abbrev opened_ends : List ℤ
  opened_ends = opened_samples n (from_to first stop) s

  parts : opened_ends ≡ front_samples ++ back_samples
  parts = opened_samples-parts n first stop s some order

  -- the decoded samples begin with the head
  pub ends_head : (first % n ≤ length opened_ends) × (take (first % n) opened_ends ≡ head_of n first s)
  ends_head =
      let begins = begins_before first n some in
      elim (cases_lt (first / n * n) first) [
        | inl keeps ↦
            let opened : List ℤ = take n (drop (first / n * n) s) in
            let is = parts ∙ ap (λ l. l ++ back_samples) (one_of n (first / n) s _ (first-head n (length s) first stop some order keeps)) in
            let len : length opened ≡ min n (length s - first / n * n) = omega (arith, length-take n (drop (first / n * n) s), length-drop (first / n * n) s) in
            let in_front : first % n ≤ length opened = omega (arith, begins.1, begins.2) in
            let sum : first / n * n + first % n ≡ first = begins.2 in (
              omega (arith, ap length is, length-append opened (back_samples)),
              ap (take (first % n)) is ∙ take-append-le (first % n) opened (back_samples) in_front
                  ∙ take-take (first % n) n (drop (first / n * n) s) (omega (arith, begins.1, begins.2))
                  ∙ sym (drop-take (first / n * n) (first % n) s) ∙ ap (λ m. drop (first / n * n) (take m s)) sum,
            )
        | inr whole ↦
            let none : first % n ≡ 0 = omega (arith, begins.2) in (
              omega arith,
              ap (λ m. take m opened_ends) none
                  ∙ sym (drop_all (first / n * n) (take first s) (omega (arith, length-take first s))),
            )
      ]

  -- the decoded samples end with the tail
  pub ends_tail : (min (length s) (div_ceil stop n * n) - stop ≤ length opened_ends)
      × (drop (length opened_ends - (min (length s) (div_ceil stop n * n) - stop)) opened_ends ≡ tail_of n stop s)
  ends_tail =
      let begins = begins_before first n some in
      let back = ceil_bounds stop n some in
      let after = ends_after n first stop some order in
      elim (cases_lt stop (min (length s) (div_ceil stop n * n))) [
        | inr none ↦
            let zero_tail : min (length s) (div_ceil stop n * n) - stop ≡ 0 = omega arith in (
              omega arith,
              drop_all (length opened_ends - (min (length s) (div_ceil stop n * n) - stop)) opened_ends (omega arith)
                  ∙ sym (drop_all stop (take (div_ceil stop n * n) s) (omega (arith, length-take (div_ceil stop n * n) s))),
            )
        | inl keeps ↦
            elim (cases_lt (first / n + 1) (div_ceil stop n)) [
              | inl more ↦ last_tail keeps more
              | inr one ↦ first_tail keeps (omega (arith, one, some_after keeps))
            ]
      ]
    where
      to : ℕ
      to = div_ceil stop n * n

      some_after : stop < min (length s) to → first / n + 1 ≤ div_ceil stop n
      some_after keeps =
          elim (cases_lt (first / n) (div_ceil stop n)) [
            | inl more ↦ omega arith
            | inr less ↦ absurd (omega (arith, mul-le-mul_right {m = div_ceil stop n} {n = first / n} n less, (begins_before first n some).0))
          ]

      first_tail : stop < min (length s) to → first / n + 1 ≡ div_ceil stop n
          → (min (length s) to - stop ≤ length opened_ends)
          × (drop (length opened_ends - (min (length s) to - stop)) opened_ends ≡ tail_of n stop s)
      first_tail keeps one =
          let begins = begins_before first n some in
          let from : ℕ = first / n * n in
          let opened : List ℤ = take n (drop from s) in
          let sum : from + n ≡ to = omega (arith, ap (λ k. k * n) one) in
          let is : opened_ends ≡ opened =
          parts ∙ ap (λ l. l ++ back_samples) (one_of n (first / n) s _ (first-both n (length s) first stop some order keeps one))
          ∙ ap (λ l. opened ++ l) (none_of n s _ (behind-one n (length s) first stop some order (omega arith))) ∙ append-nil opened in
          let part : opened ≡ drop from (take to s) = sym (drop-take from n s) ∙ ap (λ m. drop from (take m s)) sum in
          let len : length opened ≡ min n (length s - from) = omega (arith, length-take n (drop from s), length-drop from s) in
          let past : length opened_ends - (min (length s) to - stop) ≡ stop - from = omega (arith, ap length is, begins.0) in
          let whole : from + (stop - from) ≡ stop = omega (arith, begins.0) in (
            omega (arith, ap length is, begins.0),
            ap (λ m. drop m opened_ends) past ∙ ap (drop (stop - from)) (is ∙ part) ∙ drop-drop (stop - from) from (take to s)
                ∙ ap (λ m. drop m (take to s)) whole,
          )

      last_tail : stop < min (length s) to → first / n + 1 < div_ceil stop n
          → (min (length s) to - stop ≤ length opened_ends)
          × (drop (length opened_ends - (min (length s) to - stop)) opened_ends ≡ tail_of n stop s)
      last_tail keeps more =
          let back = ceil_bounds stop n some in
          let from : ℕ = (div_ceil stop n - 1) * n in
          let opened : List ℤ = take n (drop from s) in
          let front : List ℤ = front_samples in
          let one : div_ceil stop n ≡ div_ceil stop n - 1 + 1 = omega arith in
          let sum : from + n ≡ to = omega (arith, ap (λ k. k * n) one) in
          let is : opened_ends ≡ front ++ opened =
          parts ∙ ap (λ l. front ++ l) (one_of n (div_ceil stop n - 1) s _ (behind-tail n (length s) first stop some order keeps more)) in
          let part : opened ≡ drop from (take to s) = sym (drop-take from n s) ∙ ap (λ m. drop from (take m s)) sum in
          let len : length opened ≡ min n (length s - from) = omega (arith, length-take n (drop from s), length-drop from s) in
          let total : length opened_ends ≡ length front + length opened = ap length is ∙ length-append front opened in
          let past : length opened_ends - (min (length s) to - stop) ≡ length front + (stop - from) = omega (arith, back.1) in
          let whole : from + (stop - from) ≡ stop = omega (arith, back.1) in (
            omega (arith, back.1),
            ap (λ m. drop m opened_ends) past ∙ ap (drop (length front + (stop - from))) is
                ∙ sym (drop-drop (stop - from) (length front) (front ++ opened)) ∙ ap (drop (stop - from)) (drop_at front opened (length front) refl ∙ part)
                ∙ drop-drop (stop - from) from (take to s) ∙ ap (λ m. drop m (take to s)) whole,
          )

  -- if an interval is decoded, the head or the tail has a sample
  pub opened_some : 0 < opened_count n (length s) (from_to first stop) → 0 < first % n + (min (length s) (div_ceil stop n * n) - stop)
  opened_some some_opened =
      elim (cases_lt 0 (first % n + (min (length s) (div_ceil stop n * n) - stop))) [
        | inl keeps ↦ keeps
        | inr none ↦
            let begins = begins_before first n some in
            let whole : first ≤ first / n * n = omega (arith, begins.2) in
            let past : min (length s) (div_ceil stop n * n) ≤ stop = omega arith in
            let no_first = nothing_first n (length s) first stop some order whole past in
            let no_last = nothing_last n (length s) first stop some order past in
            absurd (omega (arith, some_opened, opened-count n (length s) first stop some order, ap length no_first, ap length no_last))
      ]

-- the end of the touched intervals, as the code computes it
pub touched_end : (count size m n to stop r : ℕ) → count ≡ size → m ≡ n → to ≡ div_ceil stop m → r ≡ min count (to * m) → r ≡ min size (div_ceil stop n * n)
touched_end count size m n to stop r count_is m_is to_is r_is = cc

-- the values, between what the first and the last interval keep, are the samples of the touched
-- intervals after the exchange
pub fresh_is : (n first stop head tail : ℕ) (s values ends fresh : List ℤ) → 0 < n → first ≤ stop → stop ≤ length s
    → ends ≡ opened_samples n (from_to first stop) s
    → head ≡ first % n → tail ≡ min (length s) (div_ceil stop n * n) - stop → fresh ≡ take head ends ++ (values ++ drop (length ends - tail) ends)
    → fresh ≡ head_of n first s ++ (values ++ tail_of n stop s)
fresh_is n first stop head tail s values ends fresh some order within ends_are head_is tail_is joined =
    let all : List ℤ = opened_samples n (from_to first stop) s in
    let tail_len : ℕ = min (length s) (div_ceil stop n * n) - stop in
    joined
    ∙ ap (λ l. take head l ++ (values ++ drop (length l - tail) l)) ends_are
    ∙ ap (λ m. take m all ++ (values ++ drop (length all - tail) all)) head_is
    ∙ ap (λ m. take (first % n) all ++ (values ++ drop (length all - m) all)) tail_is
    ∙ ap (λ l. l ++ (values ++ drop (length all - tail_len) all)) (ends_head n first stop s some order within).1
    ∙ ap (λ l. head_of n first s ++ (values ++ l)) (ends_tail n first stop s some order within).1
