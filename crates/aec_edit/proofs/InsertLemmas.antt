-- What an insertion codes and decodes: its definition and the code agree.
use Rattle.std.proofs.Common.{◌≡◌, ℕ, ◌+◌, ◌-◌, ◌*◌, ◌/◌, ◌%◌, ◌<◌, ◌≤◌, true, false, cond, eqb, List, length, ℤ, sym, ap, ◌∙◌, inl, inr, arith}
use Rattle.std.specs.Result.{MatchResult, OnOk, OnErr}
use Rattle.std.proofs.Common.{Result}
use Rattle.std.specs.Int.{div_ceil}
use Rattle.std.specs.List.{filter}
use Rattle.std.proofs.lemmas.Bool.{cases_lt, cases_eq, eq-eqb, ne_eqb}
use Rattle.std.proofs.lemmas.Nat.{div-add-mod'}
use Rattle.std.proofs.Math.Nat.{mul-le-mul_right}
use Rattle.aec_params.specs.declared.fault.Fault.{Fault}
use Rattle.aec_params.specs.declared.samples.Samples.{Samples}
use Rattle.aec_params.specs.declared.edit.Edit.TheVariants.{Insert}
use Rattle.aec_params.specs.Edits.{keeps_a_sample, reached_intervals, moved_intervals, needed_calls, opened_intervals}
use Rattle.aec_params.specs.EditLaws.{inside_calls}
use Rattle.aec_params.proofs.EditLaws.{length-filter-all, keeps_head, keeps_tail}
use Rattle.aec_params.proofs.MoveLaws.{from_to, needed_calls-insert}
use Rattle.aec_params.proofs.CountLaws.{ceil_unique, before_end}
use Rattle.aec_bits.specs.Codec.{Format, AreHeld}
use Rattle.aec_bits.proofs.RefusalLaws.{insert_fits}
use Rattle.aec_edit.specs.Calls.{RisesAtMost}
use Rattle.aec_edit.specs.Steps.{Applies}
use Rattle.aec_edit.specs.Changes.{IsExchanged, IsNotExchanged, IsExchangeUpTo, exchanged, fresh_total, recoding_calls, recoding_openings, opened_by}
use Rattle.aec_edit.specs.Opened.{opened_count}
use Rattle.aec_edit.proofs.ExchangeLemmas.{recoding, begins_before, ceil_mono}
use Rattle.aec_edit.proofs.AnswerLemmas.{from_exchange}
use Rattle.aec_edit.proofs.MoveLemmas.{places, end_for, later_calls, later_can, whole_can}
use Rattle.aec_edit.proofs.OpenedLemmas.{behind-one, nothing_first, first_few, opened-count}

-- ---- how many are coded

whole_parts : (n len : ℕ) → 0 < n → len % n ≡ 0 → len ≡ len / n * n
whole_parts n len h whole = omega (arith, div-add-mod' len n)

pub whole_calls : (n old first len : ℕ) → 0 < n → len % n ≡ 0 → first ≤ old
    → recoding_calls n old (recoding first first (div_ceil first n) len) ≡ len / n + inside_calls n first
whole_calls n old first len h whole within =
    let parts = whole_parts n len h whole in
    let begins = begins_before first n h in
    elim (places n first h) [
      | inl start ↦
          let sum : (len / n + inside_calls n first) * n ≡ len / n * n = ap (λ k. (len / n + k) * n) start.1 ∙ omega arith in
          ceil_unique (fresh_total n old (recoding first first (div_ceil first n) len)) n (len / n + inside_calls n first) (omega arith) (omega arith)
      | inr within_one ↦
          let sum : (len / n + inside_calls n first) * n ≡ len / n * n + n = ap (λ k. (len / n + k) * n) within_one.1 ∙ omega arith in
          ceil_unique (fresh_total n old (recoding first first (div_ceil first n) len)) n (len / n + inside_calls n first)
          (omega (arith, begins.2)) (omega (arith, begins.2))
    ]

-- ---- how many are decoded

pub ends_opened : (n old first : ℕ) → 0 < n → opened_count n old (from_to first first) ≤ inside_calls n first
ends_opened n old first h =
    let begins = begins_before first n h in
    let same : first ≤ first = omega arith in
    let count = opened-count n old first first h same in
    elim (places n first h) [
      | inl start ↦
          let none_first = ap length (nothing_first n old first first h same (omega (arith, begins.2)) (omega (arith, start.3))) in
          let none_last = ap length (behind-one n old first first h same (omega (arith, start.2))) in
          omega (arith, count)
      | inr within_one ↦
          let none_last = ap length (behind-one n old first first h same (omega (arith, within_one.2))) in
          omega (arith, count, first_few n old first first h same)
    ]

all_kept : (n old first : ℕ) → 0 < n → (k : ℕ) → first / n ≤ k → k < div_ceil old n → keeps_a_sample n old (from_to first first) k ≡ true
all_kept n old first h k from below =
    let begins = begins_before first n h in
    let inside = before_end k old n h below in
    let low = mul-le-mul_right {m = first / n} {n = k} n from in
    elim (cases_lt (k * n) first) [
      | inl front ↦ keeps_head n old first first k front
      | inr behind ↦ keeps_tail n old first first k (omega (arith, begins.1))
    ]

pub later_opens : (n old first : ℕ) → 0 < n → first ≤ old
    → recoding_openings n old (from_to first first) (div_ceil old n)
    ≤ length (filter (keeps_a_sample n old (from_to first first)) (reached_intervals n (from_to first old)))
later_opens n old first h within =
    let ends = ends_opened n old first h in
    let up = ceil_mono n first old h within in
    let all = length-filter-all (keeps_a_sample n old (from_to first first)) (first / n) (div_ceil old n - first / n)
    (λ k from below. all_kept n old first h k from (omega arith)) in
    elim (places n first h) [
      | inl start ↦ omega (arith, start.1, start.2)
      | inr within_one ↦ omega (arith, within_one.1, within_one.2)
    ]

-- ---- the result

len_tests : (n len : ℕ) → 0 < len → eqb len 0 ≡ false
len_tests n len some = ne_eqb len 0 (λ e. absurd (omega arith))

pub insert_calls : (n old first : ℕ) (values : Samples) → 0 < n → 0 < length values → first ≤ old
    → recoding_calls n old (recoding first first (end_for n old first (length values)) (length values)) ≡ needed_calls n old (Insert first values)
insert_calls n old first values h some within = by_len (length values) some ∙ sym (needed_calls-insert n old first values h)
  where
    by_len : (len : ℕ) → 0 < len → recoding_calls n old (recoding first first (end_for n old first len) len)
        ≡ cond (eqb len 0) 0 (cond (eqb (len % n) 0) (len / n + inside_calls n first) (div_ceil (old + len) n - first / n))
    by_len len some =
        elim (cases_eq (len % n) 0) [
          | inl whole ↦ rw (len_tests n len some, eq-eqb (len % n) 0 whole) (whole_calls n old first len h whole within)
          | inr part ↦
              let new : first + len + (old - first) ≡ old + len = omega arith in
              rw (len_tests n len some, ne_eqb (len % n) 0 part)
              (later_calls n old first first len h (omega arith) within ∙ ap (λ k. div_ceil k n - first / n) new)
        ]

pub insert_opens : (n old first : ℕ) (values : Samples) → 0 < n → 0 < length values → first ≤ old
    → recoding_openings n old (from_to first first) (end_for n old first (length values)) ≤ opened_intervals n old (Insert first values)
insert_opens n old first values h some within = by_len (length values) some
  where
    by_len : (len : ℕ) → 0 < len → recoding_openings n old (from_to first first) (end_for n old first len)
        ≤ length (filter (keeps_a_sample n old (from_to first first)) (moved_intervals n len old (from_to first first)))
    by_len len some =
        elim (cases_eq (len % n) 0) [
          | inl whole ↦ rw (len_tests n len some, eq-eqb (len % n) 0 whole) (omega arith)
          | inr part ↦ rw (len_tests n len some, ne_eqb (len % n) 0 part) (later_opens n old first h within)
        ]

-- if whole intervals are inserted, whole intervals are coded
whole_fit : (n old first len : ℕ) → 0 < n → len % n ≡ 0 → div_ceil first n * n < old
    → (k : ℕ) × (fresh_total n old (recoding first first (div_ceil first n) len) ≡ k * n)
whole_fit n old first len h whole inside =
    let parts = whole_parts n len h whole in
    let begins = begins_before first n h in
    elim (places n first h) [
      | inl start ↦ (len / n, omega arith)
      | inr within_one ↦
          let more : (len / n + 1) * n ≡ len / n * n + n = omega arith in
          (len / n + 1, omega (arith, begins.2))
    ]

pub insert_can : (f : Format) (limit first : ℕ) (s values : List ℤ) → 1 ≤ f.most → AreHeld f values → first ≤ length s → length s + length values ≤ limit
    → IsExchangeUpTo f limit s (from_to first first) (end_for f.most (length s) first (length values)) values
insert_can f limit first s values h held within fits =
    elim (cases_eq (length values % f.most) 0) [
      | inl whole ↦
          rw (eq-eqb (length values % f.most) 0 whole)
          (whole_can f limit first first s values h (omega arith) within held (omega arith) (whole_fit f.most (length s) first (length values) h whole))
      | inr part ↦ rw (ne_eqb (length values % f.most) 0 part) (later_can f limit first first s values h (omega arith) within held (omega arith))
    ]

-- an exchange that is an insertion
pub inserted : (f : Format) (limit calls reads first to : ℕ) (s values : List ℤ) (r : Result ℕ Fault) (s' : List ℤ) (calls' reads' : ℕ) → 1 ≤ f.most
    → 0 < length values → AreHeld f values → first ≤ length s → length s + length values ≤ limit
    → to ≡ end_for f.most (length s) first (length values)
    → MatchResult r
    (λ coded. IsExchanged (recoding_calls f.most (length s) (recoding first first to (length values))) calls coded calls')
    (λ fault. IsNotExchanged (recoding_calls f.most (length s) (recoding first first to (length values))) calls fault calls')
    → OnOk r (s' ≡ exchanged (from_to first first) values s) → OnErr r (s' ≡ s)
    → RisesAtMost (opened_by (recoding_calls f.most (length s) (recoding first first to (length values))) calls
    (recoding_openings f.most (length s) (from_to first first) to)) reads reads'
    → Applies f limit s calls reads (Insert first values) r s' calls' reads'
inserted f limit calls reads first to s values r s' calls' reads' h some held within fits to_is answer ok err rises =
    from_exchange f limit calls reads s (Insert first values)
    (recoding_calls f.most (length s) (recoding first first to (length values))) (recoding_openings f.most (length s) (from_to first first) to)
    (insert_fits f limit first s values held within fits)
    (ap (λ t. recoding_calls f.most (length s) (recoding first first t (length values))) to_is ∙ insert_calls f.most (length s) first values h some within)
    (omega (arith, ap (λ t. recoding_openings f.most (length s) (from_to first first) t) to_is, insert_opens f.most (length s) first values h some within))
    r s' calls' reads' answer ok err rises
