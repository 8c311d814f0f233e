-- What a removal codes and decodes: its definition and the code agree.
use Rattle.std.proofs.Common.{◌≡◌, ℕ, ◌+◌, ◌-◌, ◌*◌, ◌/◌, ◌%◌, ◌<◌, ◌≤◌, min, Bool, false, cond, eqb, List, [], ◌++◌, length, ℤ, refl, sym, ap, ◌∙◌, inl, inr, ◌⊎◌, arith, Result, length-append}
use Rattle.std.specs.Result.{MatchResult, OnOk, OnErr}
use Rattle.std.specs.Int.{div_ceil}
use Rattle.std.specs.List.{range_with_len, filter}
use Rattle.std.proofs.lemmas.Bool.{cases_lt, cases_eq, eq-eqb, ne_eqb}
use Rattle.std.proofs.lemmas.Nat.{div-add-mod'}
use Rattle.std.proofs.lemmas.List.Elements.{filter-append}
use Rattle.std.proofs.Math.Nat.{mul-le-mul_right}
use Rattle.aec_params.specs.declared.fault.Fault.{Fault}
use Rattle.aec_params.specs.declared.edit.Edit.TheVariants.{Remove}
use Rattle.aec_params.specs.Edits.{touched_intervals, keeps_a_sample, reached_intervals, needed_calls, opened_intervals}
use Rattle.aec_params.specs.EditLaws.{inside_calls}
use Rattle.aec_params.proofs.CountLaws.{ceil_bounds, ceil_unique, before_end}
use Rattle.aec_params.proofs.EditLaws.{touched_intervals-is, length-filter-all, keeps_tail}
use Rattle.aec_params.proofs.MoveLaws.{from_to, needed_calls-remove}
use Rattle.aec_params.proofs.RemovalLaws.{range-append}
use Rattle.aec_bits.specs.Codec.{Format}
use Rattle.aec_bits.proofs.RefusalLaws.{remove_fits}
use Rattle.aec_edit.specs.Calls.{RisesAtMost}
use Rattle.aec_edit.specs.Steps.{Applies}
use Rattle.aec_edit.specs.Changes.{IsExchanged, IsNotExchanged, IsExchangeUpTo, exchanged, fresh_total, recoding_calls, recoding_openings, opened_by}
use Rattle.aec_edit.proofs.ExchangeLemmas.{recoding, begins_before, ceil_mono}
use Rattle.aec_edit.proofs.AnswerLemmas.{from_exchange}
use Rattle.aec_edit.proofs.OverwriteLemmas.{ceil_last, last_after, overwrite_opens}
use Rattle.aec_edit.proofs.MoveLemmas.{places, end_for, later_calls, later_can, whole_can}

-- ---- how many are coded

-- if len fills whole intervals, the end of the interval of a place moves by len
ceil_moved : (n first len : ℕ) → 0 < n → len % n ≡ 0 → div_ceil (first + len) n * n ≡ div_ceil first n * n + len
ceil_moved n first len h whole =
    let parts : len ≡ len / n * n = omega (arith, div-add-mod' len n) in
    let bounds = ceil_bounds first n h in
    let sum : (div_ceil first n + len / n) * n ≡ div_ceil first n * n + len / n * n = omega arith in
    let count : div_ceil (first + len) n ≡ div_ceil first n + len / n =
    ceil_unique (first + len) n (div_ceil first n + len / n) (omega (arith, bounds.0)) (omega (arith, bounds.1)) in
    ap (λ k. k * n) count ∙ omega arith

pub whole_left : (n old first len : ℕ) → 0 < n → len % n ≡ 0 → first + len ≤ old
    → recoding_calls n old (recoding first (first + len) (div_ceil (first + len) n) 0) ≡ inside_calls n first
whole_left n old first len h whole within =
    let moved = ceil_moved n first len h whole in
    let begins = begins_before first n h in
    elim (places n first h) [
      | inl start ↦
          let sum : inside_calls n first * n ≡ 0 = ap (λ k. k * n) start.1 ∙ omega arith in
          ceil_unique (fresh_total n old (recoding first (first + len) (div_ceil (first + len) n) 0)) n (inside_calls n first)
          (omega (arith, start.0, start.3)) (omega (arith, start.0, start.3))
      | inr cut ↦
          let sum : inside_calls n first * n ≡ n = ap (λ k. k * n) cut.1 ∙ omega arith in
          ceil_unique (fresh_total n old (recoding first (first + len) (div_ceil (first + len) n) 0)) n (inside_calls n first)
          (omega (arith, cut.0, cut.3, begins.2)) (omega (arith, cut.0, cut.3, begins.2))
    ]

-- ---- how many are decoded

later_opened : (n old first len : ℕ) → 0 < n → 0 < len → first + len ≤ old
    → recoding_openings n old (from_to first (first + len)) (div_ceil old n)
    ≤ length (filter (keeps_a_sample n old (from_to first (first + len))) (reached_intervals n (from_to first old)))
later_opened n old first len h some within =
    let cut : ℕ = div_ceil (first + len) n in
    let behind : List ℕ = range_with_len cut (div_ceil old n - cut) in
    let ends = overwrite_opens n old first len h some in
    let last = ceil_last (first + len) n h (omega arith) in
    let later = last_after n first len h some in
    let up = ceil_mono n (first + len) old h within in
    let low = ceil_mono n first (first + len) h (omega arith) in
    let number : (first + len - 1) / n - first / n + 1 ≡ cut - first / n = omega (arith, later, last) in
    let touched : touched_intervals n first len ≡ range_with_len (first / n) (cut - first / n) =
    touched_intervals-is n first len h some ∙ ap (range_with_len (first / n)) number in
    let test : ℕ → Bool = keeps_a_sample n old (from_to first (first + len)) in
    let count : div_ceil old n - first / n ≡ (cut - first / n) + (div_ceil old n - cut) = omega (arith, later, last, up) in
    let place : first / n + (cut - first / n) ≡ cut = omega (arith, later, last) in
    let parts : reached_intervals n (from_to first old) ≡ touched_intervals n first len ++ behind =
    ap (range_with_len (first / n)) count ∙ range-append (first / n) (cut - first / n) (div_ceil old n - cut)
    ∙ ap (λ a. range_with_len (first / n) (cut - first / n) ++ range_with_len a (div_ceil old n - cut)) place
    ∙ ap (λ l. l ++ behind) (sym touched) in
    let all_behind = length-filter-all test cut (div_ceil old n - cut)
    (λ k from below. keeps_tail n old first (first + len) k (at_or_behind k from (omega (arith, up)))) in
    omega (
      arith,
      ends,
      up,
      all_behind,
      ap (λ l. length (filter test l)) parts,
      ap length (filter-append test (touched_intervals n first len) behind),
      length-append (filter test (touched_intervals n first len))
          (filter test behind),
    )
  where
    at_or_behind : (k : ℕ) → div_ceil (first + len) n ≤ k → k < div_ceil old n → first + len < min (k * n + n) old
    at_or_behind k from below =
        let up = mul-le-mul_right {m = div_ceil (first + len) n} {n = k} n from in
        let reach = ceil_bounds (first + len) n h in
        let inside = before_end k old n h below in
        differ (cases_lt (first + len) (min (k * n + n) old)) up reach.0 inside
      where
        differ : (first + len < min (k * n + n) old) ⊎ (min (k * n + n) old ≤ first + len) → div_ceil (first + len) n * n ≤ k * n
            → first + len ≤ div_ceil (first + len) n * n → k * n < old → first + len < min (k * n + n) old
        differ (inl less) a b c = less
        differ (inr more) a b c = omega arith

-- ---- the result

len_tests : (len : ℕ) → 0 < len → eqb len 0 ≡ false
len_tests len some = ne_eqb len 0 (λ e. absurd (omega arith))

pub remove_calls : (n old first len : ℕ) → 0 < n → 0 < len → first + len ≤ old
    → recoding_calls n old (recoding first (first + len) (end_for n old (first + len) len) 0) ≡ needed_calls n old (Remove first len)
remove_calls n old first len h some within = by_number ∙ sym (needed_calls-remove n old first len h)
  where
    by_number : recoding_calls n old (recoding first (first + len) (end_for n old (first + len) len) 0)
        ≡ cond (eqb len 0) 0 (cond (eqb (len % n) 0) (inside_calls n first) (div_ceil (old - len) n - first / n))
    by_number =
        elim (cases_eq (len % n) 0) [
          | inl whole ↦ rw (len_tests len some, eq-eqb (len % n) 0 whole) (whole_left n old first len h whole within)
          | inr part ↦
              let new : first + 0 + (old - (first + len)) ≡ old - len = omega arith in
              rw (len_tests len some, ne_eqb (len % n) 0 part)
              (later_calls n old first (first + len) 0 h (omega arith) within ∙ ap (λ k. div_ceil k n - first / n) new)
        ]

pub remove_openings : (n old first len : ℕ) → 0 < n → 0 < len → first + len ≤ old
    → recoding_openings n old (from_to first (first + len)) (end_for n old (first + len) len) ≤ opened_intervals n old (Remove first len)
remove_openings n old first len h some within =
    elim (cases_eq (len % n) 0) [
      | inl whole ↦ rw (len_tests len some, eq-eqb (len % n) 0 whole) (omega arith)
      | inr part ↦ rw (len_tests len some, ne_eqb (len % n) 0 part) (later_opened n old first len h some within)
    ]

-- if whole intervals are removed, whole intervals are coded: one or none
whole_fit : (n old first len : ℕ) → 0 < n → len % n ≡ 0 → div_ceil (first + len) n * n < old
    → (k : ℕ) × (fresh_total n old (recoding first (first + len) (div_ceil (first + len) n) 0) ≡ k * n)
whole_fit n old first len h whole inside =
    let moved = ceil_moved n first len h whole in
    let begins = begins_before first n h in
    elim (places n first h) [
      | inl start ↦ (0, omega (arith, start.0, start.3))
      | inr cut ↦ (1, omega (arith, cut.3, begins.2))
    ]

pub remove_can : (f : Format) (limit first len : ℕ) (s : List ℤ) → 1 ≤ f.most → first + len ≤ length s → length s ≤ limit
    → IsExchangeUpTo f limit s (from_to first (first + len)) (end_for f.most (length s) (first + len) len) []
remove_can f limit first len s h within few =
    elim (cases_eq (len % f.most) 0) [
      | inl whole ↦
          rw (eq-eqb (len % f.most) 0 whole)
          (whole_can f limit first (first + len) s [] h (omega arith) within refl (omega arith) (whole_fit f.most (length s) first len h whole))
      | inr part ↦ rw (ne_eqb (len % f.most) 0 part) (later_can f limit first (first + len) s [] h (omega arith) within refl (omega arith))
    ]

-- an exchange that is a removal
pub removed : (f : Format) (limit calls reads first len stop to : ℕ) (s : List ℤ) (r : Result ℕ Fault) (s' : List ℤ) (calls' reads' : ℕ) → 1 ≤ f.most
    → 0 < len → first + len ≤ length s → stop ≡ first + len → to ≡ end_for f.most (length s) (first + len) len
    → MatchResult r
    (λ coded. IsExchanged (recoding_calls f.most (length s) (recoding first stop to 0)) calls coded calls')
    (λ fault. IsNotExchanged (recoding_calls f.most (length s) (recoding first stop to 0)) calls fault calls')
    → OnOk r (s' ≡ exchanged (from_to first stop) [] s) → OnErr r (s' ≡ s)
    → RisesAtMost (opened_by (recoding_calls f.most (length s) (recoding first stop to 0)) calls
    (recoding_openings f.most (length s) (from_to first stop) to)) reads reads'
    → Applies f limit s calls reads (Remove first len) r s' calls' reads'
removed f limit calls reads first len stop to s r s' calls' reads' h some within stop_is to_is answer ok err rises =
    at_stop (rw stop_is at answer) (rw stop_is at ok) (rw stop_is at rises)
  where
    at_stop : MatchResult r
        (λ coded. IsExchanged (recoding_calls f.most (length s) (recoding first (first + len) to 0)) calls coded calls')
        (λ fault. IsNotExchanged (recoding_calls f.most (length s) (recoding first (first + len) to 0)) calls fault calls')
        → OnOk r (s' ≡ exchanged (from_to first (first + len)) [] s)
        → RisesAtMost (opened_by (recoding_calls f.most (length s) (recoding first (first + len) to 0)) calls
        (recoding_openings f.most (length s) (from_to first (first + len)) to)) reads reads'
        → Applies f limit s calls reads (Remove first len) r s' calls' reads'
    at_stop answer ok rises =
        from_exchange f limit calls reads s (Remove first len)
        (recoding_calls f.most (length s) (recoding first (first + len) to 0)) (recoding_openings f.most (length s) (from_to first (first + len)) to)
        (remove_fits f limit first len s within)
        (ap (λ t. recoding_calls f.most (length s) (recoding first (first + len) t 0)) to_is ∙ remove_calls f.most (length s) first len h some within)
        (omega (
          arith,
          ap (λ t. recoding_openings f.most (length s) (from_to first (first + len)) t) to_is,
          remove_openings f.most (length s) first len h some within,
        ))
        r s' calls' reads' answer ok err rises
