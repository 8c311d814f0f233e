-- How many intervals insertions and removals code, and how many an insertion opens.
use Rattle.std.proofs.Common.{◌≡◌, ℕ, zero, ◌+◌, ◌-◌, ◌*◌, ◌/◌, ◌%◌, ◌<◌, ◌≤◌, Bool, true, false, inl, inr, cond, eqb, [], length, refl, ap, ◌∙◌, arith, ⊎_elim}
use Rattle.std.specs.List.{range_with_len, filter}
use Rattle.std.specs.Int.{div_ceil}
use Rattle.std.proofs.lemmas.Bool.{eq-eqb, ne_eqb, eqb-true, cases_eq, cases_lt}
use Rattle.std.proofs.lemmas.List.FromFn.{length-range_with_len}
use Rattle.std.proofs.Math.Nat.{div-add-mod', mul-le-mul_right, mul-mod_left, mod-lt}
use Rattle.aec_params.specs.declared.samples.Samples.{Samples}
use Rattle.aec_params.specs.declared.edit.Edit.TheVariants.{Append, Truncate, Insert, Remove}
use Rattle.aec_params.specs.Edits.{Stretch, keeps_a_sample, needed_calls, opened_intervals, moved_intervals, reached_intervals}
use Rattle.aec_params.specs.EditLaws.{inside_calls}
use Rattle.aec_params.proofs.CountLaws.{ceil_unique, ceil_bounds, before_end}
use Rattle.aec_params.proofs.EditLaws.{positive, length-filter-all, keeps_head, keeps_tail}

-- ---- numbers

-- m places fill m / n whole intervals, and one more interval if they end inside it
pub ceil_inside : (n m : ℕ) → 0 < n → div_ceil m n ≡ m / n + inside_calls n m
ceil_inside n m h =
    let whole = div-add-mod' m n in
    let small = mod-lt m h in
    elim (cases_eq (m % n) 0) [
      | inl none ↦
          let test : eqb (m % n) 0 ≡ true = eq-eqb (m % n) 0 none in
          rw test (ceil_unique m n (m / n + 0) (omega arith) (omega arith))
      | inr some ↦
          let test : eqb (m % n) 0 ≡ false = ne_eqb (m % n) 0 some in
          let product : (m / n + 1) * n ≡ m / n * n + n = omega arith in
          rw test (ceil_unique m n (m / n + 1) (omega arith) (omega (arith, positive (m % n) some)))
    ]

-- whole intervals add their number to the quotient
pub div-whole : (n old len : ℕ) → 0 < n → len % n ≡ 0 → (old + len) / n ≡ old / n + len / n
div-whole n old len h whole =
    let a = div-add-mod' old n in
    let b = div-add-mod' len n in
    let c = div-add-mod' (old + len) n in
    let r = mod-lt old h in
    let q = mod-lt (old + len) h in
    let sum : (old / n + len / n) * n ≡ old / n * n + len / n * n = omega arith in
    ⊎_elim (λ (less : (old + len) / n < old / n + len / n).
    let up = mul-le-mul_right {m = (old + len) / n + 1} {n = old / n + len / n} n (omega arith) in absurd (omega arith))
    (λ (at_least : old / n + len / n ≤ (old + len) / n).
    ⊎_elim (λ (more : old / n + len / n < (old + len) / n).
    let up = mul-le-mul_right {m = old / n + len / n + 1} {n = (old + len) / n} n (omega arith) in absurd (omega arith))
    (λ (at_most : (old + len) / n ≤ old / n + len / n). omega arith)
    (cases_lt (old / n + len / n) ((old + len) / n)))
    (cases_lt ((old + len) / n) (old / n + len / n))

pub whole-inside : (n old len : ℕ) → 0 < n → len % n ≡ 0 → (old + len) % n ≡ old % n
whole-inside n old len h whole =
    let a = div-add-mod' old n in
    let b = div-add-mod' len n in
    let c = div-add-mod' (old + len) n in
    let sum : (old + len) / n * n ≡ old / n * n + len / n * n = ap (λ t. t * n) (div-whole n old len h whole) ∙ omega arith in
    omega arith

-- ---- how many intervals change

abbrev pub from_to : ℕ → ℕ → Stretch
from_to first stop = record { first = first; stop = stop }

pub moved_length : (n len count first stop : ℕ)
    → length (moved_intervals n len count (from_to first stop))
    ≡ cond (eqb len 0) 0 (cond (eqb (len % n) 0) (div_ceil stop n - first / n) (div_ceil count n - first / n))
moved_length n len count first stop = by_tests (eqb len 0) (eqb (len % n) 0)
  where
    by_tests : (none whole : Bool) → length (cond none [] (reached_intervals n (from_to first (cond whole stop count))))
        ≡ cond none 0 (cond whole (div_ceil stop n - first / n) (div_ceil count n - first / n))
    by_tests true whole = refl
    by_tests false true = length-range_with_len (first / n) (div_ceil stop n - first / n)
    by_tests false false = length-range_with_len (first / n) (div_ceil count n - first / n)

-- numbers chosen by the same tests are equal, if the numbers to choose from are
chosen : (none whole : Bool) (x y w z : ℕ) → (whole ≡ true → x ≡ w) → y ≡ z → cond none 0 (cond whole x y) ≡ cond none 0 (cond whole w z)
chosen true whole x y w z same other = refl
chosen false true x y w z same other = same refl
chosen false false x y w z same other = other

from_place : (n first : ℕ) → 0 < n → div_ceil first n - first / n ≡ inside_calls n first
from_place n first h = omega (arith, ceil_inside n first h)

pub needed_calls-insert : (n old first : ℕ) (values : Samples) → 0 < n
    → needed_calls n old (Insert first values)
    ≡ cond (eqb (length values) 0) 0
    (cond (eqb (length values % n) 0) (length values / n + inside_calls n first) (div_ceil (old + length values) n - first / n))
needed_calls-insert n old first values h = by_len (length values)
  where
    whole_more : (len : ℕ) → len % n ≡ 0 → div_ceil (first + len) n - first / n ≡ len / n + inside_calls n first
    whole_more len whole =
        let ceil = ceil_inside n (first + len) h in
        let quotient = div-whole n first len h whole in
        let same : inside_calls n (first + len) ≡ inside_calls n first = ap (λ t. cond (eqb t 0) 0 1) (whole-inside n first len h whole) in
        omega arith

    by_len : (len : ℕ) → length (moved_intervals n len (old + len) (from_to first (first + len)))
        ≡ cond (eqb len 0) 0 (cond (eqb (len % n) 0) (len / n + inside_calls n first) (div_ceil (old + len) n - first / n))
    by_len len =
        moved_length n len (old + len) first (first + len)
        ∙ chosen (eqb len 0) (eqb (len % n) 0) _ _ _ _ (λ e. whole_more len (eqb-true (len % n) 0 e)) refl

pub needed_calls-remove : (n old first len : ℕ) → 0 < n
    → needed_calls n old (Remove first len) ≡ cond (eqb len 0) 0 (cond (eqb (len % n) 0) (inside_calls n first) (div_ceil (old - len) n - first / n))
needed_calls-remove n old first len h =
    moved_length n len (old - len) first first ∙ chosen (eqb len 0) (eqb (len % n) 0) _ _ _ _ (λ e. from_place n first h) refl

-- ---- insertions and removals at the end

either : {X : Type 0} (b : Bool) (x : X) → cond b x x ≡ x
either true x = refl
either false x = refl

pub needed_calls-insert_last : (n old : ℕ) (values : Samples) → 0 < n → needed_calls n old (Insert old values) ≡ needed_calls n old (Append values)
needed_calls-insert_last n old values h =
    let len : ℕ = length values in
    moved_length n len (old + len) old (old + len) ∙ ap (λ m. cond (eqb len 0) 0 m) (either (eqb (len % n) 0) (div_ceil (old + len) n - old / n))

pub needed_calls-remove_last : (n old first : ℕ) → 0 < n → first ≤ old → needed_calls n old (Remove first (old - first)) ≡ needed_calls n old (Truncate first)
needed_calls-remove_last n old first h within =
    needed_calls-remove n old first (old - first) h ∙ elim (cases_eq first old) [
      | inl all ↦
          let none : eqb (old - first) 0 ≡ true = eq-eqb (old - first) 0 (omega arith) in
          let same : eqb first old ≡ true = eq-eqb first old all in
          rw (none, same) refl
      | inr fewer ↦
          let some : eqb (old - first) 0 ≡ false = ne_eqb (old - first) 0 (λ e. fewer (omega arith)) in
          let differ : eqb first old ≡ false = ne_eqb first old fewer in
          let left : old - (old - first) ≡ first = omega arith in
          rw (some, differ, left, from_place n first h) (either (eqb ((old - first) % n) 0) (inside_calls n first))
    ]

-- ---- intervals that an insertion opens

ceil-le : (n a b : ℕ) → 0 < n → a ≤ b → div_ceil a n ≤ div_ceil b n
ceil-le n a b h l =
    ⊎_elim (λ (less : div_ceil b n < div_ceil a n).
    let up = mul-le-mul_right {m = div_ceil b n + 1} {n = div_ceil a n} n (omega arith) in absurd (omega (arith, (ceil_bounds b n h).0, (ceil_bounds a n h).1)))
    (λ (at_most : div_ceil a n ≤ div_ceil b n). at_most)
    (cases_lt (div_ceil b n) (div_ceil a n))

-- each interval from that of the place on keeps a sample
all_kept : (n old first k : ℕ) → 0 < n → first / n ≤ k → k < div_ceil old n → keeps_a_sample n old (from_to first first) k ≡ true
all_kept n old first k h from below =
    let parts = div-add-mod' first n in
    let small = mod-lt first h in
    let inside = before_end k old n h below in
    let low = mul-le-mul_right {m = first / n} {n = k} n from in
    elim (cases_lt (k * n) first) [
      | inl front ↦ keeps_head n old first first k front
      | inr behind ↦ keeps_tail n old first first k (omega arith)
    ]

kept_up_to : (n old first m : ℕ) → 0 < n → m ≤ div_ceil old n
    → length (filter (keeps_a_sample n old (from_to first first)) (range_with_len (first / n) (m - first / n))) ≡ m - first / n
kept_up_to n old first m h few =
    length-filter-all (keeps_a_sample n old (from_to first first)) (first / n) (m - first / n)
    (λ k from below. all_kept n old first k h from (omega arith))

pub opened_intervals-insert : (n old first : ℕ) (values : Samples) → 0 < n → first ≤ old
    → opened_intervals n old (Insert first values)
    ≡ cond (eqb (length values) 0) 0 (cond (eqb (length values % n) 0) (inside_calls n first) (div_ceil old n - first / n))
opened_intervals-insert n old first values h within = by_tests (eqb (length values) 0) (eqb (length values % n) 0)
  where
    by_tests : (none whole : Bool)
        → length (filter (keeps_a_sample n old (from_to first first)) (cond none [] (reached_intervals n (from_to first (cond whole first old)))))
        ≡ cond none 0 (cond whole (inside_calls n first) (div_ceil old n - first / n))
    by_tests true whole = refl
    by_tests false true = kept_up_to n old first (div_ceil first n) h (ceil-le n first old h within) ∙ from_place n first h
    by_tests false false = kept_up_to n old first (div_ceil old n) h (omega arith)

pub insertions_open : (n old first : ℕ) (values : Samples) → 0 < n → first ≤ old
    → opened_intervals n old (Insert first values) ≤ needed_calls n old (Insert first values)
insertions_open n old first values h within =
    let len : ℕ = length values in
    let few = no_more (eqb len 0) (eqb (len % n) 0) (inside_calls n first) (len / n) (div_ceil old n - first / n) (div_ceil (old + len) n - first / n)
    (let more = ceil-le n old (old + len) h (omega arith) in omega arith) in
    omega (arith, few, opened_intervals-insert n old first values h within, needed_calls-insert n old first values h)
  where
    no_more : (none whole : Bool) (inside come opened coded : ℕ) → opened ≤ coded
        → cond none 0 (cond whole inside opened) ≤ cond none 0 (cond whole (come + inside) coded)
    no_more true whole inside come opened coded few = omega arith
    no_more false true inside come opened coded few = omega arith
    no_more false false inside come opened coded few = few

-- ---- removals that code nothing

pub none_if_whole : (b : Bool) → cond b zero zero ≡ zero
none_if_whole true = refl
none_if_whole false = refl

-- nothing is coded if an interval begins at the place, and whole intervals or all later samples go
none_coded : (none whole : Bool) (inside more : ℕ) → inside ≡ 0 → (whole ≡ false → more ≡ 0) → cond none 0 (cond whole inside more) ≡ 0
none_coded true whole inside more at_begin end = refl
none_coded false true inside more at_begin end = at_begin
none_coded false false inside more at_begin end = end refl

begins_there : (n k : ℕ) → inside_calls n (k * n) ≡ 0
begins_there n k = ap (λ t. cond (eqb t 0) 0 1) (mul-mod_left k n)

pub needed_calls-remove_whole : (n old k j : ℕ) → 0 < n → needed_calls n old (Remove (k * n) (j * n)) ≡ 0
needed_calls-remove_whole n old k j h =
    let len : eqb (j * n % n) 0 ≡ true = eq-eqb (j * n % n) 0 (mul-mod_left j n) in
    needed_calls-remove n old (k * n) (j * n) h
    ∙ none_coded (eqb (j * n) 0) (eqb (j * n % n) 0) (inside_calls n (k * n)) _ (begins_there n k) (λ e. absurd (cc))

pub needed_calls-remove_rest : (n old k : ℕ) → 0 < n → k * n ≤ old → needed_calls n old (Remove (k * n) (old - k * n)) ≡ 0
needed_calls-remove_rest n old k h within =
    let place : eqb (k * n % n) 0 ≡ true = eq-eqb (k * n % n) 0 (mul-mod_left k n) in
    needed_calls-remove_last n old (k * n) h within ∙ rw place (none_if_whole (eqb (k * n) old))
