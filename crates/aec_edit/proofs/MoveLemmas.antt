-- What insertions and removals share: the intervals that are coded, and how many are decoded.
use Rattle.std.proofs.Common.{◌≡◌, ℕ, zero, suc, ◌+◌, ◌-◌, ◌*◌, ◌/◌, ◌%◌, ◌<◌, ◌≤◌, true, false, cond, eqb, List, length, ℤ, refl, ap, ◌∙◌, inl, inr, ◌⊎◌, arith}
use Rattle.std.specs.Int.{div_ceil}
use Rattle.std.proofs.lemmas.Bool.{cases_lt, cases_eq, eq-eqb, ne_eqb}
use Rattle.std.proofs.Math.Nat.{mul-le-mul_right}
use Rattle.aec_params.specs.EditLaws.{inside_calls}
use Rattle.aec_params.proofs.MoveLaws.{from_to}
use Rattle.aec_params.proofs.CountLaws.{ceil_bounds, ceil_unique}
use Rattle.aec_bits.specs.Codec.{Format, AreHeld}
use Rattle.aec_edit.specs.Changes.{IsExchangeUpTo, fresh_total, recoding_calls}
use Rattle.aec_edit.proofs.ExchangeLemmas.{recoding, begins_before, ceil_mono}

-- a place is at the beginning of an interval, or inside one
pub places : (n a : ℕ) → 0 < n → ((a % n ≡ 0) × (inside_calls n a ≡ 0) × (div_ceil a n ≡ a / n) × (div_ceil a n * n ≡ a))
    ⊎ ((0 < a % n) × (inside_calls n a ≡ 1) × (div_ceil a n ≡ a / n + 1) × (div_ceil a n * n ≡ a / n * n + n))
places n a h =
    let begins = begins_before a n h in
    elim (cases_eq (a % n) 0) [
      | inl none ↦
          let test : eqb (a % n) 0 ≡ true = eq-eqb (a % n) 0 none in
          let count : div_ceil a n ≡ a / n = ceil_unique a n (a / n) (omega (arith, begins.2)) (omega (arith, begins.2)) in
          inl (none, ap (λ b. cond b 0 1) test, count, ap (λ k. k * n) count ∙ omega (arith, begins.2))
      | inr some ↦
          let test : eqb (a % n) 0 ≡ false = ne_eqb (a % n) 0 some in
          let product : (a / n + 1) * n ≡ a / n * n + n = omega arith in
          let more : 0 < a % n = positive (a % n) some in
          let count : div_ceil a n ≡ a / n + 1 = ceil_unique a n (a / n + 1) (omega (arith, begins.1)) (omega (arith, begins.2)) in
          inr (more, ap (λ b. cond b 0 1) test, count, ap (λ k. k * n) count ∙ product)
    ]
  where
    positive : (m : ℕ) → (m ≡ 0 → ⊥) → 0 < m
    positive zero h = absurd (h refl)
    positive (suc m) h = omega arith

-- the interval up to which all is coded, if len samples are inserted or removed before a place
abbrev pub end_for : ℕ → ℕ → ℕ → ℕ → ℕ
end_for n count place len = cond (eqb (len % n) 0) (div_ceil place n) (div_ceil count n)

-- ---- how many are coded

-- all samples after the places are coded
pub later_calls : (n old first stop len : ℕ) → 0 < n → first ≤ stop → stop ≤ old
    → recoding_calls n old (recoding first stop (div_ceil old n) len) ≡ div_ceil (first + len + (old - stop)) n - first / n
later_calls n old first stop len h order within =
    let new : ℕ = first + len + (old - stop) in
    let begins = begins_before first n h in
    let all = ceil_bounds new n h in
    let reach = ceil_bounds old n h in
    let low : first / n ≤ div_ceil new n = below new begins.0 all.0 (omega arith) in
    let split : div_ceil new n * n ≡ first / n * n + (div_ceil new n - first / n) * n =
    products (div_ceil new n) (first / n) (div_ceil new n - first / n) (omega arith) in
    ceil_unique (fresh_total n old (recoding first stop (div_ceil old n) len)) n (div_ceil new n - first / n)
    (omega (arith, begins.2)) (omega (arith, begins.2))
  where
    products : (a b c : ℕ) → a ≡ b + c → a * n ≡ b * n + c * n
    products a b c sum = ap (λ k. k * n) sum ∙ omega arith

    below : (new : ℕ) → first / n * n ≤ first → new ≤ div_ceil new n * n → first ≤ new → first / n ≤ div_ceil new n
    below new begins ends more =
        elim (cases_lt (div_ceil new n) (first / n)) [
          | inr at_least ↦ at_least
          | inl less ↦ let up = mul-le-mul_right {m = div_ceil new n + 1} {n = first / n} n (omega arith) in absurd (omega arith)
        ]

-- ---- what can be exchanged

module _ (f : Format) (limit first stop : ℕ) (s values : List ℤ) (some : 1 ≤ f.most) (order : first ≤ stop) (within : stop ≤ length s)
    (held : AreHeld f values) (few : first + length values + (length s - stop) ≤ limit) where
  -- all samples after the places are coded
  pub later_can : IsExchangeUpTo f limit s (from_to first stop) (div_ceil (length s) f.most) values
  later_can = record {
    order = order;
    within = within;
    reaches = ceil_mono f.most stop (length s) some within;
    inside = omega arith;
    held = held;
    fitting = inl (ceil_bounds (length s) f.most some).0;
    few = few;
  }

  -- only the touched intervals are coded; if others come after them, what is coded is whole
  -- intervals
  pub whole_can : (div_ceil stop f.most * f.most < length s
      → (k : ℕ) × (fresh_total f.most (length s) (recoding first stop (div_ceil stop f.most) (length values)) ≡ k * f.most))
      → IsExchangeUpTo f limit s (from_to first stop) (div_ceil stop f.most) values
  whole_can whole = record {
    order = order;
    within = within;
    reaches = omega arith;
    inside = ceil_mono f.most stop (length s) some within;
    held = held;
    fitting =
        elim (cases_lt (div_ceil stop f.most * f.most) (length s)) [
          | inr past ↦ inl past
          | inl inside ↦ inr (whole inside)
        ];
    few = few;
  }
