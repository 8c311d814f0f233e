-- Places exchanged for values: the samples of the touched intervals, and how many intervals they
-- fill.
use Rattle.std.proofs.Common.{◌≡◌, ℕ, ◌+◌, ◌-◌, ◌*◌, ◌/◌, ◌%◌, ◌<◌, ◌≤◌, min, List}
use Rattle.std.proofs.Common.{◌++◌, length, take, ℤ, sym, ap, ◌∙◌, inl, inr, arith, length-append}
use Rattle.std.specs.Int.{div_ceil}
use Rattle.std.proofs.lemmas.Bool.{cases_lt}
use Rattle.std.proofs.lemmas.Nat.{div-add-mod', mod_below}
use Rattle.std.proofs.lemmas.List.{length-take, length-drop}
use Rattle.aec_bits.specs.Codec.{Format, AreHeld, IsLawful}
use Rattle.aec_edit.specs.Changes.{Recoding, IsExchange, exchange_calls, head_of, tail_of}
use Rattle.aec_params.proofs.MoveLaws.{from_to}
use Rattle.aec_params.proofs.CountLaws.{ceil_bounds, ceil_unique, row_below, before_end}

-- a `Recoding` from its places
abbrev pub recoding : ℕ → ℕ → ℕ → ℕ → Recoding
recoding first stop to values = record { gone = from_to first stop; to = to; values = values }

-- ---- numbers

-- an interval begins at or before each of its places, less than n places away
pub begins_before : (a n : ℕ) → 0 < n → (a / n * n ≤ a) × (a < a / n * n + n) × (a / n * n + a % n ≡ a)
begins_before a n h = let whole = div-add-mod' a n in let small = mod_below a n h in (omega arith, omega arith, omega arith)

-- the touched intervals don't end before the first of them begins
pub ends_after : (n first stop : ℕ) → 0 < n → first ≤ stop → first / n ≤ div_ceil stop n
ends_after n first stop h order =
    elim (cases_lt (div_ceil stop n) (first / n)) [
      | inl less ↦ absurd (omega (arith, row_below (div_ceil stop n) (first / n) n less, (begins_before first n h).0, (ceil_bounds stop n h).0))
      | inr all ↦ all
    ]

pub ceil_mono : (n a b : ℕ) → 0 < n → a ≤ b → div_ceil a n ≤ div_ceil b n
ceil_mono n a b h order =
    elim (cases_lt (div_ceil b n) (div_ceil a n)) [
      | inl less ↦ absurd (omega (arith, before_end (div_ceil b n) a n h less, (ceil_bounds b n h).0))
      | inr all ↦ all
    ]

-- m places from the beginning of interval q on fill k intervals
ceil_from : (n m q c k : ℕ) → c ≡ q + k → m + q * n ≤ c * n → c * n < m + q * n + n → div_ceil m n ≡ k
ceil_from n m q c k split low high =
    let product : c * n ≡ q * n + k * n = ap (λ x. x * n) split ∙ omega arith in
    ceil_unique m n k (omega arith) (omega arith)

-- ---- an exchange

module _ (f : Format) (limit first stop : ℕ) (s values : List ℤ) (lawful : IsLawful f) (held : AreHeld f s)
    (fits : IsExchange f limit s (from_to first stop) values) where
  pub head_len : length (head_of f.most first s) ≡ first % f.most
  head_len =
      omega (arith, length-drop (first / f.most * f.most) (take first s), length-take first s, fits.order, fits.within, begins_before first f.most lawful.some)

  pub tail_len : length (tail_of f.most stop s) ≡ min (length s) (div_ceil stop f.most * f.most) - stop
  tail_len = omega (arith, length-drop stop (take (div_ceil stop f.most * f.most) s), length-take (div_ceil stop f.most * f.most) s)

  -- the samples of the touched intervals after the exchange
  pub fresh_len : length (head_of f.most first s ++ (values ++ tail_of f.most stop s))
      ≡ first % f.most + (length values + (min (length s) (div_ceil stop f.most * f.most) - stop))
  fresh_len =
      omega (arith, length-append (head_of f.most first s) (values ++ tail_of f.most stop s), length-append values (tail_of f.most stop s), head_len, tail_len)

  -- they fill the number of intervals that the exchange codes
  pub fresh_count : div_ceil (length (head_of f.most first s ++ (values ++ tail_of f.most stop s))) f.most ≡ exchange_calls f.most first (length values)
  fresh_count =
      let begins = begins_before first f.most lawful.some in
      let more : first ≤ first + length values = omega arith in
      let after = ends_after f.most first (first + length values) lawful.some more in
      let reach = ceil_bounds (first + length values) f.most lawful.some in
      let back = ceil_bounds stop f.most lawful.some in
      let split : div_ceil (first + length values) f.most ≡ first / f.most + exchange_calls f.most first (length values) = omega arith in
      elim fits.fitting [
        | inl at_end ↦
            ceil_from f.most (length (head_of f.most first s ++ (values ++ tail_of f.most stop s))) (first / f.most) (div_ceil (first + length values) f.most)
            (exchange_calls f.most first (length values)) split (omega (arith, fresh_len, begins.2, reach.0, back.0)) (omega
            (arith, fresh_len, begins.2, reach.1, back.0))
        | inr same ↦
            let product : div_ceil (first + length values) f.most * f.most ≡ div_ceil stop f.most * f.most = ap (λ n. div_ceil n f.most * f.most) (sym same) in
            ceil_from f.most (length (head_of f.most first s ++ (values ++ tail_of f.most stop s))) (first / f.most) (div_ceil (first + length values) f.most)
            (exchange_calls f.most first (length values)) split
            (omega (arith, fresh_len, begins.2, reach.0, fits.within)) (omega (arith, fresh_len, begins.2, reach.1, reach.0, fits.within, lawful.some))
      ]
