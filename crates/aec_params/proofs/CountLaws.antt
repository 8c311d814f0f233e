-- How many pieces of n places m places fill, rounded up.
use Rattle.std.proofs.Common.{◌≡◌, ℕ, ◌+◌, ◌*◌, ◌/◌, ◌%◌, ◌<◌, ◌≤◌, ap, ◌∙◌, inl, inr, arith}
use Rattle.std.specs.Int.{div_ceil}
use Rattle.std.proofs.Math.Nat.{mul-le-mul_right}
use Rattle.std.proofs.lemmas.Bool.{cases_lt}
use Rattle.std.proofs.lemmas.Nat.{div-add-mod', mod_below}

pub ceil_bounds : (m n : ℕ) → 0 < n → (m ≤ div_ceil m n * n) × (div_ceil m n * n < m + n)
ceil_bounds m n h =
    let whole = div-add-mod' m n in
    let small = mod_below m n h in
    elim (cases_lt 0 (m % n)) [
      | inl some ↦
          let more : div_ceil m n ≡ m / n + 1 = omega arith in
          let product : div_ceil m n * n ≡ m / n * n + n = ap (λ k. k * n) more ∙ omega arith in
          (omega arith, omega arith)
      | inr none ↦
          let same : div_ceil m n ≡ m / n = omega arith in
          let product : div_ceil m n * n ≡ m / n * n = ap (λ k. k * n) same in
          (omega arith, omega arith)
    ]

-- if i is below k, i * n is at least n below k * n
pub row_below : (i k n : ℕ) → i < k → i * n + n ≤ k * n
row_below i k n h = omega (arith, mul-le-mul_right {m = i + 1} {n = k} n (omega arith))

pub ceil_unique : (m n k : ℕ) → m ≤ k * n → k * n < m + n → div_ceil m n ≡ k
ceil_unique m n k low high =
    let h : 0 < n = omega arith in
    let bounds = ceil_bounds m n h in
    elim (cases_lt (div_ceil m n) k) [
      | inl less ↦ absurd (omega (arith, row_below (div_ceil m n) k n less, bounds.0))
      | inr at_least ↦
          elim (cases_lt k (div_ceil m n)) [
            | inl more ↦ absurd (omega (arith, row_below k (div_ceil m n) n more, bounds.1))
            | inr at_most ↦ omega arith
          ]
    ]

pub before_end : (i m n : ℕ) → 0 < n → i < div_ceil m n → i * n < m
before_end i m n h within = omega (arith, row_below i (div_ceil m n) n within, (ceil_bounds m n h).1)

pub past_end : (i m n : ℕ) → 0 < n → div_ceil m n ≤ i → m ≤ i * n
past_end i m n h past = omega (arith, mul-le-mul_right {m = div_ceil m n} {n = i} n past, (ceil_bounds m n h).0)
