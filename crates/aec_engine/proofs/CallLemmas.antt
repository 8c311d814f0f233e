-- How often an append calls the coder at most, and when two appends call it as often as one.
use Rattle.std.proofs.Common.{◌≡◌, ℕ, zero, suc, ◌+◌, ◌-◌, ◌*◌, ◌/◌, ◌%◌, ◌<◌, ◌≤◌, ◌↔◌, eqb, min, cond, ℤ, List, ◌++◌, length, ap, ◌∙◌, arith}
use Rattle.std.specs.Int.{div_ceil}
use Rattle.std.proofs.lemmas.Bool.{cond-false, ne_eqb}
use Rattle.std.proofs.lemmas.List.{length-append}
use Rattle.std.proofs.lemmas.Nat.{le-div}
use Rattle.std.proofs.Math.Nat.{div-lt_iff_lt-mul, lt-div-mul-add, div-mul-le_self}
use Rattle.aec_params.specs.declared.edit.Edit.TheVariants.{Append}
use Rattle.aec_params.specs.Edits.{touched_intervals, needed_calls}
use Rattle.aec_params.proofs.EditLaws.{length-touched_intervals, needed_calls-append}

-- ---- calls of an append

-- k places further are at most k intervals further
div-add-le : (n a k : ℕ) → 0 < n → (a + k) / n ≤ a / n + k
div-add-le n a k some =
    let q = a / n in
    let near : a < q * n + n = lt-div-mul-add some in
    let far : k ≤ k * n = grind arith in
    let below : a + k < (q + k + 1) * n = grind (arith, near, far) in
    let crossed : ((a + k) / n < q + k + 1) ↔ (a + k < (q + k + 1) * n) = div-lt_iff_lt-mul some in
    omega (arith, crossed.1 below)

pub touched-le : (n first len : ℕ) → 0 < n → length (touched_intervals n first len) ≤ len
touched-le n first zero some = omega arith
touched-le n first (suc len) some =
    let e : first + suc len - 1 ≡ first + len = omega arith in
    let len_is = length-touched_intervals n first (suc len) some (omega arith) ∙ ap (λ m. m / n - first / n + 1) e in
    omega (arith, len_is, div-add-le n first len some)

-- an append calls the coder at most once for each value
pub append_calls-le : (n old : ℕ) (values : List ℤ) → 0 < n → needed_calls n old (Append values) ≤ length values
append_calls-le n old values some = omega (arith, needed_calls-append n old values some, touched-le n old (length values) some)

-- ---- appends that begin where an interval begins

calls_between : (n old len : ℕ) → 0 < len → cond (eqb len 0) 0 (div_ceil (old + len) n - old / n) ≡ div_ceil (old + len) n - old / n
calls_between n old len some = cond-false (eqb len 0) 0 (div_ceil (old + len) n - old / n) (ne_eqb len 0 (λ e. absurd (omega arith)))

div-le : (n a b : ℕ) → 0 < n → a ≤ b → a / n ≤ b / n
div-le n a b some less = le-div (a / n) b n some (let e = div-mul-le_self a n in omega arith)

lengths-joined : (n old a b : ℕ) → 0 < n → (old + a) % n ≡ 0
    → cond (eqb (a + b) 0) 0 (div_ceil (old + (a + b)) n - old / n)
    ≡ cond (eqb a 0) 0 (div_ceil (old + a) n - old / n) + cond (eqb b 0) 0 (div_ceil (old + a + b) n - (old + a) / n)
lengths-joined n old zero b some whole =
    let l : 0 + b ≡ b = omega arith in
    let o : old + 0 ≡ old = omega arith in
    rw (l, o) (omega arith)
lengths-joined n old (suc a) zero some whole =
    let l : suc a + 0 ≡ suc a = omega arith in
    rw l (omega arith)
lengths-joined n old (suc a) (suc b) some whole =
    let low = div-le n old (old + suc a) some (omega arith) in
    let high = div-le n (old + suc a) (old + (suc a + suc b)) some (omega arith) in
    let both = calls_between n old (suc a + suc b) (omega arith) in
    let first = calls_between n old (suc a) (omega arith) in
    let second = calls_between n (old + suc a) (suc b) (omega arith) in
    let same : old + suc a + suc b ≡ old + (suc a + suc b) = omega arith in
    omega (arith, both, first, second, ap (λ k. div_ceil k n) same, ap (min 1) whole)

-- two appends call the coder as often as one append of all values, if the first ends at the end of
-- an interval
pub append_calls-joined : (n old : ℕ) (a b : List ℤ) → 0 < n → (old + length a) % n ≡ 0
    → needed_calls n old (Append (a ++ b)) ≡ needed_calls n old (Append a) + needed_calls n (old + length a) (Append b)
append_calls-joined n old a b some whole =
    ap (λ len. cond (eqb len 0) 0 (div_ceil (old + len) n - old / n)) (length-append a b) ∙ lengths-joined n old (length a) (length b) some whole
