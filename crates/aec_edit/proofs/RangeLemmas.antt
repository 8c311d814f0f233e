-- Samples that are read back from the intervals that contain them.
use Rattle.std.proofs.Common.{◌≡◌, ℕ, ◌+◌, ◌-◌, ◌*◌, ◌/◌, ◌%◌, ◌<◌, ◌≤◌, List, ◌++◌, length, take, drop, ℤ, sym, ap, ◌∙◌, arith, append_assoc, take-add}
use Rattle.std.specs.Int.{div_ceil}
use Rattle.std.proofs.Math.Nat.{mul-le-mul_right}
use Rattle.std.proofs.lemmas.List.{length-take, drop-append-le, drop-drop, drop-take, take-take}
use Rattle.aec_params.specs.Edits.{touched_intervals}
use Rattle.aec_edit.specs.Calls.{RisesAtMost}
use Rattle.aec_params.proofs.CountLaws.{before_end, ceil_bounds}
use Rattle.aec_edit.proofs.ExchangeLemmas.{begins_before}
use Rattle.aec_edit.proofs.CallLemmas.{needed_is}
use Rattle.aec_edit.proofs.OverwriteLemmas.{overwrite_calls}

-- one more interval
pub intervals_more : (n from i : ℕ) (s front items items' : List ℤ) → 0 < n → from ≤ i → i < div_ceil (length s) n
    → items ≡ front ++ drop (from * n) (take (i * n) s) → items' ≡ items ++ take n (drop (i * n) s)
    → items' ≡ front ++ drop (from * n) (take ((i + 1) * n) s)
intervals_more n from i s front items items' h order within so_far grown =
    let inside = before_end i (length s) n h within in
    let less = mul-le-mul_right {m = from} {n = i} n order in
    let next : i * n + n ≡ (i + 1) * n = omega arith in
    let there : from * n ≤ length (take (i * n) s) = omega (arith, length-take (i * n) s) in
    grown
    ∙ ap (λ l. l ++ take n (drop (i * n) s)) so_far
    ∙ append_assoc front (drop (from * n) (take (i * n) s)) (take n (drop (i * n) s))
    ∙ ap (λ l. front ++ l)
    (sym (drop-append-le (from * n) (take (i * n) s) (take n (drop (i * n) s)) there)
    ∙ ap (drop (from * n)) (sym (take-add (i * n) n s) ∙ ap (λ m. take m s) next))

-- the samples asked for, cut out of the intervals that contain them
pub range_is : (n first len m to skip : ℕ) (s out kept : List ℤ) → 0 < n → m ≡ n → to ≡ div_ceil (first + len) m → skip ≡ first % m
    → out ≡ drop (first / m * n) (take (to * n) s) → kept ≡ take len (drop skip out) → kept ≡ take len (drop first s)
range_is n first len m to skip s out kept h m_is to_is skip_is out_is kept_is =
    let begins = begins_before first n h in
    let reach = (ceil_bounds (first + len) n h).0 in
    let end : ℕ = div_ceil (first + len) n * n in
    let skipped : skip ≡ first % n = skip_is ∙ ap (λ k. first % k) m_is in
    let decoded : out ≡ drop (first / n * n) (take end s) =
    out_is ∙ ap (λ k. drop (first / k * n) (take (to * n) s)) m_is
    ∙ ap (λ k. drop (first / n * n) (take (k * n) s)) (to_is ∙ ap (div_ceil (first + len)) m_is) in
    let whole : first + (end - first) ≡ end = omega arith in
    kept_is
    ∙ ap (λ k. take len (drop k out)) skipped
    ∙ ap (λ l. take len (drop (first % n) l)) decoded
    ∙ ap (take len) (drop-drop (first % n) (first / n * n) (take end s) ∙ ap (λ k. drop k (take end s)) begins.2)
    ∙ ap (λ k. take len (drop first (take k s))) (sym whole)
    ∙ ap (take len) (drop-take first (end - first) s)
    ∙ take-take len (end - first) (drop first s) (omega arith)

-- how many intervals are read
pub range_reads : (n first len m to old new : ℕ) → 0 < n → 0 < len → m ≡ n → to ≡ div_ceil (first + len) m → RisesAtMost (to - first / m) old new
    → RisesAtMost (length (touched_intervals n first len)) old new
range_reads n first len m to old new h some m_is to_is rises =
    let count = overwrite_calls n first len h some in
    let same = needed_is m n first len to m_is to_is in
    record { stays = rises.stays; few = omega (arith, rises.few) }
