use Rattle.std.proofs.Common.{◌≡◌, ◌+◌, ◌-◌, ◌<◌, List, ℕ, length, map, take, drop, get_or, sym, ap, ◌∙◌, arith}
use Rattle.std.proofs.lemmas.List.{length-drop, get_or-drop}
use Rattle.aec_edit.proofs.IndexLemmas.{unmoved, written_over, over_more, over_read}
use Rattle.aec_edit.proofs.index.shift_starts.Goals as goal

pub loop-k-preserved : goal.loop-k-preserved
loop-k-preserved c =
    let s : List ℕ = c.args.starts.now in
    let at : ℕ = c.args.at in
    let k : ℕ = c.loop-k.k in
    let moved : ℕ → ℕ = λ x. x - c.args.old_end + c.args.new_end in
    let within : k < length s = omega arith in
    let past : at < k + 1 = omega arith in
    let inside : k - at < length (drop at s) = omega (arith, length-drop at s) in
    let here : k ≡ at + (k - at) = omega arith in
    let still = over_read moved s (drop at s) c.loop-k.starts at (k - at) k 0 (omega arith) (omega arith) here c.loop-k.invariant in
    let old : get_or s k 0 ≡ get_or (drop at s) (k - at) 0 = ap (λ n. get_or s n 0) here ∙ sym (get_or-drop at s (k - at) 0) in
    let next : k - at + 1 ≡ k + 1 - at = omega arith in
    over_more moved s (drop at s) c.loop-k.starts at (k - at) k _ inside (omega arith) here c.loop-k.invariant (ap moved (still ∙ old))
    ∙ ap (λ n. written_over s at (map moved (take n (drop at s)))) next

pub returns-then-old_end-new_end : goal.returns-then-old_end-new_end
returns-then-old_end-new_end c =
    unmoved c.args.old_end c.args.new_end c.args.at c.args.starts.now c.if-old_end-new_end.true c.requires.within
    (λ k at l. (c.requires.few.later k at l).0)
