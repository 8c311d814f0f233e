use Rattle.std.proofs.Common.{◌≡◌, ◌+◌, ◌-◌, map, take, drop}
use Rattle.aec_edit.proofs.IndexLemmas.{written_over}
use Rattle.aec_edit.proofs.index.shift_starts.Given as goal

abbrev pub invariant-loop-k : goal.invariant-loop-k
invariant-loop-k l = l.starts ≡ written_over l.initial.starts l.at (map (λ x. x - l.old_end + l.new_end) (take (l.k - l.at) (drop l.at l.initial.starts)))
