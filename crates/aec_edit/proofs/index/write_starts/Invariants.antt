use Rattle.std.proofs.Common.{◌≡◌, ◌+◌, map, take}
use Rattle.aec_edit.proofs.IndexLemmas.{written_over}
use Rattle.aec_edit.proofs.index.write_starts.Given as goal

abbrev pub invariant-loop-k : goal.invariant-loop-k
invariant-loop-k l = l.starts ≡ written_over l.initial.starts l.at (map (λ x. l.base + x) (take l.k l.with))
