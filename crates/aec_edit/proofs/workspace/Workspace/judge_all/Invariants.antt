use Rattle.std.proofs.Common.{◌≡◌, ◌+◌, ◌-◌, ◌^◌, take}
use Rattle.aec_edit.specs.Batches.{all_needed}
use Rattle.aec_edit.specs.Batched.{FitSoFar}
use Rattle.aec_edit.proofs.workspace.Workspace.judge_all.Given as goal

abbrev pub invariant-loop-place : goal.invariant-loop-place
invariant-loop-place g l =
    let f = g.C.Codec.format l.self.codec in
    record {
      fit : FitSoFar f l.self.limit l.self.samples (2 ^ 64 - 1 - l.left) l.edits l.place l.count;
      spent : all_needed f.most l.self.samples (take l.place l.edits) + l.rest ≡ l.left;
    }
