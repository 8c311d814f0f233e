use Rattle.std.proofs.Common.{take}
use Rattle.aec_edit.specs.Batches.{all_after, all_needed}
use Rattle.aec_edit.specs.Batched.{FitSoFar}
use Rattle.aec_edit.specs.Drafts.{IsDraft}
use Rattle.aec_edit.proofs.workspace.Workspace.draft_of.Given as goal

abbrev pub invariant-loop-edit : goal.invariant-loop-edit
invariant-loop-edit g l =
    let f = g.C.Codec.format l.self.codec in
    let front = take l.edit-index l.edits in
    record {
      fit : FitSoFar f l.self.limit l.self.samples (g.C.Codec.called l.self.codec) l.edits l.edit-index l.draft.count;
      draft : IsDraft f l.self.samples (all_after l.self.samples front) (all_needed f.most l.self.samples front) l.draft;
    }
