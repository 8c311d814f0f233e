use Rattle.std.proofs.Common.{◌≡◌, ◌+◌, ◌-◌, ◌≤◌, length, take, vec_len, vec_capacity}
use Rattle.aec_edit.proofs.RunLemmas.{HasAdded}
use Rattle.aec_edit.proofs.workspace.Workspace.run.Given as goal

abbrev pub invariant-loop-edit : goal.invariant-loop-edit
invariant-loop-edit g l = record {
  has_added : HasAdded (g.C.Codec.format l.initial.self.codec) l.initial.self.limit l.initial.self.samples
      (g.C.Codec.called l.initial.self.codec) (g.C.Codec.read l.initial.self.codec) (take l.edit-index l.edits)
      l.initial.outcomes.items l.outcomes.items l.self.samples (g.C.Codec.called l.self.codec) (g.C.Codec.read l.self.codec);
  limit : l.self.limit ≡ l.initial.self.limit;
  format : g.C.Codec.format l.self.codec ≡ g.C.Codec.format l.initial.self.codec;
  room : vec_len l.outcomes + (length l.edits - l.edit-index) ≤ vec_capacity l.outcomes;
}
