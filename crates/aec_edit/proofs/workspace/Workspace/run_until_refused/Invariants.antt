use Rattle.std.proofs.Common.{◌≡◌, take}
use Rattle.aec_edit.proofs.StopLemmas.{AreMade}
use Rattle.aec_edit.proofs.workspace.Workspace.run_until_refused.Given as goal

abbrev pub invariant-loop-place : goal.invariant-loop-place
invariant-loop-place g l = record {
  made : AreMade (g.C.Codec.format l.initial.self.codec) l.initial.self.limit l.initial.self.samples (g.C.Codec.called l.initial.self.codec)
      (g.C.Codec.read l.initial.self.codec) (take l.place l.edits) l.self.samples (g.C.Codec.called l.self.codec) (g.C.Codec.read l.self.codec);
  limit : l.self.limit ≡ l.initial.self.limit;
  format : g.C.Codec.format l.self.codec ≡ g.C.Codec.format l.initial.self.codec;
}
