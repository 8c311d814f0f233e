use Rattle.std.proofs.Common.{◌≡◌, ◌-◌, ◌*◌, ◌++◌, take, drop}
use Rattle.aec_edit.specs.Calls.{RisesAtMost}
use Rattle.aec_edit.proofs.workspace.Workspace.decode_intervals.Given as goal

abbrev pub invariant-loop-i : goal.invariant-loop-i
invariant-loop-i g l =
    let n = (g.C.Codec.format l.initial.self.codec).most in
    record {
      items : l.out.items ≡ l.initial.out.items ++ drop (l.from * n) (take (l.i * n) l.initial.self.samples);
      samples : l.self.samples ≡ l.initial.self.samples;
      limit : l.self.limit ≡ l.initial.self.limit;
      room : l.self.room ≡ l.initial.self.room;
      calls : g.C.Codec.called l.self.codec ≡ g.C.Codec.called l.initial.self.codec;
      reads : RisesAtMost (l.i - l.from) (g.C.Codec.read l.initial.self.codec) (g.C.Codec.read l.self.codec);
      format : g.C.Codec.format l.self.codec ≡ g.C.Codec.format l.initial.self.codec;
    }
