use Rattle.std.proofs.Common.{◌≡◌, ◌+◌, ◌≤◌, ◌++◌, length}
use Rattle.std.specs.Int.{div_ceil}
use Rattle.aec_bits.specs.Codec.{AreHeld, code_of}
use Rattle.aec_edit.specs.Index.{starts_of}
use Rattle.aec_edit.specs.Coming.{coming, MovesOn}
use Rattle.aec_edit.proofs.workspace.Workspace.code_fresh.Given as goal

abbrev pub invariant-loop-left : goal.invariant-loop-left
invariant-loop-left g l =
    let f = g.C.Codec.format l.fn.self.codec in
    let all = coming g.C.Codec.format l.fn.self l.fn.fresh in
    let rest = coming g.C.Codec.format l.fn.self l.fresh in
    record {
      format : g.C.Codec.format l.self.codec ≡ f;
      samples : l.self.samples ≡ l.fn.self.samples;
      limit : l.self.limit ≡ l.fn.self.limit;
      held : AreHeld f rest;
      left : l.left ≡ length rest;
      within : l.left ≤ l.fn.count;
      moves : MovesOn (g.C.Codec.read l.fn.self.codec) (g.C.Codec.read l.self.codec) l.fn.fresh l.fresh;
      bits : code_of f all ≡ l.coded.bits.list ++ code_of f rest;
      starts : starts_of f 0 all ≡ l.coded.starts.items ++ starts_of f (length l.coded.bits.list) rest;
      calls : g.C.Codec.called l.self.codec + div_ceil (length rest) f.most ≡ g.C.Codec.called l.fn.self.codec + div_ceil (length all) f.most;
      least : g.C.Codec.called l.fn.self.codec ≤ g.C.Codec.called l.self.codec;
    }

abbrev pub decreases-loop-left : goal.decreases-loop-left
decreases-loop-left g l = l.left
