use Rattle.std.proofs.Common.{◌+◌, ◌++◌, length, ap, ◌∙◌, arith}
use Rattle.aec_bits.specs.Codec.{Format}
use Rattle.aec_edit.proofs.StartLemmas.{start_of-le, start_of-mono}
use Rattle.aec_edit.proofs.KeptLemmas.{at_view}
use Rattle.aec_edit.proofs.RebuildLemmas.{copied}
use Rattle.aec_edit.proofs.RecodingLemmas.{on_ok_then}
use Rattle.aec_edit.proofs.workspace.Workspace.copy_interval.Goals as goal

pub copy_bits-requires-clause-order : goal.copy_bits-requires-clause-order
copy_bits-requires-clause-order g c =
    let seen = c.args.self.now in
    let f : Format = g.C.Codec.format seen.codec in
    omega (
      arith,
      c.start_at-start.ensures,
      c.start_at-stop.ensures,
      start_of-mono f c.args.i (c.args.i + 1) seen.samples (g.C.Codec.lawful seen.codec).some (omega arith),
    )

pub copy_bits-requires-clause-within : goal.copy_bits-requires-clause-within
copy_bits-requires-clause-within g c =
    let seen = c.args.self.now in
    let f : Format = g.C.Codec.format seen.codec in
    let kept = at_view g.C.Codec.format c.self.inside.written seen c.self.view_is in
    omega (arith, c.start_at-stop.ensures, ap length kept.bits_are, start_of-le f (c.args.i + 1) seen.samples (g.C.Codec.lawful seen.codec).some)

pub returns-clause-ok : goal.returns-clause-ok
returns-clause-ok g c =
    let seen = c.args.self.now in
    let f : Format = g.C.Codec.format seen.codec in
    let kept = at_view g.C.Codec.format c.self.inside.written seen c.self.view_is in
    on_ok_then c.copy_bits.result c.copy_bits.ensures.ok (λ is.
    is ∙ ap (λ l. c.args.out.now.list ++ l)
    (copied f seen.samples c.args.i c.start_at-start.result c.start_at-stop.result (g.C.Codec.lawful seen.codec) kept c.requires.within
    c.start_at-start.ensures c.start_at-stop.ensures))
