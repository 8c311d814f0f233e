use Rattle.std.proofs.Common.{◌∙◌}
use Rattle.aec_edit.proofs.StopLemmas.{one_more_made, stops_here, ends_made}
use Rattle.aec_edit.proofs.workspace.Workspace.run_until_refused.Goals as goal

pub returns-in-Err-clause-run : goal.returns-in-Err-clause-run
returns-in-Err-clause-run g c =
    let seen = c.args.self.now in
    let so_far = c.loop-place.invariant in
    stops_here (g.C.Codec.format seen.codec) seen.limit seen.samples (g.C.Codec.called seen.codec) (g.C.Codec.read seen.codec) c.args.edits.now
    c.loop-place.place _ c.in-Err.fault c.loop-place.self.samples _ (g.C.Codec.called c.loop-place.self.codec) _ _ _ so_far.made
    c.loop-place-test.true c.index-edits-place.is (rw (so_far.format, so_far.limit) at c.in-Err.ensures.answer) c.in-Err.ensures.samples
    (rw (so_far.format, so_far.limit) at c.in-Err.ensures.reads)

pub loop-place-preserved : goal.loop-place-preserved
loop-place-preserved g c =
    let seen = c.args.self.now in
    let so_far = c.loop-place.invariant in
    record {
      made = one_more_made (g.C.Codec.format seen.codec) seen.limit seen.samples (g.C.Codec.called seen.codec) (g.C.Codec.read seen.codec)
          c.args.edits.now c.loop-place.place _ _ c.loop-place.self.samples _ (g.C.Codec.called c.loop-place.self.codec) _ _ _ so_far.made
          c.loop-place-test.true c.index-edits-place.is (rw (so_far.format, so_far.limit) at c.in_default.ensures.answer)
          c.in_default.ensures.samples (rw (so_far.format, so_far.limit) at c.in_default.ensures.reads);
      limit = c.in_default.ensures.rules.limit ∙ so_far.limit;
      format = c.in_default.ensures.rules.format ∙ so_far.format;
    }

pub returns-clause-run : goal.returns-clause-run
returns-clause-run g c =
    let seen = c.args.self.now in
    ends_made (g.C.Codec.format seen.codec) seen.limit seen.samples (g.C.Codec.called seen.codec) (g.C.Codec.read seen.codec) c.args.edits.now
    c.loop-place.place c.loop-place.self.samples (g.C.Codec.called c.loop-place.self.codec) (g.C.Codec.read c.loop-place.self.codec)
    c.loop-place.invariant.made c.loop-place-test.false
