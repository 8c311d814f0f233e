use Rattle.std.proofs.Common.{◌+◌, ◌-◌, ◌^◌, take, sym, arith}
use Rattle.aec_bits.specs.Codec.{Format}
use Rattle.aec_edit.specs.Batches.{all_after, all_needed}
use Rattle.aec_edit.proofs.BatchLemmas.{fit_first, fits_more, needed_more, due_none}
use Rattle.aec_edit.proofs.workspace.Workspace.judge_all.Goals as goal

pub loop-place-init : goal.loop-place-init
loop-place-init g c =
    let seen = c.args.self.now in
    record {
      fit = fit_first (g.C.Codec.format seen.codec) seen.limit c.count-count.result seen.samples (2 ^ 64 - 1 - c.args.left) c.args.edits.now
          (record { length_is = sym c.count-count.ensures.value; held = c.count-count.ensures.held })
          (omega (arith, c.count-count.ensures.value, c.count-count.ensures.few));
      spent = omega arith;
    }

pub loop-place-preserved : goal.loop-place-preserved
loop-place-preserved g c =
    let seen = c.args.self.now in
    let f : Format = g.C.Codec.format seen.codec in
    let so_far = c.loop-place.invariant in
    let edit = c.index-edits-place.result in
    let here = all_after seen.samples (take c.loop-place.place c.args.edits.now) in
    let before = 2 ^ 64 - 1 - c.args.left in
    let calls = before + all_needed f.most seen.samples (take c.loop-place.place c.args.edits.now) in
    let is_it = c.in-Ok.ensures.ok here so_far.fit.counted in
    let none = due_none f seen.limit here calls c.in-Ok.change.needed edit is_it.fits is_it.needed (omega (arith, c.in-Ok.ensures.enough, so_far.spent)) in
    let more = needed_more c.args.edits.now c.loop-place.place edit c.loop-place-test.true c.index-edits-place.is f.most seen.samples in
    record {
      fit = fits_more c.args.edits.now c.loop-place.place edit c.loop-place-test.true c.index-edits-place.is f seen.limit seen.samples
          before c.loop-place.count so_far.fit c.in-Ok.change is_it none;
      spent = omega (arith, so_far.spent, c.in-Ok.ensures.enough, is_it.needed, more);
    }
