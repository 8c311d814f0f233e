use Rattle.std.proofs.Common.{◌≡◌, ◌*◌, ◌++◌, ℤ, List, take, drop, arith, ◌∙◌}
use Rattle.aec_bits.specs.Codec.{Format}
use Rattle.aec_edit.proofs.RangeLemmas.{intervals_more}
use Rattle.aec_edit.proofs.workspace.Workspace.decode_intervals.Goals as goal

pub loop-i-preserved : goal.loop-i-preserved
loop-i-preserved g c =
    let f : Format = g.C.Codec.format c.args.self.now.codec in
    let s : List ℤ = c.args.self.now.samples in
    let so_far = c.loop-i.invariant in
    let done = c.in_ok-decode_interval.ensures in
    let grown : c.decode_interval.new.out.items ≡ c.loop-i.out.items ++ take f.most (drop (c.loop-i.i * f.most) s) =
    rw (so_far.format, so_far.samples) at done.ok in
    record {
      items = intervals_more f.most c.args.from c.loop-i.i s c.args.out.now.items c.loop-i.out.items _ (g.C.Codec.lawful c.args.self.now.codec).some
          (omega (arith, c.loop-i.auto)) (omega (arith, c.requires.within)) so_far.items grown;
      samples = done.read.samples ∙ so_far.samples;
      limit = done.read.limit ∙ so_far.limit;
      room = done.read.room ∙ so_far.room;
      calls = done.read.calls ∙ so_far.calls;
      reads = record { stays = omega (arith, done.read.reads.stays, so_far.reads.stays); few = omega (arith, done.read.reads.few, so_far.reads.few) };
      format = done.read.format ∙ so_far.format;
    }
