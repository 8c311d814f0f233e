use Rattle.std.proofs.Common.{◌<◌, refl, arith}
use Rattle.aec_edit.proofs.RangeLemmas.{range_is, range_reads}
use Rattle.aec_edit.proofs.workspace.Workspace.slice.Goals as goal

pub returns-in_err-decode_intervals-clause-read : goal.returns-in_err-decode_intervals-clause-read
returns-in_err-decode_intervals-clause-read g c =
    let some : 0 < c.args.len = omega arith in
    let read = c.in_err-decode_intervals.ensures.read in
    record {
      samples = read.samples;
      limit = read.limit;
      room = read.room;
      format = read.format;
      calls = read.calls;
      reads = range_reads _ c.args.first c.args.len _ _ _ _ (g.C.Codec.lawful c.args.self.now.codec).some some c.interval_len-interval_len.ensures.value
          c.div_ceil.ensures read.reads;
    }

pub returns-clause-ok : goal.returns-clause-ok
returns-clause-ok g c =
    range_is (g.C.Codec.format c.args.self.now.codec).most c.args.first c.args.len _ _ _ c.args.self.now.samples _ _
    (g.C.Codec.lawful c.args.self.now.codec).some
    c.interval_len-interval_len.ensures.value c.div_ceil.ensures refl (rw c.new-out.ensures.items at c.in_ok-decode_intervals.ensures.ok) c.keep_part.ensures

pub returns-clause-read : goal.returns-clause-read
returns-clause-read g c =
    let some : 0 < c.args.len = omega arith in
    let read = c.in_ok-decode_intervals.ensures.read in
    record {
      samples = read.samples;
      limit = read.limit;
      room = read.room;
      format = read.format;
      calls = read.calls;
      reads = range_reads _ c.args.first c.args.len _ _ _ _ (g.C.Codec.lawful c.args.self.now.codec).some some c.interval_len-interval_len.ensures.value
          c.div_ceil.ensures read.reads;
    }
