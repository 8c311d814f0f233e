use Rattle.std.proofs.Common.{◌≡◌, ◌≤◌, ◌<◌, ◌-◌, ◌%◌, take}
use Rattle.std.specs.Io.KnownBytes.{Appends}
use Rattle.aec_params.specs.Codewords.{bytes_of}
use Rattle.aec_bits.proofs.bit_buf.BitBuf.write_to.Given as goal

abbrev pub invariant-loop-done : goal.invariant-loop-done
invariant-loop-done g l = record {
  within : l.done ≤ l.total;
  eights : l.done < l.total → l.done % 8 ≡ 0;
  bytes : Appends (g.W.Sink.taken l.initial.out) (g.W.Sink.taken l.out) (take l.done (bytes_of l.self.list));
  begun : g.W.Sink.begun l.out ≡ g.W.Sink.begun l.initial.out;
  order : g.W.Sink.mark l.out ≡ g.W.Sink.mark l.initial.out;
  failures : g.W.Sink.failed l.out ≡ g.W.Sink.failed l.initial.out;
  refuses : 0 < l.done → g.W.Sink.failed l.initial.out ≡ 0;
}

abbrev pub decreases-loop-done : goal.decreases-loop-done
decreases-loop-done g l = l.total - l.done
