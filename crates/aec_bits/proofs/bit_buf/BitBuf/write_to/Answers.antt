use Rattle.std.proofs.Common.{arith, sym, ◌∙◌}
use Rattle.std.proofs.lemmas.List.{length-take, length-drop}
use Rattle.aec_params.specs.Codewords.{bytes_of}
use Rattle.aec_bits.proofs.DeviceLemmas.{Appends_more, AppendsFront_more, on_err}
use Rattle.aec_bits.proofs.bit_buf.BitBuf.write_to.Goals as goal

pub returns-in_err-put_all-clause-front : goal.returns-in_err-put_all-clause-front
returns-in_err-put_all-clause-front g c =
    let bytes = bytes_of c.args.self.now.list in
    on_err c.from_residual.result _
    (AppendsFront_more _ _ _ bytes c.loop-done.done c.fill-count.result c.loop-done.invariant.bytes
    (rw c.fill-count.ensures.bytes at c.in_err-put_all.ensures.front))

pub loop-done-preserved : goal.loop-done-preserved
loop-done-preserved g c =
    let bytes = bytes_of c.args.self.now.list in
    record {
      within = omega arith;
      eights = λ more. omega (arith, c.loop-done.invariant.eights (omega arith));
      bytes = Appends_more _ _ _ bytes c.loop-done.done c.fill-count.result c.loop-done.invariant.bytes
          (rw c.fill-count.ensures.bytes at c.in_ok-put_all.ensures.ok);
      begun = c.in_ok-put_all.ensures.begun ∙ c.loop-done.invariant.begun;
      order = c.in_ok-put_all.ensures.order ∙ c.loop-done.invariant.order;
      failures = c.in_ok-put_all.ensures.failures ∙ c.loop-done.invariant.failures;
      refuses = λ _. sym c.loop-done.invariant.failures
          ∙ c.in_ok-put_all.ensures.refuses (rw (c.fill-count.ensures.bytes, length-take, length-drop) (omega arith));
    }
