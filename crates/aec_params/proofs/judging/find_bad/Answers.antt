use Rattle.std.proofs.Common.{Some, ◌∙◌, ap, sym}
use Rattle.std.specs.Result.{result_err}
use Rattle.std.specs.Slice.Iter.{chunks_exact_rest}
use Rattle.aec_params.specs.Stored.{byte_groups, samples_of_groups}
use Rattle.aec_params.proofs.StoredLemmas.{fault-here, fault-later}
use Rattle.aec_params.proofs.judging.find_bad.Goals as goal

pub returns-then-is_none : goal.returns-then-is_none
returns-then-is_none c =
    let steps = c.in-Some.ensures.steps in
    sym (c.loop-index.invariant.1
    ∙ fault-here c.args.params.now c.loop-index.index-iterator.count c.in-Some.group.now
    (chunks_exact_rest c.loop-index.index-iterator.iter) (chunks_exact_rest c.next.new.self.iter) c.sample_of.result
    c.storage.ensures.allowed steps.0.1.0 (steps.0.1.1 ∙ c.loop-index.invariant.0) c.sample_of.ensures.value c.if-is_none.ensures
    ∙ ap Some (sym steps.1))

pub loop-index-preserved : goal.loop-index-preserved
loop-index-preserved c =
    let steps = c.in-Some.ensures.steps in (
      steps.0.0 ∙ c.loop-index.invariant.0,
      c.loop-index.invariant.1
          ∙ fault-later c.args.params.now c.loop-index.index-iterator.count c.in-Some.group.now
          (chunks_exact_rest c.loop-index.index-iterator.iter) (chunks_exact_rest c.next.new.self.iter) c.sample_of.result
          c.storage.ensures.allowed steps.0.1.0 (steps.0.1.1 ∙ c.loop-index.invariant.0) c.sample_of.ensures.value c.if-is_none.ensures
          ∙ ap (λ i. result_err (samples_of_groups c.args.params.now i (byte_groups c.args.params.now (chunks_exact_rest c.next.new.self.iter)))) (sym steps.2),
    )
