use Rattle.std.proofs.Common.{rules, ap, sym, ◌∙◌}
use Rattle.aec_interval.proofs.PendingLemmas.{pending-filled, kept-append}
use Rattle.aec_interval.proofs.SegmentLemmas.{kept-trans}
use Rattle.aec_interval.proofs.interval.short_blocks.take_block.Goals as goal

pub returns-in_err-write_block : goal.returns-in_err-write_block
returns-in_err-write_block c =
    record {
      ok = search rules;
      run = search rules;
      kept = kept-append _ _ _ (ap (λ o. o.list) c.in_err-write_block.ensures.err ∙ c.in_ok-write.ensures.ok);
      fault = search rules;
    }

pub returns : goal.returns
returns c =
    record {
      ok = λ rest. pending-filled c.args.params.now c.args.run c.args.block.now rest _ _ _ (sym c.is_zero.ensures ∙ c.if-is_zero.false)
          c.in_ok-write.ensures.ok c.in_ok-write_block.ensures.ok;
      run = search rules;
      kept = kept-trans _ _ _ (kept-append _ _ _ c.in_ok-write.ensures.ok) (kept-append _ _ _ c.in_ok-write_block.ensures.ok);
      fault = search rules;
    }
