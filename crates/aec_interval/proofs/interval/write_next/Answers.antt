use Rattle.std.proofs.Common.{rules, arith, ◌≡◌, ◌∷◌, ◌++◌, None, ap, sym, subst, ◌∙◌}
use Rattle.std.proofs.lemmas.List.{take_all}
use Rattle.aec_block.specs.BlockShape.{block_with}
use Rattle.aec_interval.specs.Chunks.{block_after}
use Rattle.aec_interval.specs.Pending.{pending_bits}
use Rattle.aec_interval.proofs.PendingLemmas.{pending-filled, kept-append}
use Rattle.aec_interval.proofs.SegmentLemmas.{kept-trans}
use Rattle.aec_interval.proofs.interval.write_next.Goals as goal

pub returns-in_err-write_shortest_of : goal.returns-in_err-write_shortest_of
returns-in_err-write_shortest_of g c =
    record {
      ok = search rules;
      run = search rules;
      kept = kept-append _ _ _ (ap (λ o. o.list) c.in_err-write_shortest_of.ensures.err ∙ c.in_ok-write.ensures.ok);
      fault = search rules;
    }

pub returns : goal.returns
returns g c =
    let s = c.args.params.now in
    let all = take_all g.row.N c.args.samples.now (omega arith) in
    let filled = c.map_block-reference.ensures.filled.value ∙ ap (block_after s c.args.previous) all in
    let b = block_with c.map_block-reference.result c.map_block-reference.new.values in
    record {
      ok = λ rest. subst (λ block. c.write_shortest_of.new.out.list ++ pending_bits s (record { reference = None; blocks = 0 }) rest
          ≡ c.args.out.now.list ++ pending_bits s c.args.run (block ∷ rest)) filled
          (pending-filled s c.args.run b rest _ _ _ (sym c.are_zero.ensures ∙ c.if-are_zero.false) c.in_ok-write.ensures.ok
          c.in_ok-write_shortest_of.ensures.ok);
      run = search rules;
      kept = kept-trans _ _ _ (kept-append _ _ _ c.in_ok-write.ensures.ok) (kept-append _ _ _ c.in_ok-write_shortest_of.ensures.ok);
      fault = search rules;
    }
