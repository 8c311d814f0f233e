use Rattle.std.proofs.Common.{◌∙◌, ap, inr, sym}
use Rattle.aec_engine.specs.Scripts.{change, listed}
use Rattle.aec_engine.specs.EditsAhead.{behind, left_in, with_next}
use Rattle.aec_engine.proofs.EarlyEditLemmas.{rest-made, rest-stops}
use Rattle.aec_engine.proofs.engine.editing.carry_rest.Goals as goal

pub returns-in-Err-clause-refuses : goal.returns-in-Err-clause-refuses
returns-in-Err-clause-refuses g c =
    let so_far = c.loop-ahead.invariant in
    inr (rest-stops _ _ _ _ (left_in c.args.ahead.now) (left_in c.loop-ahead.ahead) (behind c.loop-ahead.ahead) c.args.workspace.now.samples
    c.loop-ahead.workspace.samples _ _ _ c.in-Some.next.edit c.in-Some.next.line c.in-Err.fault so_far.format so_far.limit
    (ap (λ next. with_next next (behind c.loop-ahead.ahead)) c.in-Some.is) c.in-Err.ensures.answer so_far.leads)

pub loop-ahead-preserved : goal.loop-ahead-preserved
loop-ahead-preserved g c =
    let so_far = c.loop-ahead.invariant in
    let e = c.in-Some.next.edit in
    record {
      leads = rest-made _ _ _ _ (left_in c.args.ahead.now) (left_in c.loop-ahead.ahead) (left_in c.advance.new.self) c.args.workspace.now.samples
          c.loop-ahead.workspace.samples _ _ _ _ _ e c.in-Some.next.line so_far.format so_far.limit
          (ap (λ next. with_next next (behind c.loop-ahead.ahead)) c.in-Some.is
          ∙ ap (listed c.in-Some.next.line (change e)) (sym c.in_ok-advance.ensures.ok))
          c.in_default-apply.ensures.answer c.in_default-apply.ensures.samples so_far.leads;
      limit = c.apply.ensures.rules.limit ∙ so_far.limit;
      format = c.apply.ensures.rules.format ∙ so_far.format;
      ahead = c.in_ok-advance.ensures.ahead;
    }
