use Rattle.std.proofs.Common.{◌∙◌, sym}
use Rattle.aec_interval.proofs.PaddingLemmas.{closed-padded}
use Rattle.aec_interval.proofs.interval.end_interval.Goals as goal

pub returns-in_ok-push_bits-clause-ok : goal.returns-in_ok-push_bits-clause-ok
returns-in_ok-push_bits-clause-ok c =
    closed-padded c.args.params.now c.args.start c.len.result c.args.out.now.list _ c.requires c.len.ensures.value (sym c.pad.ensures ∙ c.if-pad.true)
    (rw (c.in_ok-push_bits.ensures.ok, c.missing_bits.ensures.value))
