use Rattle.std.proofs.Common.{◌∙◌, arith}
use Rattle.aec_interval.proofs.RefusalLemmas.{of_refusal}
use Rattle.aec_interval.proofs.UpToLemmas.{up_to-reading}
use Rattle.aec_interval.proofs.ReadNextLemmas.{reached-start, reading-refuses}
use Rattle.aec_interval.proofs.reading.decode_list.Goals as goal

pub loop-reader-init : goal.loop-reader-init
loop-reader-init c = record {
  reached = reached-start c.args.params.now c.args.wanted.count c.args.wanted.limit c.args.bits.now.list _ _ _ _ c.seek.ensures.pos c.requires.empty;
  list = c.seek.ensures.list ∙ c.new-reader.ensures.list;
  after = omega arith;
  few = omega arith;
}

pub returns-in_err-block-clause-refuses : goal.returns-in_err-block-clause-refuses
returns-in_err-block-clause-refuses c =
    let whole = up_to-reading _ _ _ _ _ _ _ _ c.in_err-block.ensures.refuses in
    of_refusal _ _ _ c.from_residual.ensures.1
    (reading-refuses _ _ _ _ _ _ _ _ c.loop-reader.invariant.list (rw c.requires.first at whole))
