use Rattle.aec_c.proofs.StreamEditLemmas.{replies_edit}
use Rattle.aec_c.proofs.exports.aecp_edit.Goals as goal

pub returns-clause-replies : goal.returns-clause-replies
returns-clause-replies c =
    let left = c.settle_edited.ensures in let says = c.edited_stream-answer.ensures in
    replies_edit _ _ (λ made. made.bytes.items) (λ made. made.samples) c.edited_stream-answer.result _ _ c.settle_edited.result says.ok says.counted
    says.refuses left.left left.reply left.line left.samples left.none
