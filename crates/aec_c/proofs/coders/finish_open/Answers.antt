use Rattle.std.proofs.Common.{refl, sym, ap, ◌∙◌}
use Rattle.aec_params.specs.Codewords.{padded_to_byte}
use Rattle.aec_c.specs.Replies.{done}
use Rattle.aec_c.specs.Coders.{finished, not_finished}
use Rattle.aec_c.proofs.CoderLemmas.{never_refused, lacks_by}
use Rattle.aec_c.proofs.coders.finish_open.Goals as goal

pub returns-in-Ok : goal.returns-in-Ok
returns-in-Ok c =
    finished c.in-Some.coder (sym c.in-Some.ensures.value) (never_refused _ _ _ _ refl c.in-Ok.ensures.refuses) c.replace.ensures.after
    (c.pad_to_byte.ensures.list ∙ ap padded_to_byte c.in-Ok.ensures.ok) (c.answered.ensures ∙ ap done c.whole_bytes.ensures)

pub returns-in-Err : goal.returns-in-Err
returns-in-Err c =
    not_finished c.in-Some.coder c.in-Err.fault (sym c.in-Some.ensures.value) c.replace.ensures.after c.in-Err.ensures.err
    (lacks_by c.in-Some.coder c.finish.result c.in-Err.fault c.in-Err.is c.finish.ensures.refuses) c.refused.ensures
