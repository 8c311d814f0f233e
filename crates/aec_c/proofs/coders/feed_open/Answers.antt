use Rattle.std.proofs.Common.{refl, sym, ap, ◌∙◌}
use Rattle.aec_c.specs.Replies.{done}
use Rattle.aec_c.specs.Coders.{fed, not_fed}
use Rattle.aec_c.proofs.CoderLemmas.{stops_by}
use Rattle.aec_c.proofs.coders.feed_open.Goals as goal

pub returns-in-Ok : goal.returns-in-Ok
returns-in-Ok c =
    fed c.in-Some.coder c.feed-answer.new.self (sym c.in-Some.ensures.value) refl c.in-Ok.ensures.ok
    (c.answered.ensures ∙ ap done c.whole_bytes.ensures)

pub returns-in-Err : goal.returns-in-Err
returns-in-Err c =
    not_fed c.in-Some.coder c.feed-answer.new.self c.in-Err.fault (sym c.in-Some.ensures.value) refl c.in-Err.ensures.refusal
    (stops_by c.in-Some.coder c.args.piece.now c.args.made.now.bits.list c.feed-answer.new.out.list c.feed-answer.result c.in-Err.fault c.in-Err.is
    c.feed-answer.ensures.refuses) c.refused.ensures
