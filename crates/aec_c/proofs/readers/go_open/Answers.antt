use Rattle.std.proofs.Common.{sym, ap, ◌∙◌}
use Rattle.aec_c.specs.Replies.{done}
use Rattle.aec_c.specs.Readers.{gone, not_reached}
use Rattle.aec_c.proofs.readers.go_open.Goals as goal

pub returns-in-Ok : goal.returns-in-Ok
returns-in-Ok c =
    let has = c.in-Ok.ensures.ok in
    gone has.samples c.in-Ok.ensures.same c.in-Ok.ensures.begins has.read (c.answered.ensures ∙ ap done (sym has.counted))

pub returns-in-Err : goal.returns-in-Err
returns-in-Err c = not_reached c.in-Err.fault c.in-Err.ensures.refuses c.in-Err.ensures.err c.refused.ensures
