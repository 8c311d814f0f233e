use Rattle.std.proofs.Common.{arith}
use Rattle.aec_c.proofs.TextLemmas.{text_put}
use Rattle.aec_c.proofs.text.put_text.Goals as goal

pub returns : goal.returns
returns c =
    text_put c.args.text.now c.copy_from_slice.new.self c.args.out.now c.in-Some.last c.min-shown.result
    (omega (arith, c.in-Some.ensures.0, c.in-Some.ensures.1)) c.min-shown.ensures
    c.copy_from_slice.ensures.after
