use Rattle.std.proofs.Common.{refl}
use Rattle.aec_c.specs.Kinds.{coder_in}
use Rattle.aec_c.specs.HandleCalls.{held}
use Rattle.aec_c.proofs.HandleLemmas.{kind_was}
use Rattle.aec_c.proofs.coders.feed.Goals as goal

pub returns-in-Coder : goal.returns-in-Coder
returns-in-Coder c =
    held c.in-Coder.made c.feed_open.new.made
    (kind_was coder_in c.args.inside.now c.in-Some.held c.deref_mut.result.now _ c.in-Some.is c.deref_mut.ensures.value c.in-Coder.is)
    refl c.feed_open.ensures
