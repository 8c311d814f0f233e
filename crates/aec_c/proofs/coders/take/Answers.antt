use Rattle.std.proofs.Common.{refl}
use Rattle.aec_c.specs.Kinds.{coder_in}
use Rattle.aec_c.specs.Coders.{taken_out}
use Rattle.aec_c.proofs.HandleLemmas.{kind_was}
use Rattle.aec_c.proofs.coders.take.Goals as goal

pub returns-in-Coder : goal.returns-in-Coder
returns-in-Coder c =
    taken_out c.in-Coder.made c.take_open.new.made
    (kind_was coder_in c.args.inside.now c.in-Some.held c.deref_mut.result.now _ c.in-Some.is c.deref_mut.ensures.value c.in-Coder.is)
    refl c.take_open.ensures
