use Rattle.std.proofs.Common.{refl}
use Rattle.aec_c.specs.Kinds.{reader_in}
use Rattle.aec_c.specs.HandleCalls.{held}
use Rattle.aec_c.proofs.HandleLemmas.{kind_was}
use Rattle.aec_c.proofs.readers.go_to.Goals as goal

pub returns-in-Reader : goal.returns-in-Reader
returns-in-Reader c =
    held c.in-Reader.made c.go_open.new.made
    (kind_was reader_in c.args.inside.now c.in-Some.held c.deref_mut.result.now _ c.in-Some.is c.deref_mut.ensures.value c.in-Reader.is)
    refl c.go_open.ensures
