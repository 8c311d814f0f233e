use Rattle.std.proofs.Common.{arith}
use Rattle.aec_bits.proofs.PackedLemmas.{grown}
use Rattle.aec_bits.proofs.words.packed.grow.Goals as goal

pub returns-clause-bits : goal.returns-clause-bits
returns-clause-bits c =
    let items = rw c.unwrap.ensures at c.resize.ensures.items in
    grown c.args.words.now.items c.resize.new.self.items _ _ _ (omega (arith, c.args.words.now.ok.0)) items (omega arith)
