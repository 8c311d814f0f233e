use Rattle.std.proofs.Common.{refl, arith}
use Rattle.aec_bits.proofs.LaneLemmas.{joined_four}
use Rattle.aec_bits.proofs.words.copying_fours.joined_four.Goals as goal

pub returns-clause-bits : goal.returns-clause-bits
returns-clause-bits c =
    rw (c.from.ensures, c.from-2.ensures)
    (joined_four _ _ _ (λ x y. refl) (λ x s. refl) (λ x s. refl) c.args.words.now c.args.from c.args.at (omega arith)
    c.requires.within (λ i. (c.type_inv.words i).fits))
