use Rattle.std.proofs.Common.{arith}
use Rattle.aec_c.proofs.StandingLemmas.{fits_on, stands_on}
use Rattle.aec_c.proofs.held_reader.HeldReader.go_on.Goals as goal

pub overflow_add-self : goal.overflow_add-self
overflow_add-self c =
    let few = fits_on _ _ _ _ _ _ c.args.self.now c.self.view_is c.self.invariant c.args.end.block c.args.end.bit c.args.len
    c.known_allowed.ensures c.requires.reads c.requires.reached in
    omega (arith, few)

pub invariant_of-self : goal.invariant_of-self
invariant_of-self c =
    stands_on _ _ _ _ _ _ c.args.self.now c.self.view_is c.self.invariant c.args.end.block c.args.end.bit c.args.len
    c.known_allowed.ensures c.requires.reads c.requires.reached
