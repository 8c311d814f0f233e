use Rattle.aec_c.proofs.StandingLemmas.{stands_new}
use Rattle.aec_c.proofs.held_reader.HeldReader.new.Goals as goal

pub invariant_of-result : goal.invariant_of-result
invariant_of-result c =
    stands_new c.args.params c.args.count c.in_ok-bits.bits.list c.in_ok-new.field-0 c.place-place.result.block c.place-place.result.bit
    c.in_ok-new.ensures.ok c.place-place.ensures.reached c.place-place.ensures.block c.place-place.ensures.bit
