use Rattle.aec_bits.proofs.OctetsLaw.{octets_are_lawful}
use Rattle.aec_bits.proofs.laws.Octets.new.Goals as goal

pub invariant_of-result : goal.invariant_of-result
invariant_of-result c = record { lawful = octets_are_lawful }
