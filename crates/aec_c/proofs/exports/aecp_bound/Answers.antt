use Rattle.aec_c.proofs.SufficesLemmas.{bound_suffices}
use Rattle.aec_c.proofs.exports.aecp_bound.Goals as goal

pub returns-clause-suffices : goal.returns-clause-suffices
returns-clause-suffices c = bound_suffices _ c.args.samples c.bound_of.result c.bound_of.ensures
