use Rattle.std.proofs.Common.{rules, w64, FitsSigned}
use Rattle.std.proofs.lemmas.Int.{to_z-of_z}
use Rattle.aec_interval.proofs.FillingLemmas.{last_or-read}
use Rattle.aec_interval.proofs.segment.previous_of.Goals as goal

pub returns : goal.returns
returns c =
    let fits : FitsSigned w64 c.unwrap_or.result = search (rules, c.unwrap_or.type_inv) in
    rw (to_z-of_z, c.unwrap_or.ensures, c.copied.ensures, c.last.ensures.value, last_or-read)
