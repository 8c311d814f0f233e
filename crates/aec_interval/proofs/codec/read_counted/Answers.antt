use Rattle.std.proofs.Common.{◌∙◌}
use Rattle.aec_interval.proofs.RefusalLemmas.{of_refusal}
use Rattle.aec_interval.proofs.UpToLemmas.{up_to-reading}
use Rattle.aec_interval.proofs.ReadNextLemmas.{reading-refuses}
use Rattle.aec_interval.proofs.IntervalReadingLemmas.{counted-interval}
use Rattle.aec_interval.proofs.codec.read_counted.Goals as goal

pub returns-in_err-read_interval-clause-refuses : goal.returns-in_err-read_interval-clause-refuses
returns-in_err-read_interval-clause-refuses c =
    of_refusal _ _ _ c.from_residual.ensures.1
    (reading-refuses _ _ _ _ _ _ _ _ (c.seek.ensures.list ∙ c.new-reader.ensures.list) (up_to-reading _ _ _ _ _ _ _ _ c.in_err-read_interval.ensures.refuses))

pub returns-clause-ok : goal.returns-clause-ok
returns-clause-ok c =
    let read = c.in_ok-read_interval.ensures in
    counted-interval c.args.params.now c.args.count c.args.count _ _ _ _ _ _ _ c.known_allowed.ensures c.requires.few
    (read.list ∙ (c.seek.ensures.list ∙ c.new-reader.ensures.list)) read.ok read.over c.cut_to_count.ensures.items
