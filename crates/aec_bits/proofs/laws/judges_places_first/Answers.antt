use Rattle.aec_bits.proofs.RefusalLaws.{overwrite_past, truncate_past, insert_past, remove_past}
use Rattle.aec_bits.proofs.laws.judges_places_first.Goals as goal

pub returns : goal.returns
returns c = λ f limit first len s values.
    (overwrite_past f limit first s values, truncate_past f limit first s, insert_past f limit first s values, remove_past f limit first len s)
