use Rattle.std.proofs.Common.{refl, subst, arith}
use Rattle.std.proofs.lemmas.Bool.Decides.{nat_tests}
use Rattle.aec_block.specs.Lengths.{paired_length, IsBestSplit}
use Rattle.aec_block.specs.Choices.{IsChoice}
use Rattle.aec_block.proofs.ChoiceLemmas.{names-first, names-split, names-unsplit}
use Rattle.aec_block.proofs.choice.any_block.choose.Goals as goal

pub returns-then-options-eq0 : goal.returns-then-options-eq0
returns-then-options-eq0 c =
    let s = c.args.params.now in
    let b = c.view-view.result in
    let best = c.shorter_of_pairs-best in
    subst (λ block. IsChoice s block best.result) c.view-view.ensures
    (names-unsplit s b c.split_options-options.result best.result
    (names-first s b c.uncompressed_len.result (paired_length s b) best.result c.uncompressed_len.ensures.len refl best.ensures)
    c.split_options-options.ensures.count (grind (arith, nat_tests)))

pub returns : goal.returns
returns c =
    let s = c.args.params.now in
    let b = c.view-view.result in
    let best = c.shorter_of_pairs-best in
    let options = c.split_options-options in
    let is_best = subst (λ v. IsBestSplit options.result c.first_best.result.k v) c.written-values.ensures.value c.first_best.ensures.best in
    subst (λ block. IsChoice s block c.shorter_of_split.result) c.view-view.ensures
    (names-split s b options.result c.first_best.result.k best.result c.shorter_of_split.result
    (names-first s b c.uncompressed_len.result (paired_length s b) best.result c.uncompressed_len.ensures.len refl best.ensures)
    options.ensures.count is_best c.shorter_of_split.ensures)
