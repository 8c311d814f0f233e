use Rattle.std.proofs.Common.{◌≡◌, ◌^◌, ◌*◌, ◌<◌, ℕ, refl, ap, ◌∙◌, sym, subst, arith, true, length}
use Rattle.std.specs.List.{AllByRecursion}
use Rattle.std.specs.Prelude.{nat_lt, nat_le, ◌&&◌, ◌||◌}
use Rattle.std.proofs.lemmas.Bool.Decides.{nat_tests}
use Rattle.aec_block.specs.Lengths.{sum_of_shifted, paired_length, split_values_length, IsBestSplit}
use Rattle.aec_block.proofs.ChoiceLemmas.{names-first, names-split, names-unsplit, names-unpaired}
use Rattle.aec_block.proofs.LanesLemmas.{written-sums}
use Rattle.aec_block.proofs.choice.choose_among.Goals as goal

pub best_split-split-requires-clause-below : goal.best_split-split-requires-clause-below
best_split-split-requires-clause-below c =
    subst (λ n. AllByRecursion (λ v. v < 2 ^ n) c.values.result.now) (sym c.bits.ensures.value)
    (subst (AllByRecursion (λ v. v < 2 ^ c.args.params.now.bits)) (sym c.values.ensures.value) c.requires.full.values)

pub best_split-split-requires-clause-equal : goal.best_split-split-requires-clause-equal
best_split-split-requires-clause-equal c = record {
  len_all = omega (arith, ap (length {A = ℕ}) c.values.ensures.value, c.values.ensures.sound.len);
  len = c.requires.few;
  sums = λ k. ap (sum_of_shifted k) c.values.ensures.value ∙ written-sums c.args.block.now c.values.ensures.sound k
      ∙ ap (sum_of_shifted k) (sym c.requires.written);
}

pub returns-then-pairs_are_longer : goal.returns-then-pairs_are_longer
returns-then-pairs_are_longer c =
    let s = c.args.params.now in
    let options = c.split_options-options.result in
    let split = c.best_split-split in
    let is = c.requires.written in
    let test = subst (λ v. (nat_lt 0 options && (nat_lt 0 split.result.k || nat_le (2 * length v) split.result.bits)) ≡ true) is
    (sym c.pairs_are_longer.ensures ∙ c.if-pairs_are_longer.true) in
    names-unpaired s c.args.block.now options split.result.k split.result.bits c.uncompressed_len.result c.shorter_of_split.result
    c.requires.allowed c.requires.full c.uncompressed_len.ensures.len c.split_options-options.ensures.count
    (subst (λ v. 0 < options → IsBestSplit options split.result.k v) is split.ensures.best)
    (subst (λ v. split.result.bits ≡ split_values_length split.result.k v) is split.ensures.counted.bits) test c.shorter_of_split.ensures

pub returns-then-options-eq0 : goal.returns-then-options-eq0
returns-then-options-eq0 c =
    names-unsplit c.args.params.now c.args.block.now c.split_options-options.result c.shorter_of_pairs-best.result
    (names-first c.args.params.now c.args.block.now c.uncompressed_len.result (paired_length c.args.params.now c.args.block.now)
    c.shorter_of_pairs-best.result c.uncompressed_len.ensures.len refl c.shorter_of_pairs-best.ensures)
    c.split_options-options.ensures.count (grind (arith, nat_tests))

pub returns : goal.returns
returns c =
    let some : 0 < c.split_options-options.result = grind (arith, nat_tests) in
    let best = subst (λ v. IsBestSplit c.split_options-options.result c.best_split-split.result.k v) c.requires.written
    (c.best_split-split.ensures.best some) in
    names-split c.args.params.now c.args.block.now c.split_options-options.result c.best_split-split.result.k c.shorter_of_pairs-best.result
    c.shorter_of_split-2.result (names-first c.args.params.now c.args.block.now c.uncompressed_len.result
    (paired_length c.args.params.now c.args.block.now) c.shorter_of_pairs-best.result c.uncompressed_len.ensures.len refl
    c.shorter_of_pairs-best.ensures) c.split_options-options.ensures.count best c.shorter_of_split-2.ensures
