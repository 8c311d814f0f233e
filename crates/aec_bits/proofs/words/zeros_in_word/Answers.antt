use Rattle.std.proofs.Common.{arith, sym, ◌∙◌}
use Rattle.aec_bits.proofs.ZeroLemmas.{zeros_in, none_in, low_mask}
use Rattle.aec_bits.proofs.words.zeros_in_word.Goals as goal

pub returns-then-rest-eq0 : goal.returns-then-rest-eq0
returns-then-rest-eq0 c = none_in c.args.word c.args.at (omega arith) (sym (low_mask c.args.word c.args.at (omega arith)) ∙ c.if-rest-eq0.true)

pub overflow_sub-result : goal.overflow_sub-result
overflow_sub-result c = (zeros_in c.args.word c.args.at _ (low_mask c.args.word c.args.at (omega arith)) (omega arith) (omega arith)).0

pub returns : goal.returns
returns c = (zeros_in c.args.word c.args.at _ (low_mask c.args.word c.args.at (omega arith)) (omega arith) (omega arith)).1
