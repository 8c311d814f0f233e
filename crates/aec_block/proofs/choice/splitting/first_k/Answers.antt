use Rattle.std.proofs.Common.{◌*◌, ◌^◌, ◌<◌, arith}
use Rattle.std.proofs.lemmas.Bool.Decides.{nat_tests}
use Rattle.aec_block.proofs.SplittingLemmas.{one_more_past, close_or_none}
use Rattle.aec_block.proofs.choice.splitting.first_k.Goals as goal

pub returns-then-is_past : goal.returns-then-is_past
returns-then-is_past c =
    let past : 3 * c.args.count * 2 ^ c.near_first-near.result < c.args.sum = grind (arith, nat_tests) in
    record {
      within = grind (arith, nat_tests);
      before = one_more_past c.near_first-near.result c.args.sum c.args.count c.near_first-near.ensures.before past;
      there = λ below. close_or_none c.args.sum c.args.count c.near_first-near.result c.requires.none c.near_first-near.ensures.close;
    }
