use Rattle.std.proofs.Common.{rules, ◌≡◌, arith}
use Rattle.std.proofs.Math.Nat.{le-mul_of_pos_right}
use Rattle.aec_params.proofs.SettingLaws.{interval-positive}
use Rattle.aec_interval.proofs.reading.short_interval.fill_first.Goals as goal

pub fill_first_block-first-requires-clause-room : goal.fill_first_block-first-requires-clause-room
fill_first_block-first-requires-clause-room g c =
    let s = c.args.params.now in
    omega (arith, le-mul_of_pos_right s.block_size (interval-positive s c.known_allowed.ensures))

pub returns-clause-fills : goal.returns-clause-fills
returns-clause-fills g c =
    let run = c.fill_first_run in
    let none : c.fill_first_block-first.result ≡ 0 = omega arith in
    let stays = c.fill_first_block-first.ensures.stays none in
    record {
      ok = λ some. rw stays at (run.ensures.ok some);
      within = run.ensures.within;
      list = search rules;
      len = search rules;
    }
