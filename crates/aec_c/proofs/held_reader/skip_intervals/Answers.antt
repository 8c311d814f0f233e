use Rattle.std.proofs.Common.{◌-◌, arith, refl, sym, subst}
use Rattle.std.proofs.lemmas.Result.{err_from_is_err_and}
use Rattle.aec_params.specs.Params.{IsAllowed}
use Rattle.aec_engine.proofs.ReadTwiceLemmas.{some_interval, counts_interval, counts_within}
use Rattle.aec_c.proofs.StandingLemmas.{way_on, wrong_on_way}
use Rattle.aec_c.proofs.held_reader.skip_intervals.Goals as goal

pub returns-in_err-len-clause-refuses : goal.returns-in_err-len-clause-refuses
returns-in_err-len-clause-refuses c =
    let exit = err_from_is_err_and c.from_residual.result c.from_residual.ensures.1 in
    wrong_on_way _ _ _ c.args.reader.now c.loop-left.reader c.args.intervals c.loop-left.left c.loop-left.total exit.1 exit.2
    (omega (arith, c.loop-left-test.true)) c.loop-left.invariant.way c.loop-left.invariant.counts c.in_err-len.ensures.refuses

pub overflow_add-total : goal.overflow_add-total
overflow_add-total c =
    let has = some_interval c.loop-left.reader c.skip.new.self _ c.in-Some.len c.in_ok-len.ensures.skipped c.in-Some.is in
    let most = counts_within c.args.reader.now c.loop-left.reader c.skip.new.self c.loop-left.total c.in-Some.len
    (subst IsAllowed (sym c.requires.settings) c.known_allowed.ensures) c.loop-left.invariant.counts has c.skip.ensures.few in
    omega (arith, most)

pub loop-left-preserved-in-Some : goal.loop-left-preserved-in-Some
loop-left-preserved-in-Some c =
    let has = some_interval c.loop-left.reader c.skip.new.self _ c.in-Some.len c.in_ok-len.ensures.skipped c.in-Some.is in
    record {
      counts = counts_interval c.args.reader.now c.loop-left.reader c.skip.new.self c.loop-left.total _ c.in-Some.len
          (subst IsAllowed (sym c.requires.settings) c.known_allowed.ensures) c.loop-left.invariant.counts has refl c.skip.ensures.few;
      way = λ k from. way_on k c.loop-left.left (c.loop-left.left - 1) c.loop-left.reader c.skip.new.self has.samples
          (omega (arith, c.loop-left-test.true)) (c.loop-left.invariant.way k from) has.read;
    }
