use Rattle.std.proofs.Common.{arith, refl, sym, subst, ap, ◌∙◌}
use Rattle.std.specs.Option.{is_some}
use Rattle.std.proofs.lemmas.Result.{err_from_is_err_and}
use Rattle.aec_params.specs.Params.{IsAllowed}
use Rattle.aec_interval.specs.Pieces.{Place}
use Rattle.aec_engine.specs.declared.engine.two_readings.Begin.{Begin}
use Rattle.aec_engine.proofs.ReadTwiceLemmas.{counts_begun, some_several, counts_several, several_within, counts_wrong, IsNoted, noted_here, noted_later, noted_place, counts_all, ends_at}
use Rattle.aec_engine.proofs.engine.two_readings.judge_from.Goals as goal

pub loop-len-init : goal.loop-len-init
loop-len-init c =
    let counts = counts_begun c.args.reader.now c.args.before c.args.first c.requires.begun in
    record {
      counts = counts;
      noted = noted_here c.args.reader.now c.args.reader.now _ _ c.args.before c.args.first counts c.place.ensures.reached c.place.ensures.block
          c.place.ensures.bit
          c.requires.begun.at_most;
    }

pub returns-in_err-len-clause-refuses : goal.returns-in_err-len-clause-refuses
returns-in_err-len-clause-refuses c =
    let exit = err_from_is_err_and c.from_residual.result c.from_residual.ensures.1 in
    counts_wrong _ _ _ c.args.reader.now c.loop-len.reader c.loop-len.total (subst IsAllowed (sym c.requires.settings) c.known_allowed.ensures)
    exit.1 exit.2 c.loop-len.invariant.counts c.in_err-len.ensures.refuses

pub overflow_add-total : goal.overflow_add-total
overflow_add-total c =
    let has = some_several c.loop-len.reader c.skip_few.new.self _ c.in-Some.len c.in_ok-len.ensures.skipped c.in-Some.is in
    let most = several_within c.args.reader.now c.loop-len.reader c.skip_few.new.self c.loop-len.total c.in-Some.len
    (subst IsAllowed (sym c.requires.settings) c.known_allowed.ensures) c.loop-len.invariant.counts has c.skip_few.ensures.few in
    omega (arith, most)

pub loop-len-preserved : goal.loop-len-preserved
loop-len-preserved c =
    let counts = counts_several c.args.reader.now c.loop-len.reader c.skip_few.new.self c.loop-len.total _ c.in-Some.len
    (subst IsAllowed (sym c.requires.settings) c.known_allowed.ensures) c.loop-len.invariant.counts
    (some_several c.loop-len.reader c.skip_few.new.self _ c.in-Some.len c.in_ok-len.ensures.skipped c.in-Some.is) refl c.skip_few.ensures.few in
    record {
      counts = counts;
      noted = noted_later (λ (b : Begin). IsNoted c.args.reader.now b.place.block b.place.bit b.before c.args.first) c.loop-len.begin _ _ _ c.args.first
          c.last_begin-begin.ensures.here c.last_begin-begin.ensures.noted c.loop-len.invariant.noted
          (noted_here c.args.reader.now c.skip_few.new.self _ _ _ c.args.first counts c.place-in-Some.ensures.reached c.place-in-Some.ensures.block
          c.place-in-Some.ensures.bit);
    }

pub seek_from-bits-requires : goal.seek_from-bits-requires
seek_from-bits-requires c = record {
  reached = noted_place c.args.reader.now c.loop-len.reader c.skip_few.new.self _ _ _ c.args.first c.loop-len.invariant.counts.same
      (c.in_ok-len.ensures.done (ap is_some c.in_default.is)) c.loop-len.invariant.noted;
}

pub returns-clause-ok : goal.returns-clause-ok
returns-clause-ok c =
    counts_all c.args.reader.now c.loop-len.reader c.loop-len.total (subst IsAllowed (sym c.requires.settings) c.known_allowed.ensures)
    c.loop-len.invariant.counts (sym c.in_ok-len.ensures.more ∙ ap is_some c.in_default.is)

pub returns-clause-bits : goal.returns-clause-bits
returns-clause-bits c = ends_at c.args.reader.now c.loop-len.reader c.loop-len.total c.seek_from-bits.result c.loop-len.invariant.counts
    (sym c.in_ok-len.ensures.more ∙ ap is_some c.in_default.is)
    (c.seek_from-bits.ensures.bit ∙ ap (λ (p : Place). p.bit) (c.in_ok-len.ensures.done (ap is_some c.in_default.is)))
