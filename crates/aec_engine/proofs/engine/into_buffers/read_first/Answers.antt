use Rattle.std.proofs.Common.{arith, ap, refl, sym, subst}
use Rattle.aec_params.specs.Params.{IsAllowed, interval_len}
use Rattle.std.proofs.lemmas.Result.{err_from_is_err_and}
use Rattle.aec_engine.proofs.ReadTwiceLemmas.{counts_refused}
use Rattle.aec_engine.proofs.KeepingLemmas.{counts_kept, keeps_none, first_kept, first_held, first_same}
use Rattle.aec_engine.proofs.engine.into_buffers.read_first.Goals as goal

pub returns-in_err-_more-clause-refuses : goal.returns-in_err-_more-clause-refuses
returns-in_err-_more-clause-refuses c =
    let exit = err_from_is_err_and c.from_residual.result c.from_residual.ensures.1 in
    counts_refused _ _ _ c.args.reader.now c.args.reader.now 0 (subst IsAllowed (sym c.requires.start.settings) c.known_allowed.ensures) exit.1
    exit.2 (counts_kept c.args.reader.now c.args.reader.now c.args.params.now 0 _ refl
    (keeps_none c.args.reader.now c.args.params.now _ c.requires.start.block c.requires.start.bit refl))
    c.in_err-_more.ensures.refuses

pub returns-clause-kept : goal.returns-clause-kept
returns-clause-kept c =
    first_kept c.args.reader.now c.next_few.new.self c.args.params.now _ c.next_few.new.samples.items
    c.known_allowed.ensures c.requires.start.settings c.in_ok-_more.ensures.read c.in_ok-_more.ensures.done c.in_ok-_more.ensures.empty _
    c.requires.start.block c.requires.start.bit c.next_few.ensures.few c.next_few.ensures.ends (omega (arith, c.next_few.new.samples.ok))

pub returns-clause-held : goal.returns-clause-held
returns-clause-held c =
    first_held c.args.reader.now c.next_few.new.self c.args.params.now _ c.next_few.new.samples.items
    c.known_allowed.ensures c.requires.start.settings c.in_ok-_more.ensures.read c.in_ok-_more.ensures.done c.in_ok-_more.ensures.empty

pub returns-clause-most : goal.returns-clause-most
returns-clause-most c = omega (arith, c.in_ok-_more.ensures.at_most, ap interval_len c.requires.start.settings)

pub returns-clause-same : goal.returns-clause-same
returns-clause-same c =
    first_same c.args.reader.now c.next_few.new.self c.args.params.now _ c.next_few.new.samples.items
    c.known_allowed.ensures c.requires.start.settings c.in_ok-_more.ensures.read c.in_ok-_more.ensures.done c.in_ok-_more.ensures.empty
