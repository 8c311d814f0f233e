use Rattle.std.proofs.Common.{◌∙◌, ◌-◌, ◌^◌, sym, arith}
use Rattle.std.proofs.lemmas.Result.{err_from_is_err_and}
use Rattle.aec_engine.specs.EditsAhead.{behind, left_in}
use Rattle.aec_engine.proofs.AtOnceLemmas.{at_once-made, at_once-stops, at_once-all, some_ahead}
use Rattle.aec_engine.proofs.engine.at_once.carry_at_once.Goals as goal

pub returns-in_err-rest-clause-refuses : goal.returns-in_err-rest-clause-refuses
returns-in_err-rest-clause-refuses g c =
    let exit = err_from_is_err_and c.from_residual-in_err-rest.result c.from_residual-in_err-rest.ensures.1 in
    let so_far = c.loop-alloc.invariant in
    let taken = c.in_ok-script.ensures.taken in
    rw (exit.1, exit.2)
    (at_once-stops (g.C.Codec.format c.args.workspace.now.codec) (g.C.Codec.format c.loop-alloc.workspace.codec) c.args.workspace.now.limit
    c.loop-alloc.workspace.limit (left_in c.args.ahead.now) (left_in c.loop-alloc.ahead) (left_in c.take_some.new.self) c.args.workspace.now.samples
    c.loop-alloc.workspace.samples (2 ^ 64 - 1 - c.args.left) (2 ^ 64 - 1 - c.loop-alloc.rest) c.in_ok-script.script.edits.items
    c.in_ok-script.script.lines.items c.in_err-rest.field-0.0 so_far.format so_far.limit taken.same taken.counted c.in_err-rest.ensures.refuses so_far.leads)

pub loop-alloc-smaller : goal.loop-alloc-smaller
loop-alloc-smaller g c =
    c.in_ok-script.ensures.taken.fewer
    (some_ahead c.loop-alloc.ahead.next (behind c.loop-alloc.ahead) (sym c.is_some.ensures ∙ c.loop-alloc-test.true))

pub loop-alloc-preserved : goal.loop-alloc-preserved
loop-alloc-preserved g c =
    let so_far = c.loop-alloc.invariant in
    let taken = c.in_ok-script.ensures.taken in
    let calls = c.in_ok-rest.ensures.calls in
    record {
      leads = at_once-made (g.C.Codec.format c.args.workspace.now.codec) (g.C.Codec.format c.loop-alloc.workspace.codec) c.args.workspace.now.limit
          c.loop-alloc.workspace.limit (left_in c.args.ahead.now) (left_in c.loop-alloc.ahead) (left_in c.take_some.new.self)
          c.args.workspace.now.samples c.loop-alloc.workspace.samples c.carry_as_one.new.workspace.samples (2 ^ 64 - 1 - c.args.left)
          (2 ^ 64 - 1 - c.loop-alloc.rest) c.in_ok-rest.field-0 (2 ^ 64 - 1 - (c.loop-alloc.rest - c.in_ok-rest.field-0))
          c.in_ok-script.script.edits.items c.in_ok-script.script.lines.items so_far.format so_far.limit taken.same taken.counted
          c.in_ok-rest.ensures.ok (omega (arith, calls.0, so_far.calls)) so_far.leads;
      calls = calls.1;
      limit = c.carry_as_one.ensures.rules.limit ∙ so_far.limit;
      format = c.carry_as_one.ensures.rules.format ∙ so_far.format;
      ahead = c.in_ok-script.ensures.ahead;
    }

pub returns-clause-ok : goal.returns-clause-ok
returns-clause-ok g c =
    let so_far = c.loop-alloc.invariant in
    at_once-all (g.C.Codec.format c.args.workspace.now.codec) c.args.workspace.now.limit (2 ^ 64 - 1 - c.args.left) (2 ^ 64 - 1 - c.loop-alloc.rest)
    (left_in c.args.ahead.now) c.args.workspace.now.samples c.loop-alloc.workspace.samples c.loop-alloc.ahead
    (sym c.is_some.ensures ∙ c.loop-alloc-test.false) so_far.ahead.ready so_far.leads
