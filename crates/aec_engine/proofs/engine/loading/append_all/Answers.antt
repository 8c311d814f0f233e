use Rattle.std.proofs.Common.{arith, ◌<◌, ◌≤◌, inl, ◌∙◌, ap, refl, sym, subst}
use Rattle.std.proofs.lemmas.Result.{err_from_is_err_and}
use Rattle.aec_params.specs.Limits.{most_samples}
use Rattle.aec_engine.specs.declared.scripts.EditFault.TheVariants.{Plain}
use Rattle.aec_engine.specs.EditsAhead.{left_in}
use Rattle.aec_engine.proofs.LoadingLemmas.{loads_none, loads_more, loads_all, loads_stops, loads_memory, append_lacks, early_stops}
use Rattle.aec_engine.proofs.engine.loading.append_all.Goals as goal

pub loop-spare-init : goal.loop-spare-init
loop-spare-init g c = record {
  loads = loads_none c.args.reader.now (g.C.Codec.format c.args.workspace.now.codec) c.args.workspace.now.limit (left_in c.args.ahead.now)
      c.args.workspace.now.samples (g.C.Codec.called c.args.workspace.now.codec) c.requires.empty.empty c.requires.empty.fresh
      c.requires.unread.start.block c.requires.unread.start.bit;
  limit = refl;
  format = refl;
  ahead = c.requires.ahead;
}

pub returns-in_err-next_intervals-clause-refuses : goal.returns-in_err-next_intervals-clause-refuses
returns-in_err-next_intervals-clause-refuses g c =
    let exit = err_from_is_err_and c.from_residual.result c.from_residual.ensures.1 in
    rw exit.1 (inl (exit.2 ∙ ap Plain
    (loads_memory c.args.reader.now c.loop-spare.reader _ _ (left_in c.args.ahead.now) (left_in c.loop-spare.ahead) _
    c.requires.unread.read.0 _ _ c.loop-spare.invariant.loads c.requires.unread.read.1 c.in_err-next_intervals.ensures.refuses)))

pub returns-in_err-append-clause-refuses : goal.returns-in_err-append-clause-refuses
returns-in_err-append-clause-refuses g c =
    let exit = err_from_is_err_and c.from_residual-in_err-append.result c.from_residual-in_err-append.ensures.1 in
    let allowed = c.requires.empty.allowed in
    let so_far = c.loop-spare.invariant in
    rw exit.1 (inl (exit.2 ∙ ap Plain
    (append_lacks c.args.reader.now c.loop-spare.reader c.next_intervals.new.reader _ _ _ _ (left_in c.args.ahead.now) (left_in c.loop-spare.ahead)
    c.loop-spare.workspace.samples _ c.deref.result.now
    c.requires.unread.read.0 _ _ _ allowed so_far.format c.requires.empty.format
    (so_far.limit ∙ c.requires.empty.limit_is) (subst (λ n. n ≤ most_samples) (sym so_far.limit) c.requires.empty.bound) c.requires.unread.within so_far.loads
    (c.in_ok-next_intervals.ensures.read c.if-branch.true) c.in_ok-next_intervals.ensures.ends c.requires.unread.read.1 c.deref.ensures.value
    (g.C.Codec.lawful c.loop-spare.workspace.codec).some c.in_err-append.ensures.applies.answer)))

pub returns-in_err-carry_early-clause-refuses : goal.returns-in_err-carry_early-clause-refuses
returns-in_err-carry_early-clause-refuses g c =
    let exit = err_from_is_err_and c.from_residual-in_err-carry_early.result c.from_residual-in_err-carry_early.ensures.1 in
    let allowed = c.requires.empty.allowed in
    let so_far = c.loop-spare.invariant in
    rw (exit.1, exit.2) (early_stops c.in_err-carry_early.field-0.0 _ _ (left_in c.args.ahead.now) c.args.reader.now _
    c.in_err-carry_early.ensures.refuses (λ stops xs given.
    loads_stops c.args.reader.now c.loop-spare.reader c.next_intervals.new.reader _ _ _ _ _ (left_in c.args.ahead.now) (left_in c.loop-spare.ahead)
    c.loop-spare.workspace.samples _ c.deref.result.now c.append.new.self.samples xs _ c.in_err-carry_early.field-0.0 allowed so_far.format
    (c.append.ensures.rules.format ∙ so_far.format) (c.append.ensures.rules.limit ∙ so_far.limit)
    (subst (λ f. 0 < f.most) so_far.format (g.C.Codec.lawful c.loop-spare.workspace.codec).some)
    c.requires.unread.within (subst (λ n. n ≤ most_samples) c.requires.empty.limit_is c.requires.empty.bound) so_far.loads
    (c.in_ok-next_intervals.ensures.read c.if-branch.true) c.in_ok-next_intervals.ensures.ends c.deref.ensures.value
    c.in_ok-append.ensures.applies.samples stops given))

pub loop-spare-preserved : goal.loop-spare-preserved
loop-spare-preserved g c =
    let so_far = c.loop-spare.invariant in
    let made = c.in_ok-append.ensures.applies in
    record {
      loads = loads_more c.args.reader.now c.loop-spare.reader c.next_intervals.new.reader _ _ _ _ _ _ (left_in c.args.ahead.now) (left_in c.loop-spare.ahead)
          (left_in c.carry_early.new.ahead) c.loop-spare.workspace.samples _ c.deref.result.now c.append.new.self.samples
          c.carry_early.new.workspace.samples _ _ _ _
          c.requires.empty.allowed so_far.format (c.append.ensures.rules.format ∙ so_far.format)
          (c.append.ensures.rules.limit ∙ so_far.limit) c.requires.empty.format so_far.loads
          (c.in_ok-next_intervals.ensures.read c.if-branch.true) c.in_ok-next_intervals.ensures.few c.in_ok-next_intervals.ensures.ends
          (g.C.Codec.lawful c.loop-spare.workspace.codec).some
          c.deref.ensures.value made.samples made.answer c.in_ok-carry_early.ensures.ok;
      limit = c.carry_early.ensures.rules.limit ∙ c.append.ensures.rules.limit ∙ so_far.limit;
      format = c.carry_early.ensures.rules.format ∙ c.append.ensures.rules.format ∙ so_far.format;
      ahead = c.in_ok-carry_early.ensures.ahead;
    }

pub returns-clause-ok : goal.returns-clause-ok
returns-clause-ok g c =
    let so_far = c.loop-spare.invariant in
    loads_all c.args.reader.now c.loop-spare.reader _ _ (left_in c.args.ahead.now) (left_in c.loop-spare.ahead) c.loop-spare.workspace.samples _
    c.requires.empty.allowed
    (subst (λ f. 0 < f.most) so_far.format (g.C.Codec.lawful c.loop-spare.workspace.codec).some) c.requires.unread.within
    (subst (λ n. n ≤ most_samples) c.requires.empty.limit_is c.requires.empty.bound) so_far.loads (sym c.in_ok-next_intervals.ensures.more ∙ c.if-branch.false)

pub loop-spare-smaller : goal.loop-spare-smaller
loop-spare-smaller g c =
    let step = c.in_ok-next_intervals.ensures.read c.if-branch.true in
    omega (arith, step.ahead, c.in_ok-next_intervals.ensures.few)
