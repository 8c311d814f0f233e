use Rattle.std.proofs.Common.{◌≡◌, ◌-◌, ◌%◌, length, arith, ap, ◌∙◌}
use Rattle.std.specs.Int.{div_ceil}
use Rattle.std.proofs.lemmas.Result.{err_from_is_err_and}
use Rattle.aec_bits.specs.Codec.{Format}
use Rattle.aec_edit.specs.Opened.{opened_samples}
use Rattle.aec_edit.proofs.EndSamplesLemmas.{ends_tail, opened_some, touched_end, fresh_is}
use Rattle.aec_edit.proofs.UpToLemmas.{some_calls, kept_more}
use Rattle.aec_edit.proofs.workspace.Workspace.fresh.Goals as goal
use Rattle.aec_params.proofs.MoveLaws.{from_to}

pub returns-in_err-open_ends-clause-fault : goal.returns-in_err-open_ends-clause-fault
returns-in_err-open_ends-clause-fault g c =
    let p = err_from_is_err_and c.from_residual.result c.from_residual.ensures.1 in
    let seen = c.args.self.now in
    let f : Format = g.C.Codec.format seen.codec in
    let lawful = g.C.Codec.lawful seen.codec in
    let some = rw c.take_lists-front.ensures.same at c.in_err-open_ends.ensures.fault.1 in
    let opened = opened_some f.most c.args.first c.args.stop seen.samples lawful.some c.requires.order c.requires.within some in
    let more = kept_more f seen.limit c.args.first c.args.stop c.args.to seen.samples c.args.values.now lawful c.count.ensures.held c.requires in
    let codes = some_calls f seen.limit c.args.first c.args.stop c.args.to seen.samples c.args.values.now lawful c.count.ensures.held c.requires
    (omega (arith, opened, more)) in
    rw (p.1, p.2) (c.in_err-open_ends.ensures.fault.0, codes)

pub keep_ends-requires : goal.keep_ends-requires
keep_ends-requires g c =
    let f : Format = g.C.Codec.format c.args.self.now.codec in
    let end = touched_end _ _ _ f.most _ c.args.stop _ c.count.ensures.value c.interval_len-interval_len.ensures.value c.div_ceil-next.ensures c.min.ensures in
    let there = ends_tail f.most c.args.first c.args.stop c.args.self.now.samples
    (g.C.Codec.lawful c.args.self.now.codec).some c.requires.order c.requires.within in
    let ends : c.open_ends.new.ends.items ≡ opened_samples f.most (from_to c.args.first c.args.stop) c.args.self.now.samples =
    rw c.take_lists-front.ensures.same at c.in_ok-open_ends.ensures.ok in
    omega (arith, end, there.0, ap length ends)

pub returns-in_err-keep_ends-clause-fault : goal.returns-in_err-keep_ends-clause-fault
returns-in_err-keep_ends-clause-fault g c =
    let p = err_from_is_err_and c.from_residual-in_err-keep_ends.result c.from_residual-in_err-keep_ends.ensures.1 in
    let seen = c.args.self.now in
    let f : Format = g.C.Codec.format seen.codec in
    let lawful = g.C.Codec.lawful seen.codec in
    let end = touched_end _ _ _ f.most _ c.args.stop _ c.count.ensures.value c.interval_len-interval_len.ensures.value c.div_ceil-next.ensures c.min.ensures in
    let more = kept_more f seen.limit c.args.first c.args.stop c.args.to seen.samples c.args.values.now lawful c.count.ensures.held c.requires in
    let codes = some_calls f seen.limit c.args.first c.args.stop c.args.to seen.samples c.args.values.now lawful c.count.ensures.held c.requires
    (omega (arith, c.in_err-keep_ends.ensures.fault.1, end, more)) in
    rw (p.1, p.2) (c.in_err-keep_ends.ensures.fault.0, codes)

pub returns-clause-ok : goal.returns-clause-ok
returns-clause-ok g c =
    let seen = c.args.self.now in
    let f : Format = g.C.Codec.format seen.codec in
    let most = c.interval_len-interval_len.ensures.value in
    let end = touched_end _ _ _ f.most _ c.args.stop _ c.count.ensures.value most c.div_ceil-next.ensures c.min.ensures in
    let ends : c.open_ends.new.ends.items ≡ opened_samples f.most (from_to c.args.first c.args.stop) seen.samples =
    rw c.take_lists-front.ensures.same at c.in_ok-open_ends.ensures.ok in
    let kept = c.in_ok-keep_ends.ensures.ok in
    record {
      all = fresh_is f.most c.args.first c.args.stop _ _ seen.samples c.args.values.now c.open_ends.new.ends.items _ (g.C.Codec.lawful seen.codec).some
          c.requires.order c.requires.within ends (ap (λ n. c.args.first % n) most) (ap (λ m. m - c.args.stop) end) kept.all;
      next = kept.next ∙ c.div_ceil-next.ensures ∙ ap (div_ceil c.args.stop) most;
      end = kept.end;
    }
