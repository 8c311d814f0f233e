use Rattle.std.proofs.Common.{◌≡◌, ◌*◌, ◌/◌, length, sym, arith, ap, ◌∙◌}
use Rattle.std.proofs.lemmas.Result.{err_from_is_err_and}
use Rattle.aec_bits.specs.Codec.{Format}
use Rattle.aec_edit.specs.Changes.{fresh_of}
use Rattle.aec_edit.proofs.UpToLemmas.{fresh_coming, fresh_old_part, held_at, total_is, calls_is, all_held, all_len, stop_before, put_came}
use Rattle.aec_edit.proofs.ExchangedLemmas.{kept_since, coded_for, not_exchanged, is_exchanged}
use Rattle.aec_edit.proofs.workspace.Workspace.exchange.Goals as goal
use Rattle.aec_params.proofs.MoveLaws.{from_to}

pub overflow_sub-kept : goal.overflow_sub-kept
overflow_sub-kept g c =
    let seen = c.args.self.now in
    let f : Format = g.C.Codec.format seen.codec in
    let before = stop_before f seen.limit c.args.first c.args.stop c.args.to seen.samples c.args.values.now (g.C.Codec.lawful seen.codec)
    c.interval_len-interval_len.ensures.sound.held c.requires in
    let product : c.args.to * c.interval_len-interval_len.result ≡ c.args.to * f.most = ap (λ n. c.args.to * n) c.interval_len-interval_len.ensures.value in
    omega (arith, c.count.ensures.value, c.requires.within)

pub code_fresh-requires-clause-fresh : goal.code_fresh-requires-clause-fresh
code_fresh-requires-clause-fresh g c =
    let seen = c.args.self.now in
    let f : Format = g.C.Codec.format seen.codec in
    let lawful = g.C.Codec.lawful seen.codec in
    let held = c.interval_len-interval_len.ensures.sound.held in
    let got = c.in_ok-fresh.ensures in
    let came = fresh_coming g.C.Codec.format seen c.fresh.new.self got.read.format got.read.samples got.ok in
    record {
      there = fresh_old_part g.C.Codec.format seen c.fresh.new.self got.read.format got.read.samples c.requires.reaches c.requires.inside got.ok;
      held = held_at f _ _ _ got.read.format came
          (all_held f seen.limit c.args.first c.args.stop c.args.to seen.samples c.args.values.now lawful held c.requires);
      count_is = total_is _ f.most _ (length seen.samples) c.args.first c.args.stop c.args.to (length c.args.values.now) _
          c.interval_len-interval_len.ensures.value c.count.ensures.value c.min.ensures
          ∙ sym (ap length came ∙ all_len f seen.limit c.args.first c.args.stop c.args.to seen.samples c.args.values.now lawful held c.requires);
    }

pub returns-in_err-coded : goal.returns-in_err-coded
returns-in_err-coded g c =
    let p = err_from_is_err_and c.from_residual-in_err-coded.result c.from_residual-in_err-coded.ensures.1 in
    let seen = c.args.self.now in
    let most = c.interval_len-interval_len.ensures.value in
    let got = c.in_ok-fresh.ensures in
    let failed = c.in_err-coded.ensures in
    let total = total_is _ _ _ (length seen.samples) c.args.first c.args.stop c.args.to _ _ most c.count.ensures.value c.min.ensures in
    let needed = calls_is _ _ _ (length seen.samples) c.args.first c.args.stop c.args.to _ _ _ most c.count.ensures.value c.min.ensures
    c.div_ceil-needed.ensures in
    rw p.1
    (not_exchanged g.C.Codec.format g.C.Codec.called g.C.Codec.read seen c.args.first c.args.stop c.args.to c.args.values.now (g.C.Codec.lawful seen.codec)
    c.interval_len-interval_len.ensures.sound.held c.requires _ got.read got.ok failed.same total needed (omega arith) (p.2 ∙ failed.fault.0) failed.fault.1)

pub put-requires : goal.put-requires
put-requires g c =
    let seen = c.args.self.now in
    let most = c.interval_len-interval_len.ensures.value in
    let coded = c.in_ok-coded.ensures in
    let total = total_is _ _ _ (length seen.samples) c.args.first c.args.stop c.args.to _ _ most c.count.ensures.value c.min.ensures in (
      fresh_of (g.C.Codec.format seen.codec).most seen.samples (from_to c.args.first c.args.stop) c.args.to c.args.values.now,
      coded_for g.C.Codec.format g.C.Codec.called g.C.Codec.read seen c.args.first c.args.stop c.args.to c.args.values.now (g.C.Codec.lawful seen.codec)
          c.interval_len-interval_len.ensures.sound.held c.requires c.in_ok-fresh.ensures.read c.in_ok-fresh.ensures.ok coded.ok coded.same total
          (ap (λ n. c.args.first / n) most),
    )

pub returns-in_err-put : goal.returns-in_err-put
returns-in_err-put g c =
    let p = err_from_is_err_and c.from_residual-in_err-put.result c.from_residual-in_err-put.ensures.1 in
    let seen = c.args.self.now in
    let most = c.interval_len-interval_len.ensures.value in
    let got = c.in_ok-fresh.ensures in
    let coded = c.in_ok-coded.ensures in
    let failed = c.in_err-put.ensures in
    let total = total_is _ _ _ (length seen.samples) c.args.first c.args.stop c.args.to _ _ most c.count.ensures.value c.min.ensures in
    let needed = calls_is _ _ _ (length seen.samples) c.args.first c.args.stop c.args.to _ _ _ most c.count.ensures.value c.min.ensures
    c.div_ceil-needed.ensures in
    rw p.1
    (not_exchanged g.C.Codec.format g.C.Codec.called g.C.Codec.read seen c.args.first c.args.stop c.args.to c.args.values.now (g.C.Codec.lawful seen.codec)
    c.interval_len-interval_len.ensures.sound.held c.requires _ got.read got.ok (kept_since coded.same failed.err failed.rest) total needed (omega arith)
    (p.2 ∙ failed.fault.0) (omega (arith, failed.fault.1, coded.ok.count_is)))

pub returns : goal.returns
returns g c =
    let seen = c.args.self.now in
    let lawful = g.C.Codec.lawful seen.codec in
    let held = c.interval_len-interval_len.ensures.sound.held in
    let most = c.interval_len-interval_len.ensures.value in
    let got = c.in_ok-fresh.ensures in
    let coded = c.in_ok-coded.ensures in
    let total = total_is _ _ _ (length seen.samples) c.args.first c.args.stop c.args.to _ _ most c.count.ensures.value c.min.ensures in
    let needed = calls_is _ _ _ (length seen.samples) c.args.first c.args.stop c.args.to _ _ _ most c.count.ensures.value c.min.ensures
    c.div_ceil-needed.ensures in
    let from = ap (λ n. c.args.first / n) most in
    let is = coded_for g.C.Codec.format g.C.Codec.called g.C.Codec.read seen c.args.first c.args.stop c.args.to c.args.values.now lawful held c.requires
    got.read got.ok coded.ok coded.same total from in
    let samples = c.in_ok-put.ensures.ok _ is
    ∙ put_came (g.C.Codec.format seen.codec) seen.limit c.args.first c.args.stop c.args.to seen.samples c.args.values.now lawful held c.requires _ _ _
    (coded.same.format ∙ got.read.format) (coded.same.samples ∙ got.read.samples) from in
    rw c.keep_lists.ensures.same
    (is_exchanged g.C.Codec.format g.C.Codec.called g.C.Codec.read seen c.args.first c.args.stop c.args.to c.args.values.now lawful held c.requires
    got.read got.ok coded.ok coded.same c.in_ok-put.ensures.rest total needed (omega arith) samples)
