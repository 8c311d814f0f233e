use Rattle.std.proofs.Common.{◌≡◌, ◌++◌, vec_len, ℤ, List, ◌∙◌, ap, arith, refl, subst, sym}
use Rattle.std.proofs.lemmas.Result.{err_from_is_err_and}
use Rattle.aec_params.specs.declared.settings.Settings.{Settings}
use Rattle.aec_params.specs.declared.fault.Fault.TheVariants.{Memory}
use Rattle.aec_interval.specs.Pieces.{place_at}
use Rattle.aec_interval.specs.Reached.{faulty}
use Rattle.aec_engine.specs.Output.{all_stored, samples_from}
use Rattle.aec_engine.specs.ReadingTwice.{AreSamplesOf, KeepsFront, no_memory}
use Rattle.aec_engine.specs.Buffers.{FillsOne}
use Rattle.aec_engine.proofs.BufferLemmas.{fills_refusal, few_samples}
use Rattle.aec_engine.proofs.KeptBufferLemmas.{IsOnly, have_from, rest_range, refused_there, decodes_kept, refused_under}
use Rattle.aec_engine.proofs.engine.into_buffers.decode_rest_into.Goals as goal

pub returns-in_err-bytes : goal.returns-in_err-bytes
returns-in_err-bytes c =
    let exit = err_from_is_err_and c.from_residual.result c.from_residual.ensures.1 in
    fills_refusal _ c.args.out.now _ exit.0 Memory exit.1 (exit.2 ∙ c.in_err-bytes.ensures.fault) no_memory

pub keep_more-requires-clause-kept : goal.keep_more-requires-clause-kept
keep_more-requires-clause-kept c =
    let s = c.args.params.now in
    let items = c.args.samples.now.items in
    let count : vec_len c.args.samples.now ≡ c.len-first.result = omega (arith, c.len-first.ensures) in
    subst (λ bytes. KeepsFront c.args.reader.now s c.len-first.result bytes) (sym (c.in_ok-bytes.ensures.items ∙ ap (all_stored s) c.deref.ensures.value))
    (subst (λ k. KeepsFront c.args.reader.now s k (all_stored s items)) count c.requires.kept)

pub returns-in_err-kept : goal.returns-in_err-kept
returns-in_err-kept c =
    let exit = err_from_is_err_and c.from_residual-in_err-kept.result c.from_residual-in_err-kept.ensures.1 in
    let fault = c.in_err-kept.field-0.0 in
    fills_refusal _ c.args.out.now _ exit.0 fault exit.1 exit.2
    (refused_under c.args.params.now c.args.reader.now fault c.requires.settings (sym c.requires.counted) c.in_err-kept.ensures.refuses)

pub returns-in_err-judged : goal.returns-in_err-judged
returns-in_err-judged c =
    let exit = err_from_is_err_and c.from_residual-in_err-judged.result c.from_residual-in_err-judged.ensures.1 in
    let fault = c.in_err-judged.field-0.0 in
    fills_refusal _ c.args.out.now _ exit.0 fault exit.1 exit.2
    (refused_under c.args.params.now c.args.reader.now fault c.requires.settings (sym c.requires.counted)
    (refused_there c.args.reader.now c.keep_more.new.reader fault c.in_ok-kept.ensures.same (faulty fault c.in_err-judged.ensures.refuses)))

pub returns-in_err-room_for_rest : goal.returns-in_err-room_for_rest
returns-in_err-room_for_rest c =
    let exit = err_from_is_err_and c.from_residual-in_err-room_for_rest.result c.from_residual-in_err-room_for_rest.ensures.1 in
    fills_refusal _ c.args.out.now _ exit.0 Memory exit.1 (exit.2 ∙ c.in_err-room_for_rest.ensures.fault) no_memory

pub put_kept-requires-clause-read : goal.put_kept-requires-clause-read
put_kept-requires-clause-read c =
    rest_range c.keep_more.new.reader c.judge_from.new.reader c.in_ok-kept.kept c.saturating_sub-left.result c.in_ok-judged.judged.total
    c.in_ok-judged.ensures.same c.in_ok-judged.ensures.ok c.saturating_sub-left.ensures

pub put_kept-requires-clause-few : goal.put_kept-requires-clause-few
put_kept-requires-clause-few c =
    let p = c.args.reader.now in
    let start = place_at c.args.params.now p.count p.limit p.bits 0 0 in
    let have = have_from start c.keep_more.new.reader c.in_ok-judged.judged.total
    (c.in_ok-kept.ensures.same ∙ ap (λ (s : Settings). place_at s p.count p.limit p.bits c.keep_more.new.reader.block c.keep_more.new.reader.bit)
    c.requires.settings) c.in_ok-judged.ensures.ok in
    let few = few_samples c.args.params.now p.count p.limit p.bits start c.in_ok-judged.judged.total c.known_allowed.ensures refl
    (sym c.requires.counted) have in
    omega (arith, few, c.requires.limit, c.saturating_sub-left.ensures)

pub returns : goal.returns
returns c =
    let p = c.args.reader.now in
    let start = place_at c.args.params.now p.count p.limit p.bits 0 0 in
    decodes_kept c.args.params.now p.count p.limit p.limit p.bits start c.keep_more.new.reader
    c.judge_from.new.reader c.in_ok-kept.kept c.in_ok-judged.judged.total c.saturating_sub-left.result c.keep_more.new.bytes.items
    c.args.out.now _ c.put_kept.result c.known_allowed.ensures refl refl (sym c.requires.counted)
    (c.in_ok-kept.ensures.same ∙ ap (λ (s : Settings). place_at s p.count p.limit p.bits c.keep_more.new.reader.block c.keep_more.new.reader.bit)
    c.requires.settings) c.in_ok-judged.ensures.same c.in_ok-kept.ensures.kept c.in_ok-judged.ensures.ok
    c.saturating_sub-left.ensures
    (subst (λ l. (xs : List ℤ) → AreSamplesOf c.judge_from.new.reader xs
    → FillsOne (IsOnly (l ++ all_stored c.args.params.now (samples_from c.in_ok-kept.kept c.saturating_sub-left.result xs))) c.args.out.now
    c.put_kept.new.out c.put_kept.result)
    c.deref-2.ensures.value c.put_kept.ensures)
