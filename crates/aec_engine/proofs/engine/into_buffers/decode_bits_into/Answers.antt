use Rattle.std.proofs.Common.{◌≡◌, vec_len, Some, Err, ◌∙◌, ap, arith, refl, subst, sym}
use Rattle.std.proofs.lemmas.Result.{err_from_is_err_and}
use Rattle.aec_params.specs.declared.fault.Fault.TheVariants.{Memory}
use Rattle.aec_interval.specs.Pieces.{Place}
use Rattle.aec_engine.specs.ReadingTwice.{DecodesBits, KeepsFront, unread, no_memory}
use Rattle.aec_engine.specs.Output.{all_stored}
use Rattle.aec_engine.specs.Buffers.{FillsOne}
use Rattle.aec_engine.proofs.SettlingLemmas.{refuses_count, refuses_reading}
use Rattle.aec_engine.proofs.BufferLemmas.{fills_refusal, fills_map}
use Rattle.aec_engine.proofs.KeepingLemmas.{first_are_all}
use Rattle.aec_engine.proofs.ReadTwiceLemmas.{place_from}
use Rattle.aec_engine.proofs.engine.into_buffers.decode_bits_into.Goals as goal

pub returns-in_err-reader : goal.returns-in_err-reader
returns-in_err-reader c =
    let exit = err_from_is_err_and c.from_residual.result c.from_residual.ensures.1 in
    let fault = exit.0 in
    fills_refusal _ c.args.out.now _ exit.0 exit.0 exit.1 refl
    (subst (λ limit. DecodesBits c.args.terms.now.params c.args.terms.now.count limit c.args.bits.now.list (Err fault)) c.samples.ensures.value
    (unread exit.0 (refuses_count _ _ _ _ exit.0 (ap Some exit.2 ∙ c.in_err-reader.ensures.refuses))))

pub returns-in_err-samples : goal.returns-in_err-samples
returns-in_err-samples c =
    let exit = err_from_is_err_and c.from_residual-in_err-samples.result c.from_residual-in_err-samples.ensures.1 in
    fills_refusal _ c.args.out.now _ exit.0 Memory exit.1 (exit.2 ∙ c.in_err-samples.ensures.fault) no_memory

pub returns-in_err-read_first : goal.returns-in_err-read_first
returns-in_err-read_first c =
    let exit = err_from_is_err_and c.from_residual-in_err-read_first.result c.from_residual-in_err-read_first.ensures.1 in
    let fault = c.in_err-read_first.field-0.0 in
    fills_refusal _ c.args.out.now _ exit.0 fault exit.1 exit.2
    (subst (λ limit. DecodesBits c.args.terms.now.params c.args.terms.now.count limit c.args.bits.now.list (Err fault)) c.samples.ensures.value
    (unread fault (refuses_reading _ _ _ _ c.in_ok-reader.reader fault c.in_ok-reader.ensures.ok c.in_ok-reader.ensures.refuses
    c.in_err-read_first.ensures.refuses)))

pub returns-then-are_all : goal.returns-then-are_all
returns-then-are_all c =
    let q = c.read_first.new.reader in
    let s = c.args.terms.now.params in
    let count : vec_len c.read_first.new.samples ≡ c.len.result = omega (arith, c.len.ensures) in
    let kept = subst (λ l. KeepsFront q s c.len.result (all_stored s l)) (sym c.deref.ensures.value)
    (subst (λ k. KeepsFront q s k (all_stored s c.read_first.new.samples.items)) count c.in_ok-read_first.ensures.kept) in
    fills_map _ (DecodesBits c.args.terms.now.params c.args.terms.now.count _ c.args.bits.now.list) c.args.out.now _ _
    (λ answer only. subst (λ limit. DecodesBits c.args.terms.now.params c.args.terms.now.count limit c.args.bits.now.list answer) c.samples.ensures.value
    (subst (DecodesBits c.args.terms.now.params c.args.terms.now.count c.samples.result c.args.bits.now.list) (sym only)
    (first_are_all c.args.terms.now.params c.args.terms.now.count c.samples.result c.args.bits.now.list q _ _ c.known_allowed.ensures
    (c.in_ok-read_first.ensures.same ∙ ap (λ (start : Place). place_from start q.block q.bit) c.in_ok-reader.ensures.ok)
    c.in_ok-reader.ensures.refuses kept (c.are_all.ensures.0 c.if-are_all.true)))) c.put_first.ensures

pub returns : goal.returns
returns c =
    let q = c.read_first.new.reader in
    let s = c.args.terms.now.params in
    let count = c.args.terms.now.count in
    let same = c.in_ok-read_first.ensures.same ∙ ap (λ (start : Place). place_from start q.block q.bit) c.in_ok-reader.ensures.ok in
    subst (λ limit. FillsOne (DecodesBits s count limit c.args.bits.now.list) c.args.out.now c.decode_rest_into.new.out c.decode_rest_into.result)
    c.samples.ensures.value
    (subst (λ (p : Place). FillsOne (DecodesBits s p.count p.limit p.bits) c.args.out.now c.decode_rest_into.new.out c.decode_rest_into.result) same
    c.decode_rest_into.ensures)
