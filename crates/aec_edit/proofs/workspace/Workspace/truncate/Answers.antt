use Rattle.std.proofs.Common.{[], sym, arith, ap, ◌∙◌}
use Rattle.std.specs.Int.{div_ceil}
use Rattle.aec_edit.proofs.TruncateLemmas.{truncate_can, truncated}
use Rattle.aec_edit.proofs.ExchangedLemmas.{can_exchange, exchanged_to_last}
use Rattle.aec_edit.proofs.workspace.Workspace.truncate.Goals as goal

pub exchange-requires : goal.exchange-requires
exchange-requires g c =
    let seen = c.args.self.now in
    let count = c.count-count.ensures in
    let fits = truncate_can (g.C.Codec.format seen.codec) seen.limit c.args.stop _ seen.samples count.value
    (omega (arith, count.value, c.in_ok-check_places.ensures.ok, c.if-stop-count.false)) count.few in
    can_exchange g.C.Codec.format g.C.Codec.called g.C.Codec.read seen c.args.stop _ _ [] (g.C.Codec.lawful seen.codec) count.held fits
    (c.intervals-to.ensures ∙ ap (λ k. div_ceil k (g.C.Codec.format seen.codec).most) (sym count.value))

pub returns : goal.returns
returns g c =
    let seen = c.args.self.now in
    let count = c.count-count.ensures in
    let fits = truncate_can (g.C.Codec.format seen.codec) seen.limit c.args.stop c.count-count.result seen.samples count.value
    (omega (arith, count.value, c.in_ok-check_places.ensures.ok, c.if-stop-count.false)) count.few in
    let made = exchanged_to_last g.C.Codec.format g.C.Codec.called g.C.Codec.read seen c.args.stop _ _ [] (g.C.Codec.lawful seen.codec) count.held fits
    (c.intervals-to.ensures ∙ ap (λ k. div_ceil k (g.C.Codec.format seen.codec).most) (sym count.value)) c.exchange.ensures in
    let applies = truncated (g.C.Codec.format seen.codec) seen.limit (g.C.Codec.called seen.codec) (g.C.Codec.read seen.codec) c.args.stop _ seen.samples
    c.exchange.result c.exchange.new.self.samples (g.C.Codec.called c.exchange.new.self.codec) (g.C.Codec.read c.exchange.new.self.codec)
    (g.C.Codec.lawful seen.codec).some count.value (omega (arith, count.value, c.in_ok-check_places.ensures.ok, c.if-stop-count.false))
    made.answer made.ok made.err made.reads in
    record {
      applies = applies;
      rules = record { limit = c.exchange.ensures.limit; format = c.exchange.ensures.format };
      refused = c.exchange.ensures.refused;
    }
