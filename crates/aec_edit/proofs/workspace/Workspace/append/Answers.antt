use Rattle.std.proofs.Common.{sym, rules, ap, ◌∙◌}
use Rattle.std.specs.Int.{div_ceil}
use Rattle.aec_edit.proofs.AppendLemmas.{append_can, appended}
use Rattle.aec_edit.proofs.ExchangedLemmas.{can_exchange, exchanged_to_last}
use Rattle.aec_edit.proofs.workspace.Workspace.append.Goals as goal

pub exchange-requires : goal.exchange-requires
exchange-requires g c =
    let seen = c.args.self.now in
    let growth = c.in_ok-check_growth.ensures.ok in
    let count = c.count-count.ensures in
    let fits = append_can (g.C.Codec.format seen.codec) seen.limit _ seen.samples c.args.values.now count.value growth.held growth.few in
    can_exchange g.C.Codec.format g.C.Codec.called g.C.Codec.read seen _ _ _ c.args.values.now (g.C.Codec.lawful seen.codec) count.held fits
    (c.intervals-to.ensures ∙ ap (λ k. div_ceil k (g.C.Codec.format seen.codec).most) (sym count.value))

pub returns-clause-applies : goal.returns-clause-applies
returns-clause-applies g c =
    let seen = c.args.self.now in
    let growth = c.in_ok-check_growth.ensures.ok in
    let count = c.count-count.ensures in
    let fits = append_can (g.C.Codec.format seen.codec) seen.limit c.count-count.result seen.samples c.args.values.now count.value growth.held growth.few in
    let made = exchanged_to_last g.C.Codec.format g.C.Codec.called g.C.Codec.read seen _ _ _ c.args.values.now (g.C.Codec.lawful seen.codec) count.held fits
    (c.intervals-to.ensures ∙ ap (λ k. div_ceil k (g.C.Codec.format seen.codec).most) (sym count.value)) c.exchange.ensures in
    appended (g.C.Codec.format seen.codec) seen.limit (g.C.Codec.called seen.codec) (g.C.Codec.read seen.codec) _ seen.samples c.args.values.now
    c.exchange.result c.exchange.new.self.samples (g.C.Codec.called c.exchange.new.self.codec) (g.C.Codec.read c.exchange.new.self.codec)
    (g.C.Codec.lawful seen.codec).some (search rules) count.value growth.held growth.few made.answer made.ok made.err made.reads
