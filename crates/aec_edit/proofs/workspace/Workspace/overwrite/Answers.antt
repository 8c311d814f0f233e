use Rattle.std.proofs.Common.{◌+◌, length, arith, rules, ap, ◌∙◌}
use Rattle.std.specs.Int.{div_ceil}
use Rattle.aec_edit.proofs.OverwriteLemmas.{overwrite_can, overwritten}
use Rattle.aec_edit.proofs.ExchangedLemmas.{can_exchange, exchanged_to_last}
use Rattle.aec_edit.proofs.workspace.Workspace.overwrite.Goals as goal

pub exchange-requires : goal.exchange-requires
exchange-requires g c =
    let seen = c.args.self.now in
    let places = c.in_ok-check_places.ensures in
    let fits = overwrite_can (g.C.Codec.format seen.codec) seen.limit c.args.first seen.samples c.args.values.now c.in_ok-check_values.ensures.ok.held
    (omega (arith, places.ok)) places.sound.count in
    can_exchange g.C.Codec.format g.C.Codec.called g.C.Codec.read seen c.args.first _ _ c.args.values.now (g.C.Codec.lawful seen.codec) places.sound.held
    fits (c.div_ceil-to.ensures ∙ ap (div_ceil (c.args.first + length c.args.values.now)) c.interval_len.ensures.value)

pub returns : goal.returns
returns g c =
    let seen = c.args.self.now in
    let places = c.in_ok-check_places.ensures in
    let held = c.in_ok-check_values.ensures.ok.held in
    let fits = overwrite_can (g.C.Codec.format seen.codec) seen.limit c.args.first seen.samples c.args.values.now held (omega (arith, places.ok))
    places.sound.count in
    let made = exchanged_to_last g.C.Codec.format g.C.Codec.called g.C.Codec.read seen c.args.first _ _ c.args.values.now (g.C.Codec.lawful seen.codec)
    places.sound.held fits (c.div_ceil-to.ensures ∙ ap (div_ceil (c.args.first + length c.args.values.now)) c.interval_len.ensures.value)
    c.exchange.ensures in
    let applies = overwritten (g.C.Codec.format seen.codec) seen.limit (g.C.Codec.called seen.codec)
    (g.C.Codec.read seen.codec) c.args.first seen.samples c.args.values.now c.exchange.result
    c.exchange.new.self.samples (g.C.Codec.called c.exchange.new.self.codec) (g.C.Codec.read c.exchange.new.self.codec) (g.C.Codec.lawful seen.codec).some
    (search rules) held (omega (arith, places.ok)) made.answer made.ok made.err made.reads in
    record {
      applies = applies;
      rules = record { limit = c.exchange.ensures.limit; format = c.exchange.ensures.format };
      refused = c.exchange.ensures.refused;
    }
