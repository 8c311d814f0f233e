use Rattle.std.proofs.Common.{refl, ap, ◌∙◌, rules, arith, ◌+◌, length}
use Rattle.std.specs.Int.{div_ceil}
use Rattle.aec_edit.proofs.BatchLemmas.{overwrite_change}
use Rattle.aec_edit.proofs.workspace.Workspace.overwrite_change.Goals as goal

pub returns : goal.returns
returns g c = λ s counted.
    let seen = c.args.self.now in
    overwrite_change (g.C.Codec.format seen.codec) seen.limit c.args.count s (g.C.Codec.lawful seen.codec) counted c.requires.few c.args.first _ _
    c.args.values.now c.exchange_for-2.result c.in_ok-check_values.ensures.ok.held (omega (arith, c.in_ok-check_places_of.ensures.ok)) (search rules) refl
    (c.div_ceil-to.ensures ∙ ap (div_ceil (c.args.first + length c.args.values.now)) c.interval_len.ensures.value) c.exchange_for-2.ensures
