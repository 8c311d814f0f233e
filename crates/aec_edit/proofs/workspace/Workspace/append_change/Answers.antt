use Rattle.std.proofs.Common.{ap, ◌∙◌, rules, arith}
use Rattle.std.specs.Int.{div_ceil}
use Rattle.aec_edit.proofs.BatchLemmas.{append_change, to_last_in}
use Rattle.aec_edit.proofs.workspace.Workspace.append_change.Goals as goal

pub exchange_for-requires-2 : goal.exchange_for-requires-2
exchange_for-requires-2 g c =
    let seen = c.args.self.now in
    to_last_in (g.C.Codec.format seen.codec).most seen.limit c.args.count c.args.count c.args.count _ _ (g.C.Codec.lawful seen.codec).some c.requires.few
    (omega arith) (omega arith) (c.div_ceil-to.ensures ∙ ap (div_ceil c.args.count) c.interval_len.ensures.value)
    (omega (arith, c.in_ok-check_growth_of.ensures.few))

pub returns : goal.returns
returns g c = λ s counted.
    let seen = c.args.self.now in
    let growth = c.in_ok-check_growth_of.ensures.ok s counted.length_is in
    append_change (g.C.Codec.format seen.codec) seen.limit c.args.count s (g.C.Codec.lawful seen.codec) counted c.requires.few _ c.args.values.now
    c.exchange_for-2.result growth.held growth.few (search rules) (c.div_ceil-to.ensures ∙ ap (div_ceil c.args.count) c.interval_len.ensures.value)
    c.exchange_for-2.ensures
