use Rattle.std.proofs.Common.{ap, ◌∙◌, rules, arith, length}
use Rattle.aec_edit.proofs.MoveLemmas.{end_for}
use Rattle.aec_edit.proofs.BatchLemmas.{insert_change, ends_in}
use Rattle.aec_edit.proofs.workspace.Workspace.insert_change.Goals as goal

pub exchange_for-requires-2 : goal.exchange_for-requires-2
exchange_for-requires-2 g c =
    let seen = c.args.self.now in
    ends_in (g.C.Codec.format seen.codec).most seen.limit c.args.count c.args.first c.args.first _ _ (length c.args.values.now)
    (g.C.Codec.lawful seen.codec).some c.requires.few (omega arith) (omega (arith, c.in_ok-check_places_of.ensures.ok))
    (c.end_for-to.ensures ∙ ap (λ n. end_for n c.args.count c.args.first (length c.args.values.now)) c.interval_len.ensures.value)
    (omega (arith, c.in_ok-check_growth_of.ensures.few, c.in_ok-check_places_of.ensures.ok))

pub returns : goal.returns
returns g c = λ s counted.
    let seen = c.args.self.now in
    let growth = c.in_ok-check_growth_of.ensures.ok s counted.length_is in
    insert_change (g.C.Codec.format seen.codec) seen.limit c.args.count s (g.C.Codec.lawful seen.codec) counted c.requires.few c.args.first _
    c.args.values.now c.exchange_for-2.result (omega (arith, c.in_ok-check_places_of.ensures.ok)) growth.held growth.few (search rules)
    (c.end_for-to.ensures ∙ ap (λ n. end_for n c.args.count c.args.first (length c.args.values.now)) c.interval_len.ensures.value)
    c.exchange_for-2.ensures
