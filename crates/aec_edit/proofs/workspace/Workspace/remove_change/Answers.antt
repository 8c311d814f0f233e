use Rattle.std.proofs.Common.{◌+◌, refl, ap, ◌∙◌, rules, arith}
use Rattle.aec_edit.proofs.MoveLemmas.{end_for}
use Rattle.aec_edit.proofs.BatchLemmas.{remove_change, ends_in}
use Rattle.aec_edit.proofs.workspace.Workspace.remove_change.Goals as goal

pub exchange_for-requires-2 : goal.exchange_for-requires-2
exchange_for-requires-2 g c =
    let seen = c.args.self.now in
    ends_in (g.C.Codec.format seen.codec).most seen.limit c.args.count c.args.first (c.args.first + c.args.len) _ c.args.len 0
    (g.C.Codec.lawful seen.codec).some c.requires.few (omega arith) (omega (arith, c.in_ok-check_places_of.ensures.ok))
    (c.end_for-to.ensures ∙ ap (λ n. end_for n c.args.count (c.args.first + c.args.len) c.args.len) c.interval_len.ensures.value)
    (omega (arith, c.in_ok-check_places_of.ensures.ok, c.requires.few))

pub returns : goal.returns
returns g c = λ s counted.
    let seen = c.args.self.now in
    remove_change (g.C.Codec.format seen.codec) seen.limit c.args.count s (g.C.Codec.lawful seen.codec) counted c.requires.few c.args.first c.args.len _ _
    c.exchange_for-2.result c.in_ok-check_places_of.ensures.ok (search rules) refl
    (c.end_for-to.ensures ∙ ap (λ n. end_for n c.args.count (c.args.first + c.args.len) c.args.len) c.interval_len.ensures.value)
    c.exchange_for-2.ensures
