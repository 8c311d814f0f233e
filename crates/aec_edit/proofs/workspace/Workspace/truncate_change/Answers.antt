use Rattle.std.proofs.Common.{ap, ◌∙◌, arith}
use Rattle.std.specs.Int.{div_ceil}
use Rattle.aec_edit.proofs.BatchLemmas.{truncate_change}
use Rattle.aec_edit.proofs.workspace.Workspace.truncate_change.Goals as goal

pub returns : goal.returns
returns g c = λ s counted.
    let seen = c.args.self.now in
    truncate_change (g.C.Codec.format seen.codec) seen.limit c.args.count s (g.C.Codec.lawful seen.codec) counted c.requires.few c.args.stop _
    c.exchange_for-2.result (omega (arith, c.in_ok-check_places_of.ensures.ok, c.if-stop-count.false))
    (c.div_ceil-to.ensures ∙ ap (div_ceil c.args.count) c.interval_len.ensures.value) c.exchange_for-2.ensures
