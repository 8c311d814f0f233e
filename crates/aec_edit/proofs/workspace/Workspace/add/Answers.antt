use Rattle.std.proofs.Common.{length, refl, arith}
use Rattle.aec_bits.specs.Codec.{Format}
use Rattle.aec_edit.specs.Pieces.{all_places}
use Rattle.aec_edit.proofs.DraftLemmas.{AreAt-length, AreFrom-length}
use Rattle.aec_edit.proofs.RebuildLemmas.{added}
use Rattle.aec_edit.proofs.StepLemmas.{few_intervals}
use Rattle.aec_edit.proofs.workspace.Workspace.add.Goals as goal

pub exchange-requires-clause-within : goal.exchange-requires-clause-within
exchange-requires-clause-within g c =
    let is = c.requires.2 in
    let can = c.requires.3.can in
    omega (arith, can.within, AreAt-length _ (all_places c.args.draft.now.samples) c.requires.0 is.places)

pub exchange-requires-2-clause-within : goal.exchange-requires-2-clause-within
exchange-requires-2-clause-within g c =
    let seen = c.args.self.now in
    let f : Format = g.C.Codec.format seen.codec in
    let is = c.requires.2 in
    let can = c.requires.3.can in
    let size = AreFrom-length f.most (g.C.Codec.lawful seen.codec).some seen.samples (all_places c.args.draft.now.intervals) c.requires.0 is.marks in
    omega (arith, can.inside, size)

pub returns-clause-ok : goal.returns-clause-ok
returns-clause-ok g c = λ s most is can.
    let seen = c.args.self.now in
    let f : Format = g.C.Codec.format seen.codec in
    let past = few_intervals f.most (length seen.samples) (g.C.Codec.lawful seen.codec).some in
    added f seen.limit seen.samples s most _ c.args.draft.now _ c.args.change.now _ _ (g.C.Codec.lawful seen.codec) is can
    (omega (arith, past, c.count.ensures.few, c.count.ensures.bound)) (omega (arith, c.count.ensures.value, c.len.ensures)) refl
    c.in_ok-extend_from_slice.ensures.items c.in_ok-exchange.ensures.ok c.in_ok-exchange-2.ensures.ok c.in_ok-exchange.ensures.cut
    c.in_ok-exchange-2.ensures.cut refl
