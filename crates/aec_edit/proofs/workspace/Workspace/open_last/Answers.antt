use Rattle.std.proofs.Common.{◌≡◌, ◌++◌, length, sym, subst, ap, ◌∙◌}
use Rattle.std.specs.Result.{OnOk}
use Rattle.std.proofs.lemmas.List.{append-nil}
use Rattle.aec_params.specs.declared.fault.Fault.TheVariants.{Memory}
use Rattle.aec_edit.specs.Unchanged.{IsOnlyRead}
use Rattle.aec_edit.proofs.OpenedLemmas.{behind_by, not_behind_by, last_within, one_of, none_of, one_fault}
use Rattle.aec_edit.proofs.workspace.Workspace.open_last.Goals as goal

pub decode_interval-requires : goal.decode_interval-requires
decode_interval-requires g c =
    last_within (g.C.Codec.format c.args.self.now.codec).most (length c.args.self.now.samples) c.args.first c.args.stop
    (g.C.Codec.lawful c.args.self.now.codec).some c.requires.order _ _ _ c.interval_len-interval_len.ensures.value c.is_opened.ensures _
    c.div_ceil.ensures c.saturating_sub-last.ensures c.if-last-first.false c.requires.within

pub returns-then-is_opened-clause-ok : goal.returns-then-is_opened-clause-ok
returns-then-is_opened-clause-ok g c =
    let one = behind_by (g.C.Codec.format c.args.self.now.codec).most (length c.args.self.now.samples) c.args.first c.args.stop
    (g.C.Codec.lawful c.args.self.now.codec).some c.requires.order _ _ _ c.interval_len-interval_len.ensures.value c.is_opened.ensures _
    c.div_ceil.ensures c.saturating_sub-last.ensures c.if-last-first.false c.if-is_opened.true in
    subst (λ l. OnOk c.decode_interval.result (c.decode_interval.new.out.items ≡ c.args.ends.now.items ++ l)) (sym (one_of _ _ c.args.self.now.samples _ one))
    c.decode_interval.ensures.ok

pub returns-then-is_opened-clause-fault : goal.returns-then-is_opened-clause-fault
returns-then-is_opened-clause-fault g c =
    let one = behind_by (g.C.Codec.format c.args.self.now.codec).most (length c.args.self.now.samples) c.args.first c.args.stop
    (g.C.Codec.lawful c.args.self.now.codec).some c.requires.order _ _ _ c.interval_len-interval_len.ensures.value c.is_opened.ensures _
    c.div_ceil.ensures c.saturating_sub-last.ensures c.if-last-first.false c.if-is_opened.true in
    one_fault c.decode_interval.result (λ e. e ≡ Memory) _ _ one c.decode_interval.ensures.fault

pub returns-then-is_opened-clause-read : goal.returns-then-is_opened-clause-read
returns-then-is_opened-clause-read g c =
    let one = behind_by (g.C.Codec.format c.args.self.now.codec).most (length c.args.self.now.samples) c.args.first c.args.stop
    (g.C.Codec.lawful c.args.self.now.codec).some c.requires.order _ _ _ c.interval_len-interval_len.ensures.value c.is_opened.ensures _
    c.div_ceil.ensures c.saturating_sub-last.ensures c.if-last-first.false c.if-is_opened.true in
    subst (λ many. IsOnlyRead g.C.Codec.format g.C.Codec.called g.C.Codec.read many c.args.self.now c.decode_interval.new.self) (sym (ap length one))
    c.decode_interval.ensures.read

pub returns-clause-ok : goal.returns-clause-ok
returns-clause-ok g c =
    let none = not_behind_by (g.C.Codec.format c.args.self.now.codec).most (length c.args.self.now.samples) c.args.first c.args.stop
    (g.C.Codec.lawful c.args.self.now.codec).some c.requires.order _ _ _ c.interval_len-interval_len.ensures.value c.is_opened.ensures _
    c.div_ceil.ensures c.saturating_sub-last.ensures c.if-last-first.false c.if-is_opened.false in
    sym (ap (λ l. c.args.ends.now.items ++ l) (none_of _ c.args.self.now.samples _ none) ∙ append-nil c.args.ends.now.items)
