use Rattle.std.proofs.Common.{◌≡◌, length, refl, inl, inr, ap, sym, subst, ◌∙◌, arith}
use Rattle.aec_c.specs.Kinds.{workspace_in}
use Rattle.aec_c.specs.Replies.{done}
use Rattle.aec_c.specs.HandleLoads.{AreRead, loaded, unread, not_held}
use Rattle.aec_c.proofs.handle_loads.load.Goals as goal

pub returns-in-Ok-hold : goal.returns-in-Ok-hold
returns-in-Ok-hold c =
    let many : c.len.result ≡ length c.deref.result.now = omega (arith, c.len.ensures, c.in-Ok.samples.ok.0, ap length c.deref.ensures.value) in
    loaded c.deref.result.now c.in-Ok-workspace_with.work (subst (AreRead _ _ _) (sym c.deref.ensures.value) c.in-Ok.ensures.ok)
    (ap workspace_in c.in-Ok-hold.ensures.ok) c.in-Ok-workspace_with.ensures.ok (c.answered.ensures ∙ ap done many)

pub returns-in-Ok-workspace_with : goal.returns-in-Ok-workspace_with
returns-in-Ok-workspace_with c =
    let says = c.in-Err-hold.ensures in
    not_held c.deref.result.now c.in-Err-hold.fault (subst (AreRead _ _ _) (sym c.deref.ensures.value) c.in-Ok.ensures.ok)
    (inr (c.in-Ok-workspace_with.ensures.ok.allowed, inl says.fault)) says.err c.refused.ensures

pub returns-in-Ok : goal.returns-in-Ok
returns-in-Ok c =
    not_held c.deref.result.now c.in-Err-workspace_with.fault (subst (AreRead _ _ _) (sym c.deref.ensures.value) c.in-Ok.ensures.ok)
    c.in-Err-workspace_with.ensures.refuses refl c.refused-in-Err-workspace_with.ensures

pub returns : goal.returns
returns c = unread c.in-Err.fault c.in-Err.ensures.refuses refl c.refused-in-Err.ensures
