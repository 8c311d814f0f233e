-- `of_loose` moves the pointer, and with it the ownership of the value there.
use Rattle.std.proofs.Common.{true, List, [], ◌∷◌, ◌++◌, refl, sym, subst}
use Rattle.std.specs.Prelude.{Some}
use mir.Val.{Val}
use base.Fml.{ftrue, fsep}
use base.Logic.{SProp, ent, emp, id⊢}
use prog.Wp.{WpFn}
use contract.Running.{tables}
use types.Kit.{‵, raw, ◌⊛◌, ◌$◌, ◌∵◌, !, qed, move, drop, use1, split, join, fsplit, fjoin, suffices, done}
use types.Run.{enter, stop, fld, of_opd, true_lit, no_more, and_then, returns}
use types.Part.{agg, sub, whole}
use types.ByLocal.{alloc_all, pass_all, free_all, look_at, get, get_in, sets}
use denote.Exit.{yes}
use denote.RawPtr.{block_ptr}
use denote.Steps.{nothing}
use denote.Triple.Walked.{Stays, walk_of, says, stay_dropped, Goes-dropped, ends_at}
use Rattle.std.proofs.raw_atomic.Walks.{proved_at}
use Rattle.std.proofs.BoxSteps.Form as box
use Rattle.std.proofs.BoxSteps.Steps.{box_out}
use Rattle.aec_c.specs.Handles.{handle_owns}
use Rattle.aec_c.specs.declared.handle.Handle.{Handle}
use Rattle.aec_c.specs.contracts.kinds.Open as kinds
use Rattle.aec_c.proofs.kinds.Open.TheLaws as kinds_laws
use Rattle.aec_c.specs.contracts.handle.Handle as handle
use Rattle.aec_c.specs.contracts.handle.Handle.of_loose as f
use Rattle.aec_c.proofs.HandleSteps.{word, word_good, handle_in}
use Rattle.aec_c.proofs.BoxedValues.{boxed, FromLoose}
use Rattle.aec_c.proofs.handle.Handle.of_loose.Statement.{statement}
use Rattle.aec_c.proofs.handle.Handle.of_loose.Code as code

abbrev E : box.Bx
E = boxed kinds.the_row kinds_laws.the_row_laws

abbrev stayed : Stays f.ended.signature.params f.ended.kept
stayed = (stay_dropped (FromLoose kinds.the_row) yes, tt)

pub of_loose_spec : {M : Type 1} → statement M
of_loose_spec 𝓤 𝓛 𝓜 𝓡 wired =
    let c = f.clauses 𝓛 𝓜.mem 𝓡.returns in let 𝓣 = tables 𝓤 𝓛.H 𝓜 𝓡 𝓡.env in
    proved_at 𝓛 f.ended stayed c 𝓜 𝓡 (Goes-dropped 𝓛 0 (FromLoose kinds.the_row) yes (λ κs x w. refl), tt)
    f.Key.name code.function (code.unfolded 𝓤 𝓛.H 𝓜 𝓡 wired) (λ z are.
    let Run : List Val → SProp 𝓤 = λ vs. WpFn 𝓤 𝓛.H 𝓣.C 𝓣.Λ code.function vs ((walk_of 𝓛 f.ended stayed c).post z) in
    let v : box.D E = record { ptr = z.0.3.0.at; alloc = z.0.3.0.alloc; value = z.0.3.0.value } in
    qed 𝓛 ((‵ ftrue ⊛ ‵ (fsep ((box.B E).own_val v z.0.4.0) ftrue)) ∷ raw (emp 𝓤) ∷ []) ∵ split ! $ drop ! $ fsplit ! $
    box_out E ! v z.0.4.0 (λ b o hv e ws fa. fjoin ! $ move ! (1 ∷ 2 ∷ 3 ∷ []) $ drop ! $ drop ! $ drop ! $
    let made : Handle = record { at = block_ptr b o; full = true; value = Some v.value } in let w = word (block_ptr b o) true in let bw = box.word E hv b o in
    suffices ! (Run (bw ∷ [])) (subst (λ (us : List Val). ent 𝓤 (Run (bw ∷ [])) (Run us)) (sym (λ i. ws i ++ [])) (id⊢ 𝓤 (Run (bw ∷ [])))) $
    use1 𝓛 (‵ (handle_owns true (block_ptr b o) (Some v.value))) (id⊢ 𝓤 _) $
    enter ! _ _ _ _ _ $ alloc_all ! (λ l. pass_all ! refl (box.box_typed E hv b o fa, tt) $
    sets ! (of_opd ! (get_in ! (fld ! refl (stop !)) (sub ! 0 refl (whole !)))) refl (tt, tt) $
    sets ! (of_opd ! (get ! refl)) refl (tt, tt) $
    sets ! (agg ! (and_then ! (get ! refl) (and_then ! (true_lit !) (no_more !)))) refl (word_good (handle.struct).name (block_ptr b o) true) $
    use1 𝓛 (‵ ((handle.the_row).own_val made (w ∷ []))) (handle_in 𝓛 (handle.struct).name (block_ptr b o) true (handle.the_heap made)) $
    returns ! (look_at ! 0 refl) $ free_all ! refl $
    suffices ! _ (ends_at 𝓛 f.ended stayed c z w made (tt, tt) (tt, tt)) $ says ! refl $
    nothing ! $ nothing ! $ fjoin ! $ join ! $ nothing ! $ join ! $ done !)))
