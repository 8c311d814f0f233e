-- `into_loose` reads the flag, and returns the pointer with the ownership of the value, or `None`.
use Rattle.std.proofs.Common.{Bool, true, false, ℕ, [], ◌∷◌, refl}
use Rattle.std.specs.Prelude.{Option, None, Some}
use mir.Syntax.{Sym}
use mir.Val.{Val}
use base.Fml.{ftrue, fsep}
use base.Logic.{SProp, ent, emp}
use contract.Running.{Running}
use prog.Model.{Model}
use denote.Triple.Clauses.{Clauses}
use seplogic.Ra.Ura.{Ura}
use types.Logic.{Logic, sem}
use types.Kit.{‵, raw, ◌⊛◌, ◌$◌, ◌∵◌, !, qed, by, keep, drop, use1, split, join, fsplit3, fjoin, suffices, done}
use denote.Exit.{yes}
use denote.RattleType.{RattleType}
use denote.RawPtr.{Ptr, block_ptr}
use denote.Signature.{plain}
use denote.Steps.{nothing}
use denote.Triple.Walked.{Stays, walk_of, says, stay_dropped, Goes-dropped, ends_at}
use Rattle.std.proofs.raw_atomic.Walks.{proved}
use Rattle.std.specs.declared.alloc.Global.{Global}
use Rattle.std.specs.contracts.alloc.Global as heap
use Rattle.std.proofs.alloc.Global.TheLaws as heap_laws
use Rattle.aec_c.specs.contracts.kinds.Open as kinds
use Rattle.aec_c.proofs.kinds.Open.TheLaws as kinds_laws
use Rattle.aec_c.specs.contracts.handle.Handle as handle
use Rattle.aec_c.specs.contracts.handle.Handle.into_loose as f
use Rattle.aec_c.proofs.handle.Handle.TheLaws.{lowers}
use Rattle.aec_c.proofs.HandleSteps.{word, handle_out}
use Rattle.aec_c.proofs.HandleWalks.{Out, made, walk}
use Rattle.aec_c.proofs.handle.Handle.into_loose.Statement.{statement}
use Rattle.aec_c.proofs.handle.Handle.into_loose.Code as code

abbrev stayed : Stays f.ended.signature.params f.ended.kept
stayed = (stay_dropped (plain (λ _. handle.the_row)) yes, (stay_dropped (plain (λ _. heap.the_row)) yes, tt))

abbrev name : Sym
name = (handle.struct).name

abbrev Result : RattleType
Result = Out kinds.the_row kinds_laws.the_row_laws

module _ {M : Type 1} (𝓤 : Ura M) (𝓛 : Logic 𝓤) (𝓜 : Model 𝓤 𝓛.H) (𝓡 : Running 𝓤 𝓛.H 𝓜) (a : Global) where
  abbrev c : Clauses 𝓤 f.ended
  c = f.clauses 𝓛 𝓜.mem 𝓡.returns

  abbrev at_entry : Ptr → Bool → Option kinds.the_row.Denot → (walk_of 𝓛 f.ended stayed c).Ghost
  at_entry p t x = ((tt, tt, tt, (record { at = p; full = t; value = x }, (a, tt)), (word p t ∷ [], (heap_laws.lowered a ∷ [], tt))), tt)

  abbrev Post : Ptr → Bool → Option kinds.the_row.Denot → Val → SProp 𝓤
  Post p t x = (walk_of 𝓛 f.ended stayed c).post (at_entry p t x)

  full : (b o : ℕ) (x : kinds.the_row.Denot) (v : Val)
      → ent 𝓤 (sem 𝓛 (Result.own_val (Some (made kinds.the_row kinds_laws.the_row_laws a b o x)) (v ∷ []))) (Post (block_ptr b o) true (Some x) v)
  full b o x v =
      let loose = made kinds.the_row kinds_laws.the_row_laws a b o x in
      qed 𝓛 (‵ (Result.own_val (Some loose) (v ∷ [])) ∷ []) ∵
      suffices ! _ (ends_at 𝓛 f.ended stayed c (at_entry (block_ptr b o) true (Some x)) v (Some loose) (tt, (tt, tt)) (tt, (tt, tt))) $ says ! refl $
      nothing ! $ nothing ! $ fjoin ! $ nothing ! $ fjoin ! $ join ! $ nothing ! $ join ! $ done !

  none : (p : Ptr) (v : Val) → ent 𝓤 (sem 𝓛 (Result.own_val None (v ∷ []))) (Post p false None v)
  none p v =
      qed 𝓛 (‵ (Result.own_val None (v ∷ [])) ∷ []) ∵
      suffices ! _ (ends_at 𝓛 f.ended stayed c (at_entry p false None) v None (tt, (tt, tt)) (tt, (tt, tt))) $ says ! refl $
      nothing ! $ nothing ! $ fjoin ! $ nothing ! $ fjoin ! $ join ! $ nothing ! $ join ! $ done !

pub into_loose_spec : {M : Type 1} → statement M
into_loose_spec 𝓤 𝓛 𝓜 𝓡 wired =
    let goes = Goes-dropped 𝓛 0 (plain (λ _. handle.the_row)) yes (λ κs x w. refl) in
    let frees = Goes-dropped 𝓛 0 (plain (λ _. heap.the_row)) yes (λ κs x w. refl) in
    proved 𝓛 f.ended stayed (f.clauses 𝓛 𝓜.mem 𝓡.returns) 𝓜 𝓡 (goes, (frees, tt)) f.Key.name code.function (code.unfolded 𝓤 𝓛.H 𝓜 𝓡 wired)
    (λ κs. ((λ d. word d.at d.full ∷ []), ((λ a. heap_laws.lowered a ∷ []), tt))) (λ κs. (lowers.val_is, (heap_laws.lowers.val_is, tt)))
    (λ κs qs bounds a g are. let d = a.0 in let h = a.1.0 in let vs = heap_laws.lowered h ∷ [] in
    qed 𝓛 ((‵ ftrue ⊛ ‵ (fsep ((handle.the_row).own_val d (word d.at d.full ∷ [])) (fsep ((heap.the_row).own_val h vs) ftrue))) ∷ raw (emp 𝓤) ∷ []) ∵
    split ! $ drop ! $ fsplit3 ! $ use1 𝓛 (‵ (handle.the_heap d)) (handle_out 𝓛 name d.at d.full (handle.the_heap d)) $ keep ! (0 ∷ 1 ∷ []) $
    by ! (walk kinds.the_row kinds_laws.the_row_laws name 𝓤 𝓛 𝓜 𝓡 h (Post 𝓤 𝓛 𝓜 𝓡 h) (full 𝓤 𝓛 𝓜 𝓡 h) (none 𝓤 𝓛 𝓜 𝓡 h) d.at d.full d.value))
