-- The walk of `into_loose`, which takes a handle apart, whatever the handle holds. Assumes `Logic`.
use Rattle.std.proofs.Common.{Bool, true, false, ℕ, List, [], ◌∷◌, refl, subst, lit<}
use Rattle.std.specs.Prelude.{Option, None, Some}
use lib.Dec.{T}
use base.Fraction.{full_share}
use denote.Memory.{part_at, part_of, raw_all}
use mir.Syntax.{Sym, Ty, Fn, Body, local, value_local, ty_ptr, ty_bool, w8, place, field, copy, int, rv_opd, aggregate, assign, cond, seq, return}
use mir.Val.{Val, vcons, vnil, has_ty, WT}
use base.Fml.{Fml, ffalse, ftrue}
use base.Logic.{SProp, ent, sep, id⊢, never_e}
use prog.Wp.{WpFn}
use contract.Running.{Running, MachineTables, tables}
use prog.Model.{Model}
use seplogic.Ra.Ura.{Ura}
use types.Logic.{Logic, sem}
use types.Match.{live}
use types.Kit.{‵, at_ret, ◌$◌, ◌∵◌, !, qed, by, keep, drop, use0, use1, fsplit}
use types.Run.{enter, stop, fld, lit, of_opd, no_more, and_then, first, branches, exec, returns}
use types.Part.{agg, sub, whole}
use types.ByLocal.{alloc_all, pass_all, free_all, look_at, get, get_in, sets, sets_last, env}
use denote.Param.{layout as layout_of}
use denote.Param.Laws.{Laws}
use denote.RattleType.{RattleType}
use denote.RawPtr.{Ptr, block_ptr, null_ptr}
use denote.Struct.Struct.{layout}
use Rattle.std.proofs.option.Made.{Some-of, none_of}
use Rattle.std.proofs.alloc.Shapes.{after}
use Rattle.std.proofs.BoxSteps.Form as box
use Rattle.std.proofs.BoxSteps.Steps.{box_in}
use Rattle.std.specs.declared.alloc.Global.{Global}
use Rattle.std.specs.contracts.alloc.Global as heap
use Rattle.std.specs.contracts.option.Option as option
use Rattle.std.proofs.alloc.Global.TheLaws as heap_laws
use Rattle.aec_c.specs.Handles.{box_or_nothing}
use Rattle.aec_c.proofs.HandleSteps.{word, fields_of, ptr_good, word_good}
use Rattle.aec_c.proofs.BoxedValues.{boxed, LooseOf}

module _ (R : RattleType) (L : Laws R) where
  abbrev E : box.Bx
  E = boxed R L

  abbrev Loose : RattleType
  Loose = LooseOf (box.R E)

  abbrev pub Out : RattleType
  Out = option.the_row Loose

  abbrev pub made : Global → ℕ → ℕ → R.Denot → Loose.Denot
  made a b o x = record { at = block_ptr b o; alloc = a; value = x }

  -- the code of `into_loose`, which doesn't name the type of what is held
  abbrev taken : Body
  taken = seq (assign (place 7 []) (rv_opd (copy (place 3 []))))
      (seq (assign (place 8 []) (aggregate (copy (place 7 []) ∷ copy (place 2 []) ∷ [])))
      (assign (place 6 []) (aggregate (int w8 1 ∷ copy (place 8 []) ∷ []))))

  abbrev pub into_loose : Sym → Fn
  into_loose name = record {
    lifetimes = 0;
    outlives = [];
    ty_params = [];
    givens = 0;
    params = 2;
    locals = local (layout_of Out) value_local ∷ local (layout (fields_of name)) value_local ∷ local (layout_of heap.the_row) value_local
        ∷ local ty_ptr value_local ∷ local ty_bool value_local ∷ local ty_bool value_local ∷ local (layout_of Out) value_local
        ∷ local ty_ptr value_local ∷ local (layout_of Loose) value_local ∷ [];
    body = seq (assign (place 3 []) (rv_opd (copy (place 1 (field 0 ∷ [])))))
        (seq (assign (place 4 []) (rv_opd (copy (place 1 (field 1 ∷ [])))))
        (seq (assign (place 5 []) (rv_opd (copy (place 4 []))))
        (seq (cond (copy (place 5 [])) taken (assign (place 6 []) (aggregate (int w8 0 ∷ []))))
        (seq (assign (place 0 []) (rv_opd (copy (place 6 [])))) return))));
  }

  module _ (name : Sym) {M : Type 1} (𝓤 : Ura M) (𝓛 : Logic 𝓤) (𝓜 : Model 𝓤 𝓛.H) (𝓡 : Running 𝓤 𝓛.H 𝓜) (a : Global) where
    abbrev 𝓣 : MachineTables 𝓤 𝓛.H 𝓜
    𝓣 = tables 𝓤 𝓛.H 𝓜 𝓡 𝓡.env

    abbrev hv : Val
    hv = heap_laws.lowered a

    abbrev Freeing : Fml
    Freeing = (heap.the_row).own_val a (hv ∷ [])

    hv_good : T (has_ty (layout_of heap.the_row) hv) × WT hv
    hv_good = (tt, ((tt, tt), tt))

    -- the value at a place, in the form of a generic proof
    as_param : (b o : ℕ) (x : R.Denot) → ent 𝓤 (sem 𝓛 (part_at R full_share x b o)) (sem 𝓛 (part_at (box.R E) full_share x b o))
    as_param b o x =
        subst (λ (τs : List Ty). ent 𝓤 (sem 𝓛 (part_at R full_share x b o)) (sem 𝓛 (part_of (raw_all τs) R.own_val full_share x b o))) L.one (id⊢ 𝓤 _)

    -- for any `Post` that the result implies: `full` for a full handle, `none` for an empty one
    module _ (Post : Ptr → Bool → Option R.Denot → Val → SProp 𝓤)
        (full : (b o : ℕ) (x : R.Denot) (v : Val) → ent 𝓤 (sem 𝓛 (Out.own_val (Some (made a b o x)) (v ∷ []))) (Post (block_ptr b o) true (Some x) v))
        (none : (p : Ptr) (v : Val) → ent 𝓤 (sem 𝓛 (Out.own_val None (v ∷ []))) (Post p false None v)) where
      abbrev Run : Ptr → Bool → Option R.Denot → SProp 𝓤
      Run p t x = WpFn 𝓤 𝓛.H 𝓣.C 𝓣.Λ (into_loose name) (word p t ∷ hv ∷ []) (Post p t x)

      pub walk : (p : Ptr) (t : Bool) (x : Option R.Denot) → ent 𝓤 (sep 𝓤 (sem 𝓛 (box_or_nothing R t p x)) (sem 𝓛 Freeing)) (Run p t x)
      walk p true None = qed 𝓛 (‵ ffalse ∷ ‵ Freeing ∷ []) ∵ keep ! (0 ∷ []) $ by ! (never_e 𝓤 _)
      walk p false (Some x) = qed 𝓛 (‵ ffalse ∷ ‵ Freeing ∷ []) ∵ keep ! (0 ∷ []) $ by ! (never_e 𝓤 _)
      walk null_ptr true (Some x) = qed 𝓛 (‵ (box_or_nothing R true null_ptr (Some x)) ∷ ‵ Freeing ∷ []) ∵ fsplit ! $ keep ! (0 ∷ []) $ by ! (never_e 𝓤 _)
      walk (block_ptr b o) true (Some x) =
          let bw = box.word E hv b o in let v : Val = live 1 (vcons bw vnil) in
          let typed = box.box_typed E hv b o hv_good in
          let good : T (has_ty (layout_of Out) v) × WT v = (tt, (record { fits = lit< tt }, (typed.1, tt))) in
          qed 𝓛 (‵ (box_or_nothing R true (block_ptr b o) (Some x)) ∷ ‵ Freeing ∷ []) ∵ fsplit ! $
          use1 𝓛 (‵ (part_at (box.R E) full_share x b o)) (as_param b o x) $
          box_in E ! {hv = hv} (record { ptr = block_ptr b o; alloc = a; value = x }) b o x refl refl $
          use1 𝓛 (‵ (Loose.own_val (made a b o x) (bw ∷ []))) (id⊢ 𝓤 _) $
          use1 𝓛 (‵ (Out.own_val (Some (made a b o x)) (v ∷ []))) (Some-of 𝓛 Loose (made a b o x) bw) $
          enter ! _ _ _ _ _ $ alloc_all ! (λ l. pass_all ! refl (word_good name (block_ptr b o) true, (hv_good, tt)) $
          let Ev = env (into_loose name).locals l in
          sets ! (of_opd ! (get_in ! (fld ! refl (stop !)) (sub ! 0 refl (whole !)))) refl (tt, tt) $
          sets ! (of_opd ! (get_in ! (fld ! refl (stop !)) (sub ! 1 refl (whole !)))) refl (tt, tt) $
          sets ! (of_opd ! (get ! refl)) refl (tt, tt) $ first ! $ branches ! (get ! refl)
          (λ _. sets ! (of_opd ! (get ! refl)) refl (tt, tt) $
          sets ! (agg ! (and_then ! (get ! refl) (and_then ! (get ! refl) (no_more !)))) refl typed $
          sets_last ! (agg ! (and_then ! (lit ! tt) (and_then ! (get ! refl) (no_more !)))) refl good $
          exec ! 𝓣.C 𝓣.Λ Ev (after 4 (into_loose name).body) (at_ret Ev (Post (block_ptr b o) true (Some x))) $
          sets ! (of_opd ! (get ! refl)) refl good $ returns ! (look_at ! 0 refl) $ free_all ! refl $ by ! (full b o x v))
          (λ wrong. absurd wrong))
      walk p false None =
          let v : Val = live 0 vnil in let good : T (has_ty (layout_of Out) v) × WT v = (tt, (record { fits = lit< tt }, tt)) in
          qed 𝓛 (‵ ftrue ∷ ‵ Freeing ∷ []) ∵ drop ! $ drop ! $ use0 𝓛 (‵ (Out.own_val None (v ∷ []))) (none_of 𝓛 Loose) $
          enter ! _ _ _ _ _ $ alloc_all ! (λ l. pass_all ! refl (word_good name p false, (hv_good, tt)) $ let Ev = env (into_loose name).locals l in
          sets ! (of_opd ! (get_in ! (fld ! refl (stop !)) (sub ! 0 refl (whole !)))) refl (ptr_good p) $
          sets ! (of_opd ! (get_in ! (fld ! refl (stop !)) (sub ! 1 refl (whole !)))) refl (tt, tt) $
          sets ! (of_opd ! (get ! refl)) refl (tt, tt) $ first ! $ branches ! (get ! refl) (λ wrong. absurd wrong)
          (λ _. sets_last ! (agg ! (and_then ! (lit ! tt) (no_more !))) refl good $
          exec ! 𝓣.C 𝓣.Λ Ev (after 4 (into_loose name).body) (at_ret Ev (Post p false None)) $
          sets ! (of_opd ! (get ! refl)) refl good $ returns ! (look_at ! 0 refl) $ free_all ! refl $ by ! (none p v)))
