-- The machine value of a handle: its fields, joined to what the handle owns and removed again.
-- Assumes `Logic`.
use Rattle.std.proofs.Common.{Bool, List, [], ◌∷◌, refl, lit<}
use lib.Dec.{T}
use seplogic.Ra.Ura.{Ura}
use mir.Syntax.{Sym, ty_ptr}
use mir.Val.{Val, vstruct, vbool, vcons, vnil, has_ty, WT}
use base.Fml.{Fml, fsep}
use base.Logic.{ent}
use types.Logic.{Logic, sem}
use types.Kit.{‵, ◌$◌, ◌∵◌, !, qed, drop, fsplit, fjoin, fpack, feq_i, done}
use denote.RattleType.{Valss}
use denote.Builtin.{bool}
use denote.Plain.{bool_vals}
use denote.RawPtr.{Ptr, RawPtr, block_ptr, null_ptr, ptr_val}
use denote.Steps.{nothing}
use denote.Struct.Struct.{Shape, Struct, layout, within}

abbrev pub word : Ptr → Bool → Val
word p full = vstruct (vcons (ptr_val p) (vcons (vbool full) vnil))

-- the fields of a handle of any kind: a pointer and a flag
abbrev pub fields_of : Sym → Shape
fields_of name = record { name = name; args = []; types = []; fields = RawPtr ∷ bool ∷ [] }

pub ptr_good : (p : Ptr) → T (has_ty ty_ptr (ptr_val p)) × WT (ptr_val p)
ptr_good (block_ptr b o) = (tt, tt)
ptr_good null_ptr = (tt, record { fits = lit< tt })

pub word_good : (name : Sym) (p : Ptr) (full : Bool) → T (has_ty (layout (fields_of name)) (word p full)) × WT (word p full)
word_good name (block_ptr b o) full = (tt, (tt, (tt, tt)))
word_good name null_ptr full = (tt, (record { fits = lit< tt }, (tt, tt)))

module _ {M : Type 1} {𝓤 : Ura M} (𝓛 : Logic 𝓤) (name : Sym) (p : Ptr) (full : Bool) (Owned : Fml) where
  abbrev Fields : Fml
  Fields = (Struct (fields_of name)).own_val (p, (full, tt)) (word p full ∷ [])

  pub handle_in : ent 𝓤 (sem 𝓛 Owned) (sem 𝓛 (fsep Fields Owned))
  handle_in =
      qed 𝓛 (‵ Owned ∷ []) ∵ nothing ! $ feq_i ! (List Val) (bool_vals full) (bool_vals full) refl $ fjoin ! $
      feq_i ! (List Val) (ptr_val p ∷ []) (ptr_val p ∷ []) refl $ fjoin ! $ feq_i ! (List Val) (word p full ∷ []) (word p full ∷ []) refl $ fjoin ! $
      fpack ! (Valss (RawPtr ∷ bool ∷ [])) (within (fields_of name) (p, (full, tt)) (word p full ∷ [])) (ptr_val p ∷ [], (bool_vals full, tt)) $
      fjoin ! $ done !

  pub handle_out : ent 𝓤 (sem 𝓛 (fsep Fields Owned)) (sem 𝓛 Owned)
  handle_out = qed 𝓛 (‵ (fsep Fields Owned) ∷ []) ∵ fsplit ! $ drop ! $ done !
