-- The box of what a handle holds, in the form that the proofs of `Box` use.
use mathlib.Core.List.{[]}
use mir.Syntax.{impl, tnil, dnil}
use denote.RattleType.{RattleType}
use denote.Param.Laws.{Laws}
use denote.Signature.{Slot, plain}
use Rattle.std.proofs.BoxSteps.Form.{Bx}
use Rattle.std.specs.contracts.alloc.Global as heap
use Rattle.std.specs.contracts.impls.GlobalAllocator.TheImpl.{ghosts, dict}
use Rattle.std.proofs.alloc.Global.TheLaws as heap_laws
use Rattle.aec_c.specs.contracts.handle.loose.Loose as loose

abbrev pub boxed : (R : RattleType) → Laws R → Bx
boxed R laws = record {
  row = R;
  laws = laws;
  al = record { row = heap.the_row; laws = heap_laws.the_row_laws; g = ghosts; d = dict; drops = impl [] tnil dnil };
}

abbrev pub LooseOf : RattleType → RattleType
LooseOf R = loose.the_row R heap.the_row ghosts

abbrev pub FromLoose : RattleType → Slot 0
FromLoose R = plain (λ _. LooseOf R)
