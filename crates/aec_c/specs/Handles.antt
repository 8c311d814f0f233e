-- What a handle owns.
use Rattle.std.specs.Prelude.{Bool, true, false, Option, Some, None}
use base.Fml.{Fml, ftrue, ffalse}
use denote.RattleType.{RattleType}
use denote.RawPtr.{Ptr}
use Rattle.std.specs.contracts.impls.GlobalAllocator.TheImpl.{ghosts}
use Rattle.std.specs.Global.{Global}
use Rattle.std.specs.Box.Ownership.{box_owns}
use Rattle.aec_c.specs.contracts.kinds.Open as kinds

-- the allocator of all programs, which has no data
abbrev pub heap : Global
heap = record { memory = record { seal = record {} } }

-- the block at p with a value of a type, or nothing (in the kit's own terms of ownership)
abbrev pub box_or_nothing : (R : RattleType) → Bool → Ptr → Option R.Denot → Fml
box_or_nothing R true p (Some held) = box_owns (ghosts.dealloc_token heap) R p held
box_or_nothing R true p None = ffalse
box_or_nothing R false p (Some held) = ffalse
box_or_nothing R false p None = ftrue

-- what a handle owns
abbrev pub handle_owns : Bool → Ptr → Option kinds.the_row.Denot → Fml
handle_owns = box_or_nothing kinds.the_row
