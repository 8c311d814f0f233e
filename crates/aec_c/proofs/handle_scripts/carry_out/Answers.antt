use Rattle.std.proofs.Common.{refl}
use Rattle.aec_c.specs.ScriptCalls.{not_tried}
use Rattle.aec_c.proofs.handle_scripts.carry_out.Goals as goal

pub returns-in-Err : goal.returns-in-Err
returns-in-Err c = not_tried c.in-Err.fault c.in-Err.ensures.refuses refl c.refused_edit.ensures
