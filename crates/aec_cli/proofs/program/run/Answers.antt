use Rattle.std.proofs.Common.{◌≡◌, ◌<◌, arith}
use Rattle.aec_cli.proofs.EndLemmas.{begun-Leaves, begun-LeavesEdited, begun_mapped, synced_mapped}
use Rattle.aec_cli.proofs.program.run.Goals as goal
use Rattle.aec_cli.proofs.program.run.Goals.{in-Edit+in_ok-map_err-in-Edit+in-Open-1, in-Edit+in_ok-map_err-in-Edit+in-Unopened-1, in_default+in_ok-map_err-in_default}

pub returns-clause-done : goal.returns-clause-done
returns-clause-done g c =
    let begun : 0 < c.match-action.sink.begins = elim c.match-action.branch [
      | in-Edit+in_ok-map_err-in-Edit+in-Open-1 w ↦
          let acted : 0 < w.act_by_script.new.sink.begins = begun_mapped w.act_by_script.result w.map_err.result _ _ w.map_err.ensures.variant
          w.in_ok-map_err-in-Edit.was (begun-LeavesEdited _ _ _ _ _ _ _ w.act_by_script.ensures) in
          let same : c.match-action.sink.begins ≡ w.act_by_script.new.sink.begins = cc in omega (arith, same, acted)
      | in-Edit+in_ok-map_err-in-Edit+in-Unopened-1 w ↦
          let acted : 0 < w.act_by_script.new.sink.begins = begun_mapped w.act_by_script.result w.map_err.result _ _ w.map_err.ensures.variant
          w.in_ok-map_err-in-Edit.was (begun-LeavesEdited _ _ _ _ _ _ _ w.act_by_script.ensures) in
          let same : c.match-action.sink.begins ≡ w.act_by_script.new.sink.begins = cc in omega (arith, same, acted)
      | in_default+in_ok-map_err-in_default w ↦
          let acted : 0 < w.act.new.sink.begins = begun_mapped w.act.result w.map_err-in_default.result _ _ w.map_err-in_default.ensures.variant
          w.in_ok-map_err-in_default.was (begun-Leaves _ _ _ _ _ w.act.ensures) in
          let same : c.match-action.sink.begins ≡ w.act.new.sink.begins = cc in omega (arith, same, acted)
    ] in
    synced_mapped c.finish.result c.map_err-2.result _ c.map_err-2.ensures.cases c.map_err-2.ensures.variant (c.finish.ensures.synced begun)
