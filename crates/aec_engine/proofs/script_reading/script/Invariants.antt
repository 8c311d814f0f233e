use Rattle.std.proofs.Common.{◌≡◌, ◌≤◌, ◌+◌, length}
use Rattle.std.specs.Prelude.{option_map}
use Rattle.aec_engine.specs.Scripts.{listing_of, listing_from}
use Rattle.aec_engine.specs.ScriptLines.{after_listed, lines_left, text_left}
use Rattle.aec_engine.proofs.script_reading.script.Given as goal

abbrev pub invariant-loop-rest : goal.invariant-loop-rest
invariant-loop-rest l =
    (listing_of l.bytes ≡ after_listed l.read.edits.items l.read.lines.items (listing_from (l.number + 1) (lines_left (option_map (λ r. r.now) l.rest))))
    × (l.number + text_left (option_map (λ r. r.now) l.rest) ≤ length l.bytes + 1)

abbrev pub decreases-loop-rest : goal.decreases-loop-rest
decreases-loop-rest l = text_left (option_map (λ r. r.now) l.rest)
