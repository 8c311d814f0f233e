-- What a script does to the workspace that a handle holds, and the reply: all edits are applied, or
-- none.
use Rattle.std.specs.Prelude.{◌≡◌, ◌≢◌, ℕ, ◌<◌, ◌⊎◌, false, Option, Some, None, Result, Ok, Err, IfErr, List, length}
use Rattle.std.specs.List.{slice_get}
use Rattle.std.specs.Option.{option_map_or}
use Rattle.aec_params.specs.declared.fault.Fault.{Fault}
use Rattle.aec_params.specs.declared.fault.Fault.TheVariants.{Memory}
use Rattle.aec_params.specs.declared.edit.Edit.{Edit}
use Rattle.aec_edit.specs.declared.outcome.Stop.{Stop}
use Rattle.aec_edit.specs.Batches.{AreAllOrNone}
use Rattle.aec_engine.specs.declared.scripts.EditFault.{EditFault}
use Rattle.aec_engine.specs.declared.scripts.EditFault.TheVariants.{Plain, Line}
use Rattle.aec_engine.specs.Transfers.{input_of}
use Rattle.aec_engine.specs.Output.{intake_refusal}
use Rattle.aec_engine.specs.Scripts.{Listing, listing_of}
use Rattle.aec_engine.specs.Editing.{script_refusal}
use Rattle.aec_c.specs.declared.kinds.OpenWorkspace.{OpenWorkspace}
use Rattle.aec_c.specs.declared.kinds.Open.{Open}
use Rattle.aec_c.specs.declared.reply.Reply.{Reply}
use Rattle.aec_c.specs.declared.stream_edits.EditReply.{EditReply}
use Rattle.aec_c.specs.Calls.{most}
use Rattle.aec_c.specs.Kinds.{workspace_in}
use Rattle.aec_c.specs.Replies.{done, refused_for}
use Rattle.aec_c.specs.HandleCalls.{format_of, not_open}
use Rattle.aec_c.specs.StreamEdits.{fault_in, line_in}

-- the reply if all edits were applied: how many intervals they coded, and how many samples there
-- are now
abbrev pub all_applied : ℕ → ℕ → EditReply
all_applied coded samples = record { reply = done coded; line = 0; samples = samples }

-- a reply that only says why nothing was applied
abbrev pub only_reply : Reply → EditReply
only_reply reply = record { reply = reply; line = 0; samples = 0 }

-- the reply to a refusal, which may name the line of an edit
abbrev pub none_applied : EditFault → EditReply
none_applied fault = record { reply = refused_for (fault_in fault); line = line_in fault; samples = 0 }

-- a refusal of edits, with the line of the edit at its place; without a line if the place is after
-- the last edit: then an allocation for all edits together failed
abbrev pub refusal_on : List ℕ → Stop → EditFault
refusal_on lines stop = option_map_or (λ line. Line line stop.fault) (slice_get lines stop.place) (Plain stop.fault)

-- the reply to edits that stand on these lines; `samples` is the number of samples after them
abbrev pub edits_reply : List ℕ → Result ℕ Stop → ℕ → EditReply
edits_reply lines (Ok coded) samples = all_applied coded samples
edits_reply lines (Err stop) samples = none_applied (refusal_on lines stop)

-- edits, each on its line of a script, applied to a workspace all or none, and the reply (what
-- `apply_all` of aec_edit promises)
pub record AppliesEdits (edits : List Edit) (lines : List ℕ) (before after : OpenWorkspace) (reply : EditReply)
    : Type 0 where
  pub answer : Result ℕ Stop
  pub replied : reply ≡ edits_reply lines answer (length after.workspace.samples)
  pub applies : AreAllOrNone (format_of before) before.workspace.limit before.workspace.samples
      before.workspace.codec.calls edits answer after.workspace.samples after.workspace.codec.calls
  pub limit : after.workspace.limit ≡ before.workspace.limit
  pub format : format_of after ≡ format_of before
  pub err : IfErr answer (λ stop. stop.fault ≢ Memory → after.workspace ≡ before.workspace)

-- why the edits of a script are not tried: `aecp_edit` would refuse the script too, for its length
-- or for its first line that is no edit; or memory was refused for its edits, of which it has one
-- at least, and it isn't too long
abbrev pub RefusesScript : List ℕ → Fault → Type 0
RefusesScript script fault =
    (script_refusal most.bytes (input_of script false) ≡ Some fault)
    ⊎ ((fault ≡ Memory) × (intake_refusal most.bytes (input_of script false) ≡ None)
    × (0 < length (listing_of script).edits))

-- a script, carried out on a workspace: it is refused and changes nothing, or its edits are applied
-- all or none
pub data CarriesOut (script : List ℕ) (before after : OpenWorkspace) (reply : EditReply) : Type 0 where
  not_tried : (fault : Fault) → RefusesScript script fault → after ≡ before → reply ≡ none_applied (Plain fault)
      → CarriesOut script before after reply
  tried : script_refusal most.bytes (input_of script false) ≡ None
      → (let read : Listing = listing_of script in AppliesEdits read.edits read.lines before after reply)
      → CarriesOut script before after reply

-- a script, carried out on what a handle holds, if this is a workspace; else nothing is changed
pub data AppliesScript (script : List ℕ) (old new : Option Open) (reply : EditReply) : Type 0 where
  held : (before after : OpenWorkspace) → workspace_in old ≡ Some before → workspace_in new ≡ Some after
      → CarriesOut script before after reply → AppliesScript script old new reply
  not_held : workspace_in old ≡ None → new ≡ old → reply ≡ only_reply not_open → AppliesScript script old new reply
