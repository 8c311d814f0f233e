-- What the calls on a handle do and reply.
use Rattle.std.specs.Prelude.{◌≡◌, ◌≢◌, ℕ, ◌⊎◌, Option, Some, None, Result, Ok, Err, IfErr}
use Rattle.aec_params.specs.declared.fault.Fault.{Fault}
use Rattle.aec_params.specs.declared.fault.Fault.TheVariants.{Memory}
use Rattle.aec_params.specs.declared.edit.Edit.{Edit}
use Rattle.aec_bits.specs.Codec.{Format}
use Rattle.aec_interval.specs.IntervalFormat.{interval_format}
use Rattle.aec_edit.specs.Steps.{Applies}
use Rattle.aec_c.specs.declared.kinds.OpenWorkspace.{OpenWorkspace}
use Rattle.aec_c.specs.declared.kinds.Open.{Open}
use Rattle.aec_c.specs.declared.reply.Reply.{Reply}
use Rattle.aec_c.specs.Replies.{done, refused_for}
use Rattle.aec_c.specs.Kinds.{workspace_in}

-- the format of a workspace's intervals
abbrev pub format_of : OpenWorkspace → Format
format_of w = interval_format w.workspace.codec.params

-- the reply of a call on a handle, coder or reader that isn't open
abbrev pub not_open : Reply
not_open = record { fault = 19; place = 0; len = 0 }

-- a call on a handle, by what it does to what is held, if that is of the call's kind; a handle that
-- holds nothing, or something of another kind, is unchanged
pub data OnHandle {X : Type 0} (kind_in : Option Open → Option X) (Does : X → X → Reply → Type 0)
    (old new : Option Open) (reply : Reply) : Type 0 where
  held : (before after : X) → kind_in old ≡ Some before → kind_in new ≡ Some after → Does before after reply
      → OnHandle kind_in Does old new reply
  not_held : kind_in old ≡ None → new ≡ old → reply ≡ not_open → OnHandle kind_in Does old new reply

-- how many intervals an edit coded, or why it was refused
abbrev pub edit_reply : Result ℕ Fault → Reply
edit_reply (Ok coded) = done coded
edit_reply (Err fault) = refused_for fault

-- an edit of a workspace, and its reply (what `apply` of aec_edit promises)
pub record MakesEdit (e : Edit) (before after : OpenWorkspace) (reply : Reply) : Type 0 where
  pub answer : Result ℕ Fault
  pub replied : reply ≡ edit_reply answer
  pub applies : Applies (format_of before) before.workspace.limit before.workspace.samples
      before.workspace.codec.calls before.workspace.codec.reads
      e answer after.workspace.samples after.workspace.codec.calls after.workspace.codec.reads
  pub limit : after.workspace.limit ≡ before.workspace.limit
  pub format : format_of after ≡ format_of before
  pub err : IfErr answer (λ fault. fault ≢ Memory → after.workspace ≡ before.workspace)

-- the same for an edit whose values are copied first: without memory for the copy nothing changes
abbrev pub MakesCopiedEdit : Edit → Option Open → Option Open → Reply → Type 0
MakesCopiedEdit e old new reply =
    OnHandle workspace_in (MakesEdit e) old new reply ⊎ ((new ≡ old) × (reply ≡ refused_for Memory))
