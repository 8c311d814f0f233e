-- For proofs alone: no public contract cites this file.
-- What edits leave in a workspace that was empty. The contract of `write_edited` cites `AnswersAll`
-- and `all_left` instead.
use Rattle.std.specs.Prelude.{◌≡◌, ℕ, List, []}
use Rattle.aec_params.specs.declared.edit.Edit.{Edit}
use Rattle.aec_bits.specs.Codec.{Format}
use Rattle.aec_edit.specs.Workspace.{Contents}
use Rattle.aec_edit.specs.Runs.{AnswersAll, all_left}
use Rattle.aec_edit.specs.declared.outcome.Outcome.{Outcome}

-- a workspace with a codec like this one, after edits with these outcomes, the first applied to no
-- samples
pub record IsLeftBy {C : Type 0} (format_of : C → Format) (called : C → ℕ) (codec : C) (limit : ℕ) (edits : List Edit)
    (done : List Outcome) (w : Contents C)
    : Type 0 where
  pub answers : AnswersAll (format_of codec) limit [] (called codec) edits done (called w.codec)
  pub samples : w.samples ≡ all_left [] edits done
  pub format : format_of w.codec ≡ format_of codec
