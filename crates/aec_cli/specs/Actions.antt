-- For proofs alone: no public contract cites this file.
-- The results of a run of the program, action by action.
use Rattle.std.specs.Prelude.{ℕ, ◌^◌, Bool, Result, List}
use Rattle.aec_params.specs.declared.settings.Settings.{Settings}
use Rattle.aec_params.specs.declared.fault.Fault.{Fault}
use Rattle.aec_params.specs.Limits.{Caps, most_samples}
use Rattle.aec_cli.specs.declared.job.Action.{Action}
use Rattle.aec_cli.specs.declared.job.Action.TheVariants.{Encode, Decode, Range, Edit}
use Rattle.aec_engine.specs.Transfers.{Input, are_past}
use Rattle.aec_engine.specs.Output.{IsEncoded, are_refused, IsDecoded, IsRanged}

-- whether an action has no other input than its source
abbrev pub HasNoScript : Action → Type 0
HasNoScript (Edit script count) = ⊥
HasNoScript _ = Unit {0}

-- the results of an action without a script for an input (an edit by a script has `LeavesEdited`)
abbrev pub IsAnswerOf : Action → Settings → Caps → Input → Result (List ℕ) Fault → Type 0
IsAnswerOf Encode s caps = IsEncoded s caps
IsAnswerOf (Decode count) s caps = IsDecoded s caps count
IsAnswerOf (Range first len count) s caps = IsRanged s caps count first len
IsAnswerOf (Edit script count) s caps = λ _ _. ⊥

-- whether bytes of a source are enough for its result, whatever follows: they contain a refused
-- sample, or exceed the limit
abbrev pub are_enough : Action → Settings → Caps → List ℕ → Bool
are_enough Encode s caps = are_refused s caps.samples
are_enough (Decode count) s caps = are_past caps.bytes
are_enough (Range first len count) s caps = are_past caps.bytes
are_enough (Edit script count) s caps = are_past caps.bytes

-- the limits of the program (COMMAND: Limits, time and memory)
abbrev pub program_caps : Caps
program_caps = record { samples = most_samples; bytes = 2 ^ 35 }
