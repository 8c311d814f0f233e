-- How a run of the program ends.
use Rattle.std.specs.Prelude.{◌≡◌, ◌⊎◌, ℕ, ⊤, List, [], ◌∷◌, Result, Ok, Err, MatchOption}
use Rattle.std.specs.declared.io.ErrorKind.TheVariants.{InvalidInput, Unsupported}
use Rattle.clap.specs.Kinds.{Kinds}
use Rattle.clap.specs.Simple.{matches_of}
use Rattle.clap.specs.Walk.{Text, rows_of}
use Rattle.clap.specs.declared.parser.matches.Found.{Found}
use Rattle.clap.specs.declared.error.kind.ErrorKind.{ErrorKind}
use Rattle.clap.specs.declared.error.kind.ErrorKind.TheVariants as kind
use Rattle.aec_cli.specs.declared.retrying.SyncAnswer.{SyncAnswer}
use Rattle.aec_cli.specs.declared.done.Done.{Done}
use Rattle.aec_cli.specs.declared.ending.End.{End}
use Rattle.aec_cli.specs.declared.ending.End.TheVariants as end
use Rattle.aec_cli.specs.declared.failure.Failure.{Failure}
use Rattle.aec_cli.specs.declared.failure.Failure.TheVariants as failure
use Rattle.aec_cli.specs.declared.usage.Usage.{Usage}
use Rattle.aec_cli.specs.declared.usage.Usage.TheVariants.{Memory}
use Rattle.aec_cli.specs.Commands.{aec_app}
use Rattle.aec_cli.specs.Jobs.{Task, job_of}
use Rattle.aec_cli.specs.Statuses.{status_of}

-- the sync succeeded, or its error says that the file can't be synced, like a pipe or a terminal
abbrev pub IsWrittenOut : SyncAnswer → Type 0
IsWrittenOut answer = MatchOption answer.error ⊤ (λ kind. (kind ≡ InvalidInput) ⊎ (kind ≡ Unsupported))

-- a file was made, and the result of its sync says that it is written out
abbrev pub HasSynced : Done → Type 0
HasSynced done = MatchOption done.synced ⊥ (λ synced. IsWrittenOut synced.answer)

-- the status of the process: 0 if the job is done, else that of its failure
abbrev pub end_status : End → ℕ
end_status (end.Unstarted status) = status
end_status (end.Done done) = 0
end_status (end.Failed failure) = status_of failure

-- ---- words with mistakes

-- the end if there is no memory for the words or the job; its status is 1
abbrev pub out_of_memory : End
out_of_memory = end.Failed (failure.Usage Memory)

-- the end if a parse returns no matches: the status is 0 for what was asked for, 1 for lack of
-- memory, else 2 (COMMAND: Exit status)
abbrev pub end_of_parse : ErrorKind → End
end_of_parse kind.DisplayHelp = end.Unstarted 0
end_of_parse kind.DisplayVersion = end.Unstarted 0
end_of_parse kind.OutOfMemory = out_of_memory
end_of_parse _ = end.Unstarted 2

-- the end of one of the kinds
abbrev pub IsEndAmong : End → Kinds → Type 0
IsEndAmong e [] = ⊥
IsEndAmong e (k ∷ ks) = (e ≡ end_of_parse k) ⊎ IsEndAmong e ks

-- if the words have mistakes of these kinds, the end is that of one of them, or of lack of memory
-- (COMMAND: Exit status; nothing is said of words without mistakes)
abbrev pub EndsByMistake : Kinds → End → Type 0
EndsByMistake [] e = Unit {0}
EndsByMistake (k ∷ ks) e = (e ≡ out_of_memory) ⊎ IsEndAmong e (k ∷ ks)

-- ---- words without a mistake

-- how the program ends, by the result of a run
abbrev pub end_of_run : Result Done Failure → End
end_of_run (Ok done) = end.Done done
end_of_run (Err failure) = end.Failed failure

-- the job was refused, not its words
abbrev pub ConcernsJob : Failure → Type 0
ConcernsJob (failure.Usage usage) = ⊥
ConcernsJob (failure.Fault fault) = Unit {0}
ConcernsJob (failure.Edit fault) = Unit {0}

-- the job is done and its file is written out, with the status 0; or the job was refused, with the
-- status 1 (COMMAND: Exit status)
abbrev pub IsEndOfJob : End → Type 0
IsEndOfJob (end.Unstarted status) = ⊥
IsEndOfJob (end.Done done) = HasSynced done
IsEndOfJob (end.Failed failure) = ConcernsJob failure

-- what a parse of the words finds
abbrev pub IsFoundIn : List Text → Found → Type 0
IsFoundIn words found = rows_of found ≡ matches_of aec_app words

-- if the words make a job, its end; else the failure says why they make none (this doesn't
-- distinguish a done job from a refused one)
abbrev pub EndsByRefusal : Result Task Usage → End → Type 0
EndsByRefusal (Ok task) e = IsEndOfJob e
EndsByRefusal (Err usage) e = e ≡ end.Failed (failure.Usage usage)

-- Words without a mistake end with the first refusal of their job, if it has one; else with their
-- job; or with lack of memory. (COMMAND: Exit status)
abbrev pub EndsByWords : List Text → End → Type 0
EndsByWords words e = (e ≡ out_of_memory)
    ⊎ ((found : Found) × IsFoundIn words found × EndsByRefusal (job_of found) e)
