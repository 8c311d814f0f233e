-- How the program ends, by the words and by the run.
use Rattle.std.proofs.Common.{◌≡◌, ◌∙◌, List, [], ◌∷◌, Result, Ok, Err, IfOk, IfErr, ap, refl, sym, subst, inl, inr}
use Rattle.std.specs.Prelude.{IsOk}
use Rattle.clap.specs.Kinds.{HasKind, IsAmong, Kinds}
use Rattle.clap.specs.Values.{kind_of}
use Rattle.clap.specs.declared.error.Error.{Error}
use Rattle.clap.specs.declared.error.kind.ErrorKind.{ErrorKind}
use Rattle.clap.specs.Walk.{Text}
use Rattle.clap.specs.declared.parser.matches.Found.{Found}
use Rattle.aec_cli.specs.declared.usage.Usage.{Usage}
use Rattle.aec_cli.specs.declared.usage.Usage.TheVariants.{Memory}
use Rattle.aec_cli.specs.declared.done.Done.{Done}
use Rattle.aec_cli.specs.declared.ending.End.{End}
use Rattle.aec_cli.specs.declared.ending.End.TheVariants as end
use Rattle.aec_cli.specs.declared.failure.Failure.{Failure}
use Rattle.aec_cli.specs.declared.failure.Failure.TheVariants as failure
use Rattle.aec_cli.specs.Ends.{ConcernsJob, EndsByMistake, EndsByRefusal, EndsByWords, HasSynced, IsEndAmong, IsEndOfJob, IsFoundIn, end_of_parse, end_of_run}
use Rattle.aec_cli.specs.Jobs.{Task, job_of}

end_among : (kind : ErrorKind) (kinds : Kinds) (e : End) → IsAmong kind kinds → e ≡ end_of_parse kind → IsEndAmong e kinds
end_among kind [] e among is = among
end_among kind (k ∷ ks) e among is = elim among [
  | inl same ↦ inl (is ∙ ap end_of_parse same)
  | inr later ↦ inr (end_among kind ks e later is)
]

pub ends_by_error : (kinds : Kinds) (error : Error) (e : End) → HasKind kinds error → e ≡ end_of_parse (kind_of error) → EndsByMistake kinds e
ends_by_error [] error e has is = tt
ends_by_error (k ∷ ks) error e has is = elim has [
  | inl memory ↦ inl (is ∙ ap end_of_parse memory)
  | inr among ↦ inr (end_among (kind_of error) (k ∷ ks) e among is)
]

-- if words without a mistake fail to parse, an allocation failed
pub ends_by_memory : (words : List Text) (error : Error) (e : End) → HasKind [] error → e ≡ end_of_parse (kind_of error) → EndsByWords words e
ends_by_memory words error e has is = elim has [
  | inl memory ↦ inl (is ∙ ap end_of_parse memory)
  | inr among ↦ absurd among
]

-- words that parse but make no job: the job is refused, or an allocation fails
pub ends_by_usage : {J : Type 0} (words : List Text) (found : Found) (r : Result J Usage) (usage : Usage) (e : End)
    → IsFoundIn words found → r ≡ Err usage → IfErr (job_of found) (λ u. r ≡ Err u) → IfErr r (λ u. IsOk (job_of found) → u ≡ Memory)
    → e ≡ end.Failed (failure.Usage usage) → EndsByWords words e
ends_by_usage words found r usage e finds is refuses memory ends =
    by_job (job_of found) refl refuses (subst (λ r. IfErr r (λ u. IsOk (job_of found) → u ≡ Memory)) is memory)
  where
    by_job : (j : Result Task Usage) → job_of found ≡ j → IfErr j (λ u. r ≡ Err u) → (IsOk (job_of found) → usage ≡ Memory) → EndsByWords words e
    by_job (Ok task) makes refuses lacks =
        let lack : usage ≡ Memory = lacks (subst (λ j. IsOk j) (sym makes) refl) in
        inl (ends ∙ ap (λ u. end.Failed (failure.Usage u)) lack)
    by_job (Err u) makes refuses lacks =
        let same : usage ≡ u = cc in
        inr (found, finds, subst (λ j. EndsByRefusal j e) (sym makes) (ends ∙ ap (λ u. end.Failed (failure.Usage u)) same))

-- words that parse and make a job
pub ends_by_job : (words : List Text) (found : Found) (task : Task) (e : End) → IsFoundIn words found → job_of found ≡ Ok task → IsEndOfJob e
    → EndsByWords words e
ends_by_job words found task e finds is ends = inr (found, finds, subst (λ j. EndsByRefusal j e) (sym is) ends)

pub ends_job : (run : Result Done Failure) (e : End) → e ≡ end_of_run run → IfOk run (λ done. HasSynced done)
    → IfErr run (λ failure. ConcernsJob failure) → IsEndOfJob e
ends_job (Ok done) e is synced refused = subst IsEndOfJob (sym is) synced
ends_job (Err failure) e is synced refused = subst IsEndOfJob (sym is) refused
