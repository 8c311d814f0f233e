-- What holds of the refusal of a call holds of a result that passes the refusal on.
use Rattle.std.proofs.Common.{◌≡◌, Result, IfErr, OnErr}
use Rattle.std.specs.Prelude.{MatchResult}
use Rattle.std.specs.Result.{IsErrAnd}
use Rattle.std.proofs.lemmas.Result.{err_from_is_err_and}
use Rattle.aec_params.specs.declared.fault.Fault.{Fault}

pub of_refusal : {X : Type 0} (result : Result X Fault) (P : Fault → Type 0) (fault : Fault) → IsErrAnd result (λ e. e ≡ fault) → P fault → IfErr result P
of_refusal result P fault exit h =
    let refusal = err_from_is_err_and result exit in
    rw (refusal.1, refusal.2) h

pub on_refusal : {X : Type 0} (result : Result X Fault) (P : Type 0) (fault : Fault) → IsErrAnd result (λ e. e ≡ fault) → P → OnErr result P
on_refusal result P fault exit h =
    let refusal = err_from_is_err_and result exit in
    rw refusal.1 h

pub of_answer : {X : Type 0} (result : Result X Fault) (P : X → Type 0) (Q : Fault → Type 0) (fault : Fault) → IsErrAnd result (λ e. e ≡ fault)
    → Q fault → MatchResult result P Q
of_answer result P Q fault exit h =
    let refusal = err_from_is_err_and result exit in
    rw (refusal.1, refusal.2) h
