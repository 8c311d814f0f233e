-- The laws of runs.
use Rattle.std.proofs.Common.{◌≡◌, ◌≢◌, ℕ, zero, suc, ◌+◌, ◌^◌, ◌<◌, ◌≤◌, ltb, ◌-◌, Bool, ◌&&◌, true, false, cond, Option, Some, None, MatchOption, List, [], ◌∷◌, ◌++◌, length, take, drop, ℤ, refl, sym, ap, ◌∙◌, subst, arith, length-append}
use Rattle.std.specs.List.{list_all}
use Rattle.std.specs.Option.{option_or, option_map}
use Rattle.std.proofs.lemmas.Bool.{and_parts, ltb-false}
use Rattle.std.proofs.lemmas.List.{length-take, length-drop}
use Rattle.std.proofs.lemmas.List.Folds.{list_all-append}
use Rattle.aec_params.specs.declared.fault.Fault.{Fault}
use Rattle.aec_params.specs.declared.fault.Fault.TheVariants.{SampleRange, TooManySamples, OutOfRange, Spent, Memory}
use Rattle.aec_params.specs.declared.edit.Edit.{Edit}
use Rattle.aec_params.specs.declared.edit.Edit.TheVariants.{Overwrite, Append, Truncate, Insert, Remove}
use Rattle.aec_params.specs.Edits.{needed_calls, samples_after}
use Rattle.aec_bits.specs.Codec.{Format, AreHeld}
use Rattle.aec_bits.specs.Refusals.{refusal_of, first_unheld, values_refusal}
use Rattle.aec_edit.specs.declared.outcome.Outcome.{Outcome}
use Rattle.aec_edit.specs.declared.outcome.Outcome.TheVariants.{Done, Refused}
use Rattle.aec_edit.specs.Calls.{due_refusal, want_of_calls}
use Rattle.aec_edit.specs.Steps.{Answers, LacksMemory, samples_left}
use Rattle.aec_edit.specs.Runs.{AnswersAll, all_coded}
use Rattle.aec_edit.specs.Laws.{HadMemory, RunsCountTheirCalls, RunsLeaveSamples}

-- ---- calls

-- a refused edit doesn't lower the calls, and raises them only if the fault is `Memory`
refused_calls : (f : Format) (s : List ℤ) (calls : ℕ) (e : Edit) (fault : Fault) (after : ℕ) (due : Option Fault)
    → MatchOption due (LacksMemory (needed_calls f.most (length s) e) calls fault after) (λ d. (fault ≡ d) × (after ≡ calls))
    → (calls ≤ after) × (fault ≢ Memory → after ≡ calls)
refused_calls f s calls e fault after None h = (h.stays, λ other. absurd (other h.fault_is))
refused_calls f s calls e fault after (Some d) h = (omega (arith, h.1), λ other. h.1)

abbrev CallsRise : ℕ → List Outcome → ℕ → Type 0
CallsRise calls done after = (calls + all_coded done ≤ after) × (HadMemory done → after ≡ calls + all_coded done)

pub calls_rise : RunsCountTheirCalls
calls_rise f limit s calls [] [] after h = (omega (arith, h), λ had. omega (arith, h))
calls_rise f limit s calls [] (o ∷ done) after h = absurd h
calls_rise f limit s calls (e ∷ edits) [] after h = absurd h
calls_rise f limit s calls (e ∷ edits) (Done coded ∷ done) after h =
    let rest : CallsRise h.0 done after = calls_rise f limit (samples_after s e) h.0 edits done after h.2 in
    let here : h.0 ≡ calls + coded = h.1.calls_are in
    (omega (arith, rest.0), λ had. let rises = rest.1 had.1 in omega arith)
calls_rise f limit s calls (e ∷ edits) (Refused fault ∷ done) after h =
    let rest : CallsRise h.0 done after = calls_rise f limit s h.0 edits done after h.2 in
    let here = refused_calls f s calls e fault h.0 (due_refusal f limit s calls e) h.1 in
    (omega (arith, rest.0, here.0), λ had. let rises = rest.1 had.1 in let same = here.1 (λ is. had.0 (ap Refused is)) in omega arith)

-- ---- one answer

abbrev IsNoWant : Option Fault → Type 0
IsNoWant None = Unit {0}
IsNoWant (Some fault) = fault ≢ Memory

chosen_no_want : (b : Bool) (x y : Option Fault) → IsNoWant x → IsNoWant y → IsNoWant (cond b x y)
chosen_no_want true x y h k = h
chosen_no_want false x y h k = k

or_no_want : (x y : Option Fault) → IsNoWant x → IsNoWant y → IsNoWant (option_or x y)
or_no_want None y h k = k
or_no_want (Some fault) y h k = h

values_no_want : (found : Option ℕ) → IsNoWant (option_map (λ i. SampleRange i) found)
values_no_want None = tt
values_no_want (Some i) = λ e. cc

refusal_no_want : (f : Format) (limit : ℕ) (s : List ℤ) (e : Edit) → IsNoWant (refusal_of f limit s e)
refusal_no_want f limit s (Overwrite first values) =
    chosen_no_want (ltb (length s) (first + length values)) (Some (OutOfRange (length s))) (values_refusal f values) (λ e. cc) (values_no_want
    (first_unheld f.holds 0 values))
refusal_no_want f limit s (Append values) =
    chosen_no_want (ltb limit (length s + length values)) (Some (TooManySamples limit)) (values_refusal f values) (λ e. cc) (values_no_want
    (first_unheld f.holds 0 values))
refusal_no_want f limit s (Truncate count) = chosen_no_want (ltb (length s) count) (Some (OutOfRange (length s))) None (λ e. cc) tt
refusal_no_want f limit s (Insert first values) =
    chosen_no_want (ltb (length s) first) (Some (OutOfRange (length s)))
    (cond (ltb limit (length s + length values)) (Some (TooManySamples limit)) (values_refusal f values)) (λ e. cc)
    (chosen_no_want (ltb limit (length s + length values)) (Some (TooManySamples limit)) (values_refusal f values) (λ e. cc) (values_no_want
    (first_unheld f.holds 0 values)))
refusal_no_want f limit s (Remove first len) = chosen_no_want (ltb (length s) (first + len)) (Some (OutOfRange (length s))) None (λ e. cc) tt

-- the refusal that is due for an edit is never `Memory`
due_no_want : (f : Format) (limit : ℕ) (s : List ℤ) (calls : ℕ) (e : Edit) → IsNoWant (due_refusal f limit s calls e)
due_no_want f limit s calls e =
    or_no_want (refusal_of f limit s e) (want_of_calls calls (needed_calls f.most (length s) e)) (refusal_no_want f limit s e)
    (chosen_no_want (ltb (2 ^ 64 - 1 - calls) (needed_calls f.most (length s) e)) (Some Spent) None (λ e. cc) tt)

-- if no refusal is due, enough calls are left
calls_left : (x : Option Fault) (b : Bool) → option_or x (cond b (Some Spent) None) ≡ None → b ≡ false
calls_left None false h = refl
calls_left None true h = cc
calls_left (Some fault) b h = cc

-- an outcome that isn't a refusal with `Memory`, and a count of calls after it that fits 64 bits
record IsAnswered (f : Format) (limit : ℕ) (s : List ℤ) (calls : ℕ) (e : Edit) : Type 0 where
  outcome : Outcome
  after : ℕ
  answers : Answers f limit s calls e outcome after
  had : outcome ≢ Refused Memory
  fits : after < 2 ^ 64

answer_by : (f : Format) (limit : ℕ) (s : List ℤ) (calls : ℕ) (e : Edit) (due : Option Fault) → calls < 2 ^ 64
    → due_refusal f limit s calls e ≡ due → IsNoWant due
    → IsAnswered f limit s calls e
answer_by f limit s calls e None h is no_want =
    let needed : ℕ = needed_calls f.most (length s) e in
    let left = ltb-false (2 ^ 64 - 1 - calls) needed (calls_left (refusal_of f limit s e) (ltb (2 ^ 64 - 1 - calls) needed) is) in
    record {
      outcome = Done needed;
      after = calls + needed;
      answers = record { fits = is; coded_is = refl; calls_are = refl };
      had = λ e. cc;
      fits = omega arith;
    }
answer_by f limit s calls e (Some fault) h is no_want =
    record {
      outcome = Refused fault;
      after = calls;
      answers = subst (λ due. MatchOption due (LacksMemory (needed_calls f.most (length s) e) calls fault calls) (λ d. (fault ≡ d) ×
          (calls ≡ calls))) (sym is) (refl, refl);
      had = λ e. no_want (cc);
      fits = h;
    }

some_answer : (f : Format) (limit : ℕ) (s : List ℤ) (calls : ℕ) (e : Edit) → calls < 2 ^ 64 → IsAnswered f limit s calls e
some_answer f limit s calls e h = answer_by f limit s calls e (due_refusal f limit s calls e) h refl (due_no_want f limit s calls e)

abbrev AreAnswered : Format → ℕ → List ℤ → ℕ → List Edit → Type 0
AreAnswered f limit s calls edits = (done : List Outcome) × (after : ℕ) × AnswersAll f limit s calls edits done after × HadMemory done × (after < 2 ^ 64)

pub some_answers : (f : Format) (limit : ℕ) (s : List ℤ) (calls : ℕ) (edits : List Edit) → calls < 2 ^ 64 → AreAnswered f limit s calls edits
some_answers f limit s calls [] h = ([], calls, refl, tt, h)
some_answers f limit s calls (e ∷ edits) h =
    let here = some_answer f limit s calls e h in
    let rest = some_answers f limit (samples_left s e here.outcome) here.after edits here.fits in
    (here.outcome ∷ rest.0, rest.1, (here.after, here.answers, rest.2), (here.had, rest.3), rest.4)

-- a refusal other than `Memory` is the one that is due
refused_as : (needed calls : ℕ) (fault : Fault) (after : ℕ) (due : Option Fault)
    → MatchOption due (LacksMemory needed calls fault after) (λ d. (fault ≡ d) × (after ≡ calls))
    → fault ≢ Memory → (due ≡ Some fault) × (after ≡ calls)
refused_as needed calls fault after None h had = absurd (had h.fault_is)
refused_as needed calls fault after (Some d) h had = (ap Some (sym h.0), h.1)

one_outcome : (f : Format) (limit : ℕ) (s : List ℤ) (calls : ℕ) (e : Edit) (o p : Outcome) (after last : ℕ)
    → Answers f limit s calls e o after → o ≢ Refused Memory → Answers f limit s calls e p last → p ≢ Refused Memory → (o ≡ p) × (after ≡ last)
one_outcome f limit s calls e (Done coded) (Done other) after last h had k has =
    (ap Done (h.coded_is ∙ sym k.coded_is), omega (arith, h.coded_is, k.coded_is, h.calls_are, k.calls_are))
one_outcome f limit s calls e (Done coded) (Refused fault) after last h had k has =
    let due = refused_as (needed_calls f.most (length s) e) calls fault last (due_refusal f limit s calls e) k (λ is. has (ap Refused is)) in
    absurd (cc (due.0, h.fits))
one_outcome f limit s calls e (Refused fault) (Done coded) after last h had k has =
    let due = refused_as (needed_calls f.most (length s) e) calls fault after (due_refusal f limit s calls e) h (λ is. had (ap Refused is)) in
    absurd (cc (due.0, k.fits))
one_outcome f limit s calls e (Refused fault) (Refused other) after last h had k has =
    let due = refused_as (needed_calls f.most (length s) e) calls fault after (due_refusal f limit s calls e) h (λ is. had (ap Refused is)) in
    let same = refused_as (needed_calls f.most (length s) e) calls other last (due_refusal f limit s calls e) k (λ is. has (ap Refused is)) in
    (ap Refused (cc (due.0, same.0)), due.1 ∙ sym same.1)

pub one_answer : (f : Format) (limit : ℕ) (s : List ℤ) (calls : ℕ) (edits : List Edit) (done other : List Outcome) (after last : ℕ)
    → AnswersAll f limit s calls edits done after → HadMemory done → AnswersAll f limit s calls edits other last → HadMemory other
    → (done ≡ other) × (after ≡ last)
one_answer f limit s calls [] [] [] after last h had k has = (refl, h ∙ sym k)
one_answer f limit s calls [] [] (p ∷ other) after last h had k has = absurd k
one_answer f limit s calls [] (o ∷ done) other after last h had k has = absurd h
one_answer f limit s calls (e ∷ edits) [] other after last h had k has = absurd h
one_answer f limit s calls (e ∷ edits) (o ∷ done) [] after last h had k has = absurd k
one_answer f limit s calls (e ∷ edits) (o ∷ done) (p ∷ other) after last h had k has =
    let here = one_outcome f limit s calls e o p h.0 k.0 h.1 had.0 k.1 has.0 in
    let back : AnswersAll f limit (samples_left s e o) h.0 edits other last =
    subst (λ n. AnswersAll f limit (samples_left s e o) n edits other last) (sym here.1) (subst (λ x. AnswersAll f limit
    (samples_left s e x) k.0 edits other last) (sym here.0) k.2) in
    let rest = one_answer f limit (samples_left s e o) h.0 edits done other after last h.2 had.1 back has.1 in
    (cc (here.0, rest.0), rest.1)

-- ---- the samples that are left

abbrev AreWithin : Format → ℕ → List ℤ → Type 0
AreWithin f limit s = AreHeld f s × (length s ≤ limit)

held_front : (holds : ℤ → Bool) (n : ℕ) (s : List ℤ) → list_all holds s ≡ true → list_all holds (take n s) ≡ true
held_front holds zero s h = refl
held_front holds (suc n) [] h = refl
held_front holds (suc n) (x ∷ s) h = let both = and_parts (holds x) (list_all holds s) h in rw (both.0, held_front holds n s both.1) refl

held_rest : (holds : ℤ → Bool) (n : ℕ) (s : List ℤ) → list_all holds s ≡ true → list_all holds (drop n s) ≡ true
held_rest holds zero s h = h
held_rest holds (suc n) [] h = refl
held_rest holds (suc n) (x ∷ s) h = let both = and_parts (holds x) (list_all holds s) h in held_rest holds n s both.1

held_joined : (holds : ℤ → Bool) (a b : List ℤ) → list_all holds a ≡ true → list_all holds b ≡ true → list_all holds (a ++ b) ≡ true
held_joined holds a b h k = rw (list_all-append holds a b, h, k) refl

none_found : (holds : ℤ → Bool) (i : ℕ) (values : List ℤ) → first_unheld holds i values ≡ None → list_all holds values ≡ true
none_found holds i [] h = refl
none_found holds i (x ∷ values) h = one (holds x) h (none_found holds (i + 1) values)
  where
    one : (b : Bool) → cond b (first_unheld holds (i + 1) values) (Some i) ≡ None → (first_unheld holds (i + 1) values ≡ None → list_all holds values ≡ true)
        → (b && list_all holds values) ≡ true
    one true h rest = rest h
    one false h rest = cc

-- if no refusal is due, neither the place nor a value is refused
fits_by : (b : Bool) (fault : Fault) (found : Option ℕ) → cond b (Some fault) (option_map (λ i. SampleRange i) found) ≡ None → (b ≡ false) × (found ≡ None)
fits_by true fault found h = cc
fits_by false fault None h = (refl, refl)
fits_by false fault (Some i) h = cc

fits_first : (b : Bool) (fault : Fault) (rest : Option Fault) → cond b (Some fault) rest ≡ None → rest ≡ None
fits_first true fault rest h = cc
fits_first false fault rest h = h

no_refusal : (x y : Option Fault) → option_or x y ≡ None → x ≡ None
no_refusal None y h = refl
no_refusal (Some fault) y h = h

pub samples_after-within : (f : Format) (limit : ℕ) (s : List ℤ) (e : Edit) → refusal_of f limit s e ≡ None → AreWithin f limit s
    → AreWithin f limit (samples_after s e)
samples_after-within f limit s (Overwrite first values) h within =
    let fits = fits_by (ltb (length s) (first + length values)) (OutOfRange (length s)) (first_unheld f.holds 0 values) h in
    let few = ltb-false (length s) (first + length values) fits.0 in
    let held = held_joined f.holds (take first s) (values ++ drop (first + length values) s) (held_front f.holds first s within.0)
    (held_joined f.holds values (drop (first + length values) s) (none_found f.holds 0 values fits.1) (held_rest f.holds
    (first + length values) s within.0)) in (
      held,
      omega (
        arith,
        within.1,
        length-append (take first s) (values ++ drop (first + length values) s),
        length-append values (drop (first + length values) s),
        length-take first s,
        length-drop (first + length values) s,
      ),
    )
samples_after-within f limit s (Append values) h within =
    let fits = fits_by (ltb limit (length s + length values)) (TooManySamples limit) (first_unheld f.holds 0 values) h in
    let few = ltb-false limit (length s + length values) fits.0 in
    (held_joined f.holds s values within.0 (none_found f.holds 0 values fits.1), omega (arith, length-append s values))
samples_after-within f limit s (Truncate count) h within =
    (held_front f.holds count s within.0, omega (arith, within.1, length-take count s))
samples_after-within f limit s (Insert first values) h within =
    let later = fits_first (ltb (length s) first) (OutOfRange (length s)) (cond (ltb limit (length s + length values)) (Some (TooManySamples limit))
    (values_refusal f values)) h in
    let fits = fits_by (ltb limit (length s + length values)) (TooManySamples limit) (first_unheld f.holds 0 values) later in
    let few = ltb-false limit (length s + length values) fits.0 in (
      held_joined f.holds (take first s) (values ++ drop first s) (held_front f.holds first s within.0)
          (held_joined f.holds values (drop first s) (none_found f.holds 0 values fits.1) (held_rest f.holds first s within.0)),
      omega (
        arith,
        length-append (take first s) (values ++ drop first s),
        length-append values (drop first s),
        length-take first s,
        length-drop first s,
      ),
    )
samples_after-within f limit s (Remove first len) h within = (
  held_joined f.holds (take first s) (drop (first + len) s) (held_front f.holds first s within.0) (held_rest f.holds (first + len) s within.0),
  omega (arith, within.1, length-append (take first s) (drop (first + len) s), length-take first s, length-drop (first + len) s),
)

pub samples_left-within : (f : Format) (limit : ℕ) (s : List ℤ) (calls : ℕ) (e : Edit) (o : Outcome) (after : ℕ)
    → Answers f limit s calls e o after → AreWithin f limit s → AreWithin f limit (samples_left s e o)
samples_left-within f limit s calls e (Done coded) after h within =
    samples_after-within f limit s e (no_refusal (refusal_of f limit s e) (want_of_calls calls (needed_calls f.most (length s) e)) h.fits) within
samples_left-within f limit s calls e (Refused fault) after h within = within

pub all_left-within : RunsLeaveSamples
all_left-within f limit s calls [] [] after h held few = (held, few)
all_left-within f limit s calls [] (o ∷ done) after h held few = absurd h
all_left-within f limit s calls (e ∷ edits) [] after h held few = absurd h
all_left-within f limit s calls (e ∷ edits) (o ∷ done) after h held few =
    let here = samples_left-within f limit s calls e o h.0 h.1 (held, few) in
    all_left-within f limit (samples_left s e o) h.0 edits done after h.2 here.0 here.1
