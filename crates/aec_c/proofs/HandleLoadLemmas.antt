-- What loading a handle does, from the contracts of its steps.
use Rattle.std.proofs.Common.{◌≡◌, ℕ, zero, suc, ◌+◌, ◌-◌, ◌/◌, ◌%◌, ◌==◌, min, Bool, true, false, if◌then◌else◌, ◌⊎◌, inl, inr, Option, None, Some, Ok, Err, List, [], ◌++◌, length, refl, ap, sym, ◌∙◌, arith}
use Rattle.std.specs.Prelude.{ℤ, MatchOption, is_some}
use Rattle.std.specs.Int.{div_ceil}
use Rattle.std.proofs.Math.Nat.{zero-div, zero-mod}
use Rattle.std.proofs.lemmas.Bool.{ne_eqb}
use Rattle.aec_params.specs.declared.settings.Settings.{Settings}
use Rattle.aec_params.specs.declared.fault.Fault.{Fault}
use Rattle.aec_params.specs.declared.fault.Fault.TheVariants.{Memory}
use Rattle.aec_params.specs.declared.edit.Edit.TheVariants.{Append}
use Rattle.aec_params.specs.Edits.{needed_calls, opened_intervals}
use Rattle.aec_params.specs.Limits.{most_samples}
use Rattle.aec_bits.specs.Codec.{Format}
use Rattle.aec_interval.specs.IntervalFormat.{interval_format}
use Rattle.aec_edit.specs.Calls.{due_refusal, opened_at_most}
use Rattle.aec_edit.specs.Steps.{Applies, LacksMemory}
use Rattle.aec_edit.specs.Workspace.{interval_count}
use Rattle.aec_c.specs.declared.kinds.OpenWorkspace.{OpenWorkspace}
use Rattle.aec_c.specs.HandleCalls.{format_of}
use Rattle.aec_c.specs.HandleReads.{IsFresh}
use Rattle.aec_c.specs.HandleLoads.{Holds, CannotHold}

why : (due : Option Fault) (needed calls after : ℕ) (fault : Fault)
    → MatchOption due (LacksMemory needed calls fault after) (λ d. (fault ≡ d) × (after ≡ calls)) → (fault ≡ Memory) ⊎ (due ≡ Some fault)
why None needed calls after fault lacks = inl lacks.fault_is
why (Some d) needed calls after fault is = inr (ap Some (sym is.0))

-- an append to an empty list codes each interval of the new samples
count_first : (n count : ℕ) → (if count == 0 then 0 else div_ceil (0 + count) n - 0 / n) ≡ div_ceil count n
count_first n zero = sym (ap (λ q. q + min 1 (0 % n)) (zero-div n) ∙ ap (λ r. 0 + min 1 r) (zero-mod n))
count_first n (suc k) =
    let some : (suc k == 0) ≡ false = ne_eqb (suc k) 0 (λ is. absurd (omega (arith, is))) in
    let all : 0 + suc k ≡ suc k = omega arith in
    let whole : div_ceil (suc k) n - 0 / n ≡ div_ceil (suc k) n = omega (arith, zero-div n) in
    ap (λ b. if b then 0 else div_ceil (0 + suc k) n - 0 / n) some ∙ (ap (λ k. div_ceil k n - 0 / n) all ∙ whole)

-- and decodes none
zero_or : (b : Bool) (n : ℕ) → n ≡ 0 → (if b then 0 else n) ≡ 0
zero_or true n is = refl
zero_or false n is = is

none_opened : (n count : ℕ) → ◌≡◌ {A = ℕ} (if count == 0 then 0 else (if 0 % n == 0 then 0 else 1)) 0
none_opened n count =
    let opened : ℕ → ℕ = λ r. if r == 0 then 0 else 1 in zero_or (count == 0) (opened (0 % n)) (ap opened (zero-mod n))

module _ (s : Settings) (w w' : OpenWorkspace) (xs : List ℤ) (fresh : IsFresh s w) where
  abbrev due : Format → ℕ → List ℤ → ℕ → Option Fault
  due f limit samples calls = due_refusal f limit samples calls (Append xs)

  due_is : due (format_of w) w.workspace.limit w.workspace.samples w.workspace.codec.calls ≡ due (interval_format s) most_samples [] 0
  due_is =
      ap (λ f. due f w.workspace.limit w.workspace.samples w.workspace.codec.calls) fresh.format
      ∙ (ap (λ l. due (interval_format s) l w.workspace.samples w.workspace.codec.calls) fresh.limit
      ∙ (ap (λ l. due (interval_format s) most_samples l w.workspace.codec.calls) fresh.samples ∙ ap (due (interval_format s) most_samples []) fresh.calls))

  told : (fault : Fault) → (fault ≡ Memory) ⊎ (due (format_of w) w.workspace.limit w.workspace.samples w.workspace.codec.calls ≡ Some fault)
      → CannotHold s xs fault
  told fault (inl lacks) = inr (fresh.allowed, inl lacks)
  told fault (inr is) = inr (fresh.allowed, inr (sym due_is ∙ is))

  -- why an append to a fresh workspace is refused
  pub filled_refuses : (fault : Fault) → Applies (format_of w) w.workspace.limit w.workspace.samples w.workspace.codec.calls w.workspace.codec.reads (Append xs)
      (Err fault) w'.workspace.samples w'.workspace.codec.calls w'.workspace.codec.reads → CannotHold s xs fault
  filled_refuses fault applies = told fault (why _ _ _ _ fault applies.answer)

  needed_is : needed_calls (format_of w).most (length w.workspace.samples) (Append xs) ≡ interval_count (interval_format s) xs
  needed_is =
      ap (λ (f : Format). needed_calls f.most (length w.workspace.samples) (Append xs)) fresh.format
      ∙ (ap (λ (l : List ℤ). needed_calls (interval_format s).most (length l) (Append xs)) fresh.samples
      ∙ count_first (interval_format s).most (length xs))

  none_read : opened_at_most (format_of w) w.workspace.limit w.workspace.samples w.workspace.codec.calls (Append xs) ≡ 0
  none_read =
      zero_or (is_some (due (format_of w) w.workspace.limit w.workspace.samples w.workspace.codec.calls)) _
      (ap (λ (l : List ℤ). opened_intervals (format_of w).most (length l) (Append xs)) fresh.samples ∙ none_opened (format_of w).most (length xs))

  -- an append to a fresh workspace makes it hold the samples
  pub filled_holds : (coded : ℕ) → w'.workspace.limit ≡ w.workspace.limit → format_of w' ≡ format_of w
      → Applies (format_of w) w.workspace.limit w.workspace.samples w.workspace.codec.calls w.workspace.codec.reads (Append xs)
      (Ok coded) w'.workspace.samples w'.workspace.codec.calls w'.workspace.codec.reads → Holds s xs w'
  filled_holds coded limit format applies = record {
    samples_are = applies.samples ∙ ap (λ (l : List ℤ). l ++ xs) fresh.samples;
    limit = limit ∙ fresh.limit;
    calls = omega (arith, applies.answer.calls_are, applies.answer.coded_is, needed_is, fresh.calls);
    reads = omega (arith, applies.opens.few, none_read, fresh.reads);
    format = format ∙ fresh.format;
    allowed = fresh.allowed;
  }
