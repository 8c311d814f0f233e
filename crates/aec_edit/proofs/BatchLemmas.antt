-- Edits as exchanges of places, judged one after the other.
use Rattle.std.proofs.Common.{◌≡◌, ℕ, ◌+◌, ◌-◌, ◌%◌, ◌<◌, ◌≤◌, ◌^◌, Bool, true, false, cond, eqb, Option, Some, None, List, [], ◌∷◌, ◌++◌, length, take, drop, get_or, ℤ, refl, sym, ap, ◌∙◌, subst, arith, length-append}
use Rattle.std.specs.Int.{div_ceil}
use Rattle.std.specs.Option.{option_or}
use Rattle.std.proofs.lemmas.List.{append-nil, length-take, length-drop, take_all, drop_all, take_more, drop_more}
use Rattle.aec_params.specs.declared.fault.Fault.{Fault}
use Rattle.aec_params.specs.declared.edit.Edit.{Edit}
use Rattle.aec_params.specs.declared.edit.Edit.TheVariants.{Overwrite, Append, Truncate, Insert, Remove}
use Rattle.aec_params.specs.Edits.{needed_calls, samples_after}
use Rattle.aec_params.proofs.CountLaws.{ceil_bounds}
use Rattle.aec_params.proofs.MoveLaws.{from_to}
use Rattle.aec_bits.specs.Codec.{Format, AreHeld, IsLawful}
use Rattle.aec_bits.specs.Refusals.{refusal_of}
use Rattle.aec_bits.proofs.RefusalLaws.{overwrite_fits, append_fits, truncate_fits, insert_fits, remove_fits}
use Rattle.aec_edit.specs.declared.batch.Change.{Change}
use Rattle.aec_edit.specs.declared.outcome.Stop.{Stop}
use Rattle.aec_edit.specs.Calls.{want_of_calls, due_refusal}
use Rattle.aec_edit.specs.Changes.{IsExchangeUpTo, exchanged, recoding_calls}
use Rattle.aec_edit.specs.Batches.{all_after, all_needed, stop_or, first_refusal}
use Rattle.aec_edit.specs.Batched.{HasCount, CanExchangeIn, IsExchangeFor, IsChangeOf, FitSoFar}
use Rattle.aec_edit.proofs.ExchangeLemmas.{recoding, ceil_mono}
use Rattle.aec_edit.proofs.HeldLemmas.{held-take, held-drop, held-append}
use Rattle.aec_edit.proofs.CallLemmas.{calls_left}
use Rattle.aec_edit.proofs.UpToLemmas.{same_calls, up_to_last}
use Rattle.aec_edit.proofs.OverwriteLemmas.{overwrite_can, overwrite_calls}
use Rattle.aec_edit.proofs.AppendLemmas.{append_can, append_calls}
use Rattle.aec_edit.proofs.TruncateLemmas.{truncate_can, truncate_calls}
use Rattle.aec_edit.proofs.InsertLemmas.{insert_can, insert_calls}
use Rattle.aec_edit.proofs.RemoveLemmas.{remove_can, remove_calls}
use Rattle.aec_edit.proofs.MoveLemmas.{end_for}

-- ---- which places can be exchanged

pub to_last_in : (n limit count first stop to len : ℕ) → 0 < n → count ≤ limit
    → first ≤ stop → stop ≤ count → to ≡ div_ceil stop n → first + len + (count - stop) ≤ limit
    → CanExchangeIn n limit count (from_to first stop) to len
to_last_in n limit count first stop to len some there order within to_is few = record {
  there = there;
  order = order;
  within = within;
  before = rw to_is (ceil_bounds stop n some).0;
  inside = rw to_is (ceil_mono n stop count some within);
  few = few;
}

-- up to the last interval that an insertion or a removal of len' samples codes
pub ends_in : (n limit count first stop to len' len : ℕ) → 0 < n → count ≤ limit → first ≤ stop → stop ≤ count → to ≡ end_for n count stop len'
    → first + len + (count - stop) ≤ limit → CanExchangeIn n limit count (from_to first stop) to len
ends_in n limit count first stop to len' len some there order within to_is few = by_test (eqb (len' % n) 0) to_is
  where
    by_test : (t : Bool) → to ≡ cond t (div_ceil stop n) (div_ceil count n) → CanExchangeIn n limit count (from_to first stop) to len
    by_test true is = to_last_in n limit count first stop to len some there order within is few
    by_test false is = record {
      there = there;
      order = order;
      within = within;
      before = rw is (omega (arith, (ceil_bounds count n some).0));
      inside = rw is (omega arith);
      few = few;
    }

-- ---- edits as exchanges

pub exchanged_len : (first stop : ℕ) (values s : List ℤ) → first ≤ length s → length (exchanged (from_to first stop) values s) ≡ first + length values + (length
    s - stop)
exchanged_len first stop values s within =
    omega (
      arith,
      length-append (take first s) (values ++ drop stop s),
      length-append values (drop stop s),
      length-take first s,
      length-drop stop s,
    )

pub exchanged_held : (f : Format) (first stop : ℕ) (values s : List ℤ) → AreHeld f values → AreHeld f s → AreHeld f (exchanged (from_to first stop) values s)
exchanged_held f first stop values s values_held held =
    held-append f.holds (take first s) (values ++ drop stop s) (held-take f.holds first s held)
    (held-append f.holds values (drop stop s) values_held (held-drop f.holds stop s held))

-- the exchange that an edit makes
pub is_change : (f : Format) (limit count first stop to : ℕ) (s values : List ℤ) (e : Edit) (change : Change) → HasCount f count s
    → refusal_of f limit s e ≡ None → IsExchangeUpTo f limit s (from_to first stop) to values
    → recoding_calls f.most (length s) (recoding first stop to (length values)) ≡ needed_calls f.most (length s) e
    → samples_after s e ≡ exchanged (from_to first stop) values s → IsExchangeFor f.most count (from_to first stop) to values change
    → IsChangeOf f limit s e change
is_change f limit count first stop to s values e change counted fits can needed left is =
    let total = exchanged_len first stop values s (omega (arith, can.order, can.within)) in
    let sizes : change.count ≡ first + length values + (length s - stop) = omega (arith, is.count_is, counted.length_is) in
    let calls : change.needed ≡ recoding_calls f.most (length s) (recoding first stop to (length values)) =
    is.needed_is ∙ ap (λ k. recoding_calls f.most k (recoding first stop to (length values))) (sym counted.length_is) in
    record {
      fits = fits;
      made = record {
        can = rw (is.first_is, is.stop_is, is.to_is, is.values_are) can;
        from_is = rw (is.first_is) is.from_is;
        needed_is = rw (is.first_is, is.stop_is, is.to_is, is.values_are) calls;
        count_is = rw (is.first_is, is.stop_is, is.values_are) sizes;
      };
      needed = calls ∙ needed;
      left = rw (is.first_is, is.stop_is, is.values_are) left;
      counted = record {
        length_is = ap length left ∙ total ∙ sym sizes;
        held = subst (AreHeld f) (sym left) (exchanged_held f first stop values s can.held counted.held);
      };
      few = omega (arith, sizes, can.few);
    }

module _ (f : Format) (limit count : ℕ) (s : List ℤ) (lawful : IsLawful f) (counted : HasCount f count s) (few : count ≤ limit) where
  pub overwrite_change : (first stop to : ℕ) (values : List ℤ) (change : Change) → AreHeld f values → first + length values ≤ count → 0 < length values
      → stop ≡ first + length values → to ≡ div_ceil stop f.most
      → IsExchangeFor f.most count (from_to first stop) to values change → IsChangeOf f limit s (Overwrite first values) change
  overwrite_change first stop to values change held within some stop_is to_is is =
      let inside : first + length values ≤ length s = omega (arith, counted.length_is) in
      let can = overwrite_can f limit first s values held inside (omega (arith, counted.length_is)) in
      is_change f limit count first (first + length values) (div_ceil (first + length values) f.most) s values (Overwrite first values) change counted
      (overwrite_fits f limit first s values held inside)
      (up_to_last f limit first (first + length values) s values lawful counted.held can)
      (same_calls f limit first (first + length values) s values lawful counted.held can ∙ overwrite_calls f.most first (length values) lawful.some some)
      refl (rw (to_is, stop_is) at is)

  pub append_change : (to : ℕ) (values : List ℤ) (change : Change) → AreHeld f values → length s + length values ≤ limit → 0 < length values
      → to ≡ div_ceil count f.most → IsExchangeFor f.most count (from_to count count) to values change → IsChangeOf f limit s (Append values) change
  append_change to values change held fits some to_is is =
      let old : count ≡ length s = sym counted.length_is in
      let can = append_can f limit count s values old held fits in
      let left : samples_after s (Append values) ≡ exchanged (from_to count count) values s =
      sym (ap (λ l. l ++ (values ++ drop count s)) (take_all count s (omega arith))
      ∙ ap (λ l. s ++ (values ++ l)) (drop_all count s (omega arith)) ∙ ap (λ l. s ++ l) (append-nil values)) in
      let codes : recoding_calls f.most (length s) (recoding count count (div_ceil count f.most) (length values)) ≡ needed_calls f.most (length s)
      (Append values) =
      same_calls f limit count count s values lawful counted.held can
      ∙ append_calls f.most count values some ∙ ap (λ k. needed_calls f.most k (Append values)) old in
      is_change f limit count count count (div_ceil count f.most) s values (Append values) change counted
      (append_fits f limit s values held fits) (up_to_last f limit count count s values lawful counted.held can) codes left (rw to_is at is)

  pub truncate_change : (stop to : ℕ) (change : Change) → stop < count → to ≡ div_ceil count f.most
      → IsExchangeFor f.most count (from_to stop count) to [] change → IsChangeOf f limit s (Truncate stop) change
  truncate_change stop to change less to_is is =
      let old : count ≡ length s = sym counted.length_is in
      let can = truncate_can f limit stop count s old less (omega arith) in
      let left : samples_after s (Truncate stop) ≡ exchanged (from_to stop count) [] s =
      sym (ap (λ l. take stop s ++ l) (drop_all count s (omega arith)) ∙ append-nil (take stop s)) in
      let codes : recoding_calls f.most (length s) (recoding stop count (div_ceil count f.most) 0) ≡ needed_calls f.most (length s) (Truncate stop) =
      same_calls f limit stop count s [] lawful counted.held can
      ∙ truncate_calls f.most count stop lawful.some less ∙ ap (λ k. needed_calls f.most k (Truncate stop)) old in
      is_change f limit count stop count (div_ceil count f.most) s [] (Truncate stop) change counted
      (truncate_fits f limit stop s (omega arith)) (up_to_last f limit stop count s [] lawful counted.held can) codes left (rw to_is at is)

  pub insert_change : (first to : ℕ) (values : List ℤ) (change : Change) → first ≤ count → AreHeld f values → length s + length values ≤ limit
      → 0 < length values
      → to ≡ end_for f.most count first (length values) → IsExchangeFor f.most count (from_to first first) to values change
      → IsChangeOf f limit s (Insert first values) change
  insert_change first to values change within held fits some to_is is =
      let inside : first ≤ length s = omega (arith, counted.length_is) in
      let end : to ≡ end_for f.most (length s) first (length values) =
      to_is ∙ ap (λ k. end_for f.most k first (length values)) (sym counted.length_is) in
      is_change f limit count first first (end_for f.most (length s) first (length values)) s values (Insert first values) change counted
      (insert_fits f limit first s values held inside fits) (insert_can f limit first s values lawful.some held inside fits)
      (insert_calls f.most (length s) first values lawful.some some inside) refl (rw end at is)

  pub remove_change : (first len stop to : ℕ) (change : Change) → first + len ≤ count → 0 < len → stop ≡ first + len
      → to ≡ end_for f.most count stop len → IsExchangeFor f.most count (from_to first stop) to [] change
      → IsChangeOf f limit s (Remove first len) change
  remove_change first len stop to change within some stop_is to_is is =
      let inside : first + len ≤ length s = omega (arith, counted.length_is) in
      let end : to ≡ end_for f.most (length s) (first + len) len =
      to_is ∙ ap (λ k. end_for f.most k stop len) (sym counted.length_is) ∙ ap (λ k. end_for f.most (length s) k len) stop_is in
      is_change f limit count first (first + len) (end_for f.most (length s) (first + len) len) s [] (Remove first len) change counted
      (remove_fits f limit first len s inside) (remove_can f limit first len s lawful.some inside (omega (arith, counted.length_is)))
      (remove_calls f.most (length s) first len lawful.some some inside) refl (rw (end, stop_is) at is)

-- ---- what is due

pub due_none : (f : Format) (limit : ℕ) (s : List ℤ) (calls needed : ℕ) (e : Edit) → refusal_of f limit s e ≡ None
    → needed ≡ needed_calls f.most (length s) e → needed ≤ 2 ^ 64 - 1 - calls → due_refusal f limit s calls e ≡ None
due_none f limit s calls needed e fits needed_is enough =
    ap (λ p. option_or p (want_of_calls calls (needed_calls f.most (length s) e))) fits ∙ ap (want_of_calls calls) (sym needed_is)
    ∙ calls_left calls needed enough

pub due_refused : (f : Format) (limit : ℕ) (s : List ℤ) (calls : ℕ) (e : Edit) (fault : Fault) → refusal_of f limit s e ≡ Some fault
    → due_refusal f limit s calls e ≡ Some fault
due_refused f limit s calls e fault refused = ap (λ p. option_or p (want_of_calls calls (needed_calls f.most (length s) e))) refused

-- ---- edits one after the other

all_after-push : (s : List ℤ) (edits : List Edit) (e : Edit) → all_after s (edits ++ e ∷ []) ≡ samples_after (all_after s edits) e
all_after-push s [] e = refl
all_after-push s (d ∷ edits) e = all_after-push (samples_after s d) edits e

all_needed-push : (n : ℕ) (s : List ℤ) (edits : List Edit) (e : Edit)
    → all_needed n s (edits ++ e ∷ []) ≡ all_needed n s edits + needed_calls n (length (all_after s edits)) e
all_needed-push n s [] e = omega arith
all_needed-push n s (d ∷ edits) e = omega (arith, all_needed-push n (samples_after s d) edits e)

module _ (edits : List Edit) (i : ℕ) (e : Edit) (within : i < length edits) (is : e ≡ get_or edits i e) where
  front_more : take (i + 1) edits ≡ take i edits ++ e ∷ []
  front_more = take_more edits i e within ∙ ap (λ d. take i edits ++ d ∷ []) (sym is)

  rest_more : drop i edits ≡ e ∷ drop (i + 1) edits
  rest_more = drop_more edits i e within ∙ ap (λ d. d ∷ drop (i + 1) edits) (sym is)

  pub after_more : (s : List ℤ) → all_after s (take (i + 1) edits) ≡ samples_after (all_after s (take i edits)) e
  after_more s = ap (all_after s) front_more ∙ all_after-push s (take i edits) e

  pub needed_more : (n : ℕ) (s : List ℤ) → all_needed n s (take (i + 1) edits)
      ≡ all_needed n s (take i edits) + needed_calls n (length (all_after s (take i edits))) e
  needed_more n s = ap (all_needed n s) front_more ∙ all_needed-push n s (take i edits) e

  module _ (f : Format) (limit : ℕ) (s : List ℤ) (calls count : ℕ) (so_far : FitSoFar f limit s calls edits i count) where
    abbrev left : List ℤ
    left = all_after s (take i edits)

    abbrev made : ℕ
    made = calls + all_needed f.most s (take i edits)

    -- what is due for this edit and those after it
    due_here : first_refusal f limit s calls 0 edits
        ≡ stop_or i (due_refusal f limit left made e)
        (first_refusal f limit (samples_after left e) (made + needed_calls f.most (length left) e) (i + 1) (drop (i + 1) edits))
    due_here = so_far.due ∙ ap (first_refusal f limit left made i) rest_more

    -- the edit fits too
    pub fits_more : (change : Change) → IsChangeOf f limit left e change → due_refusal f limit left made e ≡ None
        → FitSoFar f limit s calls edits (i + 1) change.count
    fits_more change is_it none =
        let after = after_more s in
        let sum : made + needed_calls f.most (length left) e ≡ calls + all_needed f.most s (take (i + 1) edits) =
        omega (arith, needed_more f.most s) in
        record {
          counted = subst (λ l. HasCount f change.count l) (sym after) is_it.counted;
          few = is_it.few;
          due =
              due_here
              ∙ ap (λ d. stop_or i d
              (first_refusal f limit (samples_after left e) (made + needed_calls f.most (length left) e) (i + 1) (drop (i + 1) edits))) none
              ∙ ap (λ k. first_refusal f limit (samples_after left e) k (i + 1) (drop (i + 1) edits)) sum
              ∙ ap (λ l. first_refusal f limit l (calls + all_needed f.most s (take (i + 1) edits)) (i + 1) (drop (i + 1) edits)) (sym after);
        }

    -- the edit doesn't fit
    pub stops_at : (fault : Fault) → due_refusal f limit left made e ≡ Some fault
        → first_refusal f limit s calls 0 edits ≡ Some (record { place = i; fault = fault })
    stops_at fault due =
        due_here
        ∙ ap (λ d. stop_or i d
        (first_refusal f limit (samples_after left e) (made + needed_calls f.most (length left) e) (i + 1) (drop (i + 1) edits))) due

    -- none is due for any edit, so none is due for this one
    pub none_here : first_refusal f limit s calls 0 edits ≡ None → due_refusal f limit left made e ≡ None
    none_here none = none_of _ _ (sym due_here ∙ none)
      where
        none_of : (d : Option Fault) (later : Option Stop) → stop_or i d later ≡ None → d ≡ None
        none_of None later h = refl
        none_of (Some fault) later h = absurd (cc)

-- at the start
pub fit_first : (f : Format) (limit count : ℕ) (s : List ℤ) (calls : ℕ) (edits : List Edit) → HasCount f count s → count ≤ limit
    → FitSoFar f limit s calls edits 0 count
fit_first f limit count s calls edits counted few =
    let none : calls + 0 ≡ calls = omega arith in
    record { counted = counted; few = few; due = ap (λ k. first_refusal f limit s k 0 edits) (sym none) }

-- what is due if as many calls are left as the codec can still make
pub due_now : (f : Format) (limit : ℕ) (s : List ℤ) (calls more : ℕ) (edits : List Edit) (due : Option Stop) → 2 ^ 64 - 1 - more ≡ calls
    → first_refusal f limit s (2 ^ 64 - 1 - more) 0 edits ≡ due → first_refusal f limit s calls 0 edits ≡ due
due_now f limit s calls more edits due same is = subst (λ k. first_refusal f limit s k 0 edits ≡ due) same is

-- a refusal of an edit is due if none is
pub refused_none : (f : Format) (limit : ℕ) (s : List ℤ) (calls : ℕ) (e : Edit) (fault : Fault) → due_refusal f limit s calls e ≡ None
    → refusal_of f limit s e ≡ Some fault → ⊥
refused_none f limit s calls e fault none refused = apart (sym (due_refused f limit s calls e fault refused) ∙ none)
  where
    apart : Some fault ≡ None → ⊥
    apart h = absurd (cc)
