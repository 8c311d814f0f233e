-- The steps of coding a draft.
use Rattle.std.proofs.Common.{◌≡◌, ℕ, ◌+◌, ◌-◌, ◌*◌, ◌^◌, ◌<◌, ◌≤◌, min, Bool, List, [], ◌∷◌, ◌++◌, length, take, drop, get_or, ℤ, inl, inr, ◌⊎◌, refl, sym, ap, ◌∙◌, subst, arith}
use Rattle.std.specs.Int.{div_ceil}
use Rattle.std.proofs.lemmas.Bool.{cases_lt}
use Rattle.std.proofs.Math.Nat.{mul-le-mul_left}
use Rattle.std.proofs.lemmas.List.{append-nil, length-drop, drop-drop, drop_all, drop_min}
use Rattle.aec_params.proofs.CountLaws.{before_end}
use Rattle.aec_bits.proofs.CodeLaws.{code_of-nil}
use Rattle.aec_edit.specs.declared.batch.Change.{Change}
use Rattle.aec_edit.specs.declared.outcome.Stop.{Stop}
use Rattle.aec_params.specs.declared.fault.Fault.{Fault}
use Rattle.aec_edit.specs.Workspace.{Contents}
use Rattle.aec_edit.specs.Changes.{exchanged}
use Rattle.aec_edit.specs.Batched.{IsChangeOf, gone_by}
use Rattle.aec_edit.specs.Batches.{all_after, all_needed}
use Rattle.aec_params.specs.declared.edit.Edit.{Edit}
use Rattle.aec_edit.specs.Coming.{AddsInterval}
use Rattle.aec_edit.specs.declared.coded.Coded.{Coded}
use Rattle.aec_edit.proofs.StartLemmas.{starts_of-nil}
use Rattle.aec_edit.proofs.CodingLemmas.{splits_first, bits_more, starts_more}
use Rattle.aec_edit.proofs.BatchLemmas.{after_more, needed_more}
use Rattle.aec_bits.specs.Codec.{Format, AreHeld, IsLawful, code_of}
use Rattle.aec_edit.specs.Index.{starts_of}
use Rattle.aec_edit.specs.declared.pieces.Piece.{Piece}
use Rattle.aec_edit.specs.declared.workspace.rebuilding.Draft.{Draft}
use Rattle.aec_edit.specs.Pieces.{piece_len, piece_places, places_after}
use Rattle.aec_edit.specs.Drafts.{AreAt, AreFrom, fresh_among, IsDraft, IsToCode, CanBeDrafted, AddsNext, IsCodeOf, fresh_left}
use Rattle.aec_edit.proofs.HeldLemmas.{held-drop}
use Rattle.aec_edit.proofs.RebuildLemmas.{first_mark, fresh_first, fresh_kept, fresh_new, places_dropped, whole_of}

-- there is a next number if samples are left
pub some_marks : (n : ℕ) (old rest : List ℤ) (m : List ℕ) → 0 < n → AreFrom n old m rest → 0 < length rest → 0 < length m
some_marks n old rest [] h from some = absurd (omega (arith, ap length from))
some_marks n old rest (k ∷ m) h from some = omega arith

-- there are no more intervals than samples
pub few_intervals : (n count : ℕ) → 0 < n → div_ceil count n ≤ count
few_intervals n count h = ends (cases_lt count (div_ceil count n))
  where
    ends : (count < div_ceil count n) ⊎ (div_ceil count n ≤ count) → div_ceil count n ≤ count
    ends (inl less) =
        let inside = before_end count count n h less in
        let up : count * 1 ≤ count * n = mul-le-mul_left {m = 1} {n = n} count h in
        absurd (omega arith)
    ends (inr all) = all

pub one_mark : (n : ℕ) (old rest : List ℤ) (piece : Piece) (cur : List Piece) → 0 < n → AreFrom n old (places_after cur) rest → piece_len piece ≤ 1
    → (0 < 1 → 0 < length (places_after cur) → 0 < piece_len piece) → 0 < length rest → piece_len piece ≡ 1
one_mark n old rest piece cur h from few some left =
    let more = some (omega arith) (some_marks n old rest (places_after cur) h from left) in omega arith

-- how many intervals are fresh, with this one
pub fresh_here : (n : ℕ) (old : List ℤ) (draft : Draft) (piece : Piece) (mid : List Piece) → piece_len piece ≡ 1
    → places_after draft.intervals.after.items ≡ piece_places piece ++ places_after mid → div_ceil (length old) n ≤ piece.first
    → fresh_left n old draft ≡ 1 + fresh_among (div_ceil (length old) n) (places_after mid)
fresh_here n old draft piece mid one taken past =
    fresh_first (div_ceil (length old) n) piece draft.intervals.after.items mid taken one
    ∙ fresh_new (div_ceil (length old) n) piece.first (fresh_among (div_ceil (length old) n) (places_after mid)) past

-- ---- a step

module _ (f : Format) (old rest : List ℤ) (draft draft' : Draft) (piece : Piece) (len : ℕ) (coded coded' : Coded) (to_code : IsToCode f.most old rest draft)
    (len_is : len ≡ min f.most (length rest)) (one : piece_len piece ≡ 1)
    (taken : places_after draft.intervals.after.items ≡ piece_places piece ++ places_after draft'.intervals.after.items)
    (values : draft'.values.items ≡ draft.values.items) (starts : coded'.starts.items ≡ coded.starts.items ++ length coded.bits.list ∷ []) where
  marks_here : AreFrom f.most old (piece.first ∷ places_after draft'.intervals.after.items) rest
  marks_here = first_mark f.most old rest piece draft.intervals.after.items draft'.intervals.after.items to_code.marks taken one

  -- the next interval is an old one
  pub step_kept : piece.first < div_ceil (length old) f.most → places_after draft'.samples.after.items ≡ drop len (places_after draft.samples.after.items)
      → coded'.bits.list ≡ coded.bits.list ++ f.bits_of (take f.most (drop (piece.first * f.most) old))
      → IsToCode f.most old (drop f.most rest) draft' × AddsInterval f (take f.most rest) coded coded'
      × (fresh_left f.most old draft' ≡ fresh_left f.most old draft)
  step_kept within dropped copied_is = (
    record {
      places = subst (λ v. AreAt (old ++ v) (places_after draft'.samples.after.items) (drop f.most rest)) (sym values)
          (places_dropped f.most len (old ++ draft.values.items) rest draft.samples.after.items draft'.samples.after.items len_is to_code.places dropped);
      marks = marks_here.2;
    },
    record { bits = copied_is ∙ ap (λ l. coded.bits.list ++ f.bits_of l) (sym (marks_here.1 within)); starts = starts },
    sym (fresh_first (div_ceil (length old) f.most) piece draft.intervals.after.items draft'.intervals.after.items taken one
        ∙ fresh_kept (div_ceil (length old) f.most) piece.first (fresh_left f.most old draft') within),
  )

  -- the next interval is coded
  pub step_fresh : (front : List ℤ) → AreAt (old ++ draft.values.items) (places_after draft'.samples.after.items) (drop len rest) → front ≡ take len rest
      → coded'.bits.list ≡ coded.bits.list ++ f.bits_of front
      → IsToCode f.most old (drop f.most rest) draft' × AddsInterval f (take f.most rest) coded coded'
  step_fresh front at front_is coded_is = (
    record {
      places = subst (λ v. AreAt (old ++ v) (places_after draft'.samples.after.items) (drop f.most rest)) (sym values)
          (subst (AreAt (old ++ draft.values.items) (places_after draft'.samples.after.items)) (ap (λ k. drop k rest) len_is ∙ drop_min f.most rest) at);
      marks = marks_here.2;
    },
    record {
      bits = coded_is ∙ ap (λ l. coded.bits.list ++ f.bits_of l) (front_is ∙ whole_of f.most len rest len_is);
      starts = starts;
    },
  )

-- ---- all steps

pub can_go_on : {C : Type 0} (format_of : C → Format) (called : C → ℕ) (w now : Contents C) (s rest : List ℤ) (draft left : Draft)
    → format_of now.codec ≡ format_of w.codec → now.samples ≡ w.samples
    → called now.codec + fresh_left (format_of w.codec).most w.samples left ≡ called w.codec + fresh_left (format_of w.codec).most w.samples draft
    → CanBeDrafted format_of called w s draft → IsToCode (format_of w.codec).most w.samples rest left → AreHeld (format_of w.codec) rest
    → CanBeDrafted format_of called now rest left
can_go_on format_of called w now s rest draft left format samples calls can to_code held =
    let few : called now.codec + fresh_left (format_of w.codec).most w.samples left ≤ 2 ^ 64 - 1 = omega (arith, calls, can.calls) in
    record { to_code = rw (format, samples) to_code; held = rw format held; calls = rw (format, samples) few }

pub coding_starts : (f : Format) (s : List ℤ) (coded : Coded) (done : ℕ) → done ≡ 0 → coded.bits.list ≡ [] → coded.starts.items ≡ []
    → (code_of f s ≡ coded.bits.list ++ code_of f (drop done s))
    × (starts_of f 0 s ≡ coded.starts.items ++ starts_of f (length coded.bits.list) (drop done s))
coding_starts f s coded done none no_bits no_starts = (
  ap (λ k. code_of f (drop k s)) (sym none) ∙ ap (λ l. l ++ code_of f (drop done s)) (sym no_bits),
  ap (λ k. starts_of f 0 (drop k s)) (sym none) ∙ ap (λ l. starts_of f (length l) (drop done s)) (sym no_bits)
      ∙ ap (λ l. l ++ starts_of f (length coded.bits.list) (drop done s)) (sym no_starts),
)

-- what is left after the next interval
pub later_rest : (n done len count : ℕ) (s : List ℤ) → len ≡ min n (length (drop done s)) → done + len ≡ count → drop count s ≡ drop n (drop done s)
later_rest n done len count s len_is sum =
    ap (λ k. drop k s) (sym sum) ∙ sym (drop-drop len done s) ∙ ap (λ k. drop k (drop done s)) len_is ∙ drop_min n (drop done s)

pub adds_more : (f : Format) (s rest next : List ℤ) (coded coded' : Coded) → IsLawful f → AddsInterval f (take f.most rest) coded coded' → 0 < length rest
    → next ≡ drop f.most rest → code_of f s ≡ coded.bits.list ++ code_of f rest
    → starts_of f 0 s ≡ coded.starts.items ++ starts_of f (length coded.bits.list) rest
    → (code_of f s ≡ coded'.bits.list ++ code_of f next) × (starts_of f 0 s ≡ coded'.starts.items ++ starts_of f (length coded'.bits.list) next)
adds_more f s rest next coded coded' lawful adds some next_is bits starts =
    let split = splits_first f rest next some next_is in (
      bits_more f coded.bits.list coded'.bits.list (code_of f s) lawful split bits adds.bits,
      starts_more f coded.bits.list coded'.bits.list coded.starts.items coded'.starts.items (starts_of f 0 s) (length coded.bits.list) lawful split starts refl
          adds.starts adds.bits,
    )

pub coded_all : (f : Format) (s : List ℤ) (coded : Coded) (bits : List Bool) (starts : List ℕ) (done : ℕ) → IsLawful f → done ≡ length s
    → code_of f s ≡ bits ++ code_of f (drop done s) → starts_of f 0 s ≡ starts ++ starts_of f (length bits) (drop done s)
    → coded.bits.list ≡ bits → coded.starts.items ≡ starts → coded.count ≡ length s → IsCodeOf f s coded
coded_all f s coded bits starts done lawful done_is code index bits_are starts_are count_is =
    let none : drop done s ≡ [] = drop_all done s (omega arith) in
    record {
      bits = bits_are ∙ sym (code ∙ ap (λ l. bits ++ code_of f l) none ∙ ap (λ l. bits ++ l) (code_of-nil f lawful.some) ∙ append-nil bits);
      starts = starts_are
          ∙ sym (index ∙ ap (λ l. starts ++ starts_of f (length bits) l) none ∙ ap (λ l. starts ++ l) (starts_of-nil f (length bits) lawful.some)
          ∙ append-nil starts);
      count_is = count_is;
    }

pub can_draft : {C : Type 0} (format_of : C → Format) (called : C → ℕ) (w : Contents C) (s : List ℤ) (draft : Draft) (most : ℕ)
    → IsToCode (format_of w.codec).most w.samples s draft → fresh_left (format_of w.codec).most w.samples draft ≤ most → AreHeld (format_of w.codec) s
    → called w.codec + most ≤ 2 ^ 64 - 1 → CanBeDrafted format_of called w s draft
can_draft format_of called w s draft most to_code few held calls = record { to_code = to_code; held = held; calls = omega (arith, few, calls) }

abbrev pub stop_with : ℕ → Fault → Stop
stop_with place fault = record { place = place; fault = fault }

-- a draft with one more edit
pub draft_more : (f : Format) (limit : ℕ) (old : List ℤ) (edits : List Edit) (i : ℕ) (e : Edit) (change : Change) (draft : Draft) → i < length edits
    → e ≡ get_or edits i e → IsChangeOf f limit (all_after old (take i edits)) e change
    → IsDraft f old (exchanged (gone_by change) change.values.now (all_after old (take i edits))) (all_needed f.most old (take i edits) + change.needed) draft
    → IsDraft f old (all_after old (take (i + 1) edits)) (all_needed f.most old (take (i + 1) edits)) draft
draft_more f limit old edits i e change draft within is is_it drafted =
    let left = sym is_it.left ∙ sym (after_more edits i e within is old) in
    let sum : all_needed f.most old (take i edits) + change.needed ≡ all_needed f.most old (take (i + 1) edits) =
    omega (arith, is_it.needed, needed_more edits i e within is f.most old) in
    subst (λ k. IsDraft f old (all_after old (take (i + 1) edits)) k draft) sum
    (subst (λ l. IsDraft f old l (all_needed f.most old (take i edits) + change.needed) draft) left drafted)

-- what was coded so far of the samples s, and the draft of the others, from number `done` on
pub record IsCodedTo (f : Format) (old s : List ℤ) (done : ℕ) (draft : Draft) (coded : Coded) : Type 0 where
  pub to_code : IsToCode f.most old (drop done s) draft
  pub bits : code_of f s ≡ coded.bits.list ++ code_of f (drop done s)
  pub starts : starts_of f 0 s ≡ coded.starts.items ++ starts_of f (length coded.bits.list) (drop done s)

-- one more interval is coded or copied, in a workspace whose format and samples are those of `w`
module _ {C : Type 0} (format_of : C → Format) (called : C → ℕ) (w now after : Contents C) (s : List ℤ) (draft left left' : Draft) (coded coded' : Coded)
    (count here len : ℕ) (lawful : IsLawful (format_of w.codec)) (format : format_of now.codec ≡ format_of w.codec) (samples : now.samples ≡ w.samples)
    (calls : called now.codec + fresh_left (format_of w.codec).most w.samples left ≡ called w.codec + fresh_left (format_of w.codec).most w.samples draft)
    (can : CanBeDrafted format_of called w s draft) (count_is : count ≡ length s) (few : here ≤ count)
    (so_far : IsCodedTo (format_of w.codec) w.samples s (count - here) left coded) where
  pub can_step : CanBeDrafted format_of called now (drop (count - here) s) left
  can_step =
      can_go_on format_of called w now s (drop (count - here) s) draft left format samples calls can so_far.to_code
      (held-drop (format_of w.codec).holds (count - here) s can.held)

  pub one_interval : len ≡ min (format_of w.codec).most here → len ≡ min (format_of now.codec).most (length (drop (count - here) s))
  one_interval len_is =
      let size : len ≡ min (format_of w.codec).most (length (drop (count - here) s)) = omega (arith, len_is, length-drop (count - here) s, few, count_is) in
      rw format size

  pub stepped : ((rest : List ℤ) → CanBeDrafted format_of called now rest left → len ≡ min (format_of now.codec).most (length rest)
      → AddsNext format_of called rest now after left left' coded coded') → 0 < here → len ≡ min (format_of w.codec).most here
      → IsCodedTo (format_of w.codec) w.samples s (count - (here - len)) left' coded'
      × (called after.codec + fresh_left (format_of w.codec).most w.samples left' ≡ called w.codec + fresh_left (format_of w.codec).most w.samples draft)
  stepped adds some len_is =
      let f : Format = format_of w.codec in
      let rest : List ℤ = drop (count - here) s in
      let next : ℕ = count - (here - len) in
      let did = adds rest can_step (one_interval len_is) in
      let size : len ≡ min f.most (length rest) = omega (arith, len_is, length-drop (count - here) s, few, count_is) in
      let later : drop next s ≡ drop f.most rest = later_rest f.most (count - here) len next s size (omega (arith, len_is, few)) in
      let to_code : IsToCode f.most w.samples (drop f.most rest) left' = rw (format, samples) at did.to_code in
      let interval : AddsInterval f (take f.most rest) coded coded' = rw format at did.adds in
      let left_calls : called after.codec + fresh_left f.most w.samples left' ≡ called now.codec + fresh_left f.most w.samples left =
      rw (format, samples) at did.calls in
      let more = adds_more f s rest (drop next s) coded coded' lawful interval (omega (arith, length-drop (count - here) s, few, count_is, some)) later
      so_far.bits so_far.starts in (
        record { to_code = subst (λ l. IsToCode f.most w.samples l left') (sym later) to_code; bits = more.0; starts = more.1 },
        left_calls ∙ calls,
      )

-- the same for any such samples
pub all_stepped : {C : Type 0} (format_of : C → Format) (called : C → ℕ) (w now after : Contents C) (draft left left' : Draft) (coded coded' : Coded)
    (count here len : ℕ) → IsLawful (format_of w.codec) → format_of now.codec ≡ format_of w.codec → now.samples ≡ w.samples
    → called now.codec + fresh_left (format_of w.codec).most w.samples left ≡ called w.codec + fresh_left (format_of w.codec).most w.samples draft
    → here ≤ count → ((s : List ℤ) → CanBeDrafted format_of called w s draft → count ≡ length s
    → IsCodedTo (format_of w.codec) w.samples s (count - here) left coded)
    → ((rest : List ℤ) → CanBeDrafted format_of called now rest left → len ≡ min (format_of now.codec).most (length rest)
    → AddsNext format_of called rest now after left left' coded coded') → 0 < here → len ≡ min (format_of w.codec).most here
    → (s : List ℤ) → CanBeDrafted format_of called w s draft → count ≡ length s
    → IsCodedTo (format_of w.codec) w.samples s (count - (here - len)) left' coded'
    × (called after.codec + fresh_left (format_of w.codec).most w.samples left' ≡ called w.codec + fresh_left (format_of w.codec).most w.samples draft)
all_stepped format_of called w now after draft left left' coded coded' count here len lawful format samples calls few so_far adds some len_is s can
    count_is =
    stepped format_of called w now after s draft left left' coded coded' count here len lawful format samples calls can count_is few (so_far s can count_is)
    adds some len_is
