-- A draft is coded, one interval at a time.
use Rattle.std.proofs.Common.{◌≡◌, ℕ, ◌+◌, ◌-◌, ◌*◌, ◌/◌, ◌%◌, ◌<◌, ◌≤◌, ltb, true, false, cond, min, Bool, List, [], ◌∷◌, ◌++◌, length, take, drop, ℤ, refl, sym, ap, ◌∙◌, subst, arith, append_assoc, take-add, length-append}
use Rattle.std.specs.Int.{div_ceil}
use Rattle.std.specs.List.{range_with_len}
use Rattle.std.proofs.lemmas.Bool.Decides.{nat_tests}
use Rattle.std.proofs.lemmas.List.{nil_from_length, length-take, length-drop, drop-drop, drop-take, take_min, drop_min, take_at, drop_at, take-take, take-append-le, drop-append-le}
use Rattle.aec_params.proofs.CountLaws.{before_end}
use Rattle.aec_bits.proofs.CodeLaws.{code_of_first}
use Rattle.aec_edit.specs.declared.batch.Change.{Change}
use Rattle.aec_edit.specs.Workspace.{Contents, interval_count, start_of}
use Rattle.aec_edit.specs.Changes.{exchanged}
use Rattle.aec_edit.specs.Batched.{HasCount, CanBeMade, gone_by}
use Rattle.aec_edit.specs.Index.{IsKeptCode}
use Rattle.aec_edit.proofs.ExchangeLemmas.{begins_before, ends_after}
use Rattle.aec_edit.proofs.StartLemmas.{drop-code_of, start_of-le}
use Rattle.aec_edit.proofs.KeptLemmas.{begins_there}
use Rattle.aec_edit.proofs.BatchLemmas.{exchanged_len, exchanged_held}
use Rattle.aec_params.proofs.RemovalLaws.{range-append}
use Rattle.aec_bits.specs.Codec.{Format, AreHeld, IsInterval, IsLawful, code_of}
use Rattle.aec_edit.specs.declared.pieces.Piece.{Piece}
use Rattle.aec_edit.specs.declared.pieces.Pieces.{Pieces}
use Rattle.aec_edit.specs.declared.workspace.rebuilding.Draft.{Draft}
use Rattle.aec_edit.specs.Pieces.{piece_len, piece_places, places_of, places_after, all_places, IsCut}
use Rattle.aec_edit.specs.Drafts.{AreAt, AreFrom, fresh_among, IsDraft, IsToCode, KeepsList}
use Rattle.aec_edit.proofs.HeldLemmas.{held-take}
use Rattle.aec_edit.proofs.PieceLemmas.{places_after-push}
use Rattle.aec_edit.proofs.DraftLemmas.{AreAt-drop, AreAt-first, AreAt-within, AreAt-range, AreFrom-all, fresh_among-old, places_exchanged, marks_exchanged, fresh_exchanged}

-- a piece whose places are within the list
pub piece_within : (old values rest : List ℤ) (piece : Piece) (cur mid : List Piece) → AreAt (old ++ values) (places_after cur) rest
    → places_after cur ≡ piece_places piece ++ places_after mid → 0 < piece_len piece → piece.stop ≤ length old + length values
piece_within old values rest piece cur mid at taken some =
    omega (
      arith,
      AreAt-within (old ++ values) piece.first (piece_len piece) (places_after mid) rest (subst (λ l. AreAt (old ++ values) l rest) taken at) some,
      length-append old values,
    )

-- more samples are gathered, the first ones of a piece whose others are put back
pub gathered_more : (all rest front now : List ℤ) (len left next got : ℕ) (piece : Piece) (cur mid later : List Piece) → left ≤ len → got ≤ left
    → next ≡ left - got → got ≤ piece_len piece → AreAt all (places_after cur) (drop (len - left) rest) → front ≡ take (len - left) rest
    → places_after cur ≡ piece_places piece ++ places_after mid → later ≡ mid ++ (record { first = piece.first + got; stop = piece.stop }) ∷ []
    → now ≡ front ++ take got (drop piece.first all)
    → (now ≡ take (len - next) rest) × AreAt all (places_after later) (drop (len - next) rest)
gathered_more all rest front now len left next got piece cur mid later few part next_is inside at so_far taken pushed read =
    let done : ℕ = len - left in
    let parts : piece_len piece ≡ got + (piece.stop - (piece.first + got)) = omega arith in
    let sum : done + got ≡ len - next = omega arith in
    let places : places_after cur ≡ range_with_len piece.first got ++ places_after later =
    taken
    ∙ ap (λ n. range_with_len piece.first n ++ places_after mid) parts
    ∙ ap (λ l. l ++ places_after mid) (range-append piece.first got (piece.stop - (piece.first + got)))
    ∙ append_assoc (range_with_len piece.first got) (range_with_len (piece.first + got) (piece.stop - (piece.first + got))) (places_after mid)
    ∙ ap (λ l. range_with_len piece.first got ++ l)
    (sym (ap places_after pushed ∙ places_after-push mid (record { first = piece.first + got; stop = piece.stop }))) in
    let first = AreAt-first all piece.first got (places_after later) (drop done rest) (subst (λ l. AreAt all l (drop done rest)) places at) in (
      read ∙ ap (λ l. l ++ take got (drop piece.first all)) so_far ∙ ap (λ l. take done rest ++ l) (sym first.0)
          ∙ sym (take-add done got rest) ∙ ap (λ n. take n rest) sum,
      subst (AreAt all (places_after later)) (drop-drop got done rest ∙ ap (λ n. drop n rest) sum) first.1,
    )

-- ---- one interval

-- the first number of a list is taken
pub first_mark : (n : ℕ) (old rest : List ℤ) (piece : Piece) (cur mid : List Piece) → AreFrom n old (places_after cur) rest
    → places_after cur ≡ piece_places piece ++ places_after mid → piece_len piece ≡ 1 → AreFrom n old (piece.first ∷ places_after mid) rest
first_mark n old rest piece cur mid from taken one =
    subst (λ l. AreFrom n old l rest) (taken ∙ ap (λ k. range_with_len piece.first k ++ places_after mid) one) from

pub fresh_first : (count : ℕ) (piece : Piece) (cur mid : List Piece) → places_after cur ≡ piece_places piece ++ places_after mid → piece_len piece ≡ 1
    → fresh_among count (places_after cur) ≡ cond (ltb piece.first count) 0 1 + fresh_among count (places_after mid)
fresh_first count piece cur mid taken one = ap (fresh_among count) (taken ∙ ap (λ k. range_with_len piece.first k ++ places_after mid) one)

pub fresh_kept : (count k rest : ℕ) → k < count → cond (ltb k count) 0 1 + rest ≡ rest
fresh_kept count k rest within = let inside : ltb k count ≡ true = grind (arith, nat_tests) in rw inside (omega arith)

pub fresh_new : (count k rest : ℕ) → count ≤ k → cond (ltb k count) 0 1 + rest ≡ 1 + rest
fresh_new count k rest past = let outside : ltb k count ≡ false = grind (arith, nat_tests) in rw outside refl

-- places are dropped with their samples
pub places_dropped : (n len : ℕ) (all rest : List ℤ) (cur later : List Piece) → len ≡ min n (length rest) → AreAt all (places_after cur) rest
    → places_after later ≡ drop len (places_after cur) → AreAt all (places_after later) (drop n rest)
places_dropped n len all rest cur later len_is at dropped =
    subst (λ l. AreAt all l (drop n rest)) (sym dropped)
    (subst (AreAt all (drop len (places_after cur))) (ap (λ k. drop k rest) len_is ∙ drop_min n rest) (AreAt-drop all len (places_after cur) rest at))

-- what was gathered is an interval
pub is_interval : (f : Format) (len : ℕ) (front rest : List ℤ) → front ≡ take len rest → len ≡ min f.most (length rest) → 0 < len → AreHeld f rest
    → IsInterval f front
is_interval f len front rest front_is len_is some held = record {
  some = omega (arith, ap length front_is, length-take len rest);
  few = omega (arith, ap length front_is, length-take len rest);
  held = subst (AreHeld f) (sym front_is) (held-take f.holds len rest held);
}

pub whole_of : (n len : ℕ) (rest : List ℤ) → len ≡ min n (length rest) → take len rest ≡ take n rest
whole_of n len rest len_is = ap (λ k. take k rest) len_is ∙ take_min n rest

-- ---- the whole draft

-- all places come after a cut before the first
pub all_after_cut : (pieces : Pieces) → pieces.at ≡ 0 → IsCut pieces → all_places pieces ≡ places_after pieces.after.items
all_after_cut pieces first cut =
    ap (λ l. l ++ places_after pieces.after.items) (nil_from_length (places_of pieces.before.items) (sym cut ∙ first))

pub draft_to_code : (f : Format) (old s : List ℤ) (most : ℕ) (draft : Draft) → draft.samples.at ≡ 0 → draft.intervals.at ≡ 0 → IsDraft f old s most draft
    → IsToCode f.most old s draft × (fresh_among (div_ceil (length old) f.most) (places_after draft.intervals.after.items) ≤ most)
draft_to_code f old s most draft first begin is =
    let places = all_after_cut draft.samples first is.places_cut in
    let marks = all_after_cut draft.intervals begin is.marks_cut in (
      record {
        places = subst (λ l. AreAt (old ++ draft.values.items) l s) places is.places;
        marks = subst (λ l. AreFrom f.most old l s) marks is.marks;
      },
      omega (arith, is.fresh, ap (fresh_among (div_ceil (length old) f.most)) marks),
    )

-- after its cuts have moved
pub rewound : (f : Format) (old s : List ℤ) (most : ℕ) (draft draft' : Draft) → IsDraft f old s most draft
    → all_places draft'.samples ≡ all_places draft.samples → all_places draft'.intervals ≡ all_places draft.intervals
    → draft'.values.items ≡ draft.values.items → draft'.count ≡ draft.count → IsCut draft'.samples → IsCut draft'.intervals → IsDraft f old s most draft'
rewound f old s most draft draft' is samples intervals values count cut cut' = record {
  places =
      subst (λ v. AreAt (old ++ v) (all_places draft'.samples) s) (sym values)
      (subst (λ l. AreAt (old ++ draft.values.items) l s) (sym samples) is.places);
  marks = subst (λ l. AreFrom f.most old l s) (sym intervals) is.marks;
  fresh = omega (arith, is.fresh, ap (fresh_among (div_ceil (length old) f.most)) intervals);
  counted = subst (λ n. HasCount f n s) (sym count) is.counted;
  places_cut = cut;
  marks_cut = cut';
}

-- the samples as they are
pub first_drafted : (f : Format) (s : List ℤ) (draft : Draft) (count total : ℕ) → IsLawful f → AreHeld f s → draft.values.items ≡ []
    → all_places draft.samples ≡ range_with_len 0 count → count ≡ length s → all_places draft.intervals ≡ range_with_len 0 total
    → total ≡ div_ceil (length s) f.most → IsCut draft.samples → IsCut draft.intervals → draft.count ≡ length s → IsDraft f s s 0 draft
first_drafted f s draft count total lawful held none places count_is marks total_is cut cut' size =
    let none_before : 0 * f.most ≡ 0 = omega arith in
    let all_here = AreFrom-all f.most lawful.some s total 0 (omega (arith, total_is)) in
    record {
      places =
          subst (λ v. AreAt (s ++ v) (all_places draft.samples) s) (sym none)
          (subst (λ l. AreAt (s ++ []) l s) (sym (places ∙ ap (range_with_len 0) count_is)) (AreAt-range (s ++ []) 0 s [] refl));
      marks = subst (λ l. AreFrom f.most s l s) (sym marks) (subst (λ k. AreFrom f.most s (range_with_len 0 total) (drop k s)) none_before all_here);
      fresh = omega (
        arith,
        ap (fresh_among (div_ceil (length s) f.most)) marks,
        fresh_among-old (div_ceil (length s) f.most) 0 total (omega (arith, total_is)),
      );
      counted = record { length_is = sym size; held = held };
      places_cut = cut;
      marks_cut = cut';
    }

-- places are exchanged for values
pub added : (f : Format) (limit : ℕ) (old s : List ℤ) (most d : ℕ) (draft draft' : Draft) (change : Change) (begin stop : ℕ) → IsLawful f
    → IsDraft f old s most draft → CanBeMade f limit s change → div_ceil (length old) f.most ≤ d
    → begin ≡ length old + length draft.values.items → stop ≡ begin + length change.values.now
    → draft'.values.items ≡ draft.values.items ++ change.values.now
    → all_places draft'.samples
    ≡ take change.first (all_places draft.samples) ++ (range_with_len begin (stop - begin) ++ drop change.stop (all_places draft.samples))
    → all_places draft'.intervals
    ≡ take change.from (all_places draft.intervals) ++ (range_with_len d (d + change.needed - d) ++ drop change.to (all_places draft.intervals))
    → IsCut draft'.samples → IsCut draft'.intervals → draft'.count ≡ change.count
    → IsDraft f old (exchanged (gone_by change) change.values.now s) (most + change.needed) draft'
added f limit old s most d draft draft' change begin stop lawful is can past begin_is stop_is grown places marks cut cut' count_is =
    let more : List ℤ = change.values.now in
    let left : List ℤ = exchanged (gone_by change) more s in
    let len : stop - begin ≡ length more = omega arith in
    let codes : d + change.needed - d ≡ change.needed = omega arith in
    let front : change.from ≡ change.first / f.most = can.from_is in
    let now : List ℕ = take change.from (all_places draft.intervals)
    ++ (range_with_len d (d + change.needed - d) ++ drop change.to (all_places draft.intervals)) in
    let same : now
    ≡ take (change.first / f.most) (all_places draft.intervals) ++ (range_with_len d change.needed ++ drop change.to (all_places draft.intervals)) =
    ap (λ k. take k (all_places draft.intervals) ++ (range_with_len d (d + change.needed - d) ++ drop change.to (all_places draft.intervals))) front
    ∙ ap (λ k. take (change.first / f.most) (all_places draft.intervals) ++ (range_with_len d k ++ drop change.to (all_places draft.intervals))) codes in
    let order : change.first / f.most ≤ change.to =
    omega (arith, ends_after f.most change.first change.stop lawful.some can.can.order, can.can.reaches) in
    record {
      places =
          subst (λ v. AreAt (old ++ v) (all_places draft'.samples) left) (sym grown)
          (subst (λ l. AreAt (old ++ (draft.values.items ++ more)) l left) (sym places)
          (places_exchanged old draft.values.items more s (all_places draft.samples) change.first change.stop begin (stop - begin) is.places begin_is len));
      marks =
          subst (λ l. AreFrom f.most old l left) (sym (marks ∙ same))
          (marks_exchanged f limit change.first change.stop change.to d change.needed old s more (all_places draft.intervals) lawful is.counted.held can.can
          can.needed_is past is.marks);
      fresh = omega (
        arith,
        ap (fresh_among (div_ceil (length old) f.most)) (marks ∙ same),
        fresh_exchanged (div_ceil (length old) f.most) (change.first / f.most) change.to d change.needed most (all_places draft.intervals) order is.fresh,
      );
      counted = record {
        length_is = omega (
          arith,
          exchanged_len change.first change.stop more s (omega (arith, can.can.order, can.can.within)),
          can.count_is,
          count_is,
        );
        held = exchanged_held f change.first change.stop more s can.can.held is.counted.held;
      };
      places_cut = cut;
      marks_cut = cut';
    }

-- ---- a workspace that keeps its list

pub keeps_then : {C : Type 0} {format_of : C → Format} {called : C → ℕ} {a b n : ℕ} {old mid new : Contents C} → KeepsList format_of called a old mid
    → KeepsList format_of called b mid new → n ≡ a + b → KeepsList format_of called n old new
keeps_then first then sum = record {
  samples = then.samples ∙ first.samples;
  limit = then.limit ∙ first.limit;
  format = then.format ∙ first.format;
  calls = record {
    stays = omega (arith, first.calls.stays, then.calls.stays);
    few = omega (arith, first.calls.few, then.calls.few, sum);
  };
}

pub keeps_still : {C : Type 0} (format_of : C → Format) (called : C → ℕ) (n : ℕ) (w : Contents C) → KeepsList format_of called n w w
keeps_still format_of called n w = record {
  samples = refl;
  limit = refl;
  format = refl;
  calls = record { stays = omega arith; few = omega arith };
}

-- ---- what is read

drop-append-ge : (k : ℕ) (a b : List ℤ) → length a ≤ k → drop k (a ++ b) ≡ drop (k - length a) b
drop-append-ge k a b past =
    let sum : length a + (k - length a) ≡ k = omega arith in
    sym (drop-drop (k - length a) (length a) (a ++ b) ∙ ap (λ n. drop n (a ++ b)) sum) ∙ ap (drop (k - length a)) (drop_at a b (length a) refl)

pub read_values : (old values : List ℤ) (first stop count : ℕ) → count ≡ length old → count ≤ first
    → take (stop - count - (first - count)) (drop (first - count) values) ≡ take (stop - first) (drop first (old ++ values))
read_values old values first stop count count_is past =
    let len : stop - count - (first - count) ≡ stop - first = omega arith in
    ap (λ n. take n (drop (first - count) values)) len
    ∙ ap (λ n. take (stop - first) (drop (first - n) values)) count_is
    ∙ ap (take (stop - first)) (sym (drop-append-ge first old values (omega arith)))

pub read_old : (n p len : ℕ) (old values : List ℤ) → 0 < n → p < length old → len ≤ length (take n (drop (p / n * n) old)) - p % n
    → take len (drop (p % n) (take n (drop (p / n * n) old))) ≡ take len (drop p (old ++ values))
read_old n p len old values h within few =
    let begins = begins_before p n h in
    let small : p % n + (n - p % n) ≡ n = omega (arith, begins.1, begins.2) in
    let size = length-take n (drop (p / n * n) old) in
    let rest = length-drop (p / n * n) old in
    let part : drop (p % n) (take n (drop (p / n * n) old)) ≡ take (n - p % n) (drop p old) =
    ap (λ k. drop (p % n) (take k (drop (p / n * n) old))) (sym small)
    ∙ drop-take (p % n) (n - p % n) (drop (p / n * n) old)
    ∙ ap (take (n - p % n)) (drop-drop (p % n) (p / n * n) old ∙ ap (λ k. drop k old) begins.2) in
    ap (take len) part
    ∙ take-take len (n - p % n) (drop p old) (omega (arith, size, rest))
    ∙ sym (take-append-le len (drop p old) values (omega (arith, size, rest, begins.2, length-drop p old)))
    ∙ ap (take len) (sym (drop-append-le p old values (omega arith)))

-- the same for a part of what was decoded, as the code cuts it out
pub read_opened : (n m p len first : ℕ) (old values opened part : List ℤ) → 0 < n → m ≡ n → first ≡ p % m → p < length old
    → opened ≡ take n (drop (p / m * n) old) → part ≡ opened → len ≤ length opened - first
    → take (first + len - first) (drop first part) ≡ take len (drop p (old ++ values))
read_opened n m p len first old values opened part h m_is first_is inside opened_is part_is few =
    let there : opened ≡ take n (drop (p / n * n) old) = opened_is ∙ ap (λ k. take n (drop (p / k * n) old)) m_is in
    let place : first ≡ p % n = first_is ∙ ap (λ k. p % k) m_is in
    let sum : first + len - first ≡ len = omega arith in
    ap (λ k. take k (drop first part)) sum
    ∙ ap (λ l. take len (drop first l)) (part_is ∙ there)
    ∙ ap (λ k. take len (drop k (take n (drop (p / n * n) old)))) place
    ∙ read_old n p len old values h inside (omega (arith, few, ap length there, place))

-- the bits between the starts of an interval and the next one
pub copied : (f : Format) {count : ℕ} {bits : List Bool} {starts : List ℕ} (s : List ℤ) (i start stop : ℕ) → IsLawful f → IsKeptCode f count bits starts s
    → i < interval_count f s → start ≡ start_of f s i → stop ≡ start_of f s (i + 1)
    → take (stop - start) (drop start bits) ≡ f.bits_of (take f.most (drop (i * f.most) s))
copied f {bits = bits} s i start stop lawful kept within start_is stop_is =
    let there = begins_there f s i lawful kept.held within in
    let part : List Bool = f.bits_of (take f.most (drop (i * f.most) s)) in
    let next : i * f.most + f.most ≡ (i + 1) * f.most = omega arith in
    let inside = before_end i (length s) f.most lawful.some within in
    let rest : List ℤ = drop (i * f.most) s in
    let here : drop start bits ≡ part ++ code_of f (drop f.most rest) =
    ap (drop start) kept.bits_are ∙ ap (λ n. drop n (code_of f s)) start_is
    ∙ drop-code_of f i s lawful.some ∙ code_of_first f rest lawful.some (omega (arith, length-drop (i * f.most) s)) in
    let later : drop (start_of f s (i + 1)) (code_of f s) ≡ code_of f (drop f.most rest) =
    drop-code_of f (i + 1) s lawful.some ∙ ap (code_of f) (sym (drop-drop f.most (i * f.most) s ∙ ap (λ n. drop n s) next)) in
    let len : length part ≡ stop - start =
    omega (
      arith,
      ap length here,
      length-append part (code_of f (drop f.most rest)),
      ap length later,
      length-drop start bits,
      length-drop (start_of f s (i + 1)) (code_of f s),
      ap length kept.bits_are,
      start_of-le f i s lawful.some,
      start_of-le f (i + 1) s lawful.some,
    ) in
    ap (take (stop - start)) here ∙ take_at part (code_of f (drop f.most rest)) (stop - start) len
