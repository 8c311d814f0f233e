-- Lists of samples by their places in another list, and by their intervals.
use Rattle.std.proofs.Common.{◌≡◌, ℕ, zero, suc, ◌+◌, ◌-◌, ◌*◌, ◌/◌, ◌<◌, ◌≤◌, ◌⊎◌, Bool, ltb, true, false, cond, List, [], ◌∷◌, ◌++◌, length, take, drop, ℤ, refl, sym, ap, ◌∙◌, subst, inl, inr, arith, append_assoc, length-append}
use Rattle.std.specs.Int.{div_ceil}
use Rattle.std.specs.List.{range_with_len}
use Rattle.std.proofs.lemmas.Bool.{cases_lt}
use Rattle.std.proofs.lemmas.Bool.Decides.{nat_tests}
use Rattle.std.proofs.lemmas.List.{append-nil, nil_from_length, length-take, length-drop, drop_all, take-append-drop, take-append-le, drop-append-le, take-take, drop-take, drop-drop}
use Rattle.std.proofs.lemmas.List.FromFn.{length-range_with_len}
use Rattle.aec_params.proofs.CountLaws.{ceil_bounds, ceil_unique, before_end, past_end}
use Rattle.aec_params.proofs.CuttingLaws.{div_ceil-zero, div_ceil-step}
use Rattle.aec_params.proofs.MoveLaws.{from_to}
use Rattle.aec_bits.specs.Codec.{Format, AreHeld, IsLawful}
use Rattle.aec_edit.specs.Changes.{IsExchangeUpTo, exchanged, fresh_of, recoding_calls}
use Rattle.aec_edit.specs.Drafts.{AreAt, AreFrom, fresh_among}
use Rattle.aec_edit.proofs.ExchangeLemmas.{recoding, begins_before}
use Rattle.aec_edit.proofs.UpToLemmas.{all_len, recoded_up_to}

-- ---- samples at places

pub AreAt-length : (all : List ℤ) (ks : List ℕ) (s : List ℤ) → AreAt all ks s → length s ≡ length ks
AreAt-length all [] [] at = refl
AreAt-length all [] (x ∷ s) at = absurd at
AreAt-length all (k ∷ ks) [] at = absurd at
AreAt-length all (k ∷ ks) (x ∷ s) at = ap suc (AreAt-length all ks s at.1)

AreAt-take : (all : List ℤ) (n : ℕ) (ks : List ℕ) (s : List ℤ) → AreAt all ks s → AreAt all (take n ks) (take n s)
AreAt-take all zero ks s at = tt
AreAt-take all (suc n) [] [] at = tt
AreAt-take all (suc n) [] (x ∷ s) at = absurd at
AreAt-take all (suc n) (k ∷ ks) [] at = absurd at
AreAt-take all (suc n) (k ∷ ks) (x ∷ s) at = (at.0, AreAt-take all n ks s at.1)

pub AreAt-drop : (all : List ℤ) (n : ℕ) (ks : List ℕ) (s : List ℤ) → AreAt all ks s → AreAt all (drop n ks) (drop n s)
AreAt-drop all zero ks s at = at
AreAt-drop all (suc n) [] [] at = tt
AreAt-drop all (suc n) [] (x ∷ s) at = absurd at
AreAt-drop all (suc n) (k ∷ ks) [] at = absurd at
AreAt-drop all (suc n) (k ∷ ks) (x ∷ s) at = AreAt-drop all n ks s at.1

AreAt-append : (all : List ℤ) (ks ls : List ℕ) (s t : List ℤ) → AreAt all ks s → AreAt all ls t → AreAt all (ks ++ ls) (s ++ t)
AreAt-append all [] ls [] t at then = then
AreAt-append all [] ls (x ∷ s) t at then = absurd at
AreAt-append all (k ∷ ks) ls [] t at then = absurd at
AreAt-append all (k ∷ ks) ls (x ∷ s) t at then = (at.0, AreAt-append all ks ls s t at.1 then)

-- the same places after the list has become longer
AreAt-more : (all more : List ℤ) (ks : List ℕ) (s : List ℤ) → AreAt all ks s → AreAt (all ++ more) ks s
AreAt-more all more [] [] at = tt
AreAt-more all more [] (x ∷ s) at = absurd at
AreAt-more all more (k ∷ ks) [] at = absurd at
AreAt-more all more (k ∷ ks) (x ∷ s) at =
    let within : k + 1 ≤ length all = omega (arith, ap length at.0, length-drop k all, length-drop (k + 1) all) in
    let here : drop k (all ++ more) ≡ x ∷ drop (k + 1) (all ++ more) =
    drop-append-le k all more (omega arith) ∙ ap (λ l. l ++ more) at.0 ∙ ap (λ l. x ∷ l) (sym (drop-append-le (k + 1) all more within)) in
    (here, AreAt-more all more ks s at.1)

-- consecutive samples of the list
pub AreAt-range : (all : List ℤ) (k : ℕ) (v rest : List ℤ) → drop k all ≡ v ++ rest → AreAt all (range_with_len k (length v)) v
AreAt-range all k [] rest is = tt
AreAt-range all k (x ∷ v) rest is =
    let next : drop (k + 1) all ≡ v ++ rest = sym (drop-drop 1 k all) ∙ ap (drop 1) is in
    (is ∙ ap (λ l. x ∷ l) (sym next), AreAt-range all (k + 1) v rest next)

-- the samples at the first n places, which are consecutive
pub AreAt-first : (all : List ℤ) (k n : ℕ) (ks : List ℕ) (s : List ℤ) → AreAt all (range_with_len k n ++ ks) s
    → (take n s ≡ take n (drop k all)) × AreAt all ks (drop n s)
AreAt-first all k zero ks s at = (refl, at)
AreAt-first all k (suc n) ks [] at = absurd at
AreAt-first all k (suc n) ks (x ∷ s) at =
    let rest = AreAt-first all (k + 1) n ks s at.1 in
    (ap (λ l. x ∷ l) rest.0 ∙ sym (ap (take (suc n)) at.0), rest.1)

pub AreAt-within : (all : List ℤ) (k n : ℕ) (ks : List ℕ) (s : List ℤ) → AreAt all (range_with_len k n ++ ks) s → 0 < n → k + n ≤ length all
AreAt-within all k n ks s at some =
    omega (
      arith,
      ap length (AreAt-first all k n ks s at).0,
      length-take n s,
      length-take n (drop k all),
      length-drop k all,
      AreAt-length all (range_with_len k n ++ ks) s at,
      length-append (range_with_len k n) ks,
      length-range_with_len k n,
    )

-- places are exchanged for those of values at the end of the list
pub places_exchanged : (old values more s : List ℤ) (ks : List ℕ) (first stop begin len : ℕ) → AreAt (old ++ values) ks s
    → begin ≡ length old + length values → len ≡ length more
    → AreAt (old ++ (values ++ more)) (take first ks ++ (range_with_len begin len ++ drop stop ks)) (exchanged (from_to first stop) more s)
places_exchanged old values more s ks first stop begin len at begin_is len_is =
    let all : List ℤ = (old ++ values) ++ more in
    let end : drop begin all ≡ more ++ [] =
    ap (λ n. drop n all) (begin_is ∙ sym (length-append old values)) ∙ drop-append-le (length (old ++ values)) (old ++ values) more (omega arith)
    ∙ ap (λ l. l ++ more) (drop_all (length (old ++ values)) (old ++ values) (omega arith)) ∙ sym (append-nil more) in
    let longer = AreAt-more (old ++ values) more ks s at in
    let new = subst (λ n. AreAt all (range_with_len begin n) more) (sym len_is) (AreAt-range all begin more [] end) in
    subst (λ l. AreAt l (take first ks ++ (range_with_len begin len ++ drop stop ks)) (exchanged (from_to first stop) more s)) (append_assoc old values more)
    (AreAt-append all (take first ks) (range_with_len begin len ++ drop stop ks) (take first s) (more ++ drop stop s) (AreAt-take all first ks s longer)
    (AreAt-append all (range_with_len begin len) (drop stop ks) more (drop stop s) new (AreAt-drop all stop ks s longer)))

-- ---- intervals by number

module _ (n : ℕ) (h : 0 < n) (old : List ℤ) where
  pub AreFrom-length : (m : List ℕ) (s : List ℤ) → AreFrom n old m s → div_ceil (length s) n ≡ length m
  AreFrom-length [] s from = ap (λ l. div_ceil (length l) n) from ∙ div_ceil-zero n h
  AreFrom-length (k ∷ m) s from =
      div_ceil-step (length s) n h from.0 ∙ ap (λ l. suc (div_ceil l n)) (sym (length-drop n s)) ∙ ap suc (AreFrom-length m (drop n s) from.2)

  -- all intervals of the list itself
  pub AreFrom-all : (c k : ℕ) → k + c ≡ div_ceil (length old) n → AreFrom n old (range_with_len k c) (drop (k * n) old)
  AreFrom-all zero k sum = drop_all (k * n) old (past_end k (length old) n h (omega arith))
  AreFrom-all (suc c) k sum =
      let inside = before_end k (length old) n h (omega arith) in
      let next : k * n + n ≡ (k + 1) * n = omega arith in (
        omega (arith, length-drop (k * n) old, inside),
        λ within. refl,
        subst (AreFrom n old (range_with_len (k + 1) c)) (sym (drop-drop n (k * n) old ∙ ap (λ j. drop j old) next)) (AreFrom-all c (k + 1) (omega arith)),
      )

  AreFrom-drop : (j : ℕ) (m : List ℕ) (s : List ℤ) → AreFrom n old m s → AreFrom n old (drop j m) (drop (j * n) s)
  AreFrom-drop zero m s from = let none : 0 * n ≡ 0 = omega arith in subst (λ i. AreFrom n old m (drop i s)) (sym none) from
  AreFrom-drop (suc j) [] s from = drop_all (suc j * n) s (omega (arith, ap length from))
  AreFrom-drop (suc j) (k ∷ m) s from =
      let grown : n + j * n ≡ suc j * n = omega arith in
      subst (AreFrom n old (drop j m)) (drop-drop (j * n) n s ∙ ap (λ i. drop i s) grown) (AreFrom-drop j m (drop n s) from.2)

  -- the first intervals stay
  front_stays : (j : ℕ) (m ms : List ℕ) (s x : List ℤ) → j * n ≤ length s → AreFrom n old m s → AreFrom n old ms x
      → AreFrom n old (take j m ++ ms) (take (j * n) s ++ x)
  front_stays zero m ms s x within from then =
      let none : 0 * n ≡ 0 = omega arith in subst (λ i. AreFrom n old ms (take i s ++ x)) (sym none) then
  front_stays (suc j) [] ms s x within from then =
      let grown : suc j * n ≡ n + j * n = omega arith in absurd (omega (arith, ap length from))
  front_stays (suc j) (k ∷ m) ms s x within from then =
      let grown : suc j * n ≡ n + j * n = omega arith in
      let part : List ℤ = take (n + j * n) s in
      let size : n ≤ length part = omega (arith, length-take (n + j * n) s) in
      let first : take n (part ++ x) ≡ take n s = take-append-le n part x size ∙ take-take n (n + j * n) s (omega arith) in
      let later : drop n (part ++ x) ≡ take (j * n) (drop n s) ++ x = drop-append-le n part x size ∙ ap (λ l. l ++ x) (drop-take n (j * n) s) in
      let rest = front_stays j m ms (drop n s) x (omega (arith, length-drop n s)) from.2 then in
      subst (λ i. AreFrom n old (k ∷ (take j m ++ ms)) (take i s ++ x)) (sym grown) (
        omega (arith, length-append part x),
        λ inside. first ∙ from.1 inside,
        subst (AreFrom n old (take j m ++ ms)) (sym later) rest,
      )

  -- fresh intervals, all of them whole, and others after them
  whole_fresh : (c d : ℕ) (ms : List ℕ) (fresh y : List ℤ) → div_ceil (length old) n ≤ d → length fresh ≡ c * n → AreFrom n old ms y
      → AreFrom n old (range_with_len d c ++ ms) (fresh ++ y)
  whole_fresh zero d ms fresh y past size then =
      let none : fresh ≡ [] = nil_from_length fresh (omega arith) in subst (λ l. AreFrom n old ms (l ++ y)) (sym none) then
  whole_fresh (suc c) d ms fresh y past size then =
      let grown : suc c * n ≡ n + c * n = omega arith in
      let later : drop n (fresh ++ y) ≡ drop n fresh ++ y = drop-append-le n fresh y (omega arith) in
      let rest = whole_fresh c (d + 1) ms (drop n fresh) y (omega arith) (omega (arith, length-drop n fresh)) then in (
        omega (arith, length-append fresh y),
        λ inside. absurd (omega arith),
        subst (AreFrom n old (range_with_len (d + 1) c ++ ms)) (sym later) rest,
      )

  -- fresh intervals up to the end
  last_fresh : (c d : ℕ) (fresh : List ℤ) → div_ceil (length old) n ≤ d → div_ceil (length fresh) n ≡ c → AreFrom n old (range_with_len d c) fresh
  last_fresh zero d fresh past count =
      let none : div_ceil (length fresh) n * n ≡ 0 * n = ap (λ k. k * n) count in
      nil_from_length fresh (omega (arith, (ceil_bounds (length fresh) n h).0))
  last_fresh (suc c) d fresh past count =
      let some : 0 < length fresh = omega (arith, ap (λ k. k * n) count, (ceil_bounds (length fresh) n h).1) in
      let step = div_ceil-step (length fresh) n h some in
      let less : div_ceil (length (drop n fresh)) n ≡ c = ap (λ k. div_ceil k n) (length-drop n fresh) ∙ omega (arith, step, count) in
      (some, λ inside. absurd (omega arith), last_fresh c (d + 1) (drop n fresh) (omega arith) less)

-- intervals are exchanged for fresh ones
pub marks_exchanged : (f : Format) (limit first stop to d c : ℕ) (old s values : List ℤ) (m : List ℕ) → IsLawful f → AreHeld f s
    → IsExchangeUpTo f limit s (from_to first stop) to values → c ≡ recoding_calls f.most (length s) (recoding first stop to (length values))
    → div_ceil (length old) f.most ≤ d → AreFrom f.most old m s
    → AreFrom f.most old (take (first / f.most) m ++ (range_with_len d c ++ drop to m)) (exchanged (from_to first stop) values s)
marks_exchanged f limit first stop to d c old s values m lawful held fits c_is past from =
    let n : ℕ = f.most in
    let fresh : List ℤ = fresh_of n s (from_to first stop) to values in
    let size = all_len f limit first stop to s values lawful held fits in
    let count : div_ceil (length fresh) n ≡ c = ap (λ k. div_ceil k n) size ∙ sym c_is in
    let whole = recoded_up_to f limit first stop to s values lawful held fits in
    let begins : first / n * n ≤ length s = omega (arith, (begins_before first n lawful.some).0, fits.order, fits.within) in
    subst (AreFrom n old (take (first / n) m ++ (range_with_len d c ++ drop to m))) whole
    (front_stays n lawful.some old (first / n) m (range_with_len d c ++ drop to m) s (fresh ++ drop (to * n) s) begins from
    (elim fits.fitting [
      | inl end ↦
          let few : div_ceil (length s) n ≤ to = fewer (length s) n to lawful.some end in
          let none : drop to m ≡ [] = drop_all to m (omega (arith, AreFrom-length n lawful.some old m s from)) in
          subst (λ l. AreFrom n old (range_with_len d c ++ l) (fresh ++ drop (to * n) s)) (sym none)
          (subst (λ l. AreFrom n old (range_with_len d c ++ []) (fresh ++ l)) (sym (drop_all (to * n) s end))
          (subst (λ l. AreFrom n old l (fresh ++ [])) (sym (append-nil (range_with_len d c)))
          (subst (AreFrom n old (range_with_len d c)) (sym (append-nil fresh)) (last_fresh n lawful.some old c d fresh past count))))
      | inr parts ↦
          let total : length fresh ≡ parts.0 * n = size ∙ parts.1 in
          let same : div_ceil (length fresh) n ≡ parts.0 = ceil_unique (length fresh) n parts.0 (omega arith) (omega (arith, lawful.some)) in
          let exact : length fresh ≡ c * n = total ∙ ap (λ k. k * n) (sym same ∙ count) in
          whole_fresh n lawful.some old c d (drop to m) fresh (drop (to * n) s) past exact (AreFrom-drop n lawful.some old to m s from)
    ]))
  where
    fewer : (size n to : ℕ) → 0 < n → size ≤ to * n → div_ceil size n ≤ to
    fewer size n to h end = ends (cases_lt to (div_ceil size n))
      where
        ends : (to < div_ceil size n) ⊎ (div_ceil size n ≤ to) → div_ceil size n ≤ to
        ends (inl less) = absurd (omega (arith, before_end to size n h less))
        ends (inr all) = all

-- ---- how many are fresh

fresh_among-append : (count : ℕ) (a b : List ℕ) → fresh_among count (a ++ b) ≡ fresh_among count a + fresh_among count b
fresh_among-append count [] b = omega arith
fresh_among-append count (k ∷ a) b = omega (arith, fresh_among-append count a b)

fresh_among-drop : (count j : ℕ) (m : List ℕ) → fresh_among count (drop j m) ≤ fresh_among count m
fresh_among-drop count zero m = omega arith
fresh_among-drop count (suc j) [] = omega arith
fresh_among-drop count (suc j) (k ∷ m) = omega (arith, fresh_among-drop count j m)

fresh_among-range : (count k c : ℕ) → fresh_among count (range_with_len k c) ≤ c
fresh_among-range count k zero = omega arith
fresh_among-range count k (suc c) = one (ltb k count) (fresh_among-range count (k + 1) c)
  where
    one : (t : Bool) → fresh_among count (range_with_len (k + 1) c) ≤ c → cond t 0 1 + fresh_among count (range_with_len (k + 1) c) ≤ suc c
    one true later = omega (arith, later)
    one false later = omega (arith, later)

-- none of the old intervals is fresh
pub fresh_among-old : (count k c : ℕ) → k + c ≤ count → fresh_among count (range_with_len k c) ≡ 0
fresh_among-old count k zero within = refl
fresh_among-old count k (suc c) within =
    let inside : ltb k count ≡ true = grind (arith, nat_tests) in
    rw inside (omega (arith, fresh_among-old count (k + 1) c (omega arith)))

pub fresh_exchanged : (count from to d c most : ℕ) (m : List ℕ) → from ≤ to → fresh_among count m ≤ most
    → fresh_among count (take from m ++ (range_with_len d c ++ drop to m)) ≤ most + c
fresh_exchanged count from to d c most m order few =
    let split = ap (fresh_among count) (take-append-drop from m) in
    let sum : from + (to - from) ≡ to = omega arith in
    let later = ap (fresh_among count) (drop-drop (to - from) from m ∙ ap (λ j. drop j m) sum) in
    omega (
      arith,
      split,
      later,
      fresh_among-append count (take from m) (drop from m),
      fresh_among-append count (take from m) (range_with_len d c ++ drop to m),
      fresh_among-append count (range_with_len d c) (drop to m),
      fresh_among-range count d c,
      fresh_among-drop count (to - from) (drop from m),
    )
