-- Which intervals an edit touches, and how many it opens.
use Rattle.std.proofs.Common.{◌≡◌, ℕ, zero, suc, ◌+◌, ◌-◌, ◌*◌, ◌/◌, ◌%◌, ◌<◌, ◌≤◌, min, Bool, true, false, cond, eqb, ltb, List, [], ◌∷◌, ◌++◌, length, map, refl, ap, sym, ◌∙◌, subst, arith, ⊎_elim, ◌⊎◌, length-append}
use Rattle.std.specs.List.{range_with_len, dedup_from, filter}
use Rattle.std.specs.Int.{div_ceil}
use Rattle.std.proofs.lemmas.Bool.{le-ltb, eq-eqb, ne_eqb, eqb-false, or_from}
use Rattle.std.proofs.lemmas.Bool.Decides.{nat_tests}
use Rattle.std.proofs.lemmas.Nat.{le-div}
use Rattle.std.proofs.lemmas.List.Elements.{filter-append}
use Rattle.std.proofs.lemmas.List.FromFn.{length-range_with_len}
use Rattle.std.proofs.Math.Nat.{div-mul-le_self, add-div_right, div-add-mod', mul-le-mul_right, mod-lt}
use Rattle.aec_params.specs.declared.samples.Samples.{Samples}
use Rattle.aec_params.specs.declared.edit.Edit.{Edit}
use Rattle.aec_params.specs.declared.edit.Edit.TheVariants.{Overwrite, Append, Truncate, Insert, Remove}
use Rattle.aec_params.specs.Edits.{Stretch, touched_intervals, keeps_a_sample, needed_calls, opened_intervals}
use Rattle.aec_params.specs.EditLaws.{MovesNone}

-- ---- quotients of consecutive numbers

pub div-le : (n a b : ℕ) → 0 < n → a ≤ b → a / n ≤ b / n
div-le n a b h l = le-div (a / n) b n h (let e = div-mul-le_self a n in omega arith)

div-step : (n a : ℕ) → 0 < n → ((a + 1) / n ≡ a / n) ⊎ ((a + 1) / n ≡ a / n + 1)
div-step n a h =
    let low = div-le n a (a + 1) h (omega arith) in
    let high = div-le n (a + 1) (a + n) h (omega arith) in
    let e = add-div_right a h in
    grind arith

-- the quotients from l to m, each once, with k in front, are those from k to m; l is k or k + 1
one_more : (k l m : ℕ) (later : List ℕ) → l ≤ m → (l ≡ k) ⊎ (l ≡ k + 1)
    → dedup_from (λ i k. eqb i k) l later ≡ range_with_len l (suc (m - l))
    → cond (eqb l k) (dedup_from (λ i k. eqb i k) k later) (k ∷ dedup_from (λ i k. eqb i k) l later) ≡ range_with_len k (suc (m - k))
one_more k l m later h step e = ⊎_elim (same k l m later e) (next k l m later h e) step
  where
    same : (k l m : ℕ) (later : List ℕ) → dedup_from (λ i k. eqb i k) l later ≡ range_with_len l (suc (m - l)) → l ≡ k
        → cond (eqb l k) (dedup_from (λ i k. eqb i k) k later) (k ∷ dedup_from (λ i k. eqb i k) l later) ≡ range_with_len k (suc (m - k))
    same k l m later e q = rw (eq-eqb l k q) (subst (λ (t : ℕ). dedup_from (λ i k. eqb i k) t later ≡ range_with_len t (suc (m - t))) q e)

    next : (k l m : ℕ) (later : List ℕ) → l ≤ m → dedup_from (λ i k. eqb i k) l later ≡ range_with_len l (suc (m - l)) → l ≡ k + 1
        → cond (eqb l k) (dedup_from (λ i k. eqb i k) k later) (k ∷ dedup_from (λ i k. eqb i k) l later) ≡ range_with_len k (suc (m - k))
    next k l m later h e q =
        let f : eqb l k ≡ false = ne_eqb l k (λ x. absurd (omega arith)) in
        let c : suc (m - l) ≡ m - k = omega arith in
        rw f (ap (λ (t : List ℕ). k ∷ t) (e ∙ (ap (range_with_len l) c ∙ ap (λ (t : ℕ). range_with_len t (m - k)) q)))

-- the numbers of the intervals of the places a to a + len, each once
dedup-quotients : (n a len : ℕ) → 0 < n → dedup_from (λ i k. eqb i k) (a / n) (map (λ (place : ℕ). place / n) (range_with_len (a + 1) len))
    ≡ range_with_len (a / n) (suc ((a + len) / n - a / n))
dedup-quotients n a zero h =
    let e : a + 0 ≡ a = omega arith in
    let z : (a + 0) / n - a / n ≡ 0 = omega (arith, ap (λ (t : ℕ). t / n) e) in
    rw z refl
dedup-quotients n a (suc len) h =
    let e : a + 1 + len ≡ a + suc len = omega arith in
    one_more (a / n) ((a + 1) / n) ((a + suc len) / n) (map (λ (place : ℕ). place / n) (range_with_len (a + 1 + 1) len))
    (div-le n (a + 1) (a + suc len) h (omega arith)) (div-step n a h)
    (subst (λ (t : ℕ). dedup_from (λ i k. eqb i k) ((a + 1) / n) (map (λ (place : ℕ). place / n) (range_with_len (a + 1 + 1) len))
    ≡ range_with_len ((a + 1) / n) (suc (t / n - (a + 1) / n))) e (dedup-quotients n (a + 1) len h))

pub touched_intervals-is : (n first len : ℕ) → 0 < n → 0 < len
    → touched_intervals n first len ≡ range_with_len (first / n) ((first + len - 1) / n - first / n + 1)
touched_intervals-is n first zero h l = absurd (omega arith)
touched_intervals-is n first (suc len) h l =
    let e : first + suc len - 1 ≡ first + len = omega arith in
    let f : (first + len) / n - first / n + 1 ≡ suc ((first + len) / n - first / n) = omega arith in
    rw (e, f) (dedup-quotients n first len h)

pub length-touched_intervals : (n first len : ℕ) → 0 < n → 0 < len → length (touched_intervals n first len) ≡ (first + len - 1) / n - first / n + 1
length-touched_intervals n first len h l =
    ap length (touched_intervals-is n first len h l) ∙ length-range_with_len (first / n) ((first + len - 1) / n - first / n + 1)

-- ---- intervals that are opened

pub length-filter-le : (test : ℕ → Bool) (xs : List ℕ) → length (filter test xs) ≤ length xs
length-filter-le test [] = omega arith
length-filter-le test (x ∷ xs) = one (test x) x (filter test xs) (length-filter-le test xs)
  where
    one : (b : Bool) (x : ℕ) (rest : List ℕ) → length rest ≤ length xs → length (cond b (x ∷ rest) rest) ≤ suc (length xs)
    one true x rest h = omega arith
    one false x rest h = omega arith

pub filter-one_more : (test : ℕ → Bool) (x : ℕ) (xs : List ℕ) → length (filter test (x ∷ xs)) ≤ length (filter test xs) + 1
filter-one_more test x xs = one (test x) x (filter test xs)
  where
    one : (b : Bool) (x : ℕ) (rest : List ℕ) → length (cond b (x ∷ rest) rest) ≤ length rest + 1
    one true x rest = omega arith
    one false x rest = omega arith

pub filter-none : (test : ℕ → Bool) (a m : ℕ) → ((k : ℕ) → a ≤ k → k < a + m → test k ≡ false) → filter test (range_with_len a m) ≡ []
filter-none test a zero none = refl
filter-none test a (suc m) none =
    rw (none a (omega arith) (omega arith)) (filter-none test (a + 1) m (λ k h l. none k (omega arith) (omega arith)))

range-last : (a m : ℕ) → range_with_len a (suc m) ≡ range_with_len a m ++ ((a + m) ∷ [])
range-last a zero = let e : a ≡ a + 0 = omega arith in ap (λ (t : ℕ). t ∷ []) e
range-last a (suc m) =
    let e : a + 1 + m ≡ a + suc m = omega arith in
    ap (λ (t : List ℕ). a ∷ t) (range-last (a + 1) m ∙ ap (λ (t : ℕ). range_with_len (a + 1) m ++ (t ∷ [])) e)

-- if only the first and the last of some numbers can pass a test, at most two pass
ends_alone : (test : ℕ → Bool) (a m : ℕ) → ((k : ℕ) → a < k → k < a + m → test k ≡ false) → length (filter test (range_with_len a (suc m))) ≤ 2
ends_alone test a zero none = let h = length-filter-le test (a ∷ []) in omega arith
ends_alone test a (suc m) none =
    let f = filter-one_more test a (range_with_len (a + 1) (suc m)) in
    let inner = filter-none test (a + 1) m (λ k h l. none k (omega arith) (omega arith)) in
    let cut = ap (λ (t : List ℕ). length (filter test t)) (range-last (a + 1) m) in
    let parts = ap length (filter-append test (range_with_len (a + 1) m) ((a + 1 + m) ∷ [])) in
    let last = length-filter-le test ((a + 1 + m) ∷ []) in
    let sum = length-append (filter test (range_with_len (a + 1) m)) (filter test ((a + 1 + m) ∷ [])) in
    let zero_inside = ap length inner in
    omega arith

pub length-filter-all : (test : ℕ → Bool) (a m : ℕ) → ((k : ℕ) → a ≤ k → k < a + m → test k ≡ true) → length (filter test (range_with_len a m)) ≡ m
length-filter-all test a zero all = refl
length-filter-all test a (suc m) all =
    rw (all a (omega arith) (omega arith)) (ap suc (length-filter-all test (a + 1) m (λ k h l. all k (omega arith) (omega arith))))

-- ---- intervals that keep a sample

pub keeps_head : (n old first stop k : ℕ) → k * n < first → keeps_a_sample n old (record { first = first; stop = stop }) k ≡ true
keeps_head n old first stop k before = grind (arith, nat_tests)

pub keeps_tail : (n old first stop k : ℕ) → stop < min (k * n + n) old → keeps_a_sample n old (record { first = first; stop = stop }) k ≡ true
keeps_tail n old first stop k behind = grind (arith, nat_tests)

-- an interval between the first and the last touched one keeps no sample
keeps_nothing : (n old first len k : ℕ) → 0 < n → 0 < len → first / n < k → k < (first + len - 1) / n
    → keeps_a_sample n old (record { first = first; stop = first + len }) k ≡ false
keeps_nothing n old first len k h l a b =
    let up = mul-le-mul_right n (below (first / n) k n a) in
    let down = mul-le-mul_right n (below k ((first + len - 1) / n) n b) in
    let e = div-add-mod' first n in
    let m = mod-lt first h in
    let d = div-mul-le_self (first + len - 1) n in
    or_from (ltb (k * n) first) (ltb (first + len) (min (k * n + n) old))
    (le-ltb (k * n) first (omega arith)) (le-ltb (first + len) (min (k * n + n) old) (omega arith))
  where
    below : (a b n : ℕ) → a < b → a + 1 ≤ b
    below a b n h = omega arith

pub opened-two : (n old first len : ℕ) → 0 < n
    → length (filter (keeps_a_sample n old (record { first = first; stop = first + len })) (touched_intervals n first len)) ≤ 2
opened-two n old first zero h = omega arith
opened-two n old first (suc len) h =
    let gone : Stretch = record { first = first; stop = first + suc len } in
    let e : (first + suc len - 1) / n - first / n + 1 ≡ suc ((first + suc len - 1) / n - first / n) = omega arith in
    let t = touched_intervals-is n first (suc len) h (omega arith) ∙ ap (range_with_len (first / n)) e in
    subst (λ (xs : List ℕ). length (filter (keeps_a_sample n old gone) xs) ≤ 2) (sym t)
    (ends_alone (keeps_a_sample n old gone) (first / n) ((first + suc len - 1) / n - first / n)
    (λ k a b. keeps_nothing n old first (suc len) k h (omega arith) a (omega arith)))

one_at_most : (b c : Bool) → cond b 0 (cond c 0 1) ≤ 2
one_at_most true c = omega arith
one_at_most false true = omega arith
one_at_most false false = omega arith

needs_one : (b c : Bool) (m : ℕ) → (b ≡ false → c ≡ false → 1 ≤ m) → cond b 0 (cond c 0 1) ≤ cond b 0 m
needs_one true c m h = omega arith
needs_one false true m h = omega arith
needs_one false false m h = h refl refl

pub positive : (m : ℕ) → (m ≡ 0 → ⊥) → 0 < m
positive zero h = absurd (h refl)
positive (suc m) h = omega arith

-- an append to a last interval that isn't full codes at least one interval
ceil_more : (n old len : ℕ) → 0 < n → 0 < old % n → 0 < len → 1 ≤ div_ceil (old + len) n - old / n
ceil_more n old len h r l = ⊎_elim (same n old len r l) (λ (k : old / n < (old + len) / n). omega arith)
    (two_cases (old / n) ((old + len) / n) (div-le n old (old + len) h (omega arith)))
  where
    two_cases : (a b : ℕ) → a ≤ b → (b ≡ a) ⊎ (a < b)
    two_cases a b h = grind arith

    same : (n old len : ℕ) → 0 < old % n → 0 < len → (old + len) / n ≡ old / n → 1 ≤ div_ceil (old + len) n - old / n
    same n old len r l e =
        let p = div-add-mod' old n in
        let q = div-add-mod' (old + len) n in
        let f = ap (λ (t : ℕ). t * n) e in
        omega arith

pub opened_intervals-two : (n old : ℕ) (edit : Edit) → 0 < n → MovesNone edit → opened_intervals n old edit ≤ 2
opened_intervals-two n old (Overwrite first values) h stays = opened-two n old first (length values) h
opened_intervals-two n old (Append values) h stays = one_at_most (eqb (length values) 0) (eqb (old % n) 0)
opened_intervals-two n old (Truncate count) h stays = one_at_most (eqb count old) (eqb (count % n) 0)
opened_intervals-two n old (Insert first values) h stays = absurd stays
opened_intervals-two n old (Remove first len) h stays = absurd stays

pub opened_intervals-le-needed_calls : (n old : ℕ) (edit : Edit) → 0 < n → MovesNone edit → opened_intervals n old edit ≤ needed_calls n old edit
opened_intervals-le-needed_calls n old (Overwrite first values) h stays =
    length-filter-le (keeps_a_sample n old (record { first = first; stop = first + length values })) (touched_intervals n first (length values))
opened_intervals-le-needed_calls n old (Append values) h stays =
    needs_one (eqb (length values) 0) (eqb (old % n) 0) (div_ceil (old + length values) n - old / n)
    (λ b c. ceil_more n old (length values) h (positive (old % n) (eqb-false (old % n) 0 c)) (positive (length values) (eqb-false (length values) 0 b)))
opened_intervals-le-needed_calls n old (Truncate count) h stays = omega arith
opened_intervals-le-needed_calls n old (Insert first values) h stays = absurd stays
opened_intervals-le-needed_calls n old (Remove first len) h stays = absurd stays

-- how many intervals m > 0 places reach: one more than the number of the last of these intervals
ceil-pred : (m n : ℕ) → 0 < n → 0 < m → div_ceil m n ≡ (m - 1) / n + 1
ceil-pred zero n h l = absurd (omega arith)
ceil-pred (suc m) n h l =
    let one : suc m ≡ m + 1 = omega arith in
    let back : suc m - 1 ≡ m = omega arith in
    rw (back, one) (ceil_after m n h)
  where
    ceil_after : (m n : ℕ) → 0 < n → div_ceil (m + 1) n ≡ m / n + 1
    ceil_after m n h =
        let p = div-add-mod' m n in
        let q = div-add-mod' (m + 1) n in
        let r = mod-lt m h in
        ⊎_elim (λ (e : (m + 1) / n ≡ m / n). let f = ap (λ (t : ℕ). t * n) e in omega arith)
        (λ (e : (m + 1) / n ≡ m / n + 1). let f = ap (λ (t : ℕ). t * n) e in omega arith)
        (div-step n m h)

appended : (n old len : ℕ) → 0 < n → cond (eqb len 0) 0 (div_ceil (old + len) n - old / n) ≡ length (touched_intervals n old len)
appended n old zero h = refl
appended n old (suc len) h =
    let some : eqb (suc len) 0 ≡ false = ne_eqb (suc len) 0 (λ e. absurd (omega arith)) in
    let c = ceil-pred (old + suc len) n h (omega arith) in
    let t = length-touched_intervals n old (suc len) h (omega arith) in
    let l = div-le n old (old + suc len - 1) h (omega arith) in
    rw some (omega arith)

pub needed_calls-append : (n old : ℕ) (values : Samples) → 0 < n
    → needed_calls n old (Append values) ≡ length (touched_intervals n old (length values))
needed_calls-append n old values h = appended n old (length values) h
