-- The best of the options tried so far, and those that needn't be tried.
use Rattle.std.proofs.Common.{◌≡◌, ℕ, ◌+◌, ◌-◌, ◌*◌, ◌/◌, ◌^◌, ◌<◌, ◌≤◌, zero, suc, refl, ap, ◌∙◌, sym, subst, arith, Bool, true, false, cond, Option, Some, None, List, [], ◌∷◌, drop, length, map}
use Rattle.std.specs.List.{best_of, range_with_len}
use Rattle.std.specs.Prelude.{nat_lt, nat_le, ◌&&◌, ◌||◌, if◌then◌else◌}
use Rattle.std.proofs.lemmas.Bool.{and_parts, leb-true, ltb-true, ltb-false, lt-ltb, le-ltb, cond-true, cond-false, cond_both}
use Rattle.std.proofs.lemmas.Nat.{mul-le}
use Rattle.std.proofs.lemmas.List.FromFn.{map-range_with_len_more}
use Rattle.std.proofs.lemmas.List.Sums.{fold_push, sum_by-cons}
use Rattle.aec_params.specs.declared.settings.Settings.{Settings}
use Rattle.aec_params.specs.Params.{IsAllowed, split_count}
use Rattle.aec_params.specs.Blocks.{Block}
use Rattle.aec_params.specs.CodedDataSets.{CodedDataSet, pair_number, cds_bits}
use Rattle.aec_params.specs.Spellings.{after_reference, written_values, uncompressed, paired, split, is_shorter}
use Rattle.aec_params.proofs.SettingLaws.{block_size-even}
use Rattle.aec_block.specs.declared.choice.Coding.{Coding}
use Rattle.aec_block.specs.declared.choice.Choice.{Choice}
use Rattle.aec_block.specs.Choices.{spelling_by, IsFull, Names, IsChoice}
use Rattle.aec_block.specs.declared.choice.Coding.TheVariants.{NoCompression, SecondExtension, Split}
use Rattle.aec_block.specs.Lengths.{sum_of_shifted, pairs_length, split_values_length, IsBestSplit, uncompressed_length, paired_length, split_length}
use Rattle.aec_block.proofs.LengthLemmas.{length-uncompressed, length-paired, length-split}

-- the first of the shortest among no compression, second extension and the first `count` splitting
-- options
abbrev pub best_among : Settings → Block → ℕ → CodedDataSet
best_among s b count = best_of (is_shorter s) (uncompressed b) (paired b ∷ map (split b) (range_with_len 0 count))

-- the shorter of two; if both are equally long, the first
abbrev pub shorter : Settings → CodedDataSet → CodedDataSet → CodedDataSet
shorter s best next = cond (is_shorter s next best) next best

pub best_among-more : (s : Settings) (b : Block) (k : ℕ) → best_among s b (k + 1) ≡ shorter s (best_among s b k) (split b k)
best_among-more s b k =
    let longer = map-range_with_len_more (split b) 0 k k (omega arith) in
    ap (λ (sets : List CodedDataSet). best_of (is_shorter s) (uncompressed b) (paired b ∷ sets)) longer
    ∙ fold_push (λ (best next : CodedDataSet). shorter s best next) (uncompressed b) (paired b ∷ map (split b) (range_with_len 0 k)) (split b k)

-- one more option: code compares numbers, the definition compares the lengths of two spellings
names-decided : (s : Settings) (b : Block) (c d : CodedDataSet) (coding : Coding) (bits : ℕ) (best next : Choice) (test : Bool)
    → Names s b d best → spelling_by b coding ≡ c → bits ≡ length (cds_bits s c)
    → next ≡ (if test then record { coding = coding; bits = bits } else best) → Names s b (cond test c d) next
names-decided s b c d coding bits best next true named by len is =
    subst (Names s b c) (sym is) (record { coding = by; bits = len })
names-decided s b c d coding bits best next false named by len is = subst (Names s b d) (sym is) named

pub names-shorter : (s : Settings) (b : Block) (c d : CodedDataSet) (coding : Coding) (bits : ℕ) (best next : Choice)
    → Names s b d best → spelling_by b coding ≡ c → bits ≡ length (cds_bits s c)
    → next ≡ (if nat_lt bits best.bits then record { coding = coding; bits = bits } else best) → Names s b (shorter s d c) next
names-shorter s b c d coding bits best next named by len is =
    let test : nat_lt bits best.bits ≡ is_shorter s c d =
    ap (λ (n : ℕ). nat_lt n best.bits) len ∙ ap (λ (n : ℕ). nat_lt (length (cds_bits s c)) n) named.bits in
    let chosen : next ≡ (if is_shorter s c d then record { coding = coding; bits = bits } else best) =
    is ∙ ap (λ (t : Bool). if t then record { coding = coding; bits = bits } else best) test in
    names-decided s b c d coding bits best next (is_shorter s c d) named by len chosen

-- the choice after each step of the loop over the options
pub names-first : (s : Settings) (b : Block) (plain pairs : ℕ) (next : Choice) → plain ≡ uncompressed_length s b → pairs ≡ paired_length s b
    → next ≡ (if nat_lt pairs plain then record { coding = SecondExtension; bits = pairs } else record { coding = NoCompression; bits = plain })
    → Names s b (best_among s b 0) next
names-first s b plain pairs next at_plain at_pairs is =
    names-shorter s b (paired b) (uncompressed b) SecondExtension pairs (record { coding = NoCompression; bits = plain }) next
    (record { coding = refl; bits = at_plain ∙ sym (length-uncompressed s b) }) refl (at_pairs ∙ sym (length-paired s b)) is

-- ---- the best splitting option instead of all splitting options

-- the best so far, or the next if it is shorter
abbrev pick : {X : Type 0} → (X → ℕ) → X → X → X
pick f best next = cond (nat_lt (f next) (f best)) next best

pick-next : {X : Type 0} (f : X → ℕ) (best next : X) → f next < f best → pick f best next ≡ next
pick-next f best next less = cond-true (nat_lt (f next) (f best)) next best (lt-ltb (f next) (f best) less)

pick-best : {X : Type 0} (f : X → ℕ) (best next : X) → f best ≤ f next → pick f best next ≡ best
pick-best f best next more = cond-false (nat_lt (f next) (f best)) next best (le-ltb (f next) (f best) more)

-- an option that is longer than the next one needn't be tried
pick-skip : {X : Type 0} (f : X → ℕ) (x y z : X) → f z < f y → pick f (pick f x y) z ≡ pick f x z
pick-skip f x y z less = cond_both (nat_lt (f y) (f x)) y x (λ w. pick f w z ≡ pick f x z)
    (λ t. let l = ltb-true (f y) (f x) t in pick-next f y z less ∙ sym (pick-next f x z (omega arith))) (λ t. refl)

-- an option that isn't shorter than the one tried before it needn't be tried
pick-keep : {X : Type 0} (f : X → ℕ) (x y z : X) → f y ≤ f z → pick f (pick f x y) z ≡ pick f x y
pick-keep f x y z more =
    let within : f (pick f x y) ≤ f y = cond_both (nat_lt (f y) (f x)) y x (λ w. f w ≤ f y) (λ t. omega arith)
    (λ t. let l = ltb-false (f y) (f x) t in omega arith) in
    pick-best f (pick f x y) z (omega arith)

abbrev bits_by : Settings → CodedDataSet → ℕ
bits_by s c = length (cds_bits s c)

split-lt : (s : Settings) (b : Block) (j k : ℕ) → split_values_length j (written_values b) < split_values_length k (written_values b)
    → bits_by s (split b j) < bits_by s (split b k)
split-lt s b j k less =
    let at_j = length-split s b j in
    let at_k = length-split s b k in
    omega arith

split-le : (s : Settings) (b : Block) (j k : ℕ) → split_values_length j (written_values b) ≤ split_values_length k (written_values b)
    → bits_by s (split b j) ≤ bits_by s (split b k)
split-le s b j k less =
    let at_j = length-split s b j in
    let at_k = length-split s b k in
    omega arith

best_among-before : (s : Settings) (b : Block) (k c : ℕ)
    → ((j : ℕ) → j < c → split_values_length k (written_values b) < split_values_length j (written_values b))
    → shorter s (best_among s b c) (split b k) ≡ shorter s (best_among s b 0) (split b k)
best_among-before s b k zero longer = refl
best_among-before s b k (suc c) longer =
    let count : suc c ≡ c + 1 = omega arith in
    let last = ap (best_among s b) count ∙ best_among-more s b c in
    ap (λ (best : CodedDataSet). shorter s best (split b k)) last
    ∙ pick-skip (bits_by s) (best_among s b c) (split b c) (split b k) (split-lt s b k c (longer c (omega arith)))
    ∙ best_among-before s b k c (λ j h. longer j (omega arith))

best_among-after : (s : Settings) (b : Block) (k d : ℕ)
    → ((j : ℕ) → k < j → j < k + 1 + d → split_values_length k (written_values b) ≤ split_values_length j (written_values b))
    → best_among s b (k + 1 + d) ≡ shorter s (best_among s b k) (split b k)
best_among-after s b k zero longer =
    let count : k + 1 + zero ≡ k + 1 = omega arith in
    ap (best_among s b) count ∙ best_among-more s b k
best_among-after s b k (suc d) longer =
    let count : k + 1 + suc d ≡ k + 1 + d + 1 = omega arith in
    let before = best_among-after s b k d (λ j later h. longer j later (omega arith)) in
    ap (best_among s b) count ∙ best_among-more s b (k + 1 + d) ∙ ap (λ (best : CodedDataSet). shorter s best (split b (k + 1 + d))) before
    ∙ pick-keep (bits_by s) (best_among s b k) (split b k) (split b (k + 1 + d))
    (split-le s b k (k + 1 + d) (longer (k + 1 + d) (omega arith) (omega arith)))

best_among-best : (s : Settings) (b : Block) (count k : ℕ) → IsBestSplit count k (written_values b)
    → best_among s b count ≡ shorter s (best_among s b 0) (split b k)
best_among-best s b count k best =
    let within = best.within in
    let all : count ≡ k + 1 + (count - (k + 1)) = omega arith in
    ap (best_among s b) all ∙ best_among-after s b k (count - (k + 1)) (λ j later h. best.after j later (omega arith))
    ∙ best_among-before s b k k best.before

-- ---- the cases of the choice

pub names-unsplit : (s : Settings) (b : Block) (options : ℕ) (best : Choice) → Names s b (best_among s b 0) best → options ≡ split_count s
    → options ≡ 0 → IsChoice s b best
names-unsplit s b options best named is none =
    let P : ℕ → Type 0 = λ count. Names s b (best_among s b count) best in
    subst P (sym none ∙ is) named

pub names-split : (s : Settings) (b : Block) (options k : ℕ) (best next : Choice) → Names s b (best_among s b 0) best → options ≡ split_count s
    → IsBestSplit options k (written_values b)
    → next ≡ (if nat_lt (split_length s b k) best.bits then record { coding = Split k; bits = split_length s b k } else best)
    → IsChoice s b next
names-split s b options k best next named count is_best is =
    let P : CodedDataSet → Type 0 = λ c. Names s b c next in
    let Q : ℕ → Type 0 = λ n. Names s b (best_among s b n) next in
    subst Q count (subst P (sym (best_among-best s b options k is_best))
    (names-shorter s b (split b k) (best_among s b 0) (Split k) (split_length s b k) best next named refl (sym (length-split s b k)) is))

-- ---- when the second extension can't win

-- above 2^31 bits, the second extension is longer than any best choice so far of at most 2^31 bits
pub pairs-too_long : (pairs : ℕ) (best : Choice) (c : Choice) → 2 ^ 31 < pairs → best.bits ≤ 2 ^ 31
    → best ≡ (if nat_lt pairs best.bits then c else best)
pairs-too_long pairs best c long short = sym (cond-false (nat_lt pairs best.bits) c best (le-ltb pairs best.bits (omega arith)))

pub ruleset too_long = (pairs-too_long)

-- if a pair adds up to t, its codeword has at least 2 * t bits
four_times : (t : ℕ) → 4 * t ≤ t * (t + 1) + 2
four_times zero = omega arith
four_times (suc zero) = omega arith
four_times (suc (suc t)) = omega arith

twice : (a b : ℕ) → 2 * (a + b) ≤ pair_number a b + 1
twice a b = halved ((a + b) * (a + b + 1)) (four_times (a + b))
  where
    halved : (n : ℕ) → 4 * (a + b) ≤ n + 2 → 2 * (a + b) ≤ n / 2 + b + 1
    halved n h = omega arith

pairs_length-twice : (h : ℕ) (values : List ℕ) → length values ≡ 2 * h → 2 * sum_of_shifted 0 values ≤ pairs_length values
pairs_length-twice h [] even = omega arith
pairs_length-twice h (a ∷ []) even = absurd (omega arith)
pairs_length-twice h (a ∷ (b ∷ values)) even =
    let rest = pairs_length-twice (h - 1) values (omega arith) in
    let first = sum_by-cons (λ (v : ℕ). v / 2 ^ 0) a (b ∷ values) in
    let second = sum_by-cons (λ (v : ℕ). v / 2 ^ 0) b values in
    let pair = twice a b in
    omega arith

sum_of_shifted-drop : (values : List ℕ) → sum_of_shifted 0 (drop 1 values) ≤ sum_of_shifted 0 values
sum_of_shifted-drop [] = omega arith
sum_of_shifted-drop (v ∷ values) = omega (arith, sum_by-cons (λ (u : ℕ). u / 2 ^ 0) v values)

sum_of_written : (reference : Option ℕ) (values : List ℕ) → sum_of_shifted 0 (after_reference reference values) ≤ sum_of_shifted 0 values
sum_of_written None values = omega arith
sum_of_written (Some r) values = sum_of_shifted-drop values

-- if k 0 isn't the best, or has at least 2 bits a value, the values add up to their number or more
sum-great : (values : List ℕ) (options k bits : ℕ) → IsBestSplit options k values → bits ≡ split_values_length k values
    → (k ≡ 0 → 2 * length values ≤ bits) → (length values ≤ sum_of_shifted 0 values) × (split_values_length k values ≤ split_values_length 0 values)
sum-great values options zero bits best is many =
    let enough = many refl in
    (omega arith, omega arith)
sum-great values options (suc k) bits best is many =
    let first = best.before 0 (omega arith) in
    let once : length values * 1 ≤ length values * (k + 1) = mul-le (length values) 1 (length values) (k + 1) (omega arith) (omega arith) in
    (omega arith, omega arith)

pairs-longer : (s : Settings) (b : Block) (options k bits : ℕ) → IsAllowed s → IsFull s b → IsBestSplit options k (written_values b)
    → bits ≡ split_values_length k (written_values b) → (k ≡ 0 → 2 * length (written_values b) ≤ bits) → split_length s b k < paired_length s b
pairs-longer s b options k bits a full best is many =
    let great = sum-great (written_values b) options k bits best is many in
    let even = full.len ∙ sym (block_size-even s a) in
    let pairs = pairs_length-twice (s.block_size / 2) b.values even in
    let written = sum_of_written b.reference b.values in
    let enough = great.0 in
    let first = great.1 in
    omega arith

-- the test: there is a splitting option, and k is above 0 or has at least `least` bits
some_options : (options : ℕ) (rest : Bool) → (nat_lt 0 options && rest) ≡ true → 0 < options
some_options options rest test = ltb-true 0 options (and_parts (nat_lt 0 options) rest test).0

many_bits : (k least bits : ℕ) → (nat_lt 0 k || nat_le least bits) ≡ true → k ≡ 0 → least ≤ bits
many_bits zero least bits test is = leb-true least bits test
many_bits (suc k) least bits test is = absurd (omega arith)

-- if the test holds, the best splitting option is shorter than the second extension, and the choice
-- is made without it
pub names-unpaired : (s : Settings) (b : Block) (options k bits plain : ℕ) (next : Choice) → IsAllowed s → IsFull s b
    → plain ≡ uncompressed_length s b → options ≡ split_count s → (0 < options → IsBestSplit options k (written_values b))
    → bits ≡ split_values_length k (written_values b)
    → (nat_lt 0 options && (nat_lt 0 k || nat_le (2 * length (written_values b)) bits)) ≡ true
    → next ≡ (if nat_lt (split_length s b k) plain then record { coding = Split k; bits = split_length s b k }
    else record { coding = NoCompression; bits = plain })
    → IsChoice s b next
names-unpaired s b options k bits plain next a full at_plain count best at_bits test is =
    let P : CodedDataSet → Type 0 = λ c. Names s b c next in
    let Q : ℕ → Type 0 = λ n. Names s b (best_among s b n) next in
    let long = nat_lt 0 k || nat_le (2 * length (written_values b)) bits in
    let is_best = best (some_options options long test) in
    let many = many_bits k (2 * length (written_values b)) bits (and_parts (nat_lt 0 options) long test).1 in
    let longer = pairs-longer s b options k bits a full is_best at_bits many in
    let at_split = length-split s b k in
    let at_pairs = length-paired s b in
    let skipped = pick-skip (bits_by s) (uncompressed b) (paired b) (split b k) (omega arith) in
    subst Q count (subst P (sym (best_among-best s b options k is_best ∙ skipped))
    (names-shorter s b (split b k) (uncompressed b) (Split k) (split_length s b k) (record { coding = NoCompression; bits = plain }) next
    (record { coding = refl; bits = at_plain ∙ sym (length-uncompressed s b) }) refl (sym at_split) is))

same-k : (b : Block) (j k : ℕ) → split b j ≡ split b k → j ≡ k
same-k b j k e = let body = ap (λ (c : CodedDataSet). c.body) e in cc

split-first : (s : Settings) (b : Block) (k : ℕ) (test : Bool) → cond test (paired b) (uncompressed b) ≡ split b k → ⊥
split-first s b k true e = let body = ap (λ (c : CodedDataSet). c.body) e in cc
split-first s b k false e = let body = ap (λ (c : CodedDataSet). c.body) e in cc

split-next : (b : Block) (c : CodedDataSet) (j k : ℕ) (test : Bool) → (c ≡ split b k → k < j) → cond test (split b j) c ≡ split b k → k < j + 1
split-next b c j k true before e = let same = same-k b j k e in omega arith
split-next b c j k false before e = let below = before e in omega arith

-- if `best_among` with `count` is a splitting option, its k is below `count`
best_among-split : (s : Settings) (b : Block) (count k : ℕ) → best_among s b count ≡ split b k → k < count
best_among-split s b zero k e = absurd (split-first s b k (is_shorter s (paired b) (uncompressed b)) e)
best_among-split s b (suc j) k e =
    let count : suc j ≡ j + 1 = omega arith in
    let more = ap (best_among s b) count ∙ best_among-more s b j in
    let below =
    split-next b (best_among s b j) j k (is_shorter s (split b j) (best_among s b j)) (best_among-split s b j k) (sym more ∙ e) in
    omega arith

pub split-within : (s : Settings) (b : Block) (choice : Choice) (k : ℕ) → IsChoice s b choice → choice.coding ≡ Split k → k < split_count s
split-within s b choice k chosen is =
    best_among-split s b (split_count s) k (sym chosen.coding ∙ ap (spelling_by b) is)
