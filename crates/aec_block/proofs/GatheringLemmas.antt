-- Values gathered one by one, with a test whether all are small enough.
use Rattle.std.proofs.Common.{◌≡◌, ℕ, zero, suc, ◌+◌, ◌*◌, ◌<◌, ◌≤◌, Bool, true, false, ◌&&◌, ◌==◌, nat_lt, if◌then◌else◌, Option, Some, List, [], ◌∷◌, ◌++◌, ◌-◌, length, take, drop, set, refl, sym, ap, ◌∙◌, append_assoc, append-nil, inl, inr, arith}
use Rattle.std.proofs.lemmas.Bool.{cases_Bool}
use Rattle.std.proofs.lemmas.List.{take_all, take_more_set, length-set}
use Rattle.aec_bits.specs.BitReader.{Cursor}
use Rattle.aec_block.specs.ReadAt.{Taken, nothing, taken, map_taken, fs_at, values_at, members_at, pair_with_number, before_members}
use Rattle.aec_block.specs.Gathering.{when, all_below, small_values, kept_members, small_members}

-- a reader that has moved within its list
pub record HasMoved (start now : Cursor) : Type 0 where
  pub list : now.list ≡ start.list
  pub within : now.pos ≤ length now.list

-- ---- numbers in a row, one after another

pub values_at-next : {Y : Type 0} (value_at : List Bool → Taken ℕ) (f g : List ℕ → Y) (n m v : ℕ) (bits rest : List Bool) → n ≡ suc m
    → value_at bits ≡ taken v rest → ((later : List ℕ) → f (v ∷ later) ≡ g later)
    → map_taken f (values_at value_at n bits) ≡ map_taken g (values_at value_at m rest)
values_at-next value_at f g n m v bits rest count first same =
    rw (count, first) (joined (values_at value_at m rest))
  where
    joined : (t : _) → map_taken f (map_taken (λ later. v ∷ later) t) ≡ map_taken g t
    joined nothing = refl
    joined (taken later behind) = ap (λ y. taken y behind) (same later)

pub values_at-done : {Y : Type 0} (value_at : List Bool → Taken ℕ) (f : List ℕ → Y) (n : ℕ) (bits : List Bool) → n ≡ 0
    → map_taken f (values_at value_at n bits) ≡ taken (f []) bits
values_at-done value_at f n bits count = rw count refl

pub members_at-next : {Y : Type 0} (f g : List ℕ → Y) (n m number : ℕ) (bits rest : List Bool) → n ≡ suc m
    → fs_at bits ≡ taken number rest → ((later : List ℕ) → f (before_members (pair_with_number number) later) ≡ g later)
    → map_taken f (members_at n bits) ≡ map_taken g (members_at m rest)
members_at-next f g n m number bits rest count first same =
    rw (count, first) (joined (members_at m rest))
  where
    joined : (t : _) → map_taken f (map_taken (before_members (pair_with_number number)) t) ≡ map_taken g t
    joined nothing = refl
    joined (taken later behind) = ap (λ y. taken y behind) (same later)

pub members_at-done : {Y : Type 0} (f : List ℕ → Y) (n : ℕ) (bits : List Bool) → n ≡ 0 → map_taken f (members_at n bits) ≡ taken (f []) bits
members_at-done f n bits count = rw count refl

-- ---- values that are kept while they are below a limit

-- the values of `before`, then the later ones, if the test has held so far and the later ones are
-- below the limit
abbrev pub gathered : ℕ → List ℕ → Bool → List ℕ → Option (List ℕ)
gathered limit before fit later = when (fit && all_below limit later) (before ++ later)

abbrev pub members_gathered : ℕ → List ℕ → Bool → Bool → List ℕ → Option (List ℕ)
members_gathered limit before fit placed members = gathered limit before fit (kept_members placed members)

pub gathered-next : (limit : ℕ) (before before_later : List ℕ) (fit : Bool) (v : ℕ) → (nat_lt v limit ≡ true → before_later ≡ before ++ v ∷ [])
    → (later : List ℕ) → gathered limit before fit (v ∷ later) ≡ gathered limit before_later (fit && nat_lt v limit) later
gathered-next limit before before_later true v kept later =
    elim (cases_Bool (nat_lt v limit)) [
      | inl below ↦ rw (below, kept below, append_assoc before (v ∷ []) later) refl
      | inr above ↦ rw above refl
    ]
gathered-next limit before before_later false v kept later = refl

pub gathered-done : (limit : ℕ) (before : List ℕ) (fit : Bool) → gathered limit before fit [] ≡ when fit before
gathered-done limit before true = ap (λ l. Some l) (append-nil before)
gathered-done limit before false = refl

-- ---- the members of pairs

-- a value written at a place, if it is below the limit
abbrev pub value_put : ℕ → List ℕ → ℕ → ℕ → List ℕ
value_put limit values i v = if nat_lt v limit then set values i v else values

pub length-value_put : (limit : ℕ) (values : List ℕ) (i v : ℕ) → length (value_put limit values i v) ≡ length values
length-value_put limit values i v =
    elim (cases_Bool (nat_lt v limit)) [
      | inl below ↦ rw below (length-set values i v)
      | inr above ↦ rw above refl
    ]

-- if the list has 0 in the reference place, it still has it after a value is put
pub kept_members-put : (limit : ℕ) (placed : Bool) (values : List ℕ) (i v : ℕ) → values ≡ kept_members placed values → (placed ≡ true → i ≡ 0 → v ≡ 0)
    → value_put limit values i v ≡ kept_members placed (value_put limit values i v)
kept_members-put limit false values i v is zero_there = refl
kept_members-put limit true [] i v is zero_there = absurd (cc)
kept_members-put limit true (first ∷ values) zero v is zero_there =
    let none : first ≡ 0 = cc in
    rw (zero_there refl refl, none) (same (nat_lt 0 limit))
  where
    same : (b : Bool) → (if b then 0 ∷ values else (0 ∷ values)) ≡ 0 ∷ drop 1 (if b then 0 ∷ values else (0 ∷ values))
    same true = refl
    same false = refl
kept_members-put limit true (first ∷ values) (suc i) v is zero_there =
    let none : first ≡ 0 = cc in
    rw none (same (nat_lt v limit))
  where
    same : (b : Bool) → (if b then 0 ∷ set values i v else (0 ∷ values)) ≡ 0 ∷ drop 1 (if b then 0 ∷ set values i v else (0 ∷ values))
    same true = refl
    same false = refl

kept_zero : (placed : Bool) (i first kept : ℕ) → kept ≡ (if placed && (i == 0) then 0 else first) → placed ≡ true → 2 * i ≡ 0 → kept ≡ 0
kept_zero true zero first kept is there start = is
kept_zero true (suc i) first kept is there start = absurd (omega arith)
kept_zero false i first kept is there start = absurd (cc)

pub pair_placed : (limit : ℕ) (placed : Bool) (before between values : List ℕ) (i first second kept : ℕ)
    → kept ≡ (if placed && (i == 0) then 0 else first) → between ≡ value_put limit before (2 * i) kept
    → values ≡ value_put limit between (2 * i + 1) second → before ≡ kept_members placed before → values ≡ kept_members placed values
pair_placed limit placed before between values i first second kept is_kept first_put second_put there =
    let between_there : between ≡ kept_members placed between =
    rw first_put (kept_members-put limit placed before (2 * i) kept there (kept_zero placed i first kept is_kept)) in
    rw second_put (kept_members-put limit placed between (2 * i + 1) second between_there (λ there start. absurd (omega arith)))

-- after the members of one more pair were written
pub members_gathered-put : (limit : ℕ) (before between values : List ℕ) (i : ℕ) (fit first_fits second_fits placed : Bool) (first second kept number : ℕ)
    → 2 * i + 1 < length before
    → first ≡ (pair_with_number number).first → second ≡ (pair_with_number number).second → kept ≡ (if placed then 0 else first)
    → first_fits ≡ nat_lt kept limit → between ≡ value_put limit before (2 * i) kept
    → second_fits ≡ nat_lt second limit → values ≡ value_put limit between (2 * i + 1) second
    → (later : List ℕ) → members_gathered limit (take (2 * i) before) fit placed (before_members (pair_with_number number) later)
    ≡ gathered limit (take (2 * (i + 1)) values) (fit && first_fits && second_fits) later
members_gathered-put limit before between values i fit first_fits second_fits placed first second kept number inside
    is_first is_second is_kept first_test first_put second_test second_put later =
    let long : length between ≡ length before = ap length first_put ∙ length-value_put limit before (2 * i) kept in
    let place : 2 * (i + 1) ≡ 2 * i + 1 + 1 = omega arith in
    let first_there : nat_lt kept limit ≡ true → take (2 * i + 1) between ≡ take (2 * i) before ++ kept ∷ [] = λ below.
    rw (first_put, below) (take_more_set before (2 * i) kept (omega arith)) in
    let second_there : nat_lt second limit ≡ true → take (2 * (i + 1)) values ≡ take (2 * i + 1) between ++ second ∷ [] = λ below.
    rw (place, second_put, below) (take_more_set between (2 * i + 1) second (omega arith)) in
    rw (first_test, second_test) (kept_first placed is_kept
    ∙ (gathered-next limit (take (2 * i) before) (take (2 * i + 1) between) fit kept first_there (second ∷ later)
    ∙ gathered-next limit (take (2 * i + 1) between) (take (2 * (i + 1)) values) (fit && nat_lt kept limit) second second_there later))
  where
    kept_first : (b : Bool) → kept ≡ (if b then 0 else first)
        → members_gathered limit (take (2 * i) before) fit b (before_members (pair_with_number number) later)
        ≡ gathered limit (take (2 * i) before) fit (kept ∷ (second ∷ later))
    kept_first true is = rw (is, ← is_second) refl
    kept_first false is = rw (is, ← is_first, ← is_second) refl

-- after the first pair no member is in the reference place
later_pair : (placed : Bool) (i : ℕ) → 0 < i → (placed && (i == 0)) ≡ false
later_pair placed zero some = absurd (omega arith)
later_pair true (suc i) some = grind arith
later_pair false (suc i) some = refl

-- of the n pairs at the start of the bits `start`, the members of the first i are in place, and the
-- other pairs begin `bits`
abbrev pub MembersGathered : ℕ → Bool → ℕ → List Bool → List ℕ → ℕ → Bool → List Bool → Type 0
MembersGathered limit placed n start values i fit bits =
    map_taken (small_members limit placed) (members_at n start)
    ≡ map_taken (members_gathered limit (take (2 * i) values) fit (placed && (i == 0))) (members_at (n - i) bits)

pub MembersGathered-next : (limit : ℕ) (placed : Bool) (n : ℕ) (start : List Bool) (before between values : List ℕ) (i : ℕ)
    (fit first_fits second_fits : Bool) (bits rest : List Bool) (first second kept number : ℕ)
    → 2 * i + 1 < length before → i < n → fs_at bits ≡ taken number rest
    → first ≡ (pair_with_number number).first → second ≡ (pair_with_number number).second → kept ≡ (if placed && (i == 0) then 0 else first)
    → first_fits ≡ nat_lt kept limit → between ≡ value_put limit before (2 * i) kept
    → second_fits ≡ nat_lt second limit → values ≡ value_put limit between (2 * i + 1) second
    → MembersGathered limit placed n start before i fit bits
    → MembersGathered limit placed n start values (i + 1) (fit && first_fits && second_fits) rest
MembersGathered-next limit placed n start before between values i fit first_fits second_fits bits rest first second kept number inside within read
    is_first is_second is_kept first_test first_put second_test second_put so_far =
    let left : n - i ≡ suc (n - (i + 1)) = omega arith in
    so_far ∙ (members_at-next (members_gathered limit (take (2 * i) before) fit (placed && (i == 0)))
    (gathered limit (take (2 * (i + 1)) values) (fit && first_fits && second_fits)) (n - i) (n - (i + 1)) number bits rest left read
    (members_gathered-put limit before between values i fit first_fits second_fits (placed && (i == 0)) first second kept number inside
    is_first is_second is_kept first_test first_put second_test second_put)
    ∙ ap (λ b. map_taken (members_gathered limit (take (2 * (i + 1)) values) (fit && first_fits && second_fits) b) (members_at (n - (i + 1)) rest))
    (sym (later_pair placed (i + 1) (omega arith))))

pub MembersGathered-done : (limit : ℕ) (placed : Bool) (n : ℕ) (start : List Bool) (values : List ℕ) (i : ℕ) (fit : Bool) (bits : List Bool)
    → n ≤ i → 0 < n → length values ≤ 2 * n → MembersGathered limit placed n start values i fit bits
    → map_taken (small_members limit placed) (members_at n start) ≡ taken (when fit values) bits
MembersGathered-done limit placed n start values i fit bits past some all so_far =
    so_far ∙ (ap (λ b. map_taken (members_gathered limit (take (2 * i) values) fit b) (members_at (n - i) bits)) (later_pair placed i (omega arith))
    ∙ (members_at-done (gathered limit (take (2 * i) values) fit) (n - i) bits (omega arith)
    ∙ ap (λ o. taken o bits) (gathered-done limit (take (2 * i) values) fit ∙ ap (when fit) (take_all (2 * i) values (omega arith)))))

-- ---- the high parts

-- of the high parts at the start of the bits `start`, the first i are in place, and the others
-- begin `bits`
abbrev pub HighsGathered : ℕ → List Bool → List ℕ → ℕ → Bool → List Bool → Type 0
HighsGathered limit start highs i fit bits =
    map_taken (small_values limit) (values_at fs_at (length highs) start)
    ≡ map_taken (gathered limit (take i highs) fit) (values_at fs_at (length highs - i) bits)

pub HighsGathered-next : (limit : ℕ) (start : List Bool) (highs later_highs : List ℕ) (i v : ℕ) (fit : Bool) (bits rest : List Bool)
    → i < length highs → length later_highs ≡ length highs → fs_at bits ≡ taken v rest
    → (nat_lt v limit ≡ true → take (i + 1) later_highs ≡ take i highs ++ v ∷ [])
    → HighsGathered limit start highs i fit bits → HighsGathered limit start later_highs (i + 1) (fit && nat_lt v limit) rest
HighsGathered-next limit start highs later_highs i v fit bits rest within same first kept so_far =
    let left : length highs - i ≡ suc (length later_highs - (i + 1)) = omega arith in
    ap (λ n. map_taken (small_values limit) (values_at fs_at n start)) same
    ∙ (so_far ∙ values_at-next fs_at (gathered limit (take i highs) fit) (gathered limit (take (i + 1) later_highs) (fit && nat_lt v limit))
    (length highs - i) (length later_highs - (i + 1)) v bits rest left first (gathered-next limit (take i highs) (take (i + 1) later_highs) fit v kept))

pub HighsGathered-done : (limit n : ℕ) (start : List Bool) (highs : List ℕ) (i : ℕ) (fit : Bool) (bits : List Bool) → length highs ≡ n → n ≤ i
    → HighsGathered limit start highs i fit bits → map_taken (small_values limit) (values_at fs_at n start) ≡ taken (when fit highs) bits
HighsGathered-done limit n start highs i fit bits same all so_far =
    let past : length highs ≤ i = omega arith in
    ap (λ m. map_taken (small_values limit) (values_at fs_at m start)) (sym same)
    ∙ (so_far ∙ (values_at-done fs_at (gathered limit (take i highs) fit) (length highs - i) bits (omega arith)
    ∙ ap (λ o. taken o bits) (gathered-done limit (take i highs) fit ∙ ap (when fit) (take_all i highs past))))
