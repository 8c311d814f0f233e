-- The second reading: the bytes of a range of samples are passed to `put` piece by piece.
use Rattle.std.proofs.Common.{◌≡◌, ℕ, zero, suc, ◌+◌, ◌-◌, ◌%◌, ◌<◌, ◌≤◌, min, true, false, Option, Some, None, Result, Ok, Err, OnOk, OnErr, ℤ, List, [], ◌∷◌, ◌++◌, length, take, drop, refl, sym, ap, ap₂, ◌∙◌, subst, arith, append-nil, append_assoc, ◌⊎◌, ⊎_elim}
use Rattle.std.specs.Io.KnownBytes.{Appends, Keeps}
use Rattle.std.proofs.KnownBytes.{Appends-nil, Appends-trans}
use Rattle.std.proofs.lemmas.Bool.{cases_lt}
use Rattle.std.proofs.lemmas.List.{length-append, length-take, length-drop, take_all, take-append-drop, nil_from_length}
use Rattle.std.specs.List.{AllByRecursion}
use Rattle.std.proofs.lemmas.List.Concat.{flat_map-append}
use Rattle.aec_params.specs.declared.settings.Settings.{Settings}
use Rattle.aec_params.specs.declared.fault.Fault.{Fault}
use Rattle.aec_params.specs.declared.fault.Fault.TheVariants.{Memory}
use Rattle.aec_params.specs.Params.{IsAllowed, IsHeld, interval_len}
use Rattle.aec_params.specs.Stored.{stored_bytes}
use Rattle.aec_params.specs.Reading.{IsReading}
use Rattle.aec_params.specs.Limits.{most_blocks}
use Rattle.aec_bits.specs.Devices.{AppendsFront}
use Rattle.aec_interval.specs.Pieces.{Place, is_wanted_at, ReadsPiece, ReadsIntervals, HasRead, RefusesAt}
use Rattle.aec_interval.proofs.ReadingLemmas.{bits_are_read_in_one_way}
use Rattle.aec_interval.proofs.PieceReadingLemmas.{has_read_several, has_read_all, has_read_front, lacks_memory_only, piece_is_held}
use Rattle.aec_interval.proofs.BlockLemmas.{all_left, all_right}
use Rattle.aec_engine.specs.Transfers.{Putting}
use Rattle.aec_engine.specs.Output.{all_stored, samples_from}
use Rattle.aec_engine.specs.ReadingTwice.{AreSamplesOf, IsBegun}
use Rattle.aec_engine.specs.Delivering.{Delivers, PutsAllOrFront, PutsPart}
use Rattle.aec_engine.proofs.ReadTwiceLemmas.{place_from, settings-same, same_next}

-- ---- parts of lists

drop-none : {X : Type 0} (n : ℕ) (l : List X) → length l ≡ 0 → drop n l ≡ l
drop-none n [] none = nil_from_length (drop n []) (length-drop n [] ∙ omega arith)
drop-none n (x ∷ l) none = absurd (omega arith)

take-none : {X : Type 0} (n : ℕ) (l : List X) → length l ≡ 0 → take n l ≡ l
take-none n [] none = nil_from_length (take n []) (length-take n [] ∙ omega arith)
take-none n (x ∷ l) none = absurd (omega arith)

drop-both : {X : Type 0} (n : ℕ) (xs ys : List X) → drop n (xs ++ ys) ≡ drop n xs ++ drop (n - length xs) ys
drop-both n [] ys = ap₂ (λ l k. l ++ drop k ys) (sym (drop-none n [] refl)) (omega arith)
drop-both zero (x ∷ xs) ys = let none : 0 - length (x ∷ xs) ≡ 0 = omega arith in ap (λ k. (x ∷ xs) ++ drop k ys) (sym none)
drop-both (suc n) (x ∷ xs) ys = drop-both n xs ys ∙ ap (λ k. drop n xs ++ drop k ys) (omega arith)

take-both : {X : Type 0} (n : ℕ) (xs ys : List X) → take n (xs ++ ys) ≡ take n xs ++ take (n - length xs) ys
take-both n [] ys = ap₂ (λ l k. l ++ take k ys) (sym (take-none n [] refl)) (omega arith)
take-both zero (x ∷ xs) ys = let none : 0 - length (x ∷ xs) ≡ 0 = omega arith in ap (λ k. take k ys) (sym none)
take-both (suc n) (x ∷ xs) ys = ap (λ l. x ∷ l) (take-both n xs ys ∙ ap (λ k. take n xs ++ take k ys) (omega arith))

pub samples_from-append : (first len : ℕ) (xs ys : List ℤ)
    → samples_from first len (xs ++ ys) ≡ samples_from first len xs ++ samples_from (first - length xs) (len - (length xs - first)) ys
samples_from-append first len xs ys =
    ap (take len) (drop-both first xs ys) ∙ take-both len (drop first xs) (drop (first - length xs) ys)
    ∙ ap (λ k. samples_from first len xs ++ take k (drop (first - length xs) ys)) (ap (λ n. len - n) (length-drop first xs))

pub samples_from-most : (skip left : ℕ) (ys : List ℤ) → length (samples_from skip left ys) ≡ min left (length ys - skip)
samples_from-most skip left ys = length-take left (drop skip ys) ∙ ap (min left) (length-drop skip ys)

pub all_stored-append : (s : Settings) (xs ys : List ℤ) → all_stored s (xs ++ ys) ≡ all_stored s xs ++ all_stored s ys
all_stored-append s xs ys = flat_map-append (stored_bytes s) xs ys

-- ---- what was written so far

pub record PutsSoFar (start p : Place) (s : Settings) (first len skip left : ℕ) (before after : Option (List ℕ)) (waiting : List ℕ) : Type 0 where
  pub samples : List ℤ
  pub read : HasRead p samples
  pub same : p ≡ place_from start p.block p.bit
  pub few : p.block < most_blocks
  pub begins : is_wanted_at p ≡ true → p.block % p.settings.interval ≡ 0
  pub put : List ℕ
  pub appended : Appends before after put
  pub all : put ++ waiting ≡ all_stored s (samples_from first len samples)
  pub skip_is : skip ≡ first - length samples
  pub left_is : left ≡ len - (length samples - first)

-- bytes are appended to a sink that kept its bytes when it was begun
pub begun_then : (before mid after : Option (List ℕ)) (bytes : List ℕ) → Keeps before mid → Appends mid after bytes → Appends before after bytes
begun_then None mid after bytes kept appended = tt
begun_then (Some xs) None after bytes kept appended = absurd kept
begun_then (Some xs) (Some ys) None bytes kept appended = appended
begun_then (Some xs) (Some ys) (Some zs) bytes kept appended = appended ∙ ap (λ l. l ++ bytes) kept

-- the same with a front of the bytes
pub begun_front : (before mid after : Option (List ℕ)) (bytes : List ℕ) → Keeps before mid → AppendsFront mid after bytes → AppendsFront before after bytes
begun_front before mid after bytes kept front = (front.0, begun_then before mid after (take front.0 bytes) kept front.1)

-- if all samples so far are before the range, none of the range is taken
pub samples_from-before : (first len : ℕ) (xs : List ℤ) → length xs ≤ first → samples_from first len xs ≡ []
samples_from-before first len xs few = nil_from_length (samples_from first len xs) (omega (arith, few, samples_from-most first len xs))

-- if a sink keeps its bytes, an empty front of any bytes was appended
pub front_none : (before after : Option (List ℕ)) (bytes : List ℕ) → Keeps before after → AppendsFront before after bytes
front_none before after bytes kept =
    let none : take 0 bytes ≡ [] = nil_from_length (take 0 bytes) (length-take 0 bytes ∙ omega arith) in
    (0, subst (Appends before after) (sym none) (begun_then before after after [] kept (Appends-nil after)))

pub puts_none : (start : Place) (s : Settings) (before_start first len skip : ℕ) (before after : Option (List ℕ)) (waiting : List ℕ) → Keeps before after
    → waiting ≡ [] → skip ≡ first - before_start → IsBegun start before_start first → PutsSoFar start start s first len skip len before after waiting
puts_none start s before_start first len skip before after waiting kept none skips begun = record {
  samples = begun.samples;
  read = begun.read;
  same = refl;
  few = begun.few;
  begins = begun.begins;
  put = [];
  appended = begun_then before after after [] kept (Appends-nil after);
  all = none ∙ sym (ap (all_stored s) (samples_from-before first len begun.samples (omega (arith, begun.counted, begun.at_most))));
  skip_is = omega (arith, skips, begun.counted);
  left_is = omega (arith, begun.counted, begun.at_most);
}

-- the bytes of a step's part come after those so far
behind : (s : Settings) (put waiting put_then waiting_then : List ℕ) (first len : ℕ) (xs ys part : List ℤ)
    → put ++ waiting ≡ all_stored s (samples_from first len xs) → put_then ++ waiting_then ≡ waiting ++ all_stored s part
    → part ≡ samples_from (first - length xs) (len - (length xs - first)) ys
    → (put ++ put_then) ++ waiting_then ≡ all_stored s (samples_from first len (xs ++ ys))
behind s put waiting put_then waiting_then first len xs ys part so_far next is =
    append_assoc put put_then waiting_then ∙ ap (λ l. put ++ l) next ∙ sym (append_assoc put waiting (all_stored s part))
    ∙ ap₂ (λ l part. l ++ all_stored s part) so_far is
    ∙ sym (ap (all_stored s) (samples_from-append first len xs ys) ∙ all_stored-append s (samples_from first len xs) _)

pub puts_more : (start p q : Place) (s : Settings) (first len skip left skip_then left_then : ℕ) (before mid after : Option (List ℕ))
    (waiting waiting_then : List ℕ)
    (ys part : List ℤ) → IsAllowed start.settings → PutsSoFar start p s first len skip left before mid waiting → ReadsIntervals p ys q → q.block < most_blocks
    → (is_wanted_at q ≡ true → q.block % q.settings.interval ≡ 0) → part ≡ samples_from skip left ys
    → PutsPart mid after waiting (all_stored s part) waiting_then → skip_then ≡ skip - length ys → left_then ≡ left - length part
    → PutsSoFar start q s first len skip_then left_then before after waiting_then
puts_more start p q s first len skip left skip_then left_then before mid after waiting waiting_then ys part a so_far step few begins is puts skips
    leaves = record {
      samples = so_far.samples ++ ys;
      read = has_read_several p q so_far.samples ys (subst IsAllowed (sym (settings-same start p so_far.same)) a) so_far.read step;
      same = same_next start p q so_far.same step.piece.same;
      few = few;
      begins = begins;
      put = so_far.put ++ puts.put;
      appended = Appends-trans before mid after so_far.put puts.put so_far.appended puts.appended;
      all = behind s so_far.put waiting puts.put waiting_then first len so_far.samples ys part so_far.all puts.all
          (is ∙ ap₂ (λ k n. samples_from k n ys) so_far.skip_is so_far.left_is);
      skip_is = omega (arith, skips, so_far.skip_is, length-append so_far.samples ys);
      left_is = omega (arith, leaves, so_far.left_is, so_far.skip_is, length-append so_far.samples ys, ap length is, samples_from-most skip left ys);
    }

-- ---- the second reading is not refused

pub not_refused : (start p : Place) (s : Settings) (first len skip left capacity : ℕ) (before after : Option (List ℕ)) (waiting : List ℕ)
    (fault : Fault) {P : Type 0}
    → IsAllowed start.settings → PutsSoFar start p s first len skip left before after waiting → (samples : List ℤ) × AreSamplesOf start samples
    → RefusesAt p fault → (fault ≡ Memory → capacity < interval_len p.settings) → interval_len start.settings ≤ capacity → P
not_refused start p s first len skip left capacity before after waiting fault a so_far given refuses full room =
    let settings = settings-same start p so_far.same in
    let whole : IsReading p.settings p.count p.limit p.bits given.0 =
    subst (λ (p : Place). IsReading p.settings p.count p.limit p.bits given.0) (sym so_far.same) given.1.reading in
    let memory = lacks_memory_only p so_far.samples given.0 fault (subst IsAllowed (sym settings) a) so_far.read whole refuses in
    absurd (omega (arith, full memory, room, ap interval_len settings))

-- ---- what the sink has at the end

front_more : (before mid after : Option (List ℕ)) (put more rest all : List ℕ) → Appends before mid put → AppendsFront mid after more
    → all ≡ put ++ (more ++ rest)
    → AppendsFront before after all
front_more before mid after put more rest all first front is =
    (length put + min front.0 (length more), subst (Appends before after) (sym taken) (Appends-trans before mid after put (take front.0 more) first front.1))
  where
    n : ℕ
    n = min front.0 (length more)

    capped : take n more ≡ take front.0 more
    capped = ⊎_elim fewer whole (cases_lt front.0 (length more))
      where
        fewer : front.0 < length more → take n more ≡ take front.0 more
        fewer h = let same : n ≡ front.0 = omega (arith, h) in ap (λ m. take m more) same

        whole : length more ≤ front.0 → take n more ≡ take front.0 more
        whole h = take_all n more (omega (arith, h)) ∙ sym (take_all front.0 more (omega (arith, h)))

    taken : take (length put + n) all ≡ put ++ take front.0 more
    taken =
        let here : length put + n - length put ≡ n = omega arith in
        let none : n - length more ≡ 0 = omega arith in
        ap (take (length put + n)) is ∙ take-both (length put + n) put (more ++ rest)
        ∙ ap₂ ◌++◌ (take_all (length put + n) put (omega arith)) (ap (λ k. take k (more ++ rest)) here)
        ∙ ap (λ l. put ++ l) (take-both n more rest ∙ ap₂ ◌++◌ capped (ap (λ k. take k rest) none) ∙ append-nil (take front.0 more))

-- bytes are put, and more bytes after them
pub puts_behind : {X : Type 0} (r : Result X Fault) (before mid after : Option (List ℕ)) (first more : List ℕ) → Appends before mid first
    → PutsAllOrFront mid after more r → PutsAllOrFront before after (first ++ more) r
puts_behind (Ok x) before mid after first more appended puts = Appends-trans before mid after first more appended puts
puts_behind (Err e) before mid after first more appended front =
    front_more before mid after first more [] (first ++ more) appended front (ap (λ l. first ++ l) (sym (append-nil more)))

-- only a front of the first bytes is put
pub front_behind : (before after : Option (List ℕ)) (first more : List ℕ) → AppendsFront before after first → AppendsFront before after (first ++ more)
front_behind before after first more front =
    front_more before before after [] first more (first ++ more) (Appends-nil before) front refl

-- no bytes waited
pub none_waited : (r : Result (Unit {0}) Fault) (sink : Putting) (waiting more : List ℕ) → waiting ≡ [] → Delivers (waiting ++ more) sink r
    → Delivers more sink r
none_waited r sink waiting more none delivers = subst (λ l. Delivers (l ++ more) sink r) none delivers

pub puts_front : (start p q : Place) (s : Settings) (first len skip left : ℕ) (before mid after : Option (List ℕ)) (waiting : List ℕ) (ys part xs : List ℤ)
    → IsAllowed start.settings → PutsSoFar start p s first len skip left before mid waiting → ReadsIntervals p ys q
    → (is_wanted_at q ≡ true → q.block % q.settings.interval ≡ 0) → part ≡ samples_from skip left ys → AppendsFront mid after (waiting ++ all_stored s part)
    → AreSamplesOf start xs → AppendsFront before after (all_stored s (samples_from first len xs))
puts_front start p q s first len skip left before mid after waiting ys part xs a so_far step begins is front given =
    front_more before mid after so_far.put (waiting ++ all_stored s part) (all_stored s later) (all_stored s (samples_from first len xs)) so_far.appended front
    (ap (all_stored s) (ap (samples_from first len) rest.1 ∙ samples_from-append first len both rest.0)
    ∙ all_stored-append s (samples_from first len both) later
    ∙ ap (λ l. l ++ all_stored s later) (sym here) ∙ append_assoc so_far.put (waiting ++ all_stored s part) (all_stored s later))
  where
    allowed : IsAllowed p.settings
    allowed = subst IsAllowed (sym (settings-same start p so_far.same)) a

    both : List ℤ
    both = so_far.samples ++ ys

    same : q ≡ place_from start q.block q.bit
    same = same_next start p q so_far.same step.piece.same

    rest : (zs : List ℤ) × (xs ≡ both ++ zs)
    rest = has_read_front q both xs (subst IsAllowed (sym (settings-same start q same)) a)
        (has_read_several p q so_far.samples ys allowed so_far.read step) begins
        (subst (λ (p : Place). IsReading p.settings p.count p.limit p.bits xs) (sym same) given.reading)

    later : List ℤ
    later = samples_from (first - length both) (len - (length both - first)) rest.0

    here : so_far.put ++ (waiting ++ all_stored s part) ≡ all_stored s (samples_from first len both)
    here = sym (append_assoc so_far.put waiting (all_stored s part))
        ∙ ap₂ (λ l part. l ++ all_stored s part) so_far.all (is ∙ ap₂ (λ k n. samples_from k n ys) so_far.skip_is so_far.left_is)
        ∙ sym (ap (all_stored s) (samples_from-append first len so_far.samples ys) ∙ all_stored-append s (samples_from first len so_far.samples) _)

-- at the end all samples were read
all_read : (start p : Place) (s : Settings) (first len skip left : ℕ) (before after : Option (List ℕ)) (waiting : List ℕ) (xs : List ℤ)
    → IsAllowed start.settings
    → (so_far : PutsSoFar start p s first len skip left before after waiting) → is_wanted_at p ≡ false → AreSamplesOf start xs → so_far.samples ≡ xs
all_read start p s first len skip left before after waiting xs a so_far done given =
    let whole = has_read_all p so_far.samples (subst IsAllowed (sym (settings-same start p so_far.same)) a) so_far.read done in
    (bits_are_read_in_one_way start.settings start.count start.limit start.bits a).one_reading so_far.samples xs
    (subst (λ (p : Place). IsReading p.settings p.count p.limit p.bits so_far.samples) so_far.same whole) given.reading

-- if no samples are left to write, or none to read, the whole range was taken
range_taken : (start p : Place) (s : Settings) (first len skip left : ℕ) (before after : Option (List ℕ)) (waiting : List ℕ) (xs : List ℤ)
    → IsAllowed start.settings → (so_far : PutsSoFar start p s first len skip left before after waiting) → (left ≡ 0) ⊎ (is_wanted_at p ≡ false)
    → AreSamplesOf start xs → samples_from first len so_far.samples ≡ samples_from first len xs
range_taken start p s first len skip left before after waiting xs a so_far ends given = ⊎_elim none_left none_wanted ends
  where
    allowed : IsAllowed p.settings
    allowed = subst IsAllowed (sym (settings-same start p so_far.same)) a

    rest : (ys : List ℤ) × (xs ≡ so_far.samples ++ ys)
    rest = has_read_front p so_far.samples xs allowed so_far.read so_far.begins
        (subst (λ (p : Place). IsReading p.settings p.count p.limit p.bits xs) (sym so_far.same) given.reading)

    none_left : left ≡ 0 → samples_from first len so_far.samples ≡ samples_from first len xs
    none_left none =
        sym (ap (samples_from first len) rest.1 ∙ samples_from-append first len so_far.samples rest.0
        ∙ ap (λ k. samples_from first len so_far.samples ++ take k (drop (first - length so_far.samples) rest.0)) (sym so_far.left_is ∙ none)
        ∙ append-nil (samples_from first len so_far.samples))

    none_wanted : is_wanted_at p ≡ false → samples_from first len so_far.samples ≡ samples_from first len xs
    none_wanted done = ap (samples_from first len) (all_read start p s first len skip left before after waiting xs a so_far done given)

pub puts_rest : (start p : Place) (s : Settings) (first len skip left : ℕ) (before mid after : Option (List ℕ)) (waiting bytes : List ℕ)
    (r : Result (Unit {0}) Fault)
    → IsAllowed start.settings → PutsSoFar start p s first len skip left before mid waiting → (left ≡ 0) ⊎ (is_wanted_at p ≡ false) → bytes ≡ waiting
    → OnOk r (Appends mid after bytes) → OnErr r (AppendsFront mid after bytes)
    → (xs : List ℤ) → AreSamplesOf start xs → PutsAllOrFront before after (all_stored s (samples_from first len xs)) r
puts_rest start p s first len skip left before mid after waiting bytes r a so_far ends is puts front xs given = by_result r puts front
  where
    all : so_far.put ++ bytes ≡ all_stored s (samples_from first len xs)
    all = ap (λ l. so_far.put ++ l) is ∙ so_far.all
        ∙ ap (all_stored s) (range_taken start p s first len skip left before mid waiting xs a so_far ends given)

    by_result : (r : Result (Unit {0}) Fault) → OnOk r (Appends mid after bytes) → OnErr r (AppendsFront mid after bytes)
        → PutsAllOrFront before after (all_stored s (samples_from first len xs)) r
    by_result (Ok u) puts front = subst (Appends before after) all (Appends-trans before mid after so_far.put bytes so_far.appended puts)
    by_result (Err e) puts front =
        front_more before mid after so_far.put bytes [] (all_stored s (samples_from first len xs)) so_far.appended front
        (sym (ap (λ l. so_far.put ++ l) (append-nil bytes) ∙ all))

-- ---- the same, stated by the code's variables

-- a part of a step's samples is held
pub part_is_held : (start p q : Place) (s : Settings) (skip left : ℕ) (ys part : List ℤ) → p ≡ place_from start p.block p.bit → start.settings ≡ s
    → ReadsPiece p ys q
    → part ≡ samples_from skip left ys → AllByRecursion (IsHeld s) part
part_is_held start p q s skip left ys part same settings piece is =
    subst (AllByRecursion (IsHeld s)) (sym is)
    (all_left (IsHeld s) (take left (drop skip ys)) (drop left (drop skip ys)) (subst (AllByRecursion (IsHeld s)) (sym (take-append-drop left (drop skip ys)))
    (all_right (IsHeld s) (take skip ys) (drop skip ys) (subst (AllByRecursion (IsHeld s)) (sym (take-append-drop skip ys))
    (subst (λ s. AllByRecursion (IsHeld s) ys) (settings-same start p same ∙ settings) (piece_is_held p q ys piece))))))

pub puts_front_err : (r : Result (Unit {0}) Fault) (fault : Fault) (start p q : Place) (s : Settings) (first len skip left : ℕ)
    (before mid after : Option (List ℕ))
    (waiting : List ℕ) (ys part : List ℤ) → r ≡ Err fault
    → IsAllowed start.settings → PutsSoFar start p s first len skip left before mid waiting → ReadsIntervals p ys q
    → (is_wanted_at q ≡ true → q.block % q.settings.interval ≡ 0) → part ≡ samples_from skip left ys → AppendsFront mid after (waiting ++ all_stored s part)
    → (xs : List ℤ) → AreSamplesOf start xs → PutsAllOrFront before after (all_stored s (samples_from first len xs)) r
puts_front_err r fault start p q s first len skip left before mid after waiting ys part is a so_far step begins part_is front xs given =
    subst (λ r. PutsAllOrFront before after (all_stored s (samples_from first len xs)) r) (sym is)
    (puts_front start p q s first len skip left before mid after waiting ys part xs a so_far step begins part_is front given)
