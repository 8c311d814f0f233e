-- Samples of coded bits are appended to a workspace in whole intervals, and edits are made in
-- between.
use Rattle.std.proofs.Common.{◌≡◌, ◌⊎◌, inl, inr, ℕ, ◌+◌, ◌-◌, ◌*◌, ◌/◌, ◌%◌, ◌^◌, ◌<◌, ◌≤◌, Bool, true, false, if◌then◌else◌, IsTrue, Option, Some, None, Result, Ok, Err, ℤ, List, [], ◌∷◌, ◌++◌, length, refl, sym, ap, ap₂, ◌∙◌, subst, arith, append_assoc}
use Rattle.std.specs.Prelude.{MatchOption, nat_lt, ◌&&◌}
use Rattle.std.specs.List.{AllByRecursion, list_all}
use Rattle.std.specs.Option.{option_or}
use Rattle.std.proofs.lemmas.Bool.{le-ltb, ltb-false, leb-true}
use Rattle.std.proofs.lemmas.List.{length-append, append-nil}
use Rattle.std.proofs.Math.Nat.{mul-mod_left, zero-mod}
use Rattle.aec_params.specs.declared.settings.Settings.{Settings}
use Rattle.aec_params.specs.declared.fault.Fault.{Fault}
use Rattle.aec_params.specs.declared.fault.Fault.TheVariants.{Memory, Spent, TooManySamples}
use Rattle.aec_params.specs.declared.edit.Edit.TheVariants.{Append}
use Rattle.aec_params.specs.Limits.{Caps, most_blocks, most_samples}
use Rattle.aec_params.specs.Params.{IsAllowed, IsHeld, is_held, interval_len}
use Rattle.aec_params.specs.Edits.{needed_calls}
use Rattle.aec_params.specs.CodedDataSets.{CodedDataSet}
use Rattle.aec_params.specs.Reading.{LeadsTo, next_block, next_begin, IsReading}
use Rattle.aec_bits.specs.Codec.{Format, AreHeld}
use Rattle.aec_bits.proofs.RefusalLaws.{append_fits}
use Rattle.aec_edit.specs.Calls.{due_refusal, want_of_calls}
use Rattle.aec_edit.specs.Steps.{LacksMemory, IsAccepted, IsRefused}
use Rattle.aec_interval.specs.IntervalFormat.{interval_format}
use Rattle.aec_interval.specs.Reached.{count_refusal}
use Rattle.aec_interval.specs.Pieces.{Place, is_wanted_at, HasRead}
use Rattle.aec_interval.proofs.ReadingLemmas.{length-stream_blocks, readings_are_samples, bits_are_read_in_one_way}
use Rattle.aec_interval.proofs.PieceReadingLemmas.{has_read_nothing, has_read_all, has_read_front, has_read_whole}
use Rattle.aec_engine.specs.declared.scripts.EditFault.{EditFault}
use Rattle.aec_engine.specs.declared.scripts.EditFault.TheVariants.{Plain}
use Rattle.aec_engine.specs.Scripts.{Listing}
use Rattle.aec_engine.specs.Editing.{left_with, edits_left, first_calls, Recoded}
use Rattle.aec_engine.specs.EditingSteps.{StopsEditing, recoded_of}
use Rattle.aec_engine.specs.EarlyEdits as early
use Rattle.aec_engine.specs.EarlyEdits.{LeadsToEdits, CarriesEarly, StopsEarly, LoadsAll, StopsLoading, EditsSamples, no_room, makes, EditsBits, lacks_room, stopped}
use Rattle.aec_engine.specs.ReadingTwice.{AreSamplesOf, ReadsOn, LacksMemoryAlone}
use Rattle.aec_engine.proofs.CallLemmas.{append_calls-le, append_calls-joined}
use Rattle.aec_engine.proofs.EarlyEditLemmas.{leads-nowhere, leads-on, leads-stop}
use Rattle.aec_engine.proofs.ReadTwiceLemmas.{place_from, settings-same, same_next}
use Rattle.aec_engine.proofs.ReadingOnLemmas.{same_reading}

-- samples that the settings hold are held by the codec's format
pub held-format : (s : Settings) (v : List ℤ) → AllByRecursion (IsHeld s) v → AreHeld (interval_format s) v
held-format s [] held = refl
held-format s (x ∷ v) held = by_test (is_held s x) held.0 (held-format s v held.1)
  where
    by_test : (t : Bool) → IsTrue t → list_all (is_held s) v ≡ true → t && list_all (is_held s) v ≡ true
    by_test true is rest = rest
    by_test false is rest = absurd (cc)

kept-within : (s : Settings) (limit : ℕ) (bits : List Bool) (i b : ℕ) (sets : List CodedDataSet) (j e : ℕ) → LeadsTo s None limit bits i b sets j e
    → i * s.block_size ≤ limit → j * s.block_size ≤ limit
kept-within s limit bits i b [] j e leads within = subst (λ j. j * s.block_size ≤ limit) (sym leads.0) within
kept-within s limit bits i b (c ∷ sets) j e leads within =
    kept-within s limit bits (next_block s i c) (next_begin s bits i b c) sets j e leads.4 (leb-true (next_block s i c * s.block_size) limit leads.3)

-- no more samples are read than the limit allows
pub read-within : (s : Settings) (limit : ℕ) (bits : List Bool) (count : Option ℕ) (samples : List ℤ) → IsAllowed s → count_refusal limit count ≡ None
    → IsReading s count limit bits samples → length samples ≤ limit
read-within s limit bits (Some n) samples allowed within reading =
    omega (arith, (readings_are_samples s limit bits allowed).counted n samples reading, below (nat_lt limit n) refl within)
  where
    below : (t : Bool) → nat_lt limit n ≡ t → (if t then Some (TooManySamples limit) else None) ≡ None → n ≤ limit
    below true past none = absurd (cc)
    below false past none = ltb-false limit n past
read-within s limit bits None samples allowed within reading =
    let walk = reading.read in
    let blocks = length-stream_blocks s None limit bits 0 0 walk.sets walk.end_block walk.end_bit allowed walk.leads in
    let kept = kept-within s limit bits 0 0 walk.sets walk.end_block walk.end_bit walk.leads (omega arith) in
    let count_is : length reading.blocks ≡ walk.end_block = omega (arith, ap length walk.kept, blocks) in
    omega (arith, ap length reading.counted, reading.filled.whole, ap (λ n. n * s.block_size) count_is, kept)

-- ---- from interval to interval

-- The samples up to a place were appended, and edits were made in between: `front` is what was
-- read, and `made` is how often these edits called the coder.
pub record LoadsSoFar (start p : Place) (f : Format) (limit : ℕ) (script ahead : Listing) (w : List ℤ) (called : ℕ) : Type 0 where
  pub front : List ℤ
  pub made : ℕ
  pub read : HasRead p front
  pub same : p ≡ place_from start p.block p.bit
  pub few : p.block < most_blocks
  pub begins : is_wanted_at p ≡ true → p.block % p.settings.interval ≡ 0
  pub len : length w ≡ length front
  pub counted : called ≡ first_calls f front + made
  pub spare : made ≤ 2 ^ 62 + most_samples
  pub leads : (xs rest : List ℤ) → xs ≡ front ++ rest → first_calls f xs ≤ most_samples
      → LeadsToEdits f limit (left_with xs (first_calls f xs)) script (left_with (w ++ rest) (first_calls f xs + made)) ahead

pub loads_none : (start : Place) (f : Format) (limit : ℕ) (script : Listing) (w : List ℤ) (called : ℕ) → w ≡ [] → called ≡ 0
    → start.block ≡ 0 → start.bit ≡ 0 → LoadsSoFar start start f limit script script w called
loads_none start f limit script w called none uncalled block bit = record {
  front = [];
  made = 0;
  read = subst (λ p. HasRead p []) (sym at_start) (has_read_nothing start.settings start.count start.limit start.bits);
  same = refl;
  few = omega (arith, block);
  begins = λ _. ap (λ i. i % start.settings.interval) block ∙ zero-mod start.settings.interval;
  len = ap length none;
  counted = uncalled;
  spare = omega arith;
  leads = λ xs rest is low. subst (λ to. LeadsToEdits f limit (left_with xs (first_calls f xs)) script to script)
      (ap₂ left_with (is ∙ ap (λ w. w ++ rest) (sym none)) (omega arith)) (leads-nowhere f limit (left_with xs (first_calls f xs)) script);
}
  where
    at_start : start ≡ place_from start 0 0
    at_start = ap (λ i. place_from start i start.bit) block ∙ ap (λ b. place_from start 0 b) bit

-- whole intervals were read
whole : (n k len : ℕ) → len ≡ k * n → (0 + len) % n ≡ 0
whole n k len is = ap (λ m. m % n) zero_more ∙ mul-mod_left k n
  where
    zero_more : 0 + len ≡ k * n
    zero_more = omega (arith, is)

-- the samples of more intervals were appended, and more edits made
pub loads_more : (start p q : Place) (f g h : Format) (limit most more : ℕ) (script ahead last : Listing)
    (w ys zs mid left : List ℤ) (called coded between after : ℕ) → IsAllowed start.settings → g ≡ f → h ≡ f → more ≡ limit
    → f ≡ interval_format start.settings → LoadsSoFar start p f limit script ahead w called → ReadsOn p ys q → q.block < most_blocks
    → (is_wanted_at q ≡ true → q.block % q.settings.interval ≡ 0) → 0 < g.most → zs ≡ ys → mid ≡ w ++ zs
    → IsAccepted g most w called (Append zs) coded between → CarriesEarly h more ahead mid between last left after
    → LoadsSoFar start q f limit script last left after
loads_more start p q f g h limit most more script ahead last w ys zs mid left called coded between after a format still limited is so_far step few
    begins some same appended accepted carries =
    record {
      front = so_far.front ++ ys;
      made = so_far.made + carried.made;
      read = step.behind so_far.front so_far.read;
      same = same_next start p q so_far.same step.same;
      few = few;
      begins = begins;
      len = carried.len ∙ ap length all ∙ length-append w ys ∙ ap (λ n. n + length ys) so_far.len ∙ sym (length-append so_far.front ys);
      counted = omega (arith, carried.counted, taken);
      spare = spare carried.few;
      leads = λ xs rest split low.
          leads-on f limit (left_with xs (first_calls f xs)) (left_with (mid ++ rest) (first_calls f xs + so_far.made)) _ script ahead last
          (subst (λ s. LeadsToEdits f limit (left_with xs (first_calls f xs)) script (left_with s (first_calls f xs + so_far.made)) ahead) (behind rest)
          (so_far.leads xs (ys ++ rest) (split ∙ append_assoc so_far.front ys rest) low))
          (subst (λ k. LeadsToEdits f limit (left_with (mid ++ rest) (first_calls f xs + so_far.made)) ahead
          (left_with (left ++ rest) k) last) (omega arith)
          (carried.leads rest (first_calls f xs + so_far.made) (omega (arith, low, so_far.spare))));
    }
  where
    settings : p.settings ≡ start.settings
    settings = settings-same start p so_far.same

    allowed : IsAllowed p.settings
    allowed = subst IsAllowed (sym settings) a

    carried : CarriesEarly f limit ahead mid between last left after
    carried = subst (λ h. CarriesEarly h limit ahead mid between last left after) still
        (subst (λ limit. CarriesEarly h limit ahead mid between last left after) limited carries)

    all : mid ≡ w ++ ys
    all = appended ∙ ap (λ zs. w ++ zs) same

    behind : (rest : List ℤ) → w ++ (ys ++ rest) ≡ mid ++ rest
    behind rest = sym (append_assoc w ys rest) ∙ ap (λ l. l ++ rest) (sym all)

    zero_more : 0 + length so_far.front ≡ length w
    zero_more = omega (arith, so_far.len)

    aligned : (0 + length so_far.front) % f.most ≡ 0
    aligned = whole f.most (p.block / p.settings.interval) (length so_far.front) (has_read_whole p so_far.front allowed so_far.read step.wanted step.begins
        ∙ ap (λ n. p.block / p.settings.interval * n) (ap interval_len settings ∙ ap (λ (f : Format). f.most) (sym is)))

    taken : between ≡ first_calls f (so_far.front ++ ys) + so_far.made
    taken = omega (
      arith,
      accepted.calls_are,
      accepted.coded_is,
      so_far.counted,
      ap (λ g. needed_calls g.most (length w) (Append zs)) format,
      ap (λ zs. needed_calls f.most (length w) (Append zs)) same,
      append_calls-joined f.most 0 so_far.front ys (subst (λ g. 0 < g.most) format some) aligned,
      ap (λ n. needed_calls f.most n (Append ys)) zero_more,
    )

    spare : (carried.made ≡ 0) ⊎ (after ≤ 2 ^ 62 + most_samples) → so_far.made + carried.made ≤ 2 ^ 62 + most_samples
    spare (inl none) = omega (arith, none, so_far.spare)
    spare (inr far) = omega (arith, far, carried.counted, taken)

-- all samples were appended
pub loads_all : (start p : Place) (f : Format) (limit : ℕ) (script ahead : Listing) (w : List ℤ) (called : ℕ)
    → IsAllowed start.settings → 0 < f.most → count_refusal start.limit start.count ≡ None → start.limit ≤ most_samples
    → LoadsSoFar start p f limit script ahead w called → is_wanted_at p ≡ false → LoadsAll f limit script start ahead w called
loads_all start p f limit script ahead w called a some counted low so_far done xs given =
    subst (λ to. LeadsToEdits f limit (left_with xs (first_calls f xs)) script to ahead)
    (ap₂ left_with (append-nil w) (ap (λ xs. first_calls f xs + so_far.made) is ∙ sym so_far.counted))
    (so_far.leads xs [] (is ∙ sym (append-nil so_far.front)) (omega (arith, append_calls-le f.most 0 xs some, few, low)))
  where
    allowed : IsAllowed p.settings
    allowed = subst IsAllowed (sym (settings-same start p so_far.same)) a

    is : xs ≡ so_far.front
    is = (bits_are_read_in_one_way p.settings p.count p.limit p.bits allowed).one_reading xs so_far.front (same_reading start p xs so_far.same given)
        (has_read_all p so_far.front allowed so_far.read done)

    few : length xs ≤ start.limit
    few = read-within start.settings start.limit start.bits start.count xs a counted given.reading

-- an edit was refused before all samples were appended
pub loads_stops : (start p q : Place) (f g h : Format) (limit more : ℕ) (script ahead : Listing) (w ys zs mid xs : List ℤ)
    (called : ℕ) (fault : EditFault) → IsAllowed start.settings → g ≡ f → h ≡ f → more ≡ limit → 0 < f.most
    → count_refusal start.limit start.count ≡ None → start.limit ≤ most_samples
    → LoadsSoFar start p f limit script ahead w called → ReadsOn p ys q → (is_wanted_at q ≡ true → q.block % q.settings.interval ≡ 0)
    → zs ≡ ys → mid ≡ w ++ zs → StopsEarly h more ahead mid fault → AreSamplesOf start xs
    → StopsEditing f limit (first_calls f xs) xs script.edits script.lines fault
loads_stops start p q f g h limit more script ahead w ys zs mid xs called fault a format still limited some counted low so_far step begins same
    appended stops given =
    leads-stop f limit (left_with xs (first_calls f xs)) (left_with (w ++ (ys ++ rest.0)) (first_calls f xs + so_far.made)) script ahead
    fault (so_far.leads xs (ys ++ rest.0) (rest.1 ∙ append_assoc so_far.front ys rest.0) few)
    (subst (λ s. StopsEditing f limit (first_calls f xs + so_far.made) s ahead.edits ahead.lines fault) (sym behind)
    (refused rest.0 (first_calls f xs + so_far.made) (omega (arith, few, so_far.spare))))
  where
    later : q ≡ place_from start q.block q.bit
    later = same_next start p q so_far.same step.same

    rest : (rest : List ℤ) × (xs ≡ so_far.front ++ ys ++ rest)
    rest = has_read_front q (so_far.front ++ ys) xs (subst IsAllowed (sym (settings-same start q later)) a)
        (step.behind so_far.front so_far.read) begins
        (same_reading start q xs later given)

    behind : w ++ (ys ++ rest.0) ≡ mid ++ rest.0
    behind = sym (append_assoc w ys rest.0) ∙ ap (λ l. l ++ rest.0) (sym (appended ∙ ap (λ zs. w ++ zs) same))

    few : first_calls f xs ≤ most_samples
    few = omega (
      arith,
      append_calls-le f.most 0 xs some,
      read-within start.settings start.limit start.bits start.count xs a counted given.reading,
      low,
    )

    refused : StopsEarly f limit ahead mid fault
    refused = subst (λ h. StopsEarly h limit ahead mid fault) still (subst (λ limit. StopsEarly h limit ahead mid fault) limited stops)

-- ---- refusals

-- a second reading is refused only with `Memory`
pub loads_memory : (start p : Place) (f : Format) (limit : ℕ) (script ahead : Listing) (w xs : List ℤ) (called : ℕ) (fault : Fault)
    → LoadsSoFar start p f limit script ahead w called → AreSamplesOf start xs → LacksMemoryAlone p fault → fault ≡ Memory
loads_memory start p f limit script ahead w xs called fault so_far given alone =
    alone so_far.front xs so_far.read (record { reading = same_reading start p xs so_far.same given })

-- if calls are left, an append of held samples within the limit is refused only with `Memory`
append_memory : (f : Format) (limit : ℕ) (s ys : List ℤ) (calls after : ℕ) (fault : Fault) → 0 < f.most → AreHeld f ys → length s + length ys ≤ limit
    → calls + length ys ≤ 2 ^ 64 - 1 → IsRefused f limit s calls (Append ys) fault after → fault ≡ Memory
append_memory f limit s ys calls after fault some held few room refused =
    let lacks : LacksMemory needed calls fault after =
    subst (λ due. MatchOption due (LacksMemory needed calls fault after) (λ due. (fault ≡ due) × (after ≡ calls))) due refused in
    lacks.fault_is
  where
    needed : ℕ
    needed = needed_calls f.most (length s) (Append ys)

    enough : want_of_calls calls needed ≡ None
    enough = ap (λ t. if t then Some Spent else None)
        (le-ltb (2 ^ 64 - 1 - calls) needed (omega (arith, append_calls-le f.most (length s) ys some, room)))

    due : due_refusal f limit s calls (Append ys) ≡ None
    due = ap₂ option_or (append_fits f limit s ys held few) enough

pub append_lacks : (start p q : Place) (f g : Format) (limit most : ℕ) (script ahead : Listing) (w ys zs xs : List ℤ)
    (called after : ℕ) (fault : Fault) → IsAllowed start.settings
    → g ≡ f → f ≡ interval_format start.settings → most ≡ start.limit → most ≤ most_samples → count_refusal start.limit start.count ≡ None
    → LoadsSoFar start p f limit script ahead w called → ReadsOn p ys q → (is_wanted_at q ≡ true → q.block % q.settings.interval ≡ 0)
    → AreSamplesOf start xs → zs ≡ ys → 0 < g.most → IsRefused g most w called (Append zs) fault after → fault ≡ Memory
append_lacks start p q f g limit most script ahead w ys zs xs called after fault a format is limited low counted so_far step begins given same some refused =
    append_memory g most w zs called after fault some held
    (omega (arith, within, ap length same, limited, few))
    (omega (arith, within, ap length same, so_far.counted, so_far.spare, so_far.len, calls, few, low, limited)) refused
  where
    settings : p.settings ≡ start.settings
    settings = settings-same start p so_far.same

    later : q ≡ place_from start q.block q.bit
    later = same_next start p q so_far.same step.same

    few : length xs ≤ start.limit
    few = read-within start.settings start.limit start.bits start.count xs a counted given.reading

    within : length w + length ys ≤ length xs
    within =
        let rest = has_read_front q (so_far.front ++ ys) xs (subst IsAllowed (sym (settings-same start q later)) a)
        (step.behind so_far.front so_far.read) begins (same_reading start q xs later given) in
        omega (arith, ap length rest.1, length-append (so_far.front ++ ys) rest.0, length-append so_far.front ys, so_far.len)

    calls : first_calls f so_far.front ≤ length so_far.front
    calls = append_calls-le f.most 0 so_far.front (subst (λ g. 0 < g.most) format some)

    held : AreHeld g zs
    held = subst (λ zs. AreHeld g zs) (sym same) (subst (λ f. AreHeld f ys) (sym (format ∙ is)) (held-format start.settings ys
        (subst (λ s. AllByRecursion (IsHeld s) ys) settings step.held)))

-- an edit in between was refused, or there was no memory to read it
pub early_stops : (fault : EditFault) (f : Format) (limit : ℕ) (script : Listing) (start : Place) (Stops : Type 0) → (fault ≡ Plain Memory) ⊎ Stops
    → (Stops → (xs : List ℤ) → AreSamplesOf start xs → StopsEditing f limit (first_calls f xs) xs script.edits script.lines fault)
    → StopsLoading f limit script start fault
early_stops fault f limit script start Stops (inl memory) stops = inl memory
early_stops fault f limit script start Stops (inr refused) stops = inr (stops refused)

-- ---- results of edits on samples

module _ (s : Settings) (limit : ℕ) (start : Place) (script : Listing) where
  -- not all samples were appended: an edit was refused, or there was no memory
  pub loading_stopped : (fault : EditFault) → StopsLoading (interval_format s) limit script start fault → EditsSamples s limit start script (Err fault)
  loading_stopped fault (inl memory) = rw memory no_room
  loading_stopped fault (inr refused) = early.stops fault refused

  -- all samples were appended
  module _ (ahead : Listing) (left : List ℤ) (calls : ℕ) (loads : LoadsAll (interval_format s) limit script start ahead left calls) where
    -- after that an edit was refused, or there was no memory to read it
    pub rest_stopped : (fault : EditFault) → (fault ≡ Plain Memory) ⊎ StopsEditing (interval_format s) limit calls left ahead.edits ahead.lines fault
        → EditsSamples s limit start script (Err fault)
    rest_stopped fault (inl memory) = rw memory no_room
    rest_stopped fault (inr stops) = early.stops fault (λ xs at.
        leads-stop (interval_format s) limit (left_with xs (first_calls (interval_format s) xs)) (left_with left calls) script ahead fault (loads xs at) stops)

    -- after that all edits were made
    pub rest_made : (last : List ℤ) (after : ℕ)
        → edits_left (interval_format s) limit calls left ahead.edits ahead.lines ≡ Ok (left_with last after)
        → EditsSamples s limit start script (Ok (recoded_of (interval_format s) last after))
    rest_made last after is = makes (left_with last after) (λ xs at. (loads xs at).same ∙ is)

-- ---- results of edits on bits

pub edits_bits : (s : Settings) (caps : Caps) (count : Option ℕ) (bits : List Bool) (start : Place) (script : Listing)
    (answer : Result Recoded EditFault) → (xs : List ℤ) → AreSamplesOf start xs
    → ((xs : List ℤ) → AreSamplesOf start xs → IsReading s count caps.samples bits xs) → count_refusal caps.samples count ≡ None
    → EditsSamples s caps.samples start script answer → EditsBits s caps count bits script answer
edits_bits s caps count bits start script answer xs given reading none no_room = lacks_room
edits_bits s caps count bits start script answer xs given reading none (early.stops fault refused) = stopped xs fault none (reading xs given) (refused xs given)
edits_bits s caps count bits start script answer xs given reading none (makes left is) = early.made xs left none (reading xs given) (is xs given)
