-- Parts of a piece, which are the bytes of some samples, and the piece as a whole.
use Rattle.std.proofs.Common.{◌≡◌, ℕ, zero, suc, ◌+◌, ◌-◌, ◌*◌, ◌/◌, ◌<◌, ◌≤◌, inl, inr, Bool, None, ℤ, List, [], ◌++◌, length, take, drop, refl, sym, ap, ◌∙◌, subst, arith, append-nil, append_assoc}
use Rattle.std.specs.Prelude.{Result, Ok, Err, OnOk, OnErr, IfErr, MatchResult}
use Rattle.std.specs.List.{AllByRecursion}
use Rattle.std.specs.Result.{result_err}
use Rattle.std.proofs.Math.Nat.{div-eq_of_eq-mul_left}
use Rattle.std.proofs.lemmas.List.{length-append, nil_from_length, take-append-drop, take_all, length-take-le}
use Rattle.aec_params.specs.declared.settings.Settings.{Settings}
use Rattle.aec_params.specs.declared.fault.Fault.{Fault}
use Rattle.aec_params.specs.declared.fault.Fault.TheVariants.{Memory}
use Rattle.aec_params.specs.Params.{IsAllowed, IsHeld, interval_len, storage_len}
use Rattle.aec_params.specs.Intervals.{interval_bits}
use Rattle.aec_params.specs.Stored.{byte_groups, samples_of_bytes, samples_behind}
use Rattle.aec_params.specs.Streams.{stream_of}
use Rattle.aec_params.proofs.StoredLemmas.{storage-least, byte_groups-short}
use Rattle.aec_params.proofs.SampleLaws.{interval_len-positive}
use Rattle.aec_bits.proofs.CodeLaws.{code_of_interval}
use Rattle.aec_interval.specs.IntervalFormat.{interval_format}
use Rattle.aec_interval.specs.Taking.{TakenSamples, none_taken, taken_groups}
use Rattle.aec_interval.proofs.TakingLemmas.{all_taken, taken_groups-good, length-samples_of_bytes}
use Rattle.aec_interval.specs.Feeding.{Coder, whole_front, left_behind, taken_of, samples_with, fed, Feeds, StopsFeeding, refused, no_memory}
use Rattle.aec_interval.specs.Progress.{IsPart, IsProgress, IsFewOrWhole, FeedsFront, coder_at}
use Rattle.aec_interval.specs.declared.stream_coder.pieces.Progress.{Progress}
use Rattle.aec_interval.specs.declared.stream_coder.pieces.Terms.{Terms}
use Rattle.aec_interval.proofs.PieceLemmas.{whole_front-few, left_behind-few_all, whole_front-all, left_behind-none}
use Rattle.aec_interval.proofs.StreamLemmas.{stream_of-nil}
use Rattle.aec_interval.proofs.FeedingLemmas.{coding_of, same_coding, feeds_both, stops_later, stops_before}

-- fewer samples than an interval has add no bits
pub no_bits : (s : Settings) (bits : List Bool) (held : List ℤ) → IsAllowed s → length held < interval_len s
    → bits ≡ bits ++ stream_of s (whole_front (interval_len s) held)
no_bits s bits held a few = rw (whole_front-few, stream_of-nil, append-nil)

-- samples that fill an interval, and are `IsFewOrWhole`, are whole intervals
whole_count : (n m : ℕ) → n ≤ m → IsFewOrWhole n m → m ≡ m / n * n
whole_count n m most (inl few) = absurd (omega arith)
whole_count n m most (inr whole) = omega arith

none_held : (s : Settings) (held : List ℤ) → IsAllowed s → interval_len s ≤ length held → IsFewOrWhole (interval_len s) (length held)
    → [] ≡ left_behind (interval_len s) held
none_held s held a most whole =
    sym (left_behind-none (interval_len s) (length held / interval_len s) held (interval_len-positive s a)
    (whole_count (interval_len s) (length held) most whole))

complete_bits : (s : Settings) (bits : List Bool) (held xs : List ℤ) → IsAllowed s → xs ≡ held → interval_len s ≤ length held
    → IsFewOrWhole (interval_len s) (length held) → bits ++ stream_of s xs ≡ bits ++ stream_of s (whole_front (interval_len s) held)
complete_bits s bits held xs a same most whole =
    rw (
      same,
      whole_front-all (interval_len s) (length held / interval_len s) held (interval_len-positive s a)
          (whole_count (interval_len s) (length held) most whole),
    )

-- `Memory` at good samples, with nothing appended, is a refusal
no_memory_here : (u : Terms) (p : Progress) (g : List ℕ) (before after : List Bool) (xs : List ℤ) (fault : Fault)
    → IsProgress u p → taken_groups u.params u.limit p.count (byte_groups u.params g) ≡ all_taken xs → 0 < length xs → fault ≡ Memory → after ≡ before
    → StopsFeeding (coder_at u p []) g before after fault
no_memory_here u p g before after xs fault h taken some memory same =
    let c : Coder = coder_at u p [] in
    let len = ap (λ (t : TakenSamples). length t.samples) taken in
    rw memory (no_memory 0 [] (samples_with c g) refl (omega arith) (omega (arith, length-append p.held (taken_of c g).samples))
    (omega arith) (rw (same, stream_of-nil u.params h.held.allowed, append-nil)))

-- good samples are taken
samples_fed : (u : Terms) (p : Progress) (kept : List ℤ) (many n : ℕ) (g : List ℕ) (before after : List Bool) (xs : List ℤ)
    → IsProgress u p → length g ≡ n * storage_len u.params → taken_groups u.params u.limit p.count (byte_groups u.params g) ≡ all_taken xs
    → kept ≡ left_behind (interval_len u.params) (p.held ++ xs) → many ≡ p.count + length xs
    → after ≡ before ++ stream_of u.params (whole_front (interval_len u.params) (p.held ++ xs))
    → Feeds (coder_at u p []) g before after (coding_of u.params u.limit kept [] many None)
samples_fed u p kept many n g before after xs h whole taken held count bits =
    let c : Coder = coder_at u p [] in
    record {
      taken = rw taken;
      bits = rw (bits, taken);
      coder = same_coding u.params u.limit kept (fed c g).held [] (fed c g).rest many (fed c g).count None (fed c g).refusal (rw (held, taken))
          (sym (left_behind-none (storage_len u.params) n g (omega (arith, storage-least)) whole)) (rw (count, taken)) (rw taken);
    }

-- ---- bytes of which no sample is refused

good_samples : (t : Result (List ℤ) ℕ) → result_err t ≡ None → (xs : List ℤ) × (t ≡ Ok xs)
good_samples (Ok xs) good = (xs, refl)
good_samples (Err k) good = absurd (cc)

good_taken : (u : Terms) (p : Progress) (part : List ℕ) (xs : List ℤ) → samples_of_bytes u.params part ≡ Ok xs
    → p.count + length part / storage_len u.params ≤ u.limit → taken_groups u.params u.limit p.count (byte_groups u.params part) ≡ all_taken xs
good_taken u p part xs read within =
    taken_groups-good u.params u.limit p.count 0 (byte_groups u.params part) xs read (omega (arith, length-samples_of_bytes u.params part xs read))

pub part_count : (s : Settings) (part : List ℕ) (n : ℕ) → IsAllowed s → length part ≡ n * storage_len s → length part / storage_len s ≡ n
part_count s part n a whole = div-eq_of_eq-mul_left (omega (arith, storage-least)) whole

-- ---- a part is taken

-- `Memory` with nothing appended refuses a part
pub part_no_memory : (u : Terms) (p : Progress) (part : List ℕ) (before after : List Bool) (fault : Fault) → IsProgress u p
    → IsPart u p part → fault ≡ Memory → after ≡ before → StopsFeeding (coder_at u p []) part before after fault
part_no_memory u p part before after fault h k memory same =
    let read = good_samples (samples_of_bytes u.params part) k.good in
    let some : 0 < length read.0 =
    omega (arith, length-samples_of_bytes u.params part read.0 read.1, part_count u.params part k.samples h.held.allowed k.whole) in
    no_memory_here u p part before after read.0 fault h (good_taken u p part read.0 read.1 k.within) some memory same

-- a part is taken
part_fed : (u : Terms) (p : Progress) (kept more : List ℤ) (many w : ℕ) (part : List ℕ) (before after : List Bool) → IsProgress u p
    → IsPart u p part → w ≡ storage_len u.params → samples_behind p.held (samples_of_bytes u.params part) ≡ Ok more
    → kept ≡ left_behind (interval_len u.params) more → many ≡ p.count + length part / w
    → after ≡ before ++ stream_of u.params (whole_front (interval_len u.params) more)
    → Feeds (coder_at u p []) part before after (coding_of u.params u.limit kept [] many None)
part_fed u p kept more many w part before after h k width behind held count bits =
    let read = good_samples (samples_of_bytes u.params part) k.good in
    let joined : more ≡ p.held ++ read.0 = cc in
    let len = length-samples_of_bytes u.params part read.0 read.1 in
    samples_fed u p kept many k.samples part before after read.0 h k.whole (good_taken u p part read.0 read.1 k.within)
    (rw (held, joined)) (rw (count, width, len)) (rw (bits, joined))

-- a part is taken, and with the held samples it fills no interval
pub part_held : (u : Terms) (p : Progress) (more : List ℤ) (many w : ℕ) (part : List ℕ) (bits : List Bool) → IsProgress u p
    → IsPart u p part → w ≡ storage_len u.params → samples_behind p.held (samples_of_bytes u.params part) ≡ Ok more
    → many ≡ p.count + length part / w → length more < interval_len u.params
    → Feeds (coder_at u p []) part bits bits (coding_of u.params u.limit more [] many None)
part_held u p more many w part bits h k width behind count few =
    part_fed u p more more many w part bits bits h k width behind (sym (left_behind-few_all (interval_len u.params) more few)) count
    (no_bits u.params bits more h.held.allowed few)

-- a part completes intervals: they are coded, or the refusal is `Memory`
pub part_coded : (u : Terms) (p : Progress) (kept more samples : List ℤ) (many w : ℕ) (part : List ℕ) (before after : List Bool)
    (result : Result (Unit {0}) Fault) → IsProgress u p → IsPart u p part → w ≡ storage_len u.params
    → samples_behind p.held (samples_of_bytes u.params part) ≡ Ok more → length more ≡ length p.held + length part / storage_len u.params
    → kept ≡ [] → samples ≡ more → many ≡ p.count + length part / w → interval_len u.params ≤ length more
    → OnOk result (after ≡ before ++ stream_of u.params samples) → OnErr result (after ≡ before) → IfErr result (λ e. e ≡ Memory)
    → MatchResult result (λ _. Feeds (coder_at u p []) part before after (coding_of u.params u.limit kept [] many None))
    (λ fault. StopsFeeding (coder_at u p []) part before after fault)
part_coded u p kept more samples many w part before after (Err fault) h k width behind len none same count most ok err memory =
    part_no_memory u p part before after fault h k memory err
part_coded u p kept more samples many w part before after (Ok _) h k width behind len none same count most ok err memory =
    let a = h.held.allowed in
    let whole : IsFewOrWhole (interval_len u.params) (length more) =
    subst (IsFewOrWhole (interval_len u.params)) (omega (arith, part_count u.params part k.samples a k.whole)) k.fills in
    part_fed u p kept more many w part before after h k width behind (none ∙ none_held u.params more a most whole) count
    (ok ∙ complete_bits u.params before more samples a same most whole)

-- after a part, fewer samples are held than an interval has, and their count keeps the limit
pub still_progress : (u : Terms) (p : Progress) (held : List ℤ) (many w : ℕ) (part : List ℕ) → IsProgress u p → IsPart u p part
    → w ≡ storage_len u.params → many ≡ p.count + length part / w → AllByRecursion (IsHeld u.params) held → length held < interval_len u.params
    → IsProgress u (record { held = held; count = many })
still_progress u p held many w part h k width count samples few =
    record {
      held = record { allowed = h.held.allowed; samples = samples; few = few };
      within = grind arith;
    }

-- after a part, no samples are held
pub none_progress : (u : Terms) (p : Progress) (held : List ℤ) (many w : ℕ) (part : List ℕ) → IsProgress u p → IsPart u p part
    → w ≡ storage_len u.params → many ≡ p.count + length part / w → held ≡ [] → IsProgress u (record { held = held; count = many })
none_progress u p held many w part h k width count none =
    rw none (still_progress u p [] many w part h k width count tt (interval_len-positive u.params h.held.allowed))

-- the same samples are held as before
pub same_progress : (u : Terms) (p : Progress) (held : List ℤ) → IsProgress u p → held ≡ p.held → IsProgress u (record { held = held; count = p.count })
same_progress u p held h same =
    record { held = rw same h.held; within = h.within }

-- ---- a piece

-- a piece completes no sample
pub short_fed : (u : Terms) (p : Progress) (rest piece longer : List ℕ) (bits : List Bool) → IsProgress u p
    → longer ≡ rest ++ piece → length rest + length piece < storage_len u.params
    → Feeds (coder_at u p rest) piece bits bits (coder_at u p longer)
short_fed u p rest piece longer bits h longer_is few =
    let short : length (rest ++ piece) < storage_len u.params = omega (arith, length-append rest piece) in
    let c : Coder = coder_at u p rest in
    let none : taken_groups u.params u.limit p.count (byte_groups u.params (rest ++ piece)) ≡ none_taken None = rw byte_groups-short in
    let same : p.held ≡ samples_with c piece = rw (none, append-nil) in
    record {
      taken = rw none;
      bits = cc (no_bits u.params bits p.held h.held.allowed h.held.few);
      coder = same_coding u.params u.limit p.held (fed c piece).held longer (fed c piece).rest p.count (fed c piece).count None (fed c piece).refusal
          (cc (left_behind-few_all (interval_len u.params) p.held h.held.few))
          (longer_is ∙ sym (left_behind-few_all (storage_len u.params) (rest ++ piece) short)) (grind arith) (rw none);
    }

-- an empty piece changes nothing
pub nothing_fed : (u : Terms) (p : Progress) (bits : List Bool) → IsProgress u p
    → Feeds (coder_at u p []) [] bits bits (coder_at u p [])
nothing_fed u p bits h = short_fed u p [] [] [] bits h refl (omega (arith, storage-least))

pub cut_at : (n : ℕ) (xs front behind : List ℕ) → front ≡ take n xs → behind ≡ drop n xs → xs ≡ front ++ behind
cut_at n xs front behind e f = rw (f, e, take-append-drop)

-- a refusal of `rest` and `front` together is a refusal of `front` after `rest`
rest_stops : (u : Terms) (p : Progress) (rest front : List ℕ) (before after : List Bool) (fault : Fault)
    → StopsFeeding (coder_at u p []) (rest ++ front) before after fault → StopsFeeding (coder_at u p rest) front before after fault
rest_stops u p rest front before after fault (refused f refusal bits) = refused f refusal bits
rest_stops u p rest front before after fault (no_memory k whole behind cut len left some bits) = no_memory k whole behind cut len left some bits

pub no_rest : (u : Terms) (p : Progress) (rest piece : List ℕ) (bits : List Bool) → IsProgress u p → length rest ≡ 0
    → FeedsFront (coder_at u p rest) piece piece bits bits (coder_at u p [])
no_rest u p rest piece bits h none = rw (nil_from_length rest) (record { front = []; cut = refl; feeds = nothing_fed u p bits h })

pub rest_refused : (u : Terms) (p : Progress) (rest g piece front behind : List ℕ) (before after : List Bool) (fault : Fault)
    → IsAllowed u.params → g ≡ rest ++ front → piece ≡ front ++ behind → StopsFeeding (coder_at u p []) g before after fault
    → StopsFeeding (coder_at u p rest) piece before after fault
rest_refused u p rest g piece front behind before after fault a e cut stops =
    rw cut (stops_before (coder_at u p rest) front behind before after fault a (rest_stops u p rest front before after fault (rw e at stops)))

-- a part of the bytes of one sample is the whole sample
whole_sample : (u : Terms) (p : Progress) (sample : List ℕ) (n : ℕ) → length sample ≡ storage_len u.params → n ≤ length sample
    → IsPart u p (take n sample) → take n sample ≡ sample
whole_sample u p sample n len within k = take_all n sample (omega (arith, length-take-le n sample within, least k.samples k.some k.whole))
  where
    least : (m : ℕ) → 0 < m → length (take n sample) ≡ m * storage_len u.params → storage_len u.params ≤ length (take n sample)
    least zero some e = absurd (omega arith)
    least (suc m) some e = omega arith

-- a part of the sample that `front` completes is that sample
pub completed_sample : (u : Terms) (p : Progress) (rest front sample : List ℕ) (n width have : ℕ) → sample ≡ rest ++ front
    → length front ≡ width - have → width ≡ storage_len u.params → have ≡ length rest → length rest < storage_len u.params
    → n ≤ length sample → IsPart u p (take n sample) → take n sample ≡ rest ++ front
completed_sample u p rest front sample n width have e len is_width is_rest short within k =
    whole_sample u p sample n (grind (arith, length-append)) within k ∙ e

-- the sample that was begun is completed and taken
pub rest_completed : (u : Terms) (p q : Progress) (rest g piece front left : List ℕ) (before after : List Bool) → g ≡ rest ++ front
    → piece ≡ front ++ left → Feeds (coder_at u p []) g before after (coder_at u q [])
    → FeedsFront (coder_at u p rest) piece left before after (coder_at u q [])
rest_completed u p q rest g piece front left before after e cut feeds =
    let both = rw e at feeds in
    record { front = front; cut = cut; feeds = record { taken = both.taken; bits = both.bits; coder = both.coder } }

-- another part of the piece is taken
pub front_longer : (c d e : Coder) (piece left part later : List ℕ) (b0 b1 b2 : List Bool) → IsAllowed c.settings → FeedsFront c piece left b0 b1 d
    → left ≡ part ++ later → Feeds d part b1 b2 e → FeedsFront c piece later b0 b2 e
front_longer c d e piece left part later b0 b1 b2 a h cut feeds =
    record {
      front = h.front ++ part;
      cut = rw (h.cut, cut, append_assoc);
      feeds = feeds_both c d e h.front part b0 b1 b2 a h.feeds feeds;
    }

-- a refusal of the bytes that are left is a refusal of the piece
pub left_refused : (c d : Coder) (piece left : List ℕ) (b0 b1 b2 : List Bool) (fault : Fault) → IsAllowed c.settings
    → FeedsFront c piece left b0 b1 d → StopsFeeding d left b1 b2 fault → StopsFeeding c piece b0 b2 fault
left_refused c d piece left b0 b1 b2 fault a h stops = rw h.cut (stops_later c d h.front left b0 b1 b2 fault a h.feeds stops)

-- a refusal of a part of the bytes that are left is a refusal of the piece
pub part_stops : (c d : Coder) (piece left part later : List ℕ) (b0 b1 b2 : List Bool) (fault : Fault) → IsAllowed c.settings
    → FeedsFront c piece left b0 b1 d → left ≡ part ++ later → StopsFeeding d part b1 b2 fault → StopsFeeding c piece b0 b2 fault
part_stops c d piece left part later b0 b1 b2 fault a h cut stops =
    left_refused c d piece left b0 b1 b2 fault a h (rw cut (stops_before d part later b1 b2 fault (rw h.feeds.coder a) stops))

-- the bytes that are left complete no interval, and the piece is taken
pub left_kept : (c d e : Coder) (piece left : List ℕ) (b0 b1 : List Bool) → IsAllowed c.settings → FeedsFront c piece left b0 b1 d
    → Feeds d left b1 b1 e → Feeds c piece b0 b1 e
left_kept c d e piece left b0 b1 a h feeds = rw h.cut (feeds_both c d e h.front left b0 b1 b1 a h.feeds feeds)

-- ---- the end

-- the held samples, at least one, are coded as an interval
pub finished_bits : (c d : Coder) (samples : List ℤ) (before after : List Bool) → c ≡ d → samples ≡ c.held → 0 < length c.held
    → IsAllowed c.settings → length c.held < interval_len c.settings → after ≡ before ++ interval_bits c.settings samples
    → after ≡ before ++ stream_of d.settings d.held
finished_bits c d samples before after same held some a few bits =
    rw (bits, held, ← (code_of_interval (interval_format c.settings) c.held (omega arith) (omega arith)), same)
