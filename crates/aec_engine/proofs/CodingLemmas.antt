-- What a coder makes when it is fed from a source, step by step, and the answers of coding.
use Rattle.std.proofs.Common.{◌≡◌, ℕ, ◌+◌, ◌-◌, ◌*◌, ◌/◌, ◌<◌, ◌≤◌, Bool, true, false, Option, Some, None, Result, Ok, Err, List, [], ◌∷◌, ◌++◌, length, refl, sym, ap, ◌∙◌, subst, inl, inr, arith, append-nil}
use Rattle.std.specs.Prelude.{is_some, MatchOption}
use Rattle.std.specs.Option.{option_or}
use Rattle.std.specs.Io.KnownBytes.{Consumes, IsAtEnd, Keeps}
use Rattle.std.proofs.KnownBytes.{Consumes-nil, Consumes-trans, Consumes-kept}
use Rattle.std.proofs.lemmas.List.{length-append, length-drop, length-take, nil_from_length}
use Rattle.std.proofs.lemmas.Nat.{div-add-mod', mod_below}
use Rattle.std.proofs.Common.{take}
use Rattle.aec_params.specs.declared.settings.Settings.{Settings}
use Rattle.aec_params.specs.declared.fault.Fault.{Fault}
use Rattle.aec_params.specs.declared.fault.Fault.TheVariants.{Read, Memory}
use Rattle.aec_params.specs.Limits.{Caps}
use Rattle.aec_params.specs.Params.{IsAllowed, storage_len}
use Rattle.aec_params.specs.Stored.{samples_of_bytes}
use Rattle.aec_params.specs.Codewords.{bytes_of}
use Rattle.aec_params.specs.Streams.{stream_of}
use Rattle.aec_params.proofs.StoredLemmas.{storage-least}
use Rattle.aec_interval.specs.Taking.{judged_samples}
use Rattle.aec_interval.specs.Feeding as feeding
use Rattle.aec_interval.specs.Feeding.{Coder, fresh_coder, Feeds, StopsFeeding}
use Rattle.aec_interval.specs.CutLaws.{IsStreamSoFar}
use Rattle.aec_interval.proofs.CutLemmas.{cuts_make_no_difference}
use Rattle.aec_interval.proofs.FeedingLemmas.{stops_later}
use Rattle.aec_engine.specs.Transfers.{input_of, answer_by, Taking, GivesAnswer, given, lacks_memory}
use Rattle.aec_engine.specs.Output.{IsEncoded, are_refused, not_coded, encoded}
use Rattle.aec_engine.specs.Buffers.{OrMemory}
use Rattle.aec_engine.specs.CodingSteps.{IsFedSoFar, IsFed, StopsCoding, no_memory, refused, bytes_left}
use Rattle.aec_engine.proofs.OutputLemmas.{taking}
use Rattle.aec_interval.proofs.TakingLemmas.{length-samples_of_bytes}

-- ---- a coder that was fed bytes

-- the bytes so far contain no refused sample
judged_so_far : (s : Settings) (limit : ℕ) (bytes : List ℕ) (bits : List Bool) (coder : Coder) → IsAllowed s
    → Feeds (fresh_coder s limit) bytes [] bits coder → judged_samples limit (samples_of_bytes s bytes) ≡ None
judged_so_far s limit bytes bits coder a feeds = sym ((cuts_make_no_difference s limit a).judged bytes) ∙ feeds.taken

stream_so_far : (s : Settings) (limit : ℕ) (bytes : List ℕ) (bits : List Bool) (coder : Coder) → IsAllowed s
    → Feeds (fresh_coder s limit) bytes [] bits coder → IsStreamSoFar s limit bytes [] bits coder
stream_so_far s limit bytes bits coder a feeds =
    subst (λ l. IsStreamSoFar s limit l [] bits coder) (append-nil bytes)
    ((cuts_make_no_difference s limit a).stream (bytes ∷ []) [] bits coder (bits, (coder, (feeds, (refl, refl)))))

-- all bytes are counted: those of whole samples, and those after them
counted_so_far : (s : Settings) (limit : ℕ) (bytes : List ℕ) (bits : List Bool) (coder : Coder) → IsAllowed s
    → Feeds (fresh_coder s limit) bytes [] bits coder → coder.count * storage_len s + length coder.rest ≡ length bytes
counted_so_far s limit bytes bits coder a feeds =
    let n : ℕ = storage_len s in
    let so = stream_so_far s limit bytes bits coder a feeds in
    let count : coder.count ≡ length bytes / n = so.counted ∙ length-samples_of_bytes s bytes so.samples so.taken in
    let whole : coder.count * n ≡ length bytes / n * n = ap (λ k. k * n) count in
    let rest : length coder.rest ≡ length bytes - length bytes / n * n =
    ap (λ (c : Coder). length c.rest) feeds.coder ∙ length-drop (length bytes / n * n) bytes in
    omega (arith, whole, rest, div-add-mod' (length bytes) n)

-- the bytes so far are fewer than those of limit + 1 samples
within_so_far : (s : Settings) (limit : ℕ) (bytes : List ℕ) (bits : List Bool) (coder : Coder) → IsAllowed s
    → Feeds (fresh_coder s limit) bytes [] bits coder → length bytes < (limit + 1) * storage_len s
within_so_far s limit bytes bits coder a feeds =
    let n : ℕ = storage_len s in
    let so = stream_so_far s limit bytes bits coder a feeds in
    let few : length bytes / n ≤ limit = omega (arith, so.within, length-samples_of_bytes s bytes so.samples so.taken) in
    let some : 0 < n = omega (arith, storage-least s a) in
    let below : (length bytes / n + 1) * n ≤ (limit + 1) * n = grind (arith, few) in
    let next : (length bytes / n + 1) * n ≡ length bytes / n * n + n = grind arith in
    omega (arith, below, next, div-add-mod' (length bytes) n, mod_below (length bytes) n some)

-- ---- steps

pub fed_begins : (s : Settings) (limit : ℕ) (before : Option (List ℕ)) (bits : List Bool) (coder : Coder) → IsAllowed s → bits ≡ []
    → coder ≡ fresh_coder s limit → IsFedSoFar s limit before before bits coder
fed_begins s limit before bits coder a none new = record {
  allowed = a;
  bytes = [];
  taken = Consumes-nil before;
  feeds = subst (λ c. Feeds (fresh_coder s limit) [] [] bits c) (sym new)
      (subst (λ bits. Feeds (fresh_coder s limit) [] [] bits (fresh_coder s limit)) (sym none) ((cuts_make_no_difference s limit a).begun []));
}

pub fed_goes_on : (s : Settings) (limit : ℕ) (before between after : Option (List ℕ)) (bits more : List Bool) (coder next : Coder) (piece : List ℕ)
    → IsFedSoFar s limit before between bits coder → Consumes between after piece → Feeds coder piece bits more next
    → IsFedSoFar s limit before after more next
fed_goes_on s limit before between after bits more coder next piece so consumes feeds = record {
  allowed = so.allowed;
  bytes = so.bytes ++ piece;
  taken = Consumes-trans before between after so.bytes piece so.taken consumes;
  feeds = (cuts_make_no_difference s limit so.allowed).more so.bytes piece [] bits more coder next so.feeds feeds;
}

-- no sample was refused so far
pub unrefused_so_far : (s : Settings) (limit : ℕ) (before after : Option (List ℕ)) (bits : List Bool) (coder : Coder)
    → IsFedSoFar s limit before after bits coder → coder.refusal ≡ None
unrefused_so_far s limit before after bits coder so = ap (λ (c : Coder). c.refusal) so.feeds.coder ∙ so.feeds.taken

-- after a piece, the coder can take fewer bytes
pub fewer_left : (s : Settings) (limit : ℕ) (before after : Option (List ℕ)) (bits more : List Bool) (coder next : Coder) (piece : List ℕ)
    → IsFedSoFar s limit before after bits coder → Feeds coder piece bits more next → 0 < length piece → bytes_left next < bytes_left coder
fewer_left s limit before after bits more coder next piece so feeds some =
    let n : ℕ = storage_len s in
    let bytes : List ℕ = so.bytes ++ piece in
    let all_fed : Feeds (fresh_coder s limit) bytes [] more next =
    (cuts_make_no_difference s limit so.allowed).more so.bytes piece [] bits more coder next so.feeds feeds in
    let old = counted_so_far s limit so.bytes bits coder so.allowed so.feeds in
    let new = counted_so_far s limit bytes more next so.allowed all_fed in
    let most = within_so_far s limit bytes more next so.allowed all_fed in
    let all : length bytes ≡ length so.bytes + length piece = length-append so.bytes piece in
    let old_left : bytes_left coder ≡ (limit + 1) * n - (coder.count * n + length coder.rest) =
    ap (λ (c : Coder). (c.limit + 1) * storage_len c.settings - (coder.count * storage_len c.settings + length coder.rest)) so.feeds.coder in
    let new_left : bytes_left next ≡ (limit + 1) * n - (next.count * n + length next.rest) =
    ap (λ (c : Coder). (c.limit + 1) * storage_len c.settings - (next.count * storage_len c.settings + length next.rest)) all_fed.coder in
    omega (arith, old, new, most, all, old_left, new_left, some)

-- the source is at its end, and no more bytes were taken
pub fed_ends : (s : Settings) (limit : ℕ) (before between after : Option (List ℕ)) (failures : ℕ) (bits : List Bool) (coder : Coder) (count : ℕ)
    (buf : List ℕ) → IsFedSoFar s limit before between bits coder
    → Consumes between after (take count buf) × (count ≡ 0 → 0 < length buf → IsAtEnd after) → failures ≡ 0 → count ≡ 0 → 0 < length buf
    → IsFed s limit (taking before after failures) bits coder
fed_ends s limit before between after failures bits coder count buf so (consumes, ends) sound none some = record {
  allowed = so.allowed;
  bytes = so.bytes;
  gave = record {
    taken = subst (Consumes before after) (append-nil so.bytes)
        (Consumes-trans before between after so.bytes [] so.taken (subst (Consumes between after) nothing consumes));
    failed = λ e. absurd (cc);
    sound = λ e. sound;
    whole = λ short e. ends none some;
  };
  feeds = so.feeds;
}
  where
    nothing : take count buf ≡ []
    nothing = nil_from_length (take count buf) (omega (arith, length-take count buf, none))

-- what holds of a coder without a refusal
pub unless_refused : (o : Option Fault) (P : Type 0) (Q : Fault → Type 0) → o ≡ None → MatchOption o P Q → P
unless_refused None P Q none p = p
unless_refused (Some fault) P Q none q = absurd (cc)

pub fed_fails : (s : Settings) (limit : ℕ) (before between after : Option (List ℕ)) (failures : ℕ) (bits : List Bool) (coder : Coder) (fault : Fault)
    → IsFedSoFar s limit before between bits coder → Keeps between after → (fault ≡ Read) × (failures ≡ 1)
    → StopsCoding s limit (taking before after failures) fault
fed_fails s limit before between after failures bits coder fault so keeps (is, fails) =
    subst (λ e. StopsCoding s limit (taking before after failures) e) (sym is) (refused (input_of so.bytes true) Read
    (record {
      taken = Consumes-kept before between after so.bytes so.taken keeps;
      failed = λ e. fails;
      sound = λ e. absurd (cc);
      whole = λ short e. absurd (cc);
    })
    (ap (λ o. option_or o (Some Read)) (judged_so_far s limit so.bytes bits coder so.allowed so.feeds)))

pub fed_stops : (s : Settings) (limit : ℕ) (before between after : Option (List ℕ)) (failures : ℕ) (bits more : List Bool) (coder : Coder)
    (piece : List ℕ) (fault : Fault) → IsFedSoFar s limit before between bits coder → Consumes between after piece → failures ≡ 0
    → StopsFeeding coder piece bits more fault → StopsCoding s limit (taking before after failures) fault
fed_stops s limit before between after failures bits more coder piece fault so consumes sound stops =
    by_stop fault (stops_later (fresh_coder s limit) coder so.bytes piece [] bits more fault so.allowed so.feeds stops)
  where
    bytes : List ℕ
    bytes = so.bytes ++ piece

    by_stop : (fault : Fault) → StopsFeeding (fresh_coder s limit) bytes [] more fault → StopsCoding s limit (taking before after failures) fault
    by_stop fault (feeding.refused f refusal e) =
        let judged : judged_samples limit (samples_of_bytes s bytes) ≡ Some f = sym ((cuts_make_no_difference s limit so.allowed).judged bytes) ∙ refusal in
        let enough : are_refused s limit bytes ≡ true = ap is_some judged in
        refused (input_of bytes false) f
        (record {
          taken = Consumes-trans before between after so.bytes piece so.taken consumes;
          failed = λ e. absurd (cc);
          sound = λ e. sound;
          whole = λ short e. absurd (cc);
        })
        (ap (λ o. option_or o None) judged)
    by_stop fault (feeding.no_memory k front behind cut whole left some e) = no_memory

-- ---- answers

pub stopped_answer : (s : Settings) (caps : Caps) (limit : ℕ) (source : Taking) (fault : Fault) → limit ≡ caps.samples → StopsCoding s limit source fault
    → GivesAnswer (IsEncoded s caps) source (are_refused s caps.samples) (Err fault)
stopped_answer s caps limit source fault counted stops = by_stop fault (subst (λ n. StopsCoding s n source fault) counted stops)
  where
    by_stop : (fault : Fault) → StopsCoding s caps.samples source fault → GivesAnswer (IsEncoded s caps) source (are_refused s caps.samples) (Err fault)
    by_stop fault no_memory = lacks_memory
    by_stop fault (refused input f gave is) = given input (Err f) gave (not_coded f is)

pub coded_answer : (s : Settings) (caps : Caps) (limit : ℕ) (source : Taking) (bits all : List Bool) (coder : Coder) → IsAllowed s → limit ≡ caps.samples
    → IsFed s limit source bits coder → all ≡ bits ++ stream_of coder.settings coder.held
    → GivesAnswer (IsEncoded s caps) source (are_refused s caps.samples) (Ok (bytes_of all))
coded_answer s caps limit source bits all coder a counted fed_all is =
    let fed = subst (λ n. IsFed s n source bits coder) counted fed_all in
    let so = stream_so_far s caps.samples fed.bytes bits coder a fed.feeds in
    let same : coder.settings ≡ s = ap (λ (c : Coder). c.settings) fed.feeds.coder in
    let code : all ≡ stream_of s so.samples = is ∙ ap (λ t. bits ++ stream_of t coder.held) same ∙ so.bits in
    subst (λ all. GivesAnswer (IsEncoded s caps) source (are_refused s caps.samples) (Ok (bytes_of all))) (sym code)
    (given (input_of fed.bytes false) (Ok (bytes_of (stream_of s so.samples))) fed.gave
    (encoded so.samples (ap (λ o. option_or o None) (judged_so_far s caps.samples fed.bytes bits coder a fed.feeds)) so.taken))

-- ---- bytes in memory, fed in one piece

-- there is no room for the code
pub refused_for_room : {X : Type 0} (view : X → List ℕ) (r : Result X Fault) (out : Fault) (s : Settings) (caps : Caps) (bytes : List ℕ) → r ≡ Err out
    → out ≡ Memory → OrMemory (IsEncoded s caps (input_of bytes false)) (answer_by view r)
refused_for_room view r out s caps bytes is memory =
    subst (λ r. OrMemory (IsEncoded s caps (input_of bytes false)) (answer_by view r)) (sym (is ∙ ap Err memory)) (inl refl)

stopped_whole : (s : Settings) (caps : Caps) (bytes : List ℕ) (before more : List Bool) (fault : Fault) → IsAllowed s
    → StopsFeeding (fresh_coder s caps.samples) bytes before more fault → OrMemory (IsEncoded s caps (input_of bytes false)) (Err fault)
stopped_whole s caps bytes before more fault a (feeding.refused f refusal e) =
    let judged : judged_samples caps.samples (samples_of_bytes s bytes) ≡ Some f = sym ((cuts_make_no_difference s caps.samples a).judged bytes) ∙ refusal in
    inr (not_coded f (ap (λ o. option_or o None) judged))
stopped_whole s caps bytes before more fault a (feeding.no_memory k front behind cut whole left some e) = inl refl

pub stopped_at_once : {X : Type 0} (view : X → List ℕ) (r : Result X Fault) (out fault : Fault) (s : Settings) (caps : Caps) (limit : ℕ) (bytes : List ℕ)
    (before more : List Bool) (start : Coder) (Q : Fault → Type 0) → r ≡ Err out → out ≡ fault → IsAllowed s → limit ≡ caps.samples
    → start ≡ fresh_coder s limit → MatchOption start.refusal (StopsFeeding start bytes before more fault) Q
    → OrMemory (IsEncoded s caps (input_of bytes false)) (answer_by view r)
stopped_at_once view r out fault s caps limit bytes before more start Q is same a counted new stops =
    subst (λ r. OrMemory (IsEncoded s caps (input_of bytes false)) (answer_by view r)) (sym (is ∙ ap Err same))
    (stopped_whole s caps bytes before more fault a
    (subst (λ c. StopsFeeding c bytes before more fault) (new ∙ ap (fresh_coder s) counted)
    (unless_refused start.refusal (StopsFeeding start bytes before more fault) Q (ap (λ (c : Coder). c.refusal) new) stops)))

pub coded_at_once : (s : Settings) (caps : Caps) (limit : ℕ) (bytes : List ℕ) (none bits all : List Bool) (start coder : Coder) → IsAllowed s
    → limit ≡ caps.samples → none ≡ [] → start ≡ fresh_coder s limit → Feeds start bytes none bits coder
    → all ≡ bits ++ stream_of coder.settings coder.held → OrMemory (IsEncoded s caps (input_of bytes false)) (Ok (bytes_of all))
coded_at_once s caps limit bytes none bits all start coder a counted empty new fed_all is =
    let feeds : Feeds (fresh_coder s caps.samples) bytes [] bits coder =
    subst (λ c. Feeds c bytes [] bits coder) (new ∙ ap (fresh_coder s) counted) (subst (λ l. Feeds start bytes l bits coder) empty fed_all) in
    let so = stream_so_far s caps.samples bytes bits coder a feeds in
    let same : coder.settings ≡ s = ap (λ (c : Coder). c.settings) feeds.coder in
    let code : all ≡ stream_of s so.samples = is ∙ ap (λ t. bits ++ stream_of t coder.held) same ∙ so.bits in
    subst (λ all. OrMemory (IsEncoded s caps (input_of bytes false)) (Ok (bytes_of all))) (sym code)
    (inr (encoded so.samples (ap (λ o. option_or o None) (judged_so_far s caps.samples bytes bits coder a feeds)) so.taken))
