-- However its input is cut, a coder appends the stream of all samples.
use Rattle.std.proofs.Common.{ℕ, ◌/◌, Bool, List, [], ◌∷◌, ◌++◌, length, arith, append_assoc, append-nil}
use Rattle.aec_params.specs.declared.settings.Settings.{Settings}
use Rattle.aec_params.specs.Params.{IsAllowed, interval_len}
use Rattle.aec_params.specs.Stored.{byte_groups}
use Rattle.aec_params.proofs.SampleLaws.{interval_len-positive}
use Rattle.aec_interval.specs.Feeding.{Coder, fresh_coder, whole_front, left_behind, taken_of, Feeds, FeedsAll}
use Rattle.aec_interval.specs.CutLaws.{all_bytes, IsStreamSoFar, AllCutsMakeNoDifference}
use Rattle.aec_interval.proofs.PieceLemmas.{whole_and_left, length-whole_front, stream_of-append}
use Rattle.aec_interval.proofs.TakingLemmas.{taken_groups-all, taken_within, judged_all}
use Rattle.aec_interval.proofs.PartLemmas.{nothing_fed}
use Rattle.aec_interval.proofs.FeedingLemmas.{feeds_both, stops_later, stops_before}

-- an empty piece changes nothing
nothing_begun : (s : Settings) (limit : ℕ) (bits : List Bool) → IsAllowed s → Feeds (fresh_coder s limit) [] bits bits (fresh_coder s limit)
nothing_begun s limit bits a = nothing_fed (record { params = s; limit = limit }) (record { held = []; count = 0 }) bits (record {
  held = record { allowed = a; samples = tt; few = interval_len-positive s a };
  within = omega arith;
})

-- pieces that are taken after other bytes
pieces_taken : (s : Settings) (limit : ℕ) (pieces : List (List ℕ)) (bytes : List ℕ) (b0 b1 b2 : List Bool) (d e : Coder) → IsAllowed s
    → Feeds (fresh_coder s limit) bytes b0 b1 d → FeedsAll d pieces b1 b2 e → Feeds (fresh_coder s limit) (bytes ++ all_bytes pieces) b0 b2 e
pieces_taken s limit [] bytes b0 b1 b2 d e a first (bits, same) =
    let c = fresh_coder s limit in
    rw (append-nil, same, bits) first
pieces_taken s limit (piece ∷ pieces) bytes b0 b1 b2 d e a first (between, (next, (feeds, later))) =
    let c = fresh_coder s limit in
    rw append_assoc at (pieces_taken s limit pieces (bytes ++ piece) b0 between b2 next e a
    (feeds_both c d next bytes piece b0 b1 between a first feeds) later)

all_taken : (s : Settings) (limit : ℕ) (pieces : List (List ℕ)) (before after : List Bool) (d : Coder) → IsAllowed s
    → FeedsAll (fresh_coder s limit) pieces before after d → Feeds (fresh_coder s limit) (all_bytes pieces) before after d
all_taken s limit pieces before after d a feeds =
    pieces_taken s limit pieces [] before before after (fresh_coder s limit) d a (nothing_begun s limit before a) feeds

-- what was appended, with the code of what is held, is the stream of the samples so far
stream_so_far : (s : Settings) (limit : ℕ) (bytes : List ℕ) (before after : List Bool) (d : Coder) → IsAllowed s
    → Feeds (fresh_coder s limit) bytes before after d → IsStreamSoFar s limit bytes before after d
stream_so_far s limit bytes before after d a feeds =
    let n = interval_len s in
    let samples = (taken_of (fresh_coder s limit) bytes).samples in
    let front = whole_front n samples in
    let left = left_behind n samples in
    record {
      samples = samples;
      taken = taken_groups-all s limit 0 (byte_groups s bytes) feeds.taken;
      bits =
          rw (
            feeds.coder,
            feeds.bits,
            append_assoc,
            ← (stream_of-append s (length samples / n) front left a (length-whole_front n samples (interval_len-positive s a))),
            whole_and_left,
          );
      counted = rw feeds.coder (omega arith);
      within = taken_within s limit (byte_groups s bytes) feeds.taken;
    }

pub cuts_make_no_difference : AllCutsMakeNoDifference
cuts_make_no_difference s limit a = record {
  stream = λ pieces before after d feeds. stream_so_far s limit (all_bytes pieces) before after d a (all_taken s limit pieces before after d a feeds);
  taken = λ pieces before after d feeds. all_taken s limit pieces before after d a feeds;
  refused = λ pieces piece rest before between after d fault feeds stops.
      let c = fresh_coder s limit in
      let bytes = all_bytes pieces in
      rw append_assoc at (stops_before c (bytes ++ piece) rest before after fault a
      (stops_later c d bytes piece before between after fault a (all_taken s limit pieces before between d a feeds) stops));
  judged = λ bytes. judged_all s limit (byte_groups s bytes);
  begun = λ bits. nothing_begun s limit bits a;
  more = λ bytes piece before between after d e first second. feeds_both (fresh_coder s limit) d e bytes piece before between after a first second;
}
