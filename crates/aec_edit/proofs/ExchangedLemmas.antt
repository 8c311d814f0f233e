-- What an exchange does to a workspace, from what its steps have done.
use Rattle.std.proofs.Common.{◌≡◌, ℕ, ◌-◌, ◌/◌, ◌<◌, ◌≤◌, ◌^◌, Result, Ok, Err, List, length, ℤ, ap, ◌∙◌, arith}
use Rattle.std.specs.Int.{div_ceil}
use Rattle.aec_params.specs.declared.fault.Fault.{Fault}
use Rattle.aec_params.specs.declared.fault.Fault.TheVariants.{Memory}
use Rattle.aec_bits.specs.Codec.{Format, AreHeld, IsLawful}
use Rattle.aec_edit.specs.Workspace.{Contents}
use Rattle.aec_edit.specs.Unchanged.{IsOnlyRead, KeepsCodec, KeepsSamples}
use Rattle.aec_edit.specs.Opened.{opened_count}
use Rattle.aec_edit.specs.Changes.{IsExchange, IsExchangeUpTo, IsCodeFor, exchange_calls, Exchanges, exchanged, fresh_of, fresh_total, recoding_calls, recoding_openings}
use Rattle.aec_edit.specs.Coming.{coming, CodesFresh, IsFreshFor}
use Rattle.aec_edit.specs.declared.coded.Coded.{Coded}
use Rattle.aec_edit.specs.declared.workspace.fresh_coding.Fresh.{Fresh}
use Rattle.aec_edit.proofs.CallLemmas.{calls_left, lacks_memory}
use Rattle.aec_edit.proofs.ExchangeLemmas.{recoding}
use Rattle.aec_edit.proofs.UpToLemmas.{answer_at, calls_in, code_came, decodes_both, fresh_coming, reads_at, same_calls, some_calls, up_to_last}
use Rattle.aec_params.proofs.MoveLaws.{from_to}

-- a workspace that keeps its samples, and a codec that is unchanged since then
pub kept_since : {C : Type 0} {format_of : C → Format} {called read : C → ℕ} {coded decoded : ℕ} {old mid new : Contents C}
    → KeepsSamples format_of called read coded decoded old mid → new.samples ≡ mid.samples → KeepsCodec mid new
    → KeepsSamples format_of called read coded decoded old new
kept_since {format_of = format_of} {called = called} {read = read} kept samples_are rest =
    let calls = ap called rest.codec in
    let reads = ap read rest.codec in
    record {
      samples = samples_are ∙ kept.samples;
      limit = rest.limit ∙ kept.limit;
      format = ap format_of rest.codec ∙ kept.format;
      calls = record { stays = omega (arith, calls, kept.calls.stays); few = omega (arith, calls, kept.calls.few) };
      reads = record { stays = omega (arith, reads, kept.reads.stays); few = omega (arith, reads, kept.reads.few) };
    }

module _ {C : Type 0} (format_of : C → Format) (called read : C → ℕ) (seen : Contents C) (first stop to : ℕ) (values : List ℤ)
    (lawful : IsLawful (format_of seen.codec)) (held : AreHeld (format_of seen.codec) seen.samples)
    (fits : IsExchangeUpTo (format_of seen.codec) seen.limit seen.samples (from_to first stop) to values) where
  abbrev n : ℕ
  n = (format_of seen.codec).most

  abbrev pub needs : ℕ
  needs = recoding_calls n (length seen.samples) (recoding first stop to (length values))

  abbrev pub total_for : ℕ
  total_for = fresh_total n (length seen.samples) (recoding first stop to (length values))

  abbrev pub ends_for : ℕ
  ends_for = opened_count n (length seen.samples) (from_to first stop)

  -- what was coded is the code of the exchange's fresh samples
  pub coded_for : {w mid : Contents C} {fresh : Fresh} {total from : ℕ} {coded : Coded}
      → IsOnlyRead format_of called read ends_for seen w → IsFreshFor n seen.samples (from_to first stop) to values fresh
      → CodesFresh format_of called w mid fresh total coded
      → KeepsSamples format_of called read (div_ceil total (format_of w.codec).most) (fresh.end - fresh.next) w mid
      → total ≡ total_for → from ≡ first / n
      → IsCodeFor (format_of mid.codec) mid.limit mid.samples from to coded.bits.list coded.starts.items coded.count
      (fresh_of n seen.samples (from_to first stop) to values)
  coded_for {w} {mid} {fresh} {total} {from} {coded} got is codes kept total_is from_is =
      code_came (format_of seen.codec) seen.limit first stop to seen.samples values lawful held fits (format_of w.codec) (format_of mid.codec) mid.limit from
      coded.count mid.samples (coming format_of w fresh) coded.bits.list coded.starts.items got.format kept.format (kept.limit ∙ got.limit)
      (kept.samples ∙ got.samples) (fresh_coming format_of seen w got.format got.samples is) from_is codes.bits codes.starts (codes.count_is ∙ total_is)

  -- the exchange was refused with `Memory` while samples were decoded, coded or moved
  pub not_exchanged : {w new : Contents C} {fresh : Fresh} {total needed : ℕ} {fault : Fault} (left : List ℤ)
      → IsOnlyRead format_of called read ends_for seen w → IsFreshFor n seen.samples (from_to first stop) to values fresh
      → KeepsSamples format_of called read (div_ceil total (format_of w.codec).most) (fresh.end - fresh.next) w new
      → total ≡ total_for → needed ≡ needs → needed ≤ 2 ^ 64 - 1 - called seen.codec → fault ≡ Memory → 0 < total
      → Exchanges format_of called read needs (recoding_openings n (length seen.samples) (from_to first stop) to) left (Err fault) seen new
  not_exchanged {w} {new} {fresh} {total} {fault = fault} left got is kept total_is needed_is enough fault_is some =
      let count = calls_in (format_of seen.codec) (format_of w.codec) total (length seen.samples) first stop to (length values) got.format total_is in
      let left_for : needs ≤ 2 ^ 64 - 1 - called seen.codec = omega (arith, needed_is, enough) in
      let codes = some_calls (format_of seen.codec) seen.limit first stop to seen.samples values lawful held fits (omega (arith, some, total_is)) in
      record {
        answer = lacks_memory needs (called seen.codec) (called new.codec) fault left_for fault_is codes
            (omega (arith, got.calls, kept.calls.stays)) (omega (arith, got.calls, kept.calls.few, count));
        ok = tt;
        err = kept.samples ∙ got.samples;
        reads = decodes_both needs (called seen.codec) ends_for _ fresh.next to fresh.end _ is.next is.end left_for got.reads kept.reads;
        limit = kept.limit ∙ got.limit;
        format = kept.format ∙ got.format;
        refused = λ other. absurd (other fault_is);
      }

  -- the exchange was made
  pub is_exchanged : {w mid new : Contents C} {fresh : Fresh} {total needed : ℕ} {coded : Coded}
      → IsOnlyRead format_of called read ends_for seen w → IsFreshFor n seen.samples (from_to first stop) to values fresh
      → CodesFresh format_of called w mid fresh total coded
      → KeepsSamples format_of called read (div_ceil total (format_of w.codec).most) (fresh.end - fresh.next) w mid
      → KeepsCodec mid new → total ≡ total_for → needed ≡ needs → needed ≤ 2 ^ 64 - 1 - called seen.codec
      → new.samples ≡ exchanged (from_to first stop) values seen.samples
      → Exchanges format_of called read needs (recoding_openings n (length seen.samples) (from_to first stop) to)
      (exchanged (from_to first stop) values seen.samples) (Ok needed) seen new
  is_exchanged {w} {mid} {new} {fresh} {total} got is codes kept rest total_is needed_is enough samples_are =
      let count = calls_in (format_of seen.codec) (format_of w.codec) total (length seen.samples) first stop to (length values) got.format total_is in
      let left_for : needs ≤ 2 ^ 64 - 1 - called seen.codec = omega (arith, needed_is, enough) in
      let calls = ap called rest.codec in
      record {
        answer = record {
          left = calls_left (called seen.codec) needs left_for;
          coded_is = needed_is;
          calls_are = omega (arith, calls, codes.calls, got.calls, count);
        };
        ok = samples_are;
        err = tt;
        reads =
            rw rest.codec
            (decodes_both needs (called seen.codec) ends_for _ fresh.next to fresh.end _ is.next is.end left_for got.reads kept.reads);
        limit = rest.limit ∙ kept.limit ∙ got.limit;
        format = ap format_of rest.codec ∙ kept.format ∙ got.format;
        refused = tt;
      }

-- an exchange for the same number of values, or up to the end, codes up to the last interval that
-- it touches
module _ {C : Type 0} (format_of : C → Format) (called read : C → ℕ) (seen : Contents C) (first stop to : ℕ) (values : List ℤ)
    (lawful : IsLawful (format_of seen.codec)) (held : AreHeld (format_of seen.codec) seen.samples)
    (fits : IsExchange (format_of seen.codec) seen.limit seen.samples (from_to first stop) values)
    (to_is : to ≡ div_ceil stop (format_of seen.codec).most) where
  abbrev m : ℕ
  m = (format_of seen.codec).most

  pub can_exchange : IsExchangeUpTo (format_of seen.codec) seen.limit seen.samples (from_to first stop) to values
  can_exchange = rw to_is (up_to_last (format_of seen.codec) seen.limit first stop seen.samples values lawful held fits)

  same_needs : recoding_calls m (length seen.samples) (recoding first stop to (length values)) ≡ exchange_calls m first (length values)
  same_needs =
      ap (λ t. recoding_calls m (length seen.samples) (recoding first stop t (length values))) to_is
      ∙ same_calls (format_of seen.codec) seen.limit first stop seen.samples values lawful held fits

  no_more : recoding_openings m (length seen.samples) (from_to first stop) to ≡ opened_count m (length seen.samples) (from_to first stop)
  no_more = omega (arith, to_is)

  pub exchanged_to_last : {left : List ℤ} {r : Result ℕ Fault} {new : Contents C}
      → Exchanges format_of called read (recoding_calls m (length seen.samples) (recoding first stop to (length values)))
      (recoding_openings m (length seen.samples) (from_to first stop) to) left r seen new
      → Exchanges format_of called read (exchange_calls m first (length values)) (opened_count m (length seen.samples) (from_to first stop)) left r seen new
  exchanged_to_last made = record {
    answer = answer_at _ _ _ _ _ same_needs made.answer;
    ok = made.ok;
    err = made.err;
    reads = reads_at _ _ _ _ _ _ _ same_needs no_more made.reads;
    limit = made.limit;
    format = made.format;
    refused = made.refused;
  }
