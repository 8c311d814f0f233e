-- Each input has one answer: bytes, or a refusal.
use Rattle.std.proofs.Common.{◌≡◌, ℕ, if◌then◌else◌, Option, Some, None, Result, Ok, Err, ℤ, List, refl, sym, ap, ◌∙◌, ◌⊎◌, inl, inr}
use Rattle.std.specs.Option.{option_or}
use Rattle.aec_params.specs.declared.settings.Settings.{Settings}
use Rattle.aec_params.specs.declared.fault.Fault.{Fault}
use Rattle.aec_params.specs.declared.fault.Fault.TheVariants.{Read}
use Rattle.aec_params.specs.Limits.{Caps}
use Rattle.aec_params.specs.Params.{IsAllowed}
use Rattle.aec_params.specs.Stored.{samples_of_bytes}
use Rattle.aec_params.specs.Codewords.{bits_of_bytes, bytes_of}
use Rattle.aec_params.specs.Streams.{stream_of}
use Rattle.aec_params.specs.Reading.{IsReading}
use Rattle.aec_params.specs.Faults.{IsFault}
use Rattle.aec_interval.specs.Taking.{judged_samples}
use Rattle.aec_interval.specs.Reached.{count_refusal}
use Rattle.aec_interval.specs.Laws.{BitsAreReadInOneWay}
use Rattle.aec_interval.proofs.ReadingLemmas.{bits_are_read_in_one_way}
use Rattle.aec_engine.specs.Transfers.{Input}
use Rattle.aec_engine.specs.Output.{IsEncoded, coding_refusal, not_coded, encoded, IsRead, IsDecoded, intake_refusal, all_stored, not_taken, not_counted, decoded, faulty}
use Rattle.aec_engine.specs.Laws.{HasOneAnswer}

-- ---- coding

pub only-not_coded : (s : Settings) (caps : Caps) (input : Input) (fault : Fault) (other : Result (List ℕ) Fault)
    → coding_refusal s caps.samples input ≡ Some fault → IsEncoded s caps input other → other ≡ Err fault
only-not_coded s caps input fault other is (not_coded g also) = let same : g ≡ fault = cc in ap Err same
only-not_coded s caps input fault other is (encoded samples sound read) = absurd (cc)

only-encoded : (s : Settings) (caps : Caps) (input : Input) (samples : List ℤ) (other : Result (List ℕ) Fault)
    → coding_refusal s caps.samples input ≡ None → samples_of_bytes s input.bytes ≡ Ok samples → IsEncoded s caps input other
    → other ≡ Ok (bytes_of (stream_of s samples))
only-encoded s caps input samples other sound read (not_coded g is) = absurd (cc)
only-encoded s caps input samples other sound read (encoded others also is) =
    let same : others ≡ samples = cc in ap (λ xs. Ok (bytes_of (stream_of s xs))) same

pub coding_has_one_answer : (s : Settings) (caps : Caps) (input : Input) → HasOneAnswer (IsEncoded s caps) input
coding_has_one_answer s caps input = by_refusal (coding_refusal s caps.samples input) refl
  where
    by_samples : (t : Result (List ℤ) ℕ) → samples_of_bytes s input.bytes ≡ t → coding_refusal s caps.samples input ≡ None
        → HasOneAnswer (IsEncoded s caps) input
    by_samples (Ok samples) read sound = record {
      answer = Ok (bytes_of (stream_of s samples));
      is_answer = encoded samples sound read;
      only = λ other answered. only-encoded s caps input samples other sound read answered;
    }
    by_samples (Err bad) read sound =
        let refused : option_or (judged_samples caps.samples (Err bad)) (if input.failed then Some Read else None) ≡ None =
        ap (λ t. option_or (judged_samples caps.samples t) (if input.failed then Some Read else None)) (sym read) ∙ sound in
        absurd (cc)

    by_refusal : (t : Option Fault) → coding_refusal s caps.samples input ≡ t → HasOneAnswer (IsEncoded s caps) input
    by_refusal (Some fault) is = record {
      answer = Err fault;
      is_answer = not_coded fault is;
      only = λ other answered. only-not_coded s caps input fault other is answered;
    }
    by_refusal None sound = by_samples (samples_of_bytes s input.bytes) refl sound

-- ---- decoding

pub only-not_taken : (s : Settings) (caps : Caps) (count : Option ℕ) (input : Input) (fault : Fault) (other : Result (List ℕ) Fault)
    → intake_refusal caps.bytes input ≡ Some fault → IsDecoded s caps count input other → other ≡ Err fault
only-not_taken s caps count input fault other is (not_taken g also) = let same : g ≡ fault = cc in ap Err same
only-not_taken s caps count input fault other is (not_counted g taken above) = absurd (cc)
only-not_taken s caps count input fault other is (decoded samples read) = let sound = read.taken in absurd (cc)
only-not_taken s caps count input fault other is (faulty g taken within wrong) = absurd (cc)

only-not_counted : (s : Settings) (caps : Caps) (count : Option ℕ) (input : Input) (fault : Fault) (other : Result (List ℕ) Fault)
    → intake_refusal caps.bytes input ≡ None → count_refusal caps.samples count ≡ Some fault → IsDecoded s caps count input other → other ≡ Err fault
only-not_counted s caps count input fault other taken above (not_taken g is) = absurd (cc)
only-not_counted s caps count input fault other taken above (not_counted g also is) = let same : g ≡ fault = cc in ap Err same
only-not_counted s caps count input fault other taken above (decoded samples read) = let within = read.within in absurd (cc)
only-not_counted s caps count input fault other taken above (faulty g also within wrong) = absurd (cc)

only-decoded : (s : Settings) (caps : Caps) (count : Option ℕ) (input : Input) (samples : List ℤ) (other : Result (List ℕ) Fault)
    → BitsAreReadInOneWay s count caps.samples (bits_of_bytes input.bytes) → IsRead s caps count input samples → IsDecoded s caps count input other
    → other ≡ Ok (all_stored s samples)
only-decoded s caps count input samples other ways read (not_taken g is) = let sound = read.taken in absurd (cc)
only-decoded s caps count input samples other ways read (not_counted g also above) = let within = read.within in absurd (cc)
only-decoded s caps count input samples other ways read (decoded others is) =
    ap (λ xs. Ok (all_stored s xs)) (ways.one_reading others samples is.reading read.reading)
only-decoded s caps count input samples other ways read (faulty g also below wrong) = absurd (ways.not_both samples g read.reading wrong)

only-faulty : (s : Settings) (caps : Caps) (count : Option ℕ) (input : Input) (fault : Fault) (other : Result (List ℕ) Fault)
    → BitsAreReadInOneWay s count caps.samples (bits_of_bytes input.bytes) → intake_refusal caps.bytes input ≡ None → count_refusal caps.samples count ≡ None
    → IsFault s count caps.samples (bits_of_bytes input.bytes) 0 0 fault → IsDecoded s caps count input other → other ≡ Err fault
only-faulty s caps count input fault other ways taken within wrong (not_taken g is) = absurd (cc)
only-faulty s caps count input fault other ways taken within wrong (not_counted g also above) = absurd (cc)
only-faulty s caps count input fault other ways taken within wrong (decoded others read) = absurd (ways.not_both others fault read.reading wrong)
only-faulty s caps count input fault other ways taken within wrong (faulty g also below is) = ap Err (ways.one_fault g fault is wrong)

pub decoding_has_one_answer : (s : Settings) (caps : Caps) (count : Option ℕ) (input : Input) → IsAllowed s → HasOneAnswer (IsDecoded s caps count) input
decoding_has_one_answer s caps count input allowed = by_intake (intake_refusal caps.bytes input) refl
  where
    ways : BitsAreReadInOneWay s count caps.samples (bits_of_bytes input.bytes)
    ways = bits_are_read_in_one_way s count caps.samples (bits_of_bytes input.bytes) allowed

    by_way : ((samples : List ℤ) × IsReading s count caps.samples (bits_of_bytes input.bytes) samples)
        ⊎ ((fault : Fault) × IsFault s count caps.samples (bits_of_bytes input.bytes) 0 0 fault)
        → intake_refusal caps.bytes input ≡ None → count_refusal caps.samples count ≡ None → HasOneAnswer (IsDecoded s caps count) input
    by_way (inl reads) taken within =
        let read : IsRead s caps count input reads.0 = record { taken = taken; within = within; reading = reads.1 } in
        record {
          answer = Ok (all_stored s reads.0);
          is_answer = decoded reads.0 read;
          only = λ other answered. only-decoded s caps count input reads.0 other ways read answered;
        }
    by_way (inr wrong) taken within = record {
      answer = Err wrong.0;
      is_answer = faulty wrong.0 taken within wrong.1;
      only = λ other answered. only-faulty s caps count input wrong.0 other ways taken within wrong.1 answered;
    }

    by_count : (t : Option Fault) → count_refusal caps.samples count ≡ t → intake_refusal caps.bytes input ≡ None → HasOneAnswer (IsDecoded s caps count) input
    by_count (Some fault) above taken = record {
      answer = Err fault;
      is_answer = not_counted fault taken above;
      only = λ other answered. only-not_counted s caps count input fault other taken above answered;
    }
    by_count None within taken = by_way ways.either taken within

    by_intake : (t : Option Fault) → intake_refusal caps.bytes input ≡ t → HasOneAnswer (IsDecoded s caps count) input
    by_intake (Some fault) is = record {
      answer = Err fault;
      is_answer = not_taken fault is;
      only = λ other answered. only-not_taken s caps count input fault other is answered;
    }
    by_intake None taken = by_count (count_refusal caps.samples count) refl taken
