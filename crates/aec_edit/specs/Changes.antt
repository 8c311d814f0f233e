-- For proofs alone: no public contract cites this file.
-- What private functions do: they exchange places for values, and intervals for fresh samples.
-- The contract of `apply` cites `samples_after`, `needed_calls` and `opened_intervals` instead.
use Rattle.std.specs.Prelude.{◌≡◌, ◌≢◌, ℕ, ◌+◌, ◌-◌, ◌*◌, ◌/◌, ◌%◌, ◌≤◌, ◌⊎◌, min, Bool, ◌==◌, if◌then◌else◌, None, MatchOption, Result, MatchResult, OnOk, OnErr, IfErr, is_some, List, ◌++◌, length, take, drop, ℤ}
use Rattle.std.specs.Int.{div_ceil}
use Rattle.aec_bits.specs.Codec.{Format, AreHeld, code_of}
use Rattle.aec_params.specs.declared.fault.Fault.{Fault}
use Rattle.aec_params.specs.declared.fault.Fault.TheVariants.{Memory}
use Rattle.aec_params.specs.Edits.{Stretch}
use Rattle.aec_edit.specs.Workspace.{Contents, interval_count}
use Rattle.aec_edit.specs.Calls.{want_of_calls, RisesAtMost}
use Rattle.aec_edit.specs.Steps.{LacksMemory}
use Rattle.aec_edit.specs.Index.{starts_of}
use Rattle.aec_edit.specs.Fresh.{to_come}
use Rattle.aec_edit.specs.Opened.{opened_count}

-- the samples with some places exchanged for values
abbrev pub exchanged : Stretch → List ℤ → List ℤ → List ℤ
exchanged gone values s = take gone.first s ++ (values ++ drop gone.stop s)

-- an exchange that a workspace can apply: as many values as places, or the places reach the end
pub record IsExchange (f : Format) (limit : ℕ) (s : List ℤ) (gone : Stretch) (values : List ℤ) : Type 0 where
  pub order : gone.first ≤ gone.stop
  pub within : gone.stop ≤ length s
  pub held : AreHeld f values
  pub fitting : (gone.stop ≡ length s) ⊎ (gone.stop ≡ gone.first + length values)
  pub few : gone.first + length values + (length s - gone.stop) ≤ limit

-- how many intervals an exchange codes, of n samples each
abbrev pub exchange_calls : ℕ → ℕ → ℕ → ℕ
exchange_calls n first len = div_ceil (first + len) n - first / n

-- the samples with the intervals from number from up to number to exchanged for fresh samples
abbrev pub recoded : Format → ℕ → ℕ → List ℤ → List ℤ → List ℤ
recoded f from to fresh s = exchanged (record { first = from * f.most; stop = to * f.most }) fresh s

-- intervals that can be exchanged: the fresh samples fill any number of intervals, or reach the end
pub record IsRecoding (f : Format) (limit : ℕ) (s : List ℤ) (from to : ℕ) (fresh : List ℤ) : Type 0 where
  pub order : from ≤ to
  pub within : to ≤ interval_count f s
  pub begins : from * f.most ≤ length s
  pub held : AreHeld f fresh
  pub fitting : (length s ≤ to * f.most) ⊎ ((k : ℕ) × (length fresh ≡ k * f.most))
  pub few : from * f.most + length fresh + (length s - to * f.most) ≤ limit

-- what the interval of place first keeps before that place
abbrev pub head_of : ℕ → ℕ → List ℤ → List ℤ
head_of n first s = drop (first / n * n) (take first s)

-- what is kept from place stop on, up to the end of the intervals that the places before touch
abbrev pub tail_of : ℕ → ℕ → List ℤ → List ℤ
tail_of n stop s = drop stop (take (div_ceil stop n * n) s)

-- an exchange that was applied: enough calls were left, and the calls rose by one for each interval
pub record IsExchanged (needed calls coded after : ℕ) : Type 0 where
  pub left : want_of_calls calls needed ≡ None
  pub coded_is : coded ≡ needed
  pub calls_are : after ≡ calls + needed

-- an exchange that was refused: too few calls were left, or memory was lacking
abbrev pub IsNotExchanged : ℕ → ℕ → Fault → ℕ → Type 0
IsNotExchanged needed calls fault after =
    MatchOption (want_of_calls calls needed) (LacksMemory needed calls fault after)
    (λ due. (fault ≡ due) × (after ≡ calls))

-- how many intervals an exchange may decode
abbrev pub opened_by : ℕ → ℕ → ℕ → ℕ
opened_by needed calls opened = if is_some (want_of_calls calls needed) then 0 else opened

-- an exchange and all that it does to a workspace, whose samples are `left` if it is applied;
-- nothing has changed if it is refused with another fault than `Memory`
pub record Exchanges {C : Type 0} (format_of : C → Format) (called read : C → ℕ) (coded opened : ℕ) (left : List ℤ)
    (r : Result ℕ Fault) (old new : Contents C)
    : Type 0 where
  pub answer : MatchResult r (λ told. IsExchanged coded (called old.codec) told (called new.codec))
      (λ fault. IsNotExchanged coded (called old.codec) fault (called new.codec))
  pub ok : OnOk r (new.samples ≡ left)
  pub err : OnErr r (new.samples ≡ old.samples)
  pub reads : RisesAtMost (opened_by coded (called old.codec) opened) (read old.codec) (read new.codec)
  pub limit : new.limit ≡ old.limit
  pub format : format_of new.codec ≡ format_of old.codec
  pub refused : IfErr r (λ fault. fault ≢ Memory → new ≡ old)

-- ---- any exchange, of which the intervals up to number to are coded again

-- its places, the number of the interval up to which it codes, and how many values there are
pub record Recoding : Type 0 where
  pub gone : Stretch
  pub to : ℕ
  pub values : ℕ

-- how many samples it codes, of count: those before the places, the values, those kept after
abbrev pub fresh_total : ℕ → ℕ → Recoding → ℕ
fresh_total n count x = x.gone.first % n + (x.values + (min count (x.to * n) - x.gone.stop))

-- how many intervals the exchange codes
abbrev pub recoding_calls : ℕ → ℕ → Recoding → ℕ
recoding_calls n count x = div_ceil (fresh_total n count x) n

-- how many intervals an exchange of the samples s codes
abbrev pub calls_up_to : Format → List ℤ → Stretch → ℕ → List ℤ → ℕ
calls_up_to f s gone to values = recoding_calls f.most (length s)
    (record { gone = gone; to = to; values = length values })

-- how many intervals an exchange decodes
abbrev pub recoding_openings : ℕ → ℕ → Stretch → ℕ → ℕ
recoding_openings n count gone to = opened_count n count gone + (to - div_ceil gone.stop n)

-- the samples that an exchange codes
abbrev pub fresh_of : ℕ → List ℤ → Stretch → ℕ → List ℤ → List ℤ
fresh_of n s gone to values = to_come n s (head_of n gone.first s) values (tail_of n gone.stop s)
    (div_ceil gone.stop n) to

-- an exchange that a workspace can apply: what is coded fills whole intervals, or reaches the end
pub record IsExchangeUpTo (f : Format) (limit : ℕ) (s : List ℤ) (gone : Stretch) (to : ℕ)
    (values : List ℤ) : Type 0 where
  pub order : gone.first ≤ gone.stop
  pub within : gone.stop ≤ length s
  pub reaches : div_ceil gone.stop f.most ≤ to
  pub inside : to ≤ interval_count f s
  pub held : AreHeld f values
  pub fitting : (length s ≤ to * f.most)
      ⊎ ((k : ℕ) × (fresh_total f.most (length s) (record { gone = gone; to = to; values = length values })
      ≡ k * f.most))
  pub few : gone.first + length values + (length s - gone.stop) ≤ limit

-- bits, starts and a count: the code of fresh samples for the intervals from `from` up to `to`
pub record IsCodeFor (f : Format) (limit : ℕ) (s : List ℤ) (from to : ℕ) (bits : List Bool) (starts : List ℕ)
    (count : ℕ) (fresh : List ℤ) : Type 0 where
  pub recoding : IsRecoding f limit s from to fresh
  pub bits_are : bits ≡ code_of f fresh
  pub starts_are : starts ≡ starts_of f 0 fresh
  pub count_is : count ≡ length fresh

-- up to which interval an insertion of len samples codes: if these fill whole intervals, to the end
-- of the one that is cut; else to the last
abbrev pub recoded_end : Format → List ℤ → ℕ → ℕ → ℕ
recoded_end f s place len = if len % f.most == 0 then div_ceil place f.most else interval_count f s

-- a workspace that can apply such an exchange
abbrev pub CanExchange : {C : Type 0} → (C → Format) → Contents C → Stretch → ℕ → List ℤ → Type 0
CanExchange format_of w gone to values = IsExchangeUpTo (format_of w.codec) w.limit w.samples gone to values

-- such an exchange, and all that it does to a workspace
abbrev pub ExchangesUpTo : {C : Type 0} → (C → Format) → (C → ℕ) → (C → ℕ) → Stretch → ℕ → List ℤ → Result ℕ Fault
    → Contents C → Contents C → Type 0
ExchangesUpTo format_of called read gone to values r old new =
    Exchanges format_of called read (calls_up_to (format_of old.codec) old.samples gone to values)
    (recoding_openings (format_of old.codec).most (length old.samples) gone to)
    (exchanged gone values old.samples) r old new
