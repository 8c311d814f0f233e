-- The room that an edit asks for before it appends samples.
use Rattle.std.proofs.Common.{◌≡◌, ℕ, ◌+◌, ◌-◌, ◌/◌, ◌^◌, ◌≤◌, min, ap, sym, ◌∙◌, arith}
use Rattle.std.specs.Int.{div_ceil}
use Rattle.aec_params.specs.declared.settings.Settings.{Settings}
use Rattle.aec_params.specs.Params.{interval_len}
use Rattle.aec_interval.specs.Pieces.{Place}
use Rattle.aec_engine.specs.ReadingTwice.{EndsAt, HaveSamples}
use Rattle.aec_engine.specs.Judging.{AsksForRead, HasRoomOfRead}

-- the room that is asked for, from the results of judging
pub room_judged : (p : Place) (s : Settings) (end total bits intervals : ℕ) → EndsAt p end → HaveSamples p total → p.settings ≡ s → end ≤ bits
    → bits ≡ min (end + end / 16) (2 ^ 64 - 1) → intervals ≡ div_ceil total (interval_len s) → AsksForRead p bits intervals
room_judged p s end total bits intervals ends have settings fit asked is = record {
  end = end;
  total = total;
  ends = ends;
  have = have;
  bits_fit = fit;
  bits_asked = asked;
  intervals_asked = is ∙ sym (ap (λ s. div_ceil total (interval_len s)) settings);
}

-- at least the room that is asked for is enough for what the samples are read from
pub room_more : (p : Place) (bits intervals more others : ℕ) → AsksForRead p bits intervals → bits ≤ more → intervals ≤ others → HasRoomOfRead p more others
room_more p bits intervals more others asked bits_more intervals_more = record {
  end = asked.end;
  total = asked.total;
  ends = asked.ends;
  have = asked.have;
  bits_fit = omega (arith, asked.bits_fit, bits_more);
  intervals_fit = omega (arith, asked.intervals_asked, intervals_more);
}
