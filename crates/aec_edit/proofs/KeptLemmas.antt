-- Facts about the samples that a workspace keeps.
use Rattle.std.proofs.Common.{◌≡◌, ℕ, ◌-◌, ◌*◌, ◌<◌, ◌≤◌, min, Bool, List, [], length, take, drop, get_or, ℤ, refl, sym, ap, ◌∙◌, subst, arith}
use Rattle.aec_bits.specs.Codec.{Format, AreHeld, IsLawful, BeginsAt, code_of}
use Rattle.aec_bits.proofs.CodeLaws.{code_of-nil, code_of_first, same_samples}
use Rattle.std.proofs.lemmas.List.{length-take, length-drop, take_all}
use Rattle.aec_edit.specs.Workspace.{Contents, Room, interval_count, start_of}
use Rattle.aec_edit.specs.Calls.{RisesAtMost}
use Rattle.aec_edit.specs.Unchanged.{KeepsSamples, IsOnlyRead}
use Rattle.aec_edit.specs.Index.{IsKeptCode, KeptSamples, kept_samples}
use Rattle.aec_params.proofs.CountLaws.{before_end, past_end}
use Rattle.aec_edit.proofs.HeldLemmas.{held-take, held-drop}
use Rattle.aec_edit.proofs.StartLemmas.{starts_of-nil, length-starts_of, get_or-starts_of, start_of-le, drop-code_of}

-- the fields keep these samples
pub stands : {f : Format} {count : ℕ} {bits : List Bool} {starts : List ℕ} (kept : KeptSamples f count bits starts)
    → IsKeptCode f count bits starts (kept_samples kept)
unfolding kept_samples
stands kept = kept.1

-- the fields keep no other samples
pub no_other : {f : Format} {count : ℕ} {bits : List Bool} {starts : List ℕ} {s : List ℤ} (kept : KeptSamples f count bits starts)
    → IsLawful f → IsKeptCode f count bits starts s → kept_samples kept ≡ s
no_other {f} {s = s} kept lawful is =
    let stood = stands kept in
    same_samples f (kept_samples kept) s lawful stood.held is.held (stood.count_is ∙ sym is.count_is) (sym stood.bits_are ∙ is.bits_are)

-- the fields keep the samples that callers see
pub at_view : {C : Type 0} (format : C → Format) {codec : C} {count limit : ℕ} {bits : List Bool} {starts : List ℕ} {room : Room}
    (kept : KeptSamples (format codec) count bits starts)
    (seen : Contents C) → record { samples = kept_samples kept; limit = limit; codec = codec; room = room } ≡ seen
    → IsKeptCode (format seen.codec) count bits starts seen.samples
at_view format {count = count} {bits = bits} {starts = starts} kept seen e =
    subst (λ w. IsKeptCode (format w.codec) count bits starts w.samples) e (stands kept)

-- if the fields are equal, callers see the same samples, even if the room changed
pub kept_still : {f : Format} {count count_then : ℕ} {bits bits_then : List Bool} {starts starts_then : List ℕ}
    (kept : KeptSamples f count bits starts) (again : KeptSamples f count_then bits_then starts_then)
    → IsLawful f → count_then ≡ count → bits_then ≡ bits → starts_then ≡ starts → kept_samples again ≡ kept_samples kept
kept_still kept again lawful same_count same_bits same_starts =
    let stood = stands kept in
    no_other again lawful record {
      held = stood.held;
      count_is = stood.count_is ∙ sym same_count;
      bits_are = same_bits ∙ stood.bits_are;
      starts_are = same_starts ∙ stood.starts_are;
    }

-- if the fields are unchanged, callers see the same contents
pub seen_again : {C : Type 0} (format : C → Format) {codec : C} {count limit : ℕ} {bits : List Bool} {starts : List ℕ} {room : Room}
    (kept again : KeptSamples (format codec) count bits starts)
    (seen : Contents C) → IsLawful (format codec)
    → record { samples = kept_samples kept; limit = limit; codec = codec; room = room } ≡ seen
    → record { samples = kept_samples again; limit = limit; codec = codec; room = room } ≡ seen
seen_again format {codec} {limit = limit} {room = room} kept again seen lawful e =
    ap (λ s. record { samples = s; limit = limit; codec = codec; room = room }) (kept_still kept again lawful refl refl refl) ∙ e

-- an equal list is kept under an equal format
pub kept_again : {f g : Format} {count : ℕ} {bits : List Bool} {starts : List ℕ} {s : List ℤ} (kept : KeptSamples f count bits starts)
    → g ≡ f → kept_samples kept ≡ s → IsKeptCode g count bits starts s
kept_again {f} {count = count} {bits = bits} {starts = starts} {s = s} kept same e =
    subst (λ h. IsKeptCode h count bits starts s) (sym same) (subst (IsKeptCode f count bits starts) e (stands kept))

-- after a call of the coder, callers see the same samples
pub coded_once : {C : Type 0} (format_of : C → Format) (called read : C → ℕ) {codec codec' : C} {count limit : ℕ} {bits : List Bool} {starts : List ℕ}
    {room : Room} (decoded : ℕ) (kept : KeptSamples (format_of codec) count bits starts) (again : KeptSamples (format_of codec') count bits starts)
    (seen : Contents C) → IsLawful (format_of codec')
    → record { samples = kept_samples kept; limit = limit; codec = codec; room = room } ≡ seen
    → format_of codec' ≡ format_of codec → read codec' ≡ read codec → RisesAtMost 1 (called codec) (called codec')
    → KeepsSamples format_of called read 1 decoded seen (record { samples = kept_samples again; limit = limit; codec = codec'; room = room })
coded_once format_of called read {codec' = codec'} {limit = limit} {room = room} decoded kept again seen lawful e same same_reads rises =
    subst
    (λ w. KeepsSamples format_of called read 1 decoded w (record { samples = kept_samples again; limit = limit; codec = codec'; room = room })) e (record {
      samples = no_other again lawful (kept_again kept same refl);
      limit = refl;
      format = same;
      calls = rises;
      reads = record { stays = omega (arith, same_reads); few = omega (arith, same_reads) };
    })

-- the same if intervals were decoded before the call
pub read_and_coded : {C : Type 0} {format_of : C → Format} {called read : C → ℕ} {decoded : ℕ} {old mid new : Contents C}
    → IsOnlyRead format_of called read decoded old mid → KeepsSamples format_of called read 1 0 mid new
    → KeepsSamples format_of called read 1 decoded old new
read_and_coded first then = record {
  samples = then.samples ∙ first.samples;
  limit = then.limit ∙ first.limit;
  format = then.format ∙ first.format;
  calls = record { stays = omega (arith, first.calls, then.calls.stays); few = omega (arith, first.calls, then.calls.few) };
  reads = record {
    stays = omega (arith, first.reads.stays, then.reads.stays);
    few = omega (arith, first.reads.few, then.reads.few);
  };
}

-- empty fields keep no samples
pub none_kept : (f : Format) {count : ℕ} {bits : List Bool} {starts : List ℕ} → IsLawful f → count ≡ 0 → bits ≡ [] → starts ≡ []
    → IsKeptCode f count bits starts []
none_kept f lawful no_samples no_bits no_starts = record {
  held = refl;
  count_is = sym no_samples;
  bits_are = no_bits ∙ sym (code_of-nil f lawful.some);
  starts_are = no_starts ∙ sym (starts_of-nil f 0 lawful.some);
}

-- ---- one interval

-- the start of an interval in the index, and the end of the bits as the start of later intervals
pub start_kept : (f : Format) {count : ℕ} {bits : List Bool} {starts : List ℕ} {s : List ℤ} (i x : ℕ) → IsLawful f → IsKeptCode f count bits starts s
    → i < length starts → x ≡ get_or starts i x → x ≡ start_of f s i
start_kept f {starts = starts} {s = s} i x lawful kept within read =
    let all : length starts ≡ interval_count f s = ap length kept.starts_are ∙ length-starts_of f 0 s lawful.some in
    read ∙ ap (λ l. get_or l i x) kept.starts_are ∙ get_or-starts_of f 0 s i x lawful.some (omega arith) ∙ omega arith

pub end_kept : (f : Format) {count : ℕ} {bits : List Bool} {starts : List ℕ} {s : List ℤ} (i : ℕ) → IsLawful f → IsKeptCode f count bits starts s
    → length starts ≤ i → length bits ≡ start_of f s i
end_kept f {starts = starts} {s = s} i lawful kept past =
    let all : length starts ≡ interval_count f s = ap length kept.starts_are ∙ length-starts_of f 0 s lawful.some in
    let whole : take (i * f.most) s ≡ s = take_all (i * f.most) s (past_end i (length s) f.most lawful.some (omega arith)) in
    ap length kept.bits_are ∙ ap (λ l. length (code_of f l)) (sym whole)

-- the bits of interval i begin at its start
pub begins_there : (f : Format) (s : List ℤ) (i : ℕ) → IsLawful f → AreHeld f s → i < interval_count f s
    → BeginsAt f (code_of f s) (start_of f s i) (min f.most (length s - i * f.most)) (take f.most (drop (i * f.most) s))
begins_there f s i lawful held within =
    let inside = before_end i (length s) f.most lawful.some within in
    let rest : List ℤ = drop (i * f.most) s in
    let some = lawful.some in
    let left : length rest ≡ length s - i * f.most = length-drop (i * f.most) s in
    let taken : length (take f.most rest) ≡ min f.most (length rest) = length-take f.most rest in
    record {
      within = start_of-le f i s lawful.some;
      interval = record {
        some = omega arith;
        few = omega arith;
        held = held-take f.holds f.most rest (held-drop f.holds (i * f.most) s held);
      };
      length_is = omega arith;
      stands = (code_of f (drop f.most rest), drop-code_of f i s lawful.some ∙ code_of_first f rest lawful.some (omega arith));
    }

-- the same for an interval that is to be decoded: g is the format of the codec itself, f that of
-- the codec as callers see it
pub begins_for : (f g : Format) {count : ℕ} {bits : List Bool} {starts : List ℕ} {s : List ℤ} (i start len : ℕ) → g ≡ f → IsLawful f
    → IsKeptCode f count bits starts s → i < interval_count f s → start ≡ start_of f s i → len ≡ min f.most (count - i * f.most)
    → BeginsAt g bits start len (take f.most (drop (i * f.most) s))
begins_for f g {count = count} {bits = bits} {s = s} i start len same lawful kept within start_is len_is =
    let count_is : min f.most (length s - i * f.most) ≡ len = ap (λ n. min f.most (n - i * f.most)) kept.count_is ∙ sym len_is in
    let there = begins_there f s i lawful kept.held within in
    let at_start = subst (λ n. BeginsAt f (code_of f s) n (min f.most (length s - i * f.most)) (take f.most (drop (i * f.most) s))) (sym start_is) there in
    let with_len = subst (λ n. BeginsAt f (code_of f s) start n (take f.most (drop (i * f.most) s))) count_is at_start in
    let in_bits = subst (λ l. BeginsAt f l start len (take f.most (drop (i * f.most) s))) (sym kept.bits_are) with_len in
    subst (λ h. BeginsAt h bits start len (take f.most (drop (i * f.most) s))) (sym same) in_bits
