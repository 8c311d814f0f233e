-- From one place there is at most one walk: readings are unique, faults are unique, and no bits
-- have both.
use Rattle.std.proofs.Common.{◌≡◌, ℕ, ◌+◌, ◌%◌, Bool, true, false, Option, List, [], ◌∷◌, length, drop, refl, sym, ◌∙◌}
use Rattle.std.proofs.lemmas.Bool.{both_ways}
use Rattle.aec_params.specs.declared.settings.Settings.{Settings}
use Rattle.aec_params.specs.declared.fault.Fault.{Fault}
use Rattle.aec_params.specs.Params.{IsAllowed}
use Rattle.aec_params.specs.Blocks.{Block}
use Rattle.aec_params.specs.CodedDataSets.{CodedDataSet, cds_bits, HasShape, has_small_values}
use Rattle.aec_params.specs.Places.{stays_in_segment, is_reference_block, IsLawfulAt}
use Rattle.aec_params.specs.Reading.{StandsAt, next_block, next_begin, is_wanted, keeps_limit, LeadsTo, IsBlockReading}
use Rattle.aec_params.specs.Faults.{IsSetAt, IsNotRead, IsWrongAt, not_read, cut_short, too_large, too_long, too_many, IsFault}
use Rattle.aec_block.proofs.SetLemmas.{no_set_is_a_prefix}

-- at most one coded data set is at a place
pub same_set : (s : Settings) (bits : List Bool) (b : ℕ) (t : Bool) (c d : CodedDataSet) → IsAllowed s → HasShape s t c → HasShape s t d
    → StandsAt s bits b c → StandsAt s bits b d → c ≡ d
same_set s bits b t c d a h k x y =
    (no_set_is_a_prefix s a t c d (drop (b + length (cds_bits s c)) bits) (drop (b + length (cds_bits s d)) bits) h k (sym x ∙ y)).0

-- ---- two walks

-- two walks have the same coded data sets and the same end
pub record SameWalk (one other : List CodedDataSet) (j e k f : ℕ) : Type 0 where
  pub sets : one ≡ other
  pub block : j ≡ k
  pub bit : e ≡ f

wanted-back : (s : Settings) (count : Option ℕ) (bits : List Bool) (i b j e : ℕ) (t : Bool) → (j ≡ i) × (e ≡ b) → is_wanted s count bits j e ≡ t
    → is_wanted s count bits i b ≡ t
wanted-back s count bits i b j e t h w = rw (← h.0, ← h.1) w

module _ (s : Settings) (a : IsAllowed s) (count : Option ℕ) (limit : ℕ) (bits : List Bool) where
  -- the walk after a coded data set is the walk after an equal one
  leads-from_same : (i b : ℕ) (c d : CodedDataSet) (sets : List CodedDataSet) (j e : ℕ) → c ≡ d
      → LeadsTo s count limit bits (next_block s i d) (next_begin s bits i b d) sets j e
      → LeadsTo s count limit bits (next_block s i c) (next_begin s bits i b c) sets j e
  leads-from_same i b c d sets j e p h = rw p h

  pub same_walk : (i b : ℕ) (sets later : List CodedDataSet) (j e k f : ℕ) → LeadsTo s count limit bits i b sets j e
      → LeadsTo s count limit bits i b later k f
      → is_wanted s count bits j e ≡ false → is_wanted s count bits k f ≡ false → SameWalk sets later j e k f
  same_walk i b [] [] j e k f h t w v = record { sets = refl; block = h.0 ∙ sym t.0; bit = h.1 ∙ sym t.1 }
  same_walk i b [] (d ∷ later) j e k f h t w v = absurd (both_ways (is_wanted s count bits i b) (wanted-back s count bits i b j e false h w) t.0)
  same_walk i b (c ∷ sets) [] j e k f h t w v = absurd (both_ways (is_wanted s count bits i b) (wanted-back s count bits i b k f false t v) h.0)
  same_walk i b (c ∷ sets) (d ∷ later) j e k f h t w v =
      let p = same_set s bits b (is_reference_block s (i % s.interval)) c d a h.2.shape t.2.shape h.1 t.1 in
      let r = same_walk (next_block s i c) (next_begin s bits i b c) sets later j e k f h.4 (leads-from_same i b c d later k f p t.4) w v in
      record { sets = rw (p, r.sets); block = r.block; bit = r.bit }

  pub same_blocks : (i b : ℕ) (xs ys : List Block) → IsBlockReading s count limit bits i b xs → IsBlockReading s count limit bits i b ys → xs ≡ ys
  same_blocks i b xs ys x y =
      let r = same_walk i b x.sets y.sets x.end_block x.end_bit y.end_block y.end_bit x.leads y.leads x.done y.done in
      rw (x.kept, r.sets, y.kept)

  -- a coded data set of small values is read where it is
  pub read_there : (t : Bool) (b : ℕ) (c : CodedDataSet) (fault : Fault) → IsSetAt s t bits b c → has_small_values s c ≡ true → IsNotRead s t bits b fault → ⊥
  read_there t b c fault at small (cut_short none) = none c at
  read_there t b c fault at small (too_large d other large) =
      both_ways (has_small_values s d) large (rw (same_set s bits b t d c a other.shape at.shape other.stands at.stands) small)

  -- at a lawful coded data set within the limit, nothing is wrong
  pub not_wrong : (i b : ℕ) (c : CodedDataSet) (fault : Fault) → StandsAt s bits b c → IsLawfulAt s (i % s.interval) c
      → keeps_limit s count limit (next_block s i c) ≡ true
      → IsWrongAt s count limit bits i b fault → ⊥
  not_wrong i b c fault x l within (not_read _ none) =
      read_there (is_reference_block s (i % s.interval)) b c fault (record { shape = l.shape; stands = x }) l.small none
  not_wrong i b c fault x l within (too_long d at small long) =
      both_ways (stays_in_segment s (i % s.interval) d) long
      (rw (same_set s bits b (is_reference_block s (i % s.interval)) d c a at.shape l.shape at.stands) l.within)
  not_wrong i b c fault x l within (too_many d at lawful past) =
      both_ways (keeps_limit s count limit (next_block s i d)) past
      (rw (same_set s bits b (is_reference_block s (i % s.interval)) d c a at.shape l.shape at.stands) within)

  wrong-back : (i b j e : ℕ) (fault : Fault) → (j ≡ i) × (e ≡ b) → IsWrongAt s count limit bits j e fault → IsWrongAt s count limit bits i b fault
  wrong-back i b j e fault h w = rw (h.1, h.0) at w

  -- a walk that is done and a walk that ends in a fault can't begin at the same place
  pub not_both : (i b : ℕ) (sets later : List CodedDataSet) (j e k f : ℕ) (fault : Fault) → LeadsTo s count limit bits i b sets j e
      → LeadsTo s count limit bits i b later k f
      → is_wanted s count bits j e ≡ false → is_wanted s count bits k f ≡ true → IsWrongAt s count limit bits k f fault → ⊥
  not_both i b [] [] j e k f fault h t w v wrong =
      both_ways (is_wanted s count bits i b) (wanted-back s count bits i b j e false h w) (wanted-back s count bits i b k f true t v)
  not_both i b [] (d ∷ later) j e k f fault h t w v wrong = both_ways (is_wanted s count bits i b) (wanted-back s count bits i b j e false h w) t.0
  not_both i b (c ∷ sets) [] j e k f fault h t w v wrong = not_wrong i b c fault h.1 h.2 h.3 (wrong-back i b k f fault t wrong)
  not_both i b (c ∷ sets) (d ∷ later) j e k f fault h t w v wrong =
      let p = same_set s bits b (is_reference_block s (i % s.interval)) c d a h.2.shape t.2.shape h.1 t.1 in
      not_both (next_block s i c) (next_begin s bits i b c) sets later j e k f fault h.4 (leads-from_same i b c d later k f p t.4) w v wrong

  -- ---- two faults

  same_unread : (t : Bool) (b : ℕ) (fault other : Fault) → IsNotRead s t bits b fault → IsNotRead s t bits b other → fault ≡ other
  same_unread t b fault other (cut_short none) (cut_short n) = refl
  same_unread t b fault other (cut_short none) (too_large d at large) = absurd (none d at)
  same_unread t b fault other (too_large c at large) (cut_short none) = absurd (none c at)
  same_unread t b fault other (too_large c at large) (too_large d at' large') = refl

  -- two coded data sets at one place can't differ in whether they stay in their segment
  different_long : (i b : ℕ) (c d : CodedDataSet) → IsSetAt s (is_reference_block s (i % s.interval)) bits b c
      → IsSetAt s (is_reference_block s (i % s.interval)) bits b d
      → stays_in_segment s (i % s.interval) c ≡ false → stays_in_segment s (i % s.interval) d ≡ true → ⊥
  different_long i b c d x y long within =
      both_ways (stays_in_segment s (i % s.interval) c) long
      (rw (same_set s bits b (is_reference_block s (i % s.interval)) c d a x.shape y.shape x.stands y.stands) within)

  pub same_wrong : (i b : ℕ) (fault other : Fault) → IsWrongAt s count limit bits i b fault → IsWrongAt s count limit bits i b other → fault ≡ other
  same_wrong i b fault other (not_read _ none) (not_read _ n) = same_unread (is_reference_block s (i % s.interval)) b fault other none n
  same_wrong i b fault other (not_read _ none) (too_long d at small long) = absurd (read_there (is_reference_block s (i % s.interval)) b d fault at small none)
  same_wrong i b fault other (not_read _ none) (too_many d at lawful past) =
      absurd (read_there (is_reference_block s (i % s.interval)) b d fault at lawful.small none)
  same_wrong i b fault other (too_long c at small long) (not_read _ none) = absurd (read_there (is_reference_block s (i % s.interval)) b c other at small none)
  same_wrong i b fault other (too_long c at small long) (too_long d at' small' long') = refl
  same_wrong i b fault other (too_long c at small long) (too_many d at' lawful past) = absurd (different_long i b c d at at' long lawful.within)
  same_wrong i b fault other (too_many c at lawful past) (not_read _ none) =
      absurd (read_there (is_reference_block s (i % s.interval)) b c other at lawful.small none)
  same_wrong i b fault other (too_many c at lawful past) (too_long d at' small long) = absurd (different_long i b d c at' at long lawful.within)
  same_wrong i b fault other (too_many c at lawful past) (too_many d at' lawful' past') = refl

  pub same_fault : (i b : ℕ) (sets later : List CodedDataSet) (j e k f : ℕ) (fault other : Fault) → LeadsTo s count limit bits i b sets j e
      → LeadsTo s count limit bits i b later k f
      → IsWrongAt s count limit bits j e fault → IsWrongAt s count limit bits k f other → fault ≡ other
  same_fault i b [] [] j e k f fault other h t x y = same_wrong i b fault other (wrong-back i b j e fault h x) (wrong-back i b k f other t y)
  same_fault i b [] (d ∷ later) j e k f fault other h t x y = absurd (not_wrong i b d fault t.1 t.2 t.3 (wrong-back i b j e fault h x))
  same_fault i b (c ∷ sets) [] j e k f fault other h t x y = absurd (not_wrong i b c other h.1 h.2 h.3 (wrong-back i b k f other t y))
  same_fault i b (c ∷ sets) (d ∷ later) j e k f fault other h t x y =
      let p = same_set s bits b (is_reference_block s (i % s.interval)) c d a h.2.shape t.2.shape h.1 t.1 in
      same_fault (next_block s i c) (next_begin s bits i b c) sets later j e k f fault other h.4 (leads-from_same i b c d later k f p t.4) x y

  pub one_fault : (i b : ℕ) (fault other : Fault) → IsFault s count limit bits i b fault → IsFault s count limit bits i b other → fault ≡ other
  one_fault i b fault other x y = same_fault i b x.sets y.sets x.block x.bit y.block y.bit fault other x.leads y.leads x.wrong y.wrong

  pub no_reading_and_fault : (i b : ℕ) (blocks : List Block) (fault : Fault) → IsBlockReading s count limit bits i b blocks
      → IsFault s count limit bits i b fault → ⊥
  no_reading_and_fault i b blocks fault x y = not_both i b x.sets y.sets x.end_block x.end_bit y.block y.bit fault x.leads y.leads x.done y.wanted y.wrong
