use Rattle.std.proofs.Common.{rules, ◌≡◌, ◌≤◌, ℕ, List, ◌∙◌, ap, sym, length, take, replicate, arith}
use Rattle.std.proofs.lemmas.Bool.{le-leb}
use Rattle.std.proofs.lemmas.List.{length-take-le, length-replicate}
use Rattle.aec_block.specs.ReadAt.{binary_at, values_at}
use Rattle.aec_block.specs.Gathering.{bits_at}
use Rattle.aec_block.proofs.ReadCdsLemmas.{split_large, split_fits, small_highs}
use Rattle.aec_block.proofs.reading.values.read_split.Goals as goal

-- one low part is read for each value
count_lows : (m n : ℕ) → n ≤ m → n ≡ length {A = ℕ} (take n (replicate m 0))
count_lows m n most = let zeros : List ℕ = replicate m 0 in sym (length-take-le n zeros (omega (arith, length-replicate {A = ℕ} m 0)))

pub returns-then-not-highs_fit : goal.returns-then-not-highs_fit
returns-then-not-highs_fit g c =
    let n = length c.args.values.now in
    let lows = ap (λ m. values_at (binary_at c.args.k) m (bits_at c.read_seen_highs.new.reader)) (count_lows g.row.M n c.requires.most)
    ∙ c.in_ok-read_numbers.ensures.put.taken in
    record {
      taken = split_large c.args.params.now.bits c.value_limit-limit.result c.high_limit.result c.args.k n (bits_at c.args.reader.now)
          (bits_at c.read_seen_highs.new.reader) (bits_at c.read_numbers.new.reader) c.read_seen_highs.new.highs c.read_numbers.new.numbers
          c.in_ok-highs_fit.highs_fit c.value_limit-limit.ensures.value c.high_limit.ensures.value c.if-not-highs_fit.true
          c.in_ok-highs_fit.ensures.taken lows;
      len = search rules;
      list = search rules;
      within = search rules;
    }

pub join-requires-clause-highs : goal.join-requires-clause-highs
join-requires-clause-highs g c =
    small_highs 32 c.value_limit-limit.result c.high_limit.result c.args.k (length c.args.values.now) (bits_at c.args.reader.now)
    (bits_at c.read_seen_highs.new.reader) c.read_seen_highs.new.highs c.in_ok-highs_fit.highs_fit (omega arith) c.value_limit-limit.ensures.least
    c.value_limit-limit.ensures.most c.high_limit.ensures.value c.if-not-highs_fit.false c.in_ok-highs_fit.ensures.taken

pub returns-then-k-bits : goal.returns-then-k-bits
returns-then-k-bits g c =
    let n = length c.args.values.now in
    let lows = ap (λ m. values_at (binary_at c.args.k) m (bits_at c.read_seen_highs.new.reader)) (count_lows g.row.M n c.requires.most)
    ∙ c.in_ok-read_numbers.ensures.put.taken in
    record {
      taken = rw (le-leb c.args.k c.bits.result c.if-k-bits.true) (split_fits c.args.params.now.bits c.value_limit-limit.result c.high_limit.result
          c.args.k n (bits_at c.args.reader.now)
          (bits_at c.read_seen_highs.new.reader) (bits_at c.read_numbers.new.reader) c.read_seen_highs.new.highs c.read_numbers.new.numbers c.join.new.values
          c.in_ok-highs_fit.highs_fit c.value_limit-limit.ensures.value c.high_limit.ensures.value
          (omega (arith, c.if-k-bits.true, c.bits.ensures.value)) c.if-not-highs_fit.false
          c.in_ok-highs_fit.ensures.taken lows c.in_ok-read_numbers.ensures.below c.join.ensures);
      len = search rules;
      list = search rules;
      within = search rules;
    }
