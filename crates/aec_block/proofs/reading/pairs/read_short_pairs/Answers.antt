use Rattle.std.proofs.Common.{rules, ◌≡◌, ◌≤◌, ◌/◌, ℕ, List, length, take, replicate, refl, sym, ap, subst, ◌∙◌, arith}
use Rattle.std.proofs.lemmas.List.{length-take-le, length-replicate}
use Rattle.aec_bits.specs.BitReader.{AreBelow}
use Rattle.aec_block.specs.ReadAt.{map_taken, members_at}
use Rattle.aec_block.specs.Gathering.{bits_at, small_members}
use Rattle.aec_block.proofs.PairTableLemmas.{pairs_read, members_small, kept_small}
use Rattle.aec_block.proofs.reading.pairs.read_short_pairs.Goals as goal

-- the numbers are as many as the pairs
count_numbers : (m n : ℕ) → n ≤ m → length {A = ℕ} (take n (replicate m 0)) ≡ n
count_numbers m n most = let zeros : List ℕ = replicate m 0 in length-take-le n zeros (omega (arith, length-replicate {A = ℕ} m 0))

pub are_small-requires-clause-small : goal.are_small-requires-clause-small
are_small-requires-clause-small g c =
    subst (AreBelow 11) (sym c.clear_reference_place.ensures) (kept_small c.args.is_ref c.put_pairs.new.values
    (subst (AreBelow 11) (sym c.put_pairs.ensures) (members_small c.read_sequences.new.numbers
    (c.if-not-read_sequences.ensures.below refl))))

pub returns-clause-taken : goal.returns-clause-taken
returns-clause-taken g c =
    let n = length c.args.values.now / 2 in
    let is_limit = c.value_limit-limit.ensures.value in record {
      taken = ap (λ l. map_taken (small_members l c.args.is_ref) (members_at n (bits_at c.args.reader.now))) (sym is_limit)
          ∙ pairs_read c.value_limit-limit.result c.args.is_ref c.args.reader.now c.read_sequences.new.self c.read_sequences.new.numbers
          c.put_pairs.new.values c.clear_reference_place.new.values n c.are_small.result
          (c.if-not-read_sequences.ensures.bits refl) c.read_sequences.ensures.list
          (c.read_sequences.ensures.len ∙ count_numbers g.row.M n (omega (arith, c.requires.most)))
          c.put_pairs.ensures c.clear_reference_place.ensures c.are_small.ensures;
      list = search rules;
      within = search rules;
    }
