use Rattle.std.proofs.Common.{◌∙◌, ap, arith, rules}
use Rattle.std.proofs.lemmas.Nat.{one_shl}
use Rattle.aec_bits.specs.BitReader.{further}
use Rattle.aec_bits.proofs.OnesLemmas.{further-further, are_halves}
use Rattle.aec_bits.proofs.bit_reader.counted_ones.half_with_one.Goals as goal

pub returns-then-stretch-ones-clause-one : goal.returns-then-stretch-ones-clause-one
returns-then-stretch-ones-clause-one c = record {
  fits = (are_halves c.args.width c.args.stretch.bits c.args.stretch.nth c.requires.one.fits).high_fits;
  some = c.requires.one.some;
  there = search rules;
  place = omega arith;
}

pub returns-then-stretch-ones-clause-same : goal.returns-then-stretch-ones-clause-same
returns-then-stretch-ones-clause-same c =
    ap (further c.args.stretch.before) ((are_halves c.args.width c.args.stretch.bits c.args.stretch.nth c.requires.one.fits).high c.if-stretch-ones.true)

pub returns-clause-one : goal.returns-clause-one
returns-clause-one c = record {
  fits = search rules;
  some = omega arith;
  there = rw (one_shl c.args.width 64 (omega arith))
      ((are_halves c.args.width c.args.stretch.bits c.args.stretch.nth c.requires.one.fits).left c.requires.one.there);
  place = omega arith;
}

pub returns-clause-same : goal.returns-clause-same
returns-clause-same c =
    rw (one_shl c.args.width 64 (omega arith)) (
    ap (further c.args.stretch.before) ((are_halves c.args.width c.args.stretch.bits c.args.stretch.nth c.requires.one.fits).low (omega arith))
    ∙ further-further c.args.stretch.before c.args.width _)
