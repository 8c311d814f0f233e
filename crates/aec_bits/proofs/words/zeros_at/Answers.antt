use Rattle.std.proofs.Common.{◌-◌, ◌*◌, ◌+◌, arith, sym}
use Rattle.aec_bits.specs.Words.{bits_of_words}
use Rattle.aec_bits.proofs.CodewordLemmas.{zeros_all}
use Rattle.aec_bits.proofs.WordLemmas.{length-bits_of_words}
use Rattle.aec_bits.proofs.ZeroLemmas.{zeros_past_word, zeros_up_to_one, has_one-fs}
use Rattle.aec_bits.proofs.words.zeros_at.Goals as goal

pub returns-in-Some : goal.returns-in-Some
returns-in-Some c =
    let inside = c.in-Some.ensures in
    let zeros = 64 * c.loop-i.i + c.from.result - c.args.start in
    let stands = zeros_up_to_one c.args.words.now c.args.start c.loop-i.i c.loop-i.at 0 c.in-Some.zeros zeros
    c.loop-i.invariant.past inside.0 c.loop-i-test.true (omega arith) c.loop-i.invariant.zeros inside.1 in
    record {
      cases = (omega (arith, inside.0, length-bits_of_words c.args.words.now), stands);
      some = sym (has_one-fs _ _ zeros stands);
    }

pub loop-i-preserved : goal.loop-i-preserved
loop-i-preserved c = record {
  within = omega arith;
  past = omega arith;
  zeros = zeros_past_word c.args.words.now c.args.start c.loop-i.i c.loop-i.at 0 c.loop-i.invariant.past (omega arith) c.loop-i-test.true
      c.loop-i.invariant.zeros c.in_default.ensures;
}

pub returns : goal.returns
returns c =
    let none = zeros_all (bits_of_words c.args.words.now) c.args.start (64 * c.loop-i.i + c.loop-i.at)
    (omega (arith, length-bits_of_words c.args.words.now)) c.loop-i.invariant.zeros in
    record { cases = none; some = sym none }
