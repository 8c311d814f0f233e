use Rattle.std.proofs.Common.{◌∙◌, ◌++◌, ap, List, Bool}
use Rattle.std.proofs.Math.Facts.{Fits-of_lt}
use Rattle.aec_params.specs.Codewords.{binary}
use Rattle.aec_block.proofs.GatheredLemmas.{is_joined}
use Rattle.aec_block.proofs.writing.gathered.Gathered.joined.Goals as goal

pub overflow_add-result : goal.overflow_add-result
overflow_add-result c =
    Fits-of_lt (is_joined _ c.self.inside.used c.args.width c.self.inside.word c.args.value c.self.view_is c.requires.place c.self.invariant.1
    c.requires.number.fits).fits

pub invariant_of-result : goal.invariant_of-result
invariant_of-result c =
    let is = is_joined _ c.self.inside.used c.args.width c.self.inside.word c.args.value c.self.view_is c.requires.place c.self.invariant.1
    c.requires.number.fits in
    (is.within, is.below)

pub returns : goal.returns
returns c =
    let is = is_joined _ c.self.inside.used c.args.width c.self.inside.word c.args.value c.self.view_is c.requires.place c.self.invariant.1
    c.requires.number.fits in
    is.bits ∙ ap (λ (bits : List Bool). bits ++ binary c.args.width c.args.value) c.self.view_is
