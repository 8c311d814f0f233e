use Rattle.std.proofs.Common.{◌∙◌, ◌++◌, ap, List, Bool}
use Rattle.std.proofs.Math.Facts.{Fits-of_lt}
use Rattle.aec_params.specs.Codewords.{binary}
use Rattle.aec_block.proofs.GatheredLemmas.{is_filled}
use Rattle.aec_block.proofs.writing.gathered.Gathered.filled.Goals as goal

pub overflow_add-result : goal.overflow_add-result
overflow_add-result c =
    Fits-of_lt (is_filled _ c.self.inside.used c.args.width c.args.over c.self.inside.word c.args.value c.self.view_is c.requires.over
    c.self.invariant.0 c.requires.number.narrow c.self.invariant.1 c.requires.number.fits).fits

pub returns : goal.returns
returns c =
    (is_filled _ c.self.inside.used c.args.width c.args.over c.self.inside.word c.args.value c.self.view_is c.requires.over
    c.self.invariant.0 c.requires.number.narrow c.self.invariant.1 c.requires.number.fits).bits
    ∙ ap (λ (bits : List Bool). bits ++ binary c.args.width c.args.value) c.self.view_is
