use Rattle.std.proofs.Common.{◌∙◌, refl}
use Rattle.aec_engine.proofs.NumeralLemmas.{range_in-uncut, range_in-parts}
use Rattle.aec_engine.proofs.numerals.parse_range.Goals as goal

pub returns-in_err-first : goal.returns-in_err-first
returns-in_err-first c = c.from_residual.ensures ∙ range_in-uncut c.args.text.now c.split_once.result c.split_once.ensures.cases c.in_err-first.was

pub returns-in_err-parse_decimal : goal.returns-in_err-parse_decimal
returns-in_err-parse_decimal c =
    c.from_residual-in_err-parse_decimal.ensures
    ∙ range_in-parts c.args.text.now c.split_once.result c.in_ok-first.first c.in_ok-first.len _ _ c.split_once.ensures.cases c.in_ok-first.was
    c.in_err-parse_decimal.ensures refl

pub returns-in_err-parse_decimal-2 : goal.returns-in_err-parse_decimal-2
returns-in_err-parse_decimal-2 c =
    c.from_residual-in_err-parse_decimal-2.ensures
    ∙ range_in-parts c.args.text.now c.split_once.result c.in_ok-first.first c.in_ok-first.len _ _ c.split_once.ensures.cases c.in_ok-first.was
    c.in_ok-parse_decimal.ensures c.in_err-parse_decimal-2.ensures

pub returns : goal.returns
returns c =
    range_in-parts c.args.text.now c.split_once.result c.in_ok-first.first c.in_ok-first.len _ _ c.split_once.ensures.cases c.in_ok-first.was
    c.in_ok-parse_decimal.ensures c.in_ok-parse_decimal-2.ensures
