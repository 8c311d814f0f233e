use Rattle.std.proofs.Common.{◌^◌, ◌∙◌, ap, sym, subst}
use Rattle.aec_params.specs.declared.settings.Settings.{Settings}
use Rattle.aec_params.specs.Params.{IsHeld, sample_pattern}
use Rattle.aec_params.proofs.ParamsLemmas.{value-negative, value-positive, pattern-negative, pattern-positive, undone-negative, negative-held, positive-held}
use Rattle.aec_params.proofs.params.Params.value.Goals as goal

pub returns-then-is_negative : goal.returns-then-is_negative
returns-then-is_negative c =
    let s = c.args.self.now in
    let u = c.args.pattern in
    let allowed = c.is_negative.ensures.allowed in
    let test = sym c.is_negative.ensures.value ∙ c.if-is_negative.true in
    let width = ap (λ (t : Settings). t.bits) c.self.view_is in
    let is = value-negative s c.from.result u c.self.inside.settings.bits allowed c.requires c.from.ensures width in record {
      value = is ∙ pattern-negative s u c.requires test;
      held = subst (IsHeld s) (sym is) (negative-held s u allowed c.requires test);
      undone = ap (sample_pattern s) is ∙ undone-negative (2 ^ s.bits) u c.requires;
    }

pub returns-else-is_negative : goal.returns-else-is_negative
returns-else-is_negative c =
    let s = c.args.self.now in
    let u = c.args.pattern in
    let allowed = c.is_negative.ensures.allowed in
    let test = sym c.is_negative.ensures.value ∙ c.if-is_negative.false in
    let is = value-positive s c.from-else-is_negative.result u allowed c.requires c.from-else-is_negative.ensures in record {
      value = is ∙ pattern-positive s u test;
      held = subst (IsHeld s) (sym is) (positive-held s u c.requires test);
      undone = ap (sample_pattern s) is;
    }
