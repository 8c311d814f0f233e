use Rattle.std.proofs.Common.{◌%◌, ◌^◌, sym, subst}
use Rattle.std.proofs.lemmas.Nat.{pow_pos}
use Rattle.std.proofs.Math.Nat.{mod-lt}
use Rattle.aec_params.specs.Params.{IsHeld}
use Rattle.aec_params.proofs.StoredListLemmas.{pattern-held, raised-sample}
use Rattle.aec_params.proofs.stored_lists.loaded_signed_sample.Goals as goal

pub returns-clause-value : goal.returns-clause-value
returns-clause-value c =
    raised-sample c.args.params.now c.cast_signed.result c.cast_signed-2.result c.args.number c.bits.result c.bits-2.result c.bits.ensures.allowed
    c.requires.signed c.bits.ensures.value c.bits-2.ensures.value c.cast_signed.ensures c.cast_signed-2.ensures

pub returns-clause-held : goal.returns-clause-held
returns-clause-held c =
    let s = c.args.params.now in
    let is =
    raised-sample s c.cast_signed.result c.cast_signed-2.result c.args.number c.bits.result c.bits-2.result c.bits.ensures.allowed
    c.requires.signed c.bits.ensures.value c.bits-2.ensures.value c.cast_signed.ensures c.cast_signed-2.ensures in
    subst (IsHeld s) (sym is) (pattern-held s (c.args.number % 2 ^ s.bits) c.bits.ensures.allowed (mod-lt c.args.number (pow_pos s.bits)))
