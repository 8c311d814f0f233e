use Rattle.std.proofs.Common.{rules, arith, ◌*◌, ◌%◌, ◌^◌, ◌∙◌, ap, sym, subst, w64}
use Rattle.std.proofs.lemmas.Int.{to_z-of_z}
use Rattle.std.proofs.lemmas.List.{take_rest}
use mir.Val.{SFits}
use Rattle.byteorder.proofs.Slices.{read_step}
use Rattle.aec_params.specs.Params.{IsHeld, pattern_value}
use Rattle.aec_params.proofs.StoredListLemmas.{placed_step}
use Rattle.aec_params.proofs.stored_lists.load_each.Goals as goal

pub loop-i-preserved : goal.loop-i-preserved
loop-i-preserved g c =
    let s = c.args.params.now in
    let i = c.loop-i.i in
    let fits : SFits w64 c.loaded_sample.result = search rules in
    let same = to_z-of_z w64 c.loaded_sample.result fits in
    let number = rw (take_rest c.args.bytes.now (c.args.width * i)) at c.first_number.ensures.value in
    let value = same ∙ c.loaded_sample.ensures.value ∙ ap (λ u. pattern_value s (u % 2 ^ s.bits)) number in (
      (λ d. read_step (λ b. pattern_value s (g.T.ByteOrder.number_of c.args.width b % 2 ^ s.bits)) c.args.width c.args.bytes.now c.loop-i.out d i _
          (omega arith) value (c.loop-i.invariant.0 d)),
      placed_step (IsHeld s) c.loop-i.out i _ (omega arith) (subst (IsHeld s) (sym same) c.loaded_sample.ensures.held) c.loop-i.invariant.1,
    )
