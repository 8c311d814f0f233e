use Rattle.std.proofs.Common.{rules, arith, length, ◌<◌, w64, FitsSigned, ℤ}
use Rattle.std.proofs.lemmas.Int.{to_z-of_z}
use Rattle.std.proofs.lemmas.List.{take_all}
use Rattle.aec_block.proofs.ListMappingLemmas.{unmaps-pattern}
use Rattle.aec_block.proofs.UnmappingLemmas.{one_more}
use Rattle.aec_block.proofs.mapping.unmapping.put_patterns.Goals as goal

pub loop-i-preserved : goal.loop-i-preserved
loop-i-preserved c =
    let room : c.loop-i.i < length c.loop-i.samples = omega (arith, c.loop-i-test.true, c.requires.values.len, c.loop-i.invariant.len) in
    let fits : FitsSigned w64 c.value.result = search (rules, c.value.type_inv) in
    record {
      unmaps = unmaps-pattern _ _ c.value.result _ _ _ _ _ c.requires.off (omega arith)
          (to_z-of_z w64 c.value.result fits) c.value.ensures.held
          c.value.ensures.undone (one_more c.loop-i.samples c.loop-i.i _ room) c.loop-i.invariant.unmaps;
      len = search rules;
    }

pub returns : goal.returns
returns c = λ (p : ℤ). record {
  items =
      rw (
        take_all c.loop-i.i c.args.patterns.now (omega arith),
        take_all c.loop-i.i c.loop-i.samples (omega (arith, c.requires.values.len, c.loop-i.invariant.len)),
      ) at (c.loop-i.invariant.unmaps p);
  len = c.loop-i.invariant.len;
}
