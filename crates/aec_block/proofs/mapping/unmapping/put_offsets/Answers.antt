use Rattle.std.proofs.Common.{rules, ◌≡◌, ◌≤◌, ◌-◌, ◌*◌, ◌/◌, ◌++◌, ◌∙◌, ℕ, List, pos, length, take, drop, sym, ap, w64, arith}
use Rattle.std.proofs.lemmas.Int.{to_z-of_z}
use Rattle.std.proofs.lemmas.List.{take_rest, take-append-drop}
use Rattle.std.specs.Prelude.{◌+ℤ◌}
use Rattle.aec_params.specs.Params.{x_min}
use Rattle.aec_block.specs.Offsets.{sample_offset}
use Rattle.aec_block.proofs.MappingLemmas.{sample-offset}
use Rattle.aec_block.proofs.UnmappingLemmas.{rest_more}
use Rattle.aec_block.proofs.mapping.unmapping.put_offsets.Goals as goal

pub returns : goal.returns
returns c =
    let s = c.args.params.now in
    let values = c.args.values.now in
    let done = 8 * (length values / 8) in
    let at_first : c.first_prediction-first.result ≡ sample_offset s c.args.previous =
    c.first_prediction-first.ensures.value ∙ ap (sample_offset s) (to_z-of_z w64 c.args.previous c.ranges.previous) in
    let previous_is : x_min s +ℤ pos c.first_prediction-first.result ≡ c.args.previous =
    ap (λ (k : ℕ). x_min s +ℤ pos k) at_first ∙ sym (sample-offset s c.args.previous c.requires.prediction) in
    let whole : take done values ++ take (length values - done) (drop done values) ≡ values =
    ap (λ (vs : List ℕ). take done values ++ vs) (take_rest values done) ∙ take-append-drop done values in
    let room : done ≤ length c.put_eights-last.new.samples = omega (arith, c.put_eights-last.ensures.len, c.requires.values.len) in
    record {
      items = rest_more s c.args.previous _ _ _ _ values c.put_eights-last.new.samples c.put_each.new.samples done previous_is whole room (search rules)
          c.put_eights-last.ensures.front.items c.put_each.ensures.items.so_far;
      len = search rules;
    }
