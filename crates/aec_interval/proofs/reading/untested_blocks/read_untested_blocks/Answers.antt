use Rattle.std.proofs.Common.{rules, refl, ◌≤◌, ◌+◌, ◌*◌, ◌∙◌, take, vec_len, vec_capacity, ap, arith}
use Rattle.std.proofs.lemmas.List.{with_items_is}
use Rattle.aec_params.proofs.SettingLaws.{block_size-positive, block_size-most}
use Rattle.aec_params.specs.declared.fault.Fault.TheVariants.{Memory}
use Rattle.aec_interval.specs.UntestedBlocks.{most_at_once}
use Rattle.aec_interval.proofs.UntestedLemmas.{few_places, len-joined, len-lacking, lacks_room, reads_further}
use Rattle.aec_interval.proofs.RefusalLemmas.{of_refusal, on_refusal}
use Rattle.aec_interval.proofs.reading.untested_blocks.read_untested_blocks.Goals as goal

pub loop-next-init : goal.loop-next-init
loop-next-init c = record {
  here = record { reached = c.requires.reached; aligned = c.requires.aligned; behind = c.requires.after; untested = c.untested_end-last.ensures };
  held = c.requires.reached.filled.held;
  list = search rules;
  forward = search rules;
  within = search rules;
  some = search rules;
  few = search rules;
  len = search rules;
  capacity = search rules;
}

pub shared_ref_as_front-places : goal.shared_ref_as_front-places
shared_ref_as_front-places c =
    let few : c.min-asked.result ≤ most_at_once c.args.params.now = search (rules, c.loop-next.invariant.few) in
    few_places _ _ _ c.block_size-size.ensures.value (block_size-most c.args.params.now c.block_size-size.ensures.allowed) few

pub overflow_add-from : goal.overflow_add-from
overflow_add-from c =
    let more : c.fill_usual_blocks-read.result * c.block_size-size.result ≤ 256 =
    few_places _ _ _ c.block_size-size.ensures.value (block_size-most c.args.params.now c.block_size-size.ensures.allowed) (omega arith) in
    search (rules, more)

pub nonzero_div-at_once : goal.nonzero_div-at_once
nonzero_div-at_once c =
    let some = block_size-positive c.args.params.now c.block_size-size.ensures.allowed in search (rules, some)

pub returns-then-read-asked-clause-len : goal.returns-then-read-asked-clause-len
returns-then-read-asked-clause-len c =
    len-joined (vec_len c.args.samples.now) (vec_len c.loop-next.samples) _ c.args.block c.loop-next.next c.fill_usual_blocks-read.result
    c.args.params.now.block_size c.loop-next.invariant.forward c.loop-next.invariant.len (search rules)

pub returns-in_err-extend_from_slice-clause-refuses : goal.returns-in_err-extend_from_slice-clause-refuses
returns-in_err-extend_from_slice-clause-refuses c =
    of_refusal c.from_residual.result _ Memory c.from_residual.ensures.1
    (lacks_room c.args.params.now c.args.wanted c.untested_end-last.result c.loop-next.next c.args.end c.loop-next.reader
    c.is_single_next.new.reader c.loop-next.samples.items Memory c.is_single_next.ensures.stays c.loop-next.invariant.here (omega arith) refl)

pub returns-in_err-extend_from_slice-clause-full : goal.returns-in_err-extend_from_slice-clause-full
returns-in_err-extend_from_slice-clause-full c =
    let inv = c.loop-next.invariant in
    let few : c.min-asked.result ≤ most_at_once c.args.params.now = search (rules, inv.few) in
    on_refusal c.from_residual.result _ Memory c.from_residual.ensures.1
    (len-lacking (vec_len c.args.samples.now) (vec_len c.loop-next.samples) c.args.block c.loop-next.next c.args.end c.min-asked.result
    c.block_size-size.result c.args.params.now.block_size _ (vec_capacity c.loop-next.samples) c.block_size-size.ensures.value inv.forward inv.len
    (omega arith) inv.capacity (omega (arith, c.in_err-extend_from_slice.ensures.full)))

pub returns-then-read-asked-clause-reached : goal.returns-then-read-asked-clause-reached
returns-then-read-asked-clause-reached c =
    let inv = c.loop-next.invariant in
    let fill = c.fill_usual_blocks-read in
    (reads_further c.args.params.now c.args.wanted c.untested_end-last.result c.loop-next.next fill.result c.block_size-size.result c.len-from.result
    c.loop-next.reader _ _ c.loop-next.samples.items _ _ _ fill.new.samples _ _ c.extend_from_slice.ensures.items c.as_mut_slice-all.ensures.value
    (omega arith) c.block_size-size.ensures.value (c.truncate.ensures.items ∙ ap (take (c.len-from.result + fill.result * c.block_size-size.result))
    (with_items_is c.extend_from_slice.new.self fill.new.samples (fill.ensures.len ∙ c.as_mut_slice-all.ensures.len))) fill.ensures.reads
    c.is_single_next.ensures.stays inv.here (search rules)).1.reached

pub loop-next-preserved : goal.loop-next-preserved
loop-next-preserved c =
    let inv = c.loop-next.invariant in let fill = c.fill_usual_blocks-read in
    let read = reads_further c.args.params.now c.args.wanted c.untested_end-last.result c.loop-next.next fill.result c.block_size-size.result
    c.len-from.result c.loop-next.reader _ _ c.loop-next.samples.items _ _ _ fill.new.samples _ _ c.extend_from_slice.ensures.items
    c.as_mut_slice-all.ensures.value (omega arith) c.block_size-size.ensures.value
    (rw (c.truncate.ensures.items, with_items_is c.extend_from_slice.new.self fill.new.samples (fill.ensures.len ∙ c.as_mut_slice-all.ensures.len)))
    fill.ensures.reads c.is_single_next.ensures.stays inv.here (search rules) in
    record {
      here = read.1;
      held = read.0.held;
      list = rw (read.0.list, c.is_single_next.ensures.stays) inv.list;
      forward = search rules;
      within = search rules;
      some = search rules;
      few = search rules;
      len = len-joined _ (vec_len c.loop-next.samples) _ c.args.block c.loop-next.next fill.result _ inv.forward inv.len (search rules);
      capacity = search rules;
    }
