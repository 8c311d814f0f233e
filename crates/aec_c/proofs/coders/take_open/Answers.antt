use Rattle.std.proofs.Common.{ap, ◌∙◌}
use Rattle.aec_c.proofs.CoderLemmas.{ready_fits, takes_all, takes_none}
use Rattle.aec_c.proofs.coders.take_open.Goals.{then-ready-room, else-ready-room}
use Rattle.aec_c.proofs.coders.take_open.Goals as goal

pub slice_bounds-settle_slice-end : goal.slice_bounds-settle_slice-end
slice_bounds-settle_slice-end c =
    ready_fits c.args.made.now c.len-ready.result c.deref.result.now c.len-ready.ensures.value (c.deref.ensures.value ∙ c.in-Ok.ensures.ok)

pub returns : goal.returns
returns c = elim c.if-ready-room.branch [
  | then-ready-room w ↦ takes_all c.args.made.now c.if-ready-room.made c.args.out.now c.settle_slice-reply.new.out c.settle_slice-reply.result
      c.len-ready.result c.deref.result.now c.len-ready.ensures.value (c.deref.ensures.value ∙ c.in-Ok.ensures.ok)
      c.settle_slice-reply.ensures.left c.settle_slice-reply.ensures.reply w.if-ready-room.true
      (ap (λ m. m.coder) w.made-is) (ap (λ m. m.bits.list) w.made-is ∙ w.remove_front.ensures)
  | else-ready-room w ↦ takes_none c.args.made.now c.if-ready-room.made c.args.out.now c.settle_slice-reply.new.out c.settle_slice-reply.result
      c.len-ready.result c.deref.result.now c.len-ready.ensures.value (c.deref.ensures.value ∙ c.in-Ok.ensures.ok)
      c.settle_slice-reply.ensures.left c.settle_slice-reply.ensures.reply w.if-ready-room.false w.made-is
]
