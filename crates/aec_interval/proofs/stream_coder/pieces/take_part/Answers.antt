use Rattle.std.proofs.Common.{refl}
use Rattle.aec_interval.proofs.RefusalLemmas.{of_answer}
use Rattle.aec_interval.proofs.PartLemmas.{part_no_memory, part_held, part_coded, same_progress, still_progress, none_progress}
use Rattle.aec_interval.proofs.stream_coder.pieces.take_part.Goals as goal

pub returns-in_err-push_stored : goal.returns-in_err-push_stored
returns-in_err-push_stored c =
    record {
      takes = of_answer _ _ _ _ c.from_residual.ensures.1
          (part_no_memory c.args.terms.now c.args.progress.now c.args.part.now c.args.out.now.list _ _ c.requires.progress c.requires.part
          c.in_err-push_stored.ensures.fault refl);
      progress = same_progress c.args.terms.now c.args.progress.now _ c.requires.progress c.in_err-push_stored.ensures.err;
    }

pub returns-then-are_complete : goal.returns-then-are_complete
returns-then-are_complete c =
    record {
      takes = part_coded c.args.terms.now c.args.progress.now c.clear.new.self c.push_stored.new.self c.as_slice.result.now _ c.storage.result
          c.args.part.now c.args.out.now.list c.append_intervals-coded.new.out.list c.append_intervals-coded.result c.requires.progress c.requires.part
          c.storage.ensures.value c.in_ok-push_stored.ensures.ok c.in_ok-push_stored.ensures.len c.clear.ensures c.as_slice.ensures refl
          (c.are_complete.ensures.whole c.if-are_complete.true) c.append_intervals-coded.ensures.ok c.append_intervals-coded.ensures.err
          c.append_intervals-coded.ensures.fault;
      progress = none_progress c.args.terms.now c.args.progress.now c.clear.new.self _ c.storage.result c.args.part.now c.requires.progress
          c.requires.part c.storage.ensures.value refl c.clear.ensures;
    }

pub returns : goal.returns
returns c =
    let few = c.are_complete.ensures.few c.if-are_complete.false in
    record {
      takes = part_held c.args.terms.now c.args.progress.now c.push_stored.new.self _ c.storage.result c.args.part.now c.args.out.now.list
          c.requires.progress c.requires.part c.storage.ensures.value c.in_ok-push_stored.ensures.ok refl few;
      progress = still_progress c.args.terms.now c.args.progress.now c.push_stored.new.self _ c.storage.result c.args.part.now c.requires.progress
          c.requires.part c.storage.ensures.value refl (c.in_ok-push_stored.ensures.held c.requires.progress.held.samples) few;
    }
