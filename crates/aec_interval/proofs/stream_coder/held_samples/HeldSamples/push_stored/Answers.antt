use Rattle.std.proofs.Common.{rules, ◌≡◌, length, vec_len, arith}
use Rattle.std.proofs.lemmas.List.{with_items_is}
use Rattle.aec_interval.proofs.HeldLemmas.{held_behind}
use Rattle.aec_interval.proofs.stream_coder.held_samples.HeldSamples.push_stored.Goals as goal

pub returns-clause-held : goal.returns-clause-held
returns-clause-held c before =
    let places = c.self.inside.places in
    let stands = c.deref_mut.ensures.value in
    let long : length places.items ≡ vec_len places = omega arith in
    held_behind c.args.params.now places.items c.deref_mut.result.now c.load_samples.new.out _ _ c.self.inside.len _
    (with_items_is c.make_places.new.places _ (search rules)) (omega arith) (rw (long, stands) c.make_places.ensures.kept) (omega arith)
    (rw c.self.view_is before) c.load_samples.ensures.held
