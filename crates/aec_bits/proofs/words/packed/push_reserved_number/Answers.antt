use Rattle.std.proofs.Common.{◌-◌, ◌%◌, vec_len, arith}
use Rattle.aec_bits.proofs.PushLemmas.{sum_within, sum_over, pushed_within, pushed_over, pushed_after}
use Rattle.aec_bits.proofs.words.packed.push_reserved_number.Goals as goal

pub returns-then-used-eq0-clause-list : goal.returns-then-used-eq0-clause-list
returns-then-used-eq0-clause-list c =
    rw c.push_reserved.ensures.items
    (pushed_after c.args.words.now.items c.args.len c.args.width (64 - c.args.width) c.args.value c.requires.grow.packed
    (omega arith) (omega arith) (omega arith))

pub overflow_add-word : goal.overflow_add-word
overflow_add-word c =
    let words = c.args.words.now in
    let used = c.args.len % 64 in
    let low = sum_within words.items c.args.len (vec_len words - 1) used (64 - used) c.args.width (64 - used - c.args.width) c.last_of-word.result c.args.value
    c.requires.grow.packed (omega (arith, words.ok.0)) (omega arith) (omega (arith, words.ok.0)) (omega arith) c.requires.number.fits
    c.last_of-word.ensures (omega arith) in
    omega arith

pub overflow_add-word-2 : goal.overflow_add-word-2
overflow_add-word-2 c =
    let words = c.args.words.now in
    let used = c.args.len % 64 in
    let low = sum_over words.items c.args.len (vec_len words - 1) used (64 - used) c.args.width (c.args.width - (64 - used)) c.last_of-word.result c.args.value
    c.requires.grow.packed (omega (arith, words.ok.0)) (omega arith) (omega (arith, words.ok.0)) (omega arith) c.requires.number.fits
    c.last_of-word.ensures (omega arith) in
    omega arith

pub returns-then-width-free-clause-list : goal.returns-then-width-free-clause-list
returns-then-width-free-clause-list c =
    let words = c.args.words.now in
    rw c.len-last.ensures
    (pushed_within words.items c.args.len (vec_len words - 1) (c.args.len % 64) (64 - c.args.len % 64) c.args.width _ _ c.args.value c.requires.grow.packed
    (omega (arith, words.ok.0)) (omega arith) (omega (arith, words.ok.0)) (omega arith) (omega arith) c.requires.number.fits c.last_of-word.ensures)

pub returns-clause-list : goal.returns-clause-list
returns-clause-list c =
    let words = c.args.words.now in
    rw (c.push_reserved-2.ensures.items, c.len-last.ensures)
    (pushed_over words.items c.args.len (vec_len words - 1) (c.args.len % 64) (64 - c.args.len % 64) c.args.width _ _ _ c.args.value c.requires.grow.packed
    (omega (arith, words.ok.0)) (omega arith) (omega (arith, words.ok.0)) (omega arith) (omega arith) (omega arith) (omega arith) c.requires.number.fits
    c.last_of-word.ensures)
