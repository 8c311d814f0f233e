use Rattle.std.proofs.Common.{◌-◌, ◌*◌, ◌%◌, ◌^◌, ℕ, arith}
use Rattle.std.proofs.lemmas.Nat.{one_shl}
use Rattle.aec_block.proofs.GatheredLemmas.{gathers-filled}
use Rattle.aec_block.proofs.writing.gathered.Gathered.put.Goals as goal

pub returns : goal.returns
returns c =
    let over : ℕ = c.args.width - (64 - c.self.inside.used) in
    gathers-filled c.args.out.now c.push_reserved.new.self _ c.of_number.result c.filled.result over c.args.value (1 * 2 ^ over % 2 ^ 64)
    c.push_reserved.ensures.list c.push_reserved.ensures.room c.of_number.ensures
    (one_shl over 64 (omega (arith, c.requires.number.narrow))) c.filled.ensures
