use Rattle.std.proofs.Common.{◌∙◌}
use Rattle.std.proofs.lemmas.Result.{err_from_is_err_and}
use Rattle.aec_params.specs.Codewords.{bytes_of}
use Rattle.aec_engine.proofs.CodingLemmas.{refused_for_room, stopped_at_once, coded_at_once}
use Rattle.aec_engine.proofs.coded_bytes.coded_bits.Goals as goal

pub returns-in_err-bits : goal.returns-in_err-bits
returns-in_err-bits c =
    let exit = err_from_is_err_and c.from_residual.result c.from_residual.ensures.1 in
    refused_for_room (λ bits. bytes_of bits.list) _ exit.0 c.args.params.now c.args.limits c.args.bytes.now exit.1 (exit.2 ∙ c.in_err-bits.ensures.fault)

pub returns-in_err-feed : goal.returns-in_err-feed
returns-in_err-feed c =
    let exit = err_from_is_err_and c.from_residual-in_err-feed.result c.from_residual-in_err-feed.ensures.1 in
    stopped_at_once (λ bits. bytes_of bits.list) _ exit.0 c.in_err-feed.field-0.0 c.args.params.now c.args.limits c.samples.result c.args.bytes.now _ _
    c.new-coder.result _ exit.1 exit.2 c.known_allowed.ensures c.samples.ensures.value c.new-coder.ensures c.in_err-feed.ensures.refuses

pub returns : goal.returns
returns c =
    coded_at_once c.args.params.now c.args.limits c.samples.result c.args.bytes.now _ _ c.finish.new.out.list c.new-coder.result _
    c.known_allowed.ensures c.samples.ensures.value c.in_ok-bits.ensures.empty c.new-coder.ensures c.in_ok-feed.ensures.ok
    c.in_ok-finish.ensures.ok
