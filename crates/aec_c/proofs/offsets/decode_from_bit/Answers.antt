use Rattle.std.proofs.Common.{Err, refl, sym, ◌∙◌}
use Rattle.aec_c.specs.OffsetCalls.{IsDecodingAt, refused_options, has_result, has_bad_bit}
use Rattle.aec_c.proofs.OffsetLemmas.{begins_within, begins_whole, decoding_at_into}
use Rattle.aec_c.proofs.ReplyLemmas.{replies_of}
use Rattle.aec_c.proofs.offsets.decode_from_bit.Goals as goal

pub returns-in-Err : goal.returns-in-Err
returns-in-Err c = has_result (record {
  answer = Err c.in-Err.fault;
  answered = refused_options c.in-Err.fault (sym c.in-Err.ensures.refuses);
  left = refl;
  replied = c.refused.ensures;
})

pub returns-then-is_bit_refused : goal.returns-then-is_bit_refused
returns-then-is_bit_refused c =
    rw (← c.in-Ok.ensures.ok)
    (has_bad_bit c.in-Ok.ensures.allowed (sym c.is_bit_refused.ensures ∙ c.if-is_bit_refused.true) refl c.bit_refused.ensures)

pub decode_at_into-answer-requires-clause-within : goal.decode_at_into-answer-requires-clause-within
decode_at_into-answer-requires-clause-within c =
    begins_within c.in-Ok.params c.args.coded.now c.args.bit (sym c.is_bit_refused.ensures ∙ c.if-is_bit_refused.false)

pub decode_at_into-answer-requires-clause-whole_bytes : goal.decode_at_into-answer-requires-clause-whole_bytes
decode_at_into-answer-requires-clause-whole_bytes c =
    begins_whole c.in-Ok.params c.args.coded.now c.args.bit (sym c.is_bit_refused.ensures ∙ c.if-is_bit_refused.false)

pub returns : goal.returns
returns c =
    rw (← c.in-Ok.ensures.ok, ← c.count_of.ensures)
    (has_result (replies_of (IsDecodingAt c.in-Ok.params c.args.bit c.count_of.result c.args.coded.now) c.args.out.now _ _ _ _ refl
    (decoding_at_into c.in-Ok.params c.args.bit c.count_of.result c.args.coded.now c.args.out.now _ c.decode_at_into-answer.result
    c.in-Ok.ensures.allowed (sym c.is_bit_refused.ensures ∙ c.if-is_bit_refused.false) (rw c.limits.ensures at c.decode_at_into-answer.ensures))
    c.reply_of.ensures))
