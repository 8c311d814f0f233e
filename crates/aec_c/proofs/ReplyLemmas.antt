-- Replies for answers that were written directly into the buffer.
use Rattle.std.proofs.Common.{◌≡◌, ℕ, Result, Ok, Err, List, length, ap, ◌∙◌}
use Rattle.aec_params.specs.declared.fault.Fault.{Fault}
use Rattle.aec_engine.specs.Transfers.{answer_by}
use Rattle.aec_engine.specs.Buffers.{left_of, FillsOne}
use Rattle.aec_c.specs.declared.reply.Reply.{Reply}
use Rattle.aec_c.specs.Replies.{reply_of, Replies}

pub replies_of : (answers : Result (List ℕ) Fault → Type 0) (before after : List ℕ) (room : ℕ) (r : Result ℕ Fault) (reply : Reply)
    → room ≡ length before → FillsOne answers before after r → reply ≡ reply_of r room → Replies answers before after reply
replies_of answers before after room r reply same one is = by_answer one.answer one.answered one.told one.left
  where
    by_answer : (answer : Result (List ℕ) Fault) → answers answer → r ≡ answer_by (λ (bytes : List ℕ). length bytes) answer → after ≡ left_of answer before
        → Replies answers before after reply
    by_answer (Ok bytes) answered told left = record {
      answer = Ok bytes;
      answered = answered;
      left = left;
      replied = is ∙ ap (λ r. reply_of r room) told ∙ ap (reply_of (Ok (length bytes))) same;
    }
    by_answer (Err fault) answered told left = record {
      answer = Err fault;
      answered = answered;
      left = left;
      replied = is ∙ ap (λ r. reply_of r room) told;
    }

pub ruleset replied = (replies_of)
