-- What calls keep of a workspace; `format_of`, `called` and `read` are its codec's.
use Rattle.std.specs.Prelude.{◌≡◌, ℕ}
use Rattle.aec_bits.specs.Codec.{Format}
use Rattle.aec_edit.specs.Workspace.{Contents}
use Rattle.aec_edit.specs.Calls.{RisesAtMost}

-- the limit and the format are unchanged
pub record KeepsRules {C : Type 0} (format_of : C → Format) (old new : Contents C) : Type 0 where
  pub limit : new.limit ≡ old.limit
  pub format : format_of new.codec ≡ format_of old.codec

-- the limit and the codec are unchanged
pub record KeepsCodec {C : Type 0} (old new : Contents C) : Type 0 where
  pub limit : new.limit ≡ old.limit
  pub codec : new.codec ≡ old.codec

-- samples, limit and format are unchanged, and the counts of coded and of decoded intervals have
-- risen by at most these numbers
pub record KeepsSamples {C : Type 0} (format_of : C → Format) (called read : C → ℕ) (coded decoded : ℕ)
    (old new : Contents C) : Type 0 where
  pub samples : new.samples ≡ old.samples
  pub limit : new.limit ≡ old.limit
  pub format : format_of new.codec ≡ format_of old.codec
  pub calls : RisesAtMost coded (called old.codec) (called new.codec)
  pub reads : RisesAtMost decoded (read old.codec) (read new.codec)

-- samples, limit, format, room and the count of calls are unchanged, and the count of decoded
-- intervals has risen by at most `most`
pub record IsOnlyRead {C : Type 0} (format_of : C → Format) (called read : C → ℕ) (most : ℕ)
    (old new : Contents C) : Type 0 where
  pub samples : new.samples ≡ old.samples
  pub limit : new.limit ≡ old.limit
  pub format : format_of new.codec ≡ format_of old.codec
  pub room : new.room ≡ old.room
  pub calls : called new.codec ≡ called old.codec
  pub reads : RisesAtMost most (read old.codec) (read new.codec)
