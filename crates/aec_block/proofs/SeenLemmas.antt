-- What is read from the word that an identifier begins.
use Rattle.std.proofs.Common.{◌≡◌, ℕ, ◌+◌, ◌<◌, sym, ◌∙◌, subst, arith}
use Rattle.aec_params.specs.declared.settings.Settings.{Settings}
use Rattle.aec_params.specs.Params.{IsAllowed, id_len}
use Rattle.aec_params.proofs.ParamsLemmas.{bits-greatest}
use Rattle.aec_bits.specs.BitReader.{Cursor, IsBehindWord}
use Rattle.aec_block.specs.Gathering.{IsSeen}
use Rattle.aec_block.proofs.CursorLemmas.{seen_further}
use Rattle.aec_block.proofs.SetLemmas.{id_len-positive, id_len-most}

-- behind the identifier
pub seen_id : (s : Settings) (old new : Cursor) (word : ℕ) → IsBehindWord old 0 word → new.list ≡ old.list → new.pos ≡ old.pos + id_len s
    → IsSeen new (id_len s) word
seen_id s old new word behind same moved =
    seen_further old new 0 (id_len s) (id_len s) word behind same moved (omega arith) (id_len-positive s) (omega (arith, id_len-most s))

pub seen_behind_id : (s : Settings) (old new : Cursor) (word len seen gone : ℕ) → IsBehindWord old 0 word → new.list ≡ old.list
    → new.pos ≡ old.pos + id_len s → len ≡ id_len s → (0 < gone → (seen ≡ word) × (gone ≡ len)) → 0 < gone → IsSeen new gone seen
seen_behind_id s old new word len seen gone behind same moved is is_seen some =
    let parts = is_seen some in
    subst (λ n. IsSeen new n seen) (sym (parts.1 ∙ is)) (subst (IsSeen new (id_len s)) (sym parts.0) (seen_id s old new word behind same moved))

-- behind the identifier and the reference sample's pattern
pub seen_behind_pattern : (s : Settings) (old mid new : Cursor) (word len bits seen gone : ℕ) → IsAllowed s → IsBehindWord old 0 word
    → mid.list ≡ old.list → mid.pos ≡ old.pos + id_len s → new.list ≡ mid.list → new.pos ≡ mid.pos + s.bits → len ≡ id_len s → bits ≡ s.bits
    → (0 < gone → (seen ≡ word) × (gone ≡ len + bits)) → 0 < gone → IsSeen new gone seen
seen_behind_pattern s old mid new word len bits seen gone allowed behind same moved same_last moved_last is_len is_bits is_seen some =
    let parts = is_seen some in
    subst (IsSeen new gone) (sym parts.0)
    (seen_further mid new (id_len s) s.bits gone word (seen_id s old mid word behind same moved).word same_last moved_last
    (omega (arith, parts.1, is_len, is_bits)) some (omega (arith, parts.1, is_len, is_bits, id_len-most s, bits-greatest s allowed)))
