-- A run of zero blocks that was read, and when no run begins the bits.
use Rattle.std.proofs.Common.{◌≡◌, ℕ, ◌+◌, Bool, true, false, Option, List, [], ◌∷◌, ◌++◌, length, drop, append_assoc, refl, ap, ◌∙◌}
use Rattle.aec_params.specs.declared.settings.Settings.{Settings}
use Rattle.aec_params.specs.Codewords.{fs}
use Rattle.aec_params.specs.Params.{IsAllowed}
use Rattle.aec_params.specs.Faults.{IsSetAt}
use Rattle.aec_params.specs.CodedDataSets.{Body, uncompressed_values, value_pairs, split_values, zero_blocks, CodedDataSet, identifier, reference_bits, body_bits, cds_bits}
use Rattle.aec_bits.specs.BitReader.{Cursor, has_one}
use Rattle.aec_bits.proofs.ZeroLemmas.{has_one-fs}
use Rattle.aec_block.specs.declared.cds.RunLen.{RunLen}
use Rattle.aec_block.specs.declared.cds.Cds.TheVariants.{Zeros}
use Rattle.aec_block.specs.ReadAt.{cds_at}
use Rattle.aec_block.specs.Gathering.{bits_at}
use Rattle.aec_block.specs.ReadCds.{answer_of, is_run_body, HasNoRun, IsReadAs}
use Rattle.aec_block.proofs.SetLemmas.{what_is_spelled_is_read}

has_one-behind : (xs ys : List Bool) → has_one ys ≡ true → has_one (xs ++ ys) ≡ true
has_one-behind [] ys one = one
has_one-behind (true ∷ xs) ys one = refl
has_one-behind (false ∷ xs) ys one = has_one-behind xs ys one

-- the code of a run has a 1
pub run-has_one : (s : Settings) (due : Bool) (old new : Cursor) (reference : Option ℕ) (len : RunLen)
    → (c : CodedDataSet) × IsReadAs s due old new c (Zeros reference len) → has_one (bits_at old) ≡ true
run-has_one s due old new reference len read = by_body c.body read.1.answer (ap has_one read.1.set.stands)
  where
    c : CodedDataSet
    c = read.0

    rest : List Bool
    rest = drop (old.pos + length (cds_bits s c)) old.list

    by_body : (body : Body) → Zeros reference len ≡ answer_of c.reference body
        → has_one (bits_at old) ≡ has_one (identifier s body ++ (reference_bits s c.reference ++ body_bits s body) ++ rest) → has_one (bits_at old) ≡ true
    by_body (uncompressed_values values) is stands = absurd (cc)
    by_body (value_pairs members) is stands = absurd (cc)
    by_body (split_values k values) is stands = absurd (cc)
    by_body (zero_blocks m) is stands =
        let front = identifier s (zero_blocks m) in
        let middle = reference_bits s c.reference in
        stands ∙ (ap has_one (append_assoc front (middle ++ fs m) rest ∙ ap (λ l. front ++ l) (append_assoc middle (fs m) rest))
        ∙ has_one-behind front (middle ++ (fs m ++ rest)) (has_one-behind middle (fs m ++ rest) (has_one-fs (fs m ++ rest) rest m refl)))

-- ---- when no run begins the bits

pub no_run-stands : (s : Settings) (due : Bool) (old : Cursor) → IsAllowed s → HasNoRun s due (bits_at old)
    → (c : CodedDataSet) → IsSetAt s due old.list old.pos c → is_run_body c.body ≡ false
no_run-stands s due old allowed none c set =
    let rest = drop (old.pos + length (cds_bits s c)) old.list in
    none c rest (ap (cds_at s due) set.stands ∙ what_is_spelled_is_read s allowed due c rest set.shape)
