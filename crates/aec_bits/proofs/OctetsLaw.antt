-- The bits of octets determine the octets, so their format is lawful.
use Rattle.std.proofs.Common.{◌≡◌, ℕ, ◌<◌, Bool, true, List, [], ◌∷◌, ◌++◌, length, take, drop, ℤ, pos, negsuc, nat_abs, refl, sym, ap, ◌∙◌, arith, append_assoc, lit≤, subst, ltb}
use Rattle.std.specs.Prelude.{int_le, int_lt}
use Rattle.std.specs.Int.{w64}
use Rattle.std.specs.Int.RustNames.{FitsSigned}
use borrow.Author.Tests.{ltb-true}
use Rattle.std.specs.List.{list_all, flat_map}
use Rattle.std.proofs.lemmas.List.{take_at, drop_at}
use Rattle.std.proofs.lemmas.Bool.{and_parts}
use Rattle.std.proofs.lemmas.Int.{ints}
use Rattle.aec_params.specs.Codewords.{binary, bits_number}
use Rattle.aec_bits.specs.Codec.{IsLawful}
use Rattle.aec_bits.specs.Octets.{octet_bits, is_octet, octets}
use Rattle.aec_params.proofs.CodewordLaws.{length-binary, bits_number-binary}

pub octet_number : (x : ℤ) → is_octet x ≡ true → (n : ℕ) × (x ≡ pos n) × (n < 256)
octet_number (pos n) h =
    let small : ltb n 256 ≡ true = (and_parts (int_le (pos 0) (pos n)) (int_lt (pos n) (pos 256)) h).1 in
    (n, refl, omega (arith, ltb-true n 256 small))
octet_number (negsuc n) h = absurd (cc)

pub same_number : (m n : ℕ) → m < 256 → n < 256 → binary 8 m ≡ binary 8 n → m ≡ n
same_number m n small few e =
    sym (bits_number-binary 8 m small) ∙ ap bits_number e ∙ bits_number-binary 8 n few

same_octet : (x y : ℤ) → is_octet x ≡ true → is_octet y ≡ true → octet_bits x ≡ octet_bits y → x ≡ y
same_octet x y held kept e =
    let m = octet_number x held in
    let n = octet_number y kept in
    m.1 ∙ ap pos (same_number m.0 n.0 m.2 n.2 (ap octet_bits (sym m.1) ∙ e ∙ ap octet_bits n.1)) ∙ sym n.1

-- if the bits of x, then xs, are those of y, then ys, x and y have equal bits, and xs equals ys
pub octet_first : (x y : ℤ) (xs ys : List Bool) → octet_bits x ++ xs ≡ octet_bits y ++ ys → (octet_bits x ≡ octet_bits y) × (xs ≡ ys)
octet_first x y xs ys e = (
  sym (take_at (octet_bits x) xs 8 (length-binary 8 (nat_abs x))) ∙ ap (take 8) e ∙ take_at (octet_bits y) ys 8 (length-binary 8 (nat_abs y)),
  sym (drop_at (octet_bits x) xs 8 (length-binary 8 (nat_abs x))) ∙ ap (drop 8) e ∙ drop_at (octet_bits y) ys 8 (length-binary 8 (nat_abs y)),
)

same_octets : (a b : List ℤ) (x y : List Bool) → list_all is_octet a ≡ true → list_all is_octet b ≡ true → length a ≡ length b
    → flat_map octet_bits a ++ x ≡ flat_map octet_bits b ++ y → (a ≡ b) × (x ≡ y)
same_octets [] [] x y held kept len e = (refl, e)
same_octets [] (v ∷ b) x y held kept len e = absurd (omega arith)
same_octets (u ∷ a) [] x y held kept len e = absurd (omega arith)
same_octets (u ∷ a) (v ∷ b) x y held kept len e =
    let first = octet_first u v (flat_map octet_bits a ++ x) (flat_map octet_bits b ++ y)
    (sym (append_assoc (octet_bits u) _ x) ∙ e ∙ append_assoc (octet_bits v) _ y) in
    let here = and_parts (is_octet u) (list_all is_octet a) held in
    let there = and_parts (is_octet v) (list_all is_octet b) kept in
    let rest = same_octets a b x y here.1 there.1 (omega arith) first.1 in
    (ap (λ w. w ∷ a) (same_octet u v here.0 there.0 first.0) ∙ ap (λ l. v ∷ l) rest.0, rest.1)

small_fits : (n : ℕ) → n < 256 → FitsSigned w64 (pos n)
small_fits n h = omega (arith, ints)

pub octets_are_lawful : IsLawful octets
octets_are_lawful = record {
  some = omega arith;
  few = lit≤ tt;
  in_range = λ x h. let n = octet_number x h in subst (FitsSigned w64) (sym n.1) (small_fits n.0 n.2);
  equal_lengths = λ a b x y s t len e. same_octets a b x y s.held t.held len e;
}
