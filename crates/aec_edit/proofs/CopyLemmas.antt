-- Bits are copied, some at a time.
use Rattle.std.proofs.Common.{◌≡◌, ℕ, ◌+◌, ◌-◌, ◌≤◌, Bool, List, ◌++◌, length, take, drop, sym, ap, ◌∙◌, arith, append_assoc, take-add}
use Rattle.std.proofs.lemmas.List.{drop-drop, take_at}
use Rattle.aec_params.specs.Codewords.{binary}

pub copied_more : (list out out' before : List Bool) (start pos width next v : ℕ) → start ≤ pos → next ≡ pos + width → length (binary width v) ≡ width
    → out ≡ before ++ take (pos - start) (drop start list) → drop pos list ≡ binary width v ++ drop (pos + width) list → out' ≡ out ++ binary width v
    → out' ≡ before ++ take (next - start) (drop start list)
copied_more list out out' before start pos width next v least next_is size so_far read pushed =
    let done : ℕ = pos - start in
    let there : start + done ≡ pos = omega arith in
    let sum : done + width ≡ next - start = omega arith in
    let here : drop done (drop start list) ≡ binary width v ++ drop (pos + width) list = drop-drop done start list ∙ ap (λ n. drop n list) there ∙ read in
    let bits : take width (drop done (drop start list)) ≡ binary width v =
    ap (take width) here ∙ take_at (binary width v) (drop (pos + width) list) width size in
    pushed ∙ ap (λ l. l ++ binary width v) so_far ∙ append_assoc before (take done (drop start list)) (binary width v)
    ∙ ap (λ l. before ++ (take done (drop start list) ++ l)) (sym bits)
    ∙ ap (λ l. before ++ l) (sym (take-add done width (drop start list)) ∙ ap (λ n. take n (drop start list)) sum)
