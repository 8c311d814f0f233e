-- Lists of places, kept as pieces.
use Rattle.std.proofs.Common.{◌≡◌, ℕ, ◌+◌, ◌-◌, ◌<◌, ◌≤◌, List, [], ◌∷◌, ◌++◌, length, take, drop, sym, ap, ◌∙◌, arith, append_assoc, length-append}
use Rattle.std.specs.List.{range_with_len}
use Rattle.std.proofs.lemmas.List.{append-nil, drop_at, take_at, drop-drop}
use Rattle.std.proofs.lemmas.List.FromFn.{length-range_with_len}
use Rattle.aec_params.proofs.RemovalLaws.{range-append}
use Rattle.aec_edit.specs.declared.pieces.Piece.{Piece}
use Rattle.aec_edit.specs.Pieces.{piece_len, piece_places, places_of, places_after}

-- one more piece at the end
pub places_of-push : (ps : List Piece) (p : Piece) → places_of (ps ++ p ∷ []) ≡ places_of ps ++ piece_places p
places_of-push [] p = append-nil (piece_places p)
places_of-push (q ∷ ps) p =
    ap (λ l. piece_places q ++ l) (places_of-push ps p) ∙ sym (append_assoc (piece_places q) (places_of ps) (piece_places p))

pub places_after-push : (ps : List Piece) (p : Piece) → places_after (ps ++ p ∷ []) ≡ piece_places p ++ places_after ps
places_after-push [] p = sym (append-nil (piece_places p))
places_after-push (q ∷ ps) p =
    ap (λ l. l ++ piece_places q) (places_after-push ps p) ∙ append_assoc (piece_places p) (places_after ps) (piece_places q)

-- the first piece was empty, and the next one is taken
pub taken_next : (places : List ℕ) (empty next : Piece) (was now : List Piece) → piece_len empty ≡ 0
    → places ≡ piece_places empty ++ places_after was → was ≡ now ++ next ∷ [] → places ≡ piece_places next ++ places_after now
taken_next places empty next was now none so_far popped =
    so_far
    ∙ ap (λ n. range_with_len empty.first n ++ places_after was) none
    ∙ ap places_after popped
    ∙ places_after-push now next

-- a piece is taken as two: its first places, and the others, which stay
pub cut_piece : (places : List ℕ) (first stop cut most : ℕ) (mid now : List Piece) → cut ≡ first + most → most < stop - first
    → places ≡ range_with_len first (stop - first) ++ places_after mid → now ≡ mid ++ (record { first = cut; stop = stop }) ∷ []
    → places ≡ range_with_len first (cut - first) ++ places_after now
cut_piece places first stop cut most mid now cut_is less taken pushed =
    let parts : stop - first ≡ most + (stop - cut) = omega arith in
    let front : most ≡ cut - first = omega arith in
    taken
    ∙ ap (λ n. range_with_len first n ++ places_after mid) parts
    ∙ ap (λ l. l ++ places_after mid) (range-append first most (stop - cut))
    ∙ ap (λ n. (range_with_len first most ++ range_with_len n (stop - cut)) ++ places_after mid) (sym cut_is)
    ∙ append_assoc (range_with_len first most) (range_with_len cut (stop - cut)) (places_after mid)
    ∙ ap (λ l. range_with_len first most ++ l) (sym (ap places_after pushed ∙ places_after-push mid (record { first = cut; stop = stop })))
    ∙ ap (λ n. range_with_len first n ++ places_after now) front

-- what is left after a piece was taken
pub left_after : (piece : Piece) (places later : List ℕ) → places ≡ piece_places piece ++ later → later ≡ drop (piece_len piece) places
left_after piece places later taken =
    sym (ap (drop (piece_len piece)) taken ∙ drop_at (piece_places piece) later (piece_len piece) (length-range_with_len piece.first (piece_len piece)))

-- places are dropped, a piece at a time
pub drops_more : (piece : Piece) (all places later : List ℕ) (len left next : ℕ) → left ≤ len → piece_len piece ≤ left → next ≡ left - piece_len piece
    → places ≡ drop (len - left) all → places ≡ piece_places piece ++ later → later ≡ drop (len - next) all
drops_more piece all places later len left next few part next_is so_far taken =
    let sum : len - left + piece_len piece ≡ len - next = omega arith in
    left_after piece places later taken ∙ ap (drop (piece_len piece)) so_far ∙ drop-drop (piece_len piece) (len - left) all ∙ ap (λ n. drop n all) sum

-- the last piece before the cut moves after it
pub moved_back : (piece : Piece) (front before after later : List Piece) → before ≡ front ++ piece ∷ [] → later ≡ after ++ piece ∷ []
    → places_of front ++ places_after later ≡ places_of before ++ places_after after
moved_back piece front before after later popped pushed =
    ap (λ l. places_of front ++ l) (ap places_after pushed ∙ places_after-push after piece)
    ∙ sym (append_assoc (places_of front) (piece_places piece) (places_after after))
    ∙ ap (λ l. l ++ places_after after) (sym (ap places_of popped ∙ places_of-push front piece))

pub length-before : (piece : Piece) (front before : List Piece) → before ≡ front ++ piece ∷ []
    → length (places_of before) ≡ length (places_of front) + piece_len piece
length-before piece front before popped =
    ap length (ap places_of popped ∙ places_of-push front piece)
    ∙ length-append (places_of front) (piece_places piece)
    ∙ ap (λ n. length (places_of front) + n) (length-range_with_len piece.first (piece_len piece))

-- the next piece moves before the cut
pub moved_forth : (piece : Piece) (before front : List Piece) (places later : List ℕ) → front ≡ before ++ piece ∷ []
    → places ≡ piece_places piece ++ later → places_of front ++ later ≡ places_of before ++ places
moved_forth piece before front places later pushed taken =
    ap (λ l. l ++ later) (ap places_of pushed ∙ places_of-push before piece)
    ∙ append_assoc (places_of before) (piece_places piece) later
    ∙ ap (λ l. places_of before ++ l) (sym taken)

-- places are exchanged at the cut
pub exchanged_at : (piece : Piece) (all front places later : List ℕ) (after now : List Piece) (from to : ℕ) → from ≤ to → from ≡ length front
    → front ++ places ≡ all → places_after after ≡ drop (to - from) places → now ≡ after ++ piece ∷ []
    → front ++ places_after now ≡ take from all ++ (piece_places piece ++ drop to all)
exchanged_at piece all front places later after now from to order from_is whole dropped pushed =
    let sum : from + (to - from) ≡ to = omega arith in
    let head : take from all ≡ front = ap (take from) (sym whole) ∙ take_at front places from (sym from_is) in
    let tail : drop from all ≡ places = ap (drop from) (sym whole) ∙ drop_at front places from (sym from_is) in
    let rest : places_after after ≡ drop to all =
    dropped ∙ ap (drop (to - from)) (sym tail) ∙ drop-drop (to - from) from all ∙ ap (λ n. drop n all) sum in
    ap (λ l. l ++ places_after now) (sym head)
    ∙ ap (λ l. take from all ++ l) (ap places_after pushed ∙ places_after-push after piece ∙ ap (λ l. piece_places piece ++ l) rest)
