-- Lists cut into pieces of one length.
use Rattle.std.specs.Prelude.{ℕ, ◌-◌, ◌%◌, List, length}
use Rattle.std.specs.Int.{div_ceil}
use Rattle.std.specs.Simd.{first_chunks}

-- a list in consecutive pieces of n; the last is shorter if n doesn't divide the length (§3; a list
-- of lists, where the code takes one piece at a time. By the law `pieces_are_the_cut` no other list
-- of such pieces joins to this list)
abbrev pub pieces_of : {X : Type 0} → ℕ → List X → List (List X)
pieces_of n xs = first_chunks n (div_ceil (length xs) n) xs

-- how much is missing from m to the next multiple of n (§3, §10)
abbrev pub up_to_multiple : ℕ → ℕ → ℕ
up_to_multiple n m = (n - m % n) % n
