use Rattle.std.proofs.Common.{◌≡◌, true}
use Rattle.aec_params.proofs.ListLaws.{each_passes}
use Rattle.aec_params.proofs.CodewordLaws.{flat_map-tells}
use Rattle.aec_params.proofs.laws.lists_of_codewords_differ.Goals as goal

pub returns : goal.returns
returns g c test code key tells xs ys u v l p q =
    flat_map-tells (λ x. test x ≡ true) code key tells xs ys u v l (each_passes test xs p) (each_passes test ys q)
