use Rattle.std.proofs.Common.{rules}
use Rattle.un_link.proofs.Fresh.{made_holds}
use Rattle.un_link.proofs.link.LinkOver.make_over.Goals as goal

pub invariant_of-result : goal.invariant_of-result
invariant_of-result g c =
    made_holds _ _ _ _ _ _ _ _ _ _ _ _ _ _ c.prove_ready.ensures c.requires.agree c.requires.out c.requires.inward c.requires.out_params c.requires.in_params
    (search rules) (search rules) (search rules) (search rules) (search rules) (search rules) (search rules) (search rules) (search rules)
