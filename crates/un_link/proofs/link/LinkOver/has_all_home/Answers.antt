use Rattle.std.proofs.Common.{◌∙◌}
use Rattle.un_link.proofs.Settling.{four_homes, all_home_is}
use Rattle.un_link.proofs.link.LinkOver.has_all_home.Goals as goal

pub returns : goal.returns
returns g c =
    rw (← c.self.view_is)
    (rw c.params-params.ensures at c.are_full.ensures ∙ all_home_is _ _ _ _ _ _ (four_homes _ _ _ _ _ c.self.invariant c.homes-tx_out.ensures.lines c.homes-tx_in.ensures.lines))
