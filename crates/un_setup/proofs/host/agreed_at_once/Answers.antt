use Rattle.std.proofs.Common.{◌∙◌}
use Rattle.un_setup.proofs.Exchanged.{set_up_at_once}
use Rattle.un_setup.proofs.host.agreed_at_once.Goals as goal

pub returns-clause-set_up : goal.returns-clause-set_up
returns-clause-set_up c = set_up_at_once c.args.params.now c.make.result c.make-2.result c.requires (c.make.ensures ∙ c.new.ensures.items) (c.make-2.ensures ∙ c.new-2.ensures.items)
