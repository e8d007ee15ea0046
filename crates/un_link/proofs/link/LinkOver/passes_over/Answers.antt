use Rattle.std.proofs.Common.{sym, ◌∙◌}
use Rattle.un_link.proofs.Offers.{spent_writes}
use Rattle.un_link.proofs.link.LinkOver.passes_over.Goals as goal

pub returns-in-Offer : goal.returns-in-Offer
returns-in-Offer g c = rw c.in-Offer.is (λ e. spent_writes c.args.self.now.script c.args.self.now.log.history c.in-Offer.lane c.in-Offer.sender (sym c.is_spent.ensures ∙ e))
