use Rattle.un_frame.specs.declared.params.Lane.TheVariants.{Outward}
use Rattle.un_link.proofs.Holding.{half_kept}
use Rattle.un_link.proofs.link.LinkOver.offers_nothing.Goals as goal

pub offers_nothing-requires-clause-kept : goal.offers_nothing-requires-clause-kept
offers_nothing-requires-clause-kept g c = half_kept Outward _ c.self.invariant
