use Rattle.std.proofs.Common.{refl, sym, subst, length, arith, ◌∙◌}
use Rattle.un_frame.specs.declared.params.Lane.TheVariants.{Inward}
use Rattle.un_endpoint.specs.EndOutcomes.{Keeps}
use Rattle.un_agg.specs.Held.{Held, end_of}
use Rattle.un_agg.specs.Gadget.{held_in}
use Rattle.un_agg.proofs.Adding.{fits_capacity, kept_open}
use Rattle.un_agg.proofs.gadget.GadWrapBuilder.offer.Goals as goal

pub overflow_cast-frame : goal.overflow_cast-frame
overflow_cast-frame c =
    let fits = rw (← c.self.view_is) at c.requires.fits in
    let most = fits_capacity c.self.inside.block.params (length c.args.frame.now) fits in
    let small = c.self.invariant.small in
    omega (arith, most, small)

pub returns-then-keeps-clause-built : goal.returns-then-keeps-clause-built
returns-then-keeps-clause-built c =
    let old = held_in c.self.inside in
    let pool = c.args.pool.now in
    let alone = rw (← c.self.view_is) at c.requires.fits in
    let kept = rw (← c.self.view_is) at c.keep.ensures in
    let keeps = rw (← c.self.view_is) at (sym c.keeps.ensures ∙ c.if-keeps.true) in
    rw (← c.self.view_is) (subst (λ (h : Held). Keeps (end_of Inward old pool) (end_of Inward h pool) c.args.frame.now c.args.number) (sym kept) (record {
      stays_open = kept_open old c.args.frame.now c.args.number keeps alone;
      host = λ e. absurd (cc);
      gadget = λ e. (refl, refl);
      from_is = refl;
      frames_are = refl;
      pending_is = refl;
      rest = refl;
    }))
