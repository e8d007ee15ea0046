use Rattle.un_lane.proofs.Stillness.{can_offer_is}
use Rattle.un_lane.proofs.path.Path.can_offer.Goals as goal

pub returns : goal.returns
returns g c = λ lines sender frame w e most.
    let inside = rw (← c.self.view_is) at w in
    let low = rw (← c.self.view_is) at most in
    rw (← c.self.view_is) (can_offer_is _ lines sender frame c.args.length c.can_offer.result inside c.can_offer.ensures e low)
