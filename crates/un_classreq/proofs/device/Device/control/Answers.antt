use Rattle.std.proofs.Common.{ℕ, List, Ok, take, refl, sym, ap, ◌∙◌}
use Rattle.un_classreq.specs.Control.{Gadget, controlled}
use Rattle.un_classreq.proofs.ControlLemmas.{stalled, accepted, is_accepted}
use Rattle.un_classreq.proofs.device.Device.control.Goals as goal

pub returns-in-Err : goal.returns-in-Err
returns-in-Err c =
    let gadget : Gadget = record { params = c.self.inside.params; state = c.self.inside.state } in (
      ap (λ (g : Gadget). controlled g c.args.setup.now c.args.payload.now) (sym c.self.view_is)
          ∙ stalled gadget c.args.setup.now c.args.payload.now c.in-Err.why (sym c.in-Err.ensures),
      refl,
    )

pub returns-in_default : goal.returns-in_default
returns-in_default c =
    let gadget : Gadget = record { params = c.self.inside.params; state = c.self.inside.state } in (
      is_accepted _ _ (ap (λ (g : Gadget). controlled g c.args.setup.now c.args.payload.now) (sym c.self.view_is)
          ∙ accepted gadget c.args.setup.now c.args.payload.now c.in-Ok.accepted (sym c.in-Ok.ensures)),
      refl,
    )

pub returns : goal.returns
returns c =
    let gadget : Gadget = record { params = c.self.inside.params; state = c.self.inside.state } in
    let cut = c.make.ensures ∙ c.truncate.ensures.items ∙ ap (take c.args.setup.now.length) c.in-Ok-whole.ensures in
    ap (λ (g : Gadget). controlled g c.args.setup.now c.args.payload.now) (sym c.self.view_is)
    ∙ accepted gadget c.args.setup.now c.args.payload.now c.in-Ok.accepted (sym c.in-Ok.ensures)
    ∙ ap (λ (bytes : List ℕ). Ok (record { gadget = record gadget { state = c.in-Ok.accepted.next }; bytes = bytes })) (sym cut)
