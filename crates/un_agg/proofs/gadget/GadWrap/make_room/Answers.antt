use Rattle.std.proofs.Common.{◌≡◌, ◌+◌, ℕ, true, false, None, List, [], ◌∷◌, sym, ap, ◌∙◌}
use Rattle.un_frame.specs.Lanes.{packs}
use Rattle.un_frame.specs.declared.params.Lane.TheVariants.{Inward}
use Rattle.un_agg.specs.Held.{Held, claim_of}
use Rattle.un_agg.specs.Block.{Block}
use Rattle.un_agg.specs.Gadget.{held_in}
use Rattle.un_agg.proofs.Adding.{added_after, added_alone, not_kept}
use Rattle.un_agg.proofs.HostLemmas.{nothing_packed}
use Rattle.un_agg.proofs.gadget.GadWrap.make_room.Goals as goal

pub returns-then-not-packs : goal.returns-then-not-packs
returns-then-not-packs c =
    let a = c.self.inside in
    let alone : packs a.block.params.class Inward ≡ false = sym c.packs.ensures ∙ c.if-not-packs.true in
    let none = nothing_packed a.block.frames (packs a.block.params.class Inward) c.self.invariant.packs_it alone in
    let left = λ (fs : List (List ℕ)). record (held_in a) { from = c.args.number + 1; frames = fs } in
    let new = ap (λ (b : Block). record { params = b.params; from = c.args.number + 1; frames = b.frames; claim = None; pending = 0 }) c.build_one.ensures.block ∙ ap left none in
    rw (← c.self.view_is) (added_alone Inward (held_in a) _ (claim_of c.args.request) c.args.frame.now c.args.number c.args.serial c.build_one.result alone none
    (sym c.build_one.ensures.claimed) c.build_one.ensures.made new)

pub returns : goal.returns
returns c =
    let a = c.self.inside in
    let packed : packs a.block.params.class Inward ≡ true = sym c.packs.ensures ∙ c.if-not-packs.false in
    let closes = rw (← c.self.view_is) at c.requires.closes in
    let next = rw (← c.self.view_is) at c.requires.next in
    let copied = rw (← c.self.view_is) at c.close-made.ensures in
    let k = not_kept (held_in a) c.args.frame.now packed closes in
    let at = next k.some in
    let new = c.begin.ensures ∙ ap (λ (h : Held). record h { from = c.args.number; frames = c.args.frame.now ∷ [] }) copied.rest in
    rw (← c.self.view_is) (added_after Inward (held_in a) c.begin.new.self (claim_of c.args.request) c.args.frame.now c.args.number c.args.serial c.close-made.result packed (rw (← c.self.view_is) at c.requires.fits) k.some k.full at
    copied.claimed copied.made new)
