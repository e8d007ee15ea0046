use Rattle.std.proofs.Common.{◌≡◌, ◌<◌, ℕ, ◌+◌, false, true, Some, None, List, [], ◌∷◌, length, map, sym, ap, ◌∙◌, arith}
use Rattle.un_frame.specs.Wire.{frame_fits}
use Rattle.un_frame.specs.declared.params.Lane.TheVariants.{Outward}
use Rattle.un_agg.specs.Held.{Held, claim_of}
use Rattle.un_agg.specs.Host.{held_in}
use Rattle.un_agg.proofs.Adding.{added_settled, added_after, fits_capacity, same_claim}
use Rattle.un_agg.proofs.HostLemmas.{UnderWay, appended, left_over, under_way}
use Rattle.un_agg.proofs.host.HostAgg.add.Goals as goal

pub overflow_cast-frame : goal.overflow_cast-frame
overflow_cast-frame c =
    let fits = rw (← c.self.view_is) at c.requires.fits in
    let most = fits_capacity c.self.inside.block.params (length c.args.frame.now) fits in
    let small = c.self.invariant.small in
    omega (arith, most, small)

pub returns-then-fits : goal.returns-then-fits
returns-then-fits c = λ claim e.
    let a = c.self.inside in
    let next = rw (← c.self.view_is) at c.requires.next in
    let was : a.block.claim ≡ Some claim = ap (λ (h : Held). h.claim) c.self.view_is ∙ e in
    let u : UnderWay a = under_way a claim was c.self.invariant in
    let fits : frame_fits a.block.params (map length (held_in a).frames) (length c.args.frame.now) ≡ true =
    ap (λ (fs : List (List ℕ)). frame_fits a.block.params (map length fs) (length c.args.frame.now)) u.frames_are ∙ sym c.fits.ensures ∙ c.if-fits.true in
    rw (← c.self.view_is) (added_settled (held_in a) _ c.close_if_full.new.self claim c.args.frame.now c.args.number c.args.serial u.packed (rw (← c.self.view_is) at c.requires.fits) (λ some. fits) next
    (appended a c.append.new.self claim c.args.frame.now c.args.number was u c.append.ensures next) c.close_if_full.result c.close_if_full.ensures)

pub refill-requires : goal.refill-requires
refill-requires c =
    let fits = rw (← c.self.view_is) at c.requires.fits in
    let most = fits_capacity c.self.inside.block.params (length c.args.frame.now) fits in
    let same = ap (λ (h : Held). h.params) (c.self-2.view_is ∙ c.close-request.ensures.rest ∙ ap (λ (h : Held). record h { from = c.close-request.result.to; frames = []; claim = None; pending = 0 }) (sym c.self.view_is)) in
    let room = rw same at c.self-2.invariant.room in
    omega (arith, most, room)

pub returns : goal.returns
returns c = λ claim e.
    let a = c.self.inside in
    let next = rw (← c.self.view_is) at c.requires.next in
    let was : a.block.claim ≡ Some claim = ap (λ (h : Held). h.claim) c.self.view_is ∙ e in
    let u : UnderWay a = under_way a claim was c.self.invariant in
    let count = ap (λ (fs : List (List ℕ)). length fs) u.frames_are in
    let some : 0 < length a.block.frames = u.some in
    let closed = rw (← c.self.view_is) at c.close-request.ensures in
    let at : c.args.number ≡ a.from + length (held_in a).frames = next (omega arith) in
    let end : c.close-request.result.to ≡ c.args.number = closed.made.to_is ∙ sym at in
    let full : frame_fits a.block.params (map length (held_in a).frames) (length c.args.frame.now) ≡ false =
    ap (λ (fs : List (List ℕ)). frame_fits a.block.params (map length fs) (length c.args.frame.now)) u.frames_are ∙ sym c.fits.ensures ∙ c.if-fits.false in
    let held = c.self-2.view_is ∙ closed.rest in
    let left = left_over c.self-2.inside.block.claim c.self-2.inside.block.frames c.refill.new.to.items c.args.frame.now (ap (λ (h : Held). h.claim) held) c.refill.ensures.items c.requires.least in
    let new = ap (λ (fs : List (List ℕ)). record (held_in c.self-2.inside) { frames = fs }) left ∙ ap (λ (h : Held). record h { frames = c.args.frame.now ∷ [] }) held
    ∙ ap (λ (n : ℕ). record (held_in a) { from = n; frames = c.args.frame.now ∷ []; claim = None; pending = 0 }) end in
    rw (← c.self.view_is) (added_after Outward (held_in a) _ claim c.args.frame.now c.args.number c.args.serial c.close-request.result u.packed (rw (← c.self.view_is) at c.requires.fits) (omega arith) full at
    (same_claim claim (claim_of c.close-request.result) (sym was ∙ closed.claimed)) closed.made new)
