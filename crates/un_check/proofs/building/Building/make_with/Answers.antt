use Rattle.std.proofs.Common.{◌≡◌, ◌↔◌, ℕ, List, IsTrue, length, sym, ap, ◌∙◌, subst, arith}
use Rattle.std.proofs.lemmas.List.{length_push}
use Rattle.un_frame.specs.Wire.{form}
use Rattle.un_check.specs.Building.{building_in}
use Rattle.un_check.specs.Drafts.{Draft}
use Rattle.un_check.proofs.BuildingSpans.{closed_some, made_before, made_whole}
use Rattle.un_check.proofs.building.Building.make_with.Goals as goal

pub returns-then-is_left-clause-same : goal.returns-then-is_left-clause-same
returns-then-is_left-clause-same c =
    let b = building_in c.self.inside in
    let closed = closed_some c.args.frame.now b c.args.span c.self.invariant.packs_it (rw (← c.self.view_is) at c.requires.closes) in
    let before = made_before c.args.frame.now b c.args.span closed (c.if-is_left.true ∙ (rw (← c.self.view_is) at c.end.ensures)) in
    rw (← c.self.view_is) (subst (λ (fs : List (List ℕ)). IsTrue c.makes-is_same.result ↔ (c.args.bytes.now ≡ form b.params c.args.serial fs)) (sym before) c.makes-is_same.ensures.same)

pub makes-requires : goal.makes-requires
makes-requires c =
    let added = ap (λ (d : Draft). length d.frames) c.add-2.ensures in
    let more = length_push c.self.inside.draft.frames c.args.frame.now in
    omega (arith, added, more)

pub returns-clause-same : goal.returns-clause-same
returns-clause-same c =
    let b = building_in c.self.inside in
    let closed = closed_some c.args.frame.now b c.args.span c.self.invariant.packs_it (rw (← c.self.view_is) at c.requires.closes) in
    let end = rw (← c.self.view_is) at c.end.ensures in
    let whole = made_whole c.args.frame.now b c.args.span closed (λ e. c.if-is_left.false (e ∙ sym end)) in
    let made = subst (λ (d : Draft). IsTrue c.makes.result ↔ (c.args.bytes.now ≡ form d.params c.args.serial d.frames)) c.add-2.ensures c.makes.ensures.same in
    rw (← c.self.view_is) (subst (λ (fs : List (List ℕ)). IsTrue c.makes.result ↔ (c.args.bytes.now ≡ form b.params c.args.serial fs)) (sym whole) made)
