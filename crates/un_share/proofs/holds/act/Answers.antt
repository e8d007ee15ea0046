use Rattle.std.proofs.Common.{sym, ap, ◌∙◌}
use Rattle.un_share.proofs.Known.{known_at_entry, flying_at_entry, none_left}
use Rattle.un_share.proofs.holds.act.Goals as goal

pub returns-then-finished-clause-none_known : goal.returns-then-finished-clause-none_known
returns-then-finished-clause-none_known g c =
    let e = c.enter-guard.ensures.view in
    none_left _ _ _ _ c.leave.ensures.known (sym (flying_at_entry _ _ _ _ _ e.1 e.2)) (known_at_entry _ _ _ _ _ e.1 e.2 ∙ c.requires.none_known)

pub returns-clause-none_known : goal.returns-clause-none_known
returns-clause-none_known g c =
    let e = c.enter-guard.ensures.view in
    let p = c.perform-answer.ensures in
    none_left _ _ _ _ c.leave-2.ensures.known (p.flights ∙ sym (ap (λ v. v.flying) p.same.2 ∙ flying_at_entry _ _ _ _ _ e.1 e.2)) (ap (λ v. v.known) p.same.2 ∙ known_at_entry _ _ _ _ _ e.1 e.2 ∙ c.requires.none_known)
