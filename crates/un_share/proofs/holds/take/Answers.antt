use Rattle.std.proofs.Common.{sym, ap, ◌∙◌, subst}
use Rattle.un_journal.specs.Flights.{Takes}
use Rattle.un_share.proofs.Known.{known_at_entry, flying_at_entry, none_left, attempted}
use Rattle.un_share.proofs.holds.take.Goals as goal

pub returns-then-finished-clause-known : goal.returns-then-finished-clause-known
returns-then-finished-clause-known g c =
    let e = c.enter-guard.ensures.view in
    none_left _ _ _ _ c.leave.ensures.known (sym (flying_at_entry _ _ _ _ _ e.1 e.2)) (known_at_entry _ _ _ _ _ e.1 e.2 ∙ c.requires.none_known)

pub returns-clause-known : goal.returns-clause-known
returns-clause-known g c =
    let K = g.M.Machine in
    let e = c.enter-guard.ensures.view in
    let p = c.take_part-got.ensures in
    let flying = ap (λ v. v.flying) p.same.2 ∙ flying_at_entry _ _ _ _ _ e.1 e.2 in
    attempted K.flight_of c.take_part-got.result _ _ _ _ _
    (subst (λ b. Takes K.flight_of c.take_part-got.result (K.taken (K.script c.enter-guard.result.machine) (K.history c.enter-guard.result.machine) c.args.lane) b (K.flights c.take_part-got.new.self.machine)) (sym flying) p.taken)
    c.leave-2.ensures.known (ap (λ v. v.known) p.same.2 ∙ known_at_entry _ _ _ _ _ e.1 e.2 ∙ c.requires.none_known)
