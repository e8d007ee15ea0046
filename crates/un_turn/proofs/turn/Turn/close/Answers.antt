use Rattle.std.proofs.Common.{◌≡◌, Some, IsSome, refl, sym, ap, ◌∙◌, subst}
use Rattle.un_turn.specs.Views.{StartsWith}
use Rattle.un_turn.proofs.Moves.{comes_home}
use Rattle.un_turn.proofs.turn.Turn.close.Goals as goal

pub unwrap-machine-requires : goal.unwrap-machine-requires
unwrap-machine-requires g c =
    let K = g.M.Machine in
    let i = c.seat.invariant in
    let v = c.seat.inside.token.me.0 in
    let same = ap (λ p. p.view) c.seat.view_is in
    let h = comes_home K.script K.history K.flights _ v _ _ c.close_with-closed.ensures.values.2 i.2 (ap (λ x. x.shares) same ∙ c.requires.all ∙ sym (ap (λ x. x.total) same)) i.1 (ap (λ x. x.known) same ∙ c.requires.none_known) c.take.result c.take.ensures.value in
    subst IsSome (sym h.1) refl

pub returns-clause-script : goal.returns-clause-script
returns-clause-script g c =
    let K = g.M.Machine in
    let i = c.seat.invariant in
    let v = c.seat.inside.token.me.0 in
    let same = ap (λ p. p.view) c.seat.view_is in
    let h = comes_home K.script K.history K.flights _ v _ _ c.close_with-closed.ensures.values.2 i.2 (ap (λ x. x.shares) same ∙ c.requires.all ∙ sym (ap (λ x. x.total) same)) i.1 (ap (λ x. x.known) same ∙ c.requires.none_known) c.take.result c.take.ensures.value in
    let e : Some h.0 ≡ Some c.unwrap-machine.result = sym h.1 ∙ c.unwrap-machine.ensures in
    let is : h.0 ≡ c.unwrap-machine.result = cc in
    sym (ap (λ x. x.script) same) ∙ h.2 ∙ ap (λ x. Some (K.script x)) is

pub returns-clause-history : goal.returns-clause-history
returns-clause-history g c =
    let K = g.M.Machine in
    let i = c.seat.invariant in
    let v = c.seat.inside.token.me.0 in
    let same = ap (λ p. p.view) c.seat.view_is in
    let h = comes_home K.script K.history K.flights _ v _ _ c.close_with-closed.ensures.values.2 i.2 (ap (λ x. x.shares) same ∙ c.requires.all ∙ sym (ap (λ x. x.total) same)) i.1 (ap (λ x. x.known) same ∙ c.requires.none_known) c.take.result c.take.ensures.value in
    let e : Some h.0 ≡ Some c.unwrap-machine.result = sym h.1 ∙ c.unwrap-machine.ensures in
    let is : h.0 ≡ c.unwrap-machine.result = cc in
    subst (λ x. StartsWith (K.history c.unwrap-machine.result) x) (ap (λ x. x.seen) same) (subst (λ (m : g.row.M.Denot). StartsWith (K.history m) v.seen) is h.3)

pub returns-clause-none_out : goal.returns-clause-none_out
returns-clause-none_out g c =
    let K = g.M.Machine in
    let i = c.seat.invariant in
    let v = c.seat.inside.token.me.0 in
    let same = ap (λ p. p.view) c.seat.view_is in
    let h = comes_home K.script K.history K.flights _ v _ _ c.close_with-closed.ensures.values.2 i.2 (ap (λ x. x.shares) same ∙ c.requires.all ∙ sym (ap (λ x. x.total) same)) i.1 (ap (λ x. x.known) same ∙ c.requires.none_known) c.take.result c.take.ensures.value in
    let e : Some h.0 ≡ Some c.unwrap-machine.result = sym h.1 ∙ c.unwrap-machine.ensures in
    let is : h.0 ≡ c.unwrap-machine.result = cc in
    ap K.flights (sym is) ∙ h.4
