use Rattle.std.proofs.Common.{◌≡◌, ◌∙◌, sym, []}
use Rattle.un_eem.specs.Walk.{packet_at}
use Rattle.un_eem.proofs.Steps.{packets_end, packets_on}
use Rattle.un_eem.proofs.items.Items.next.Goals as goal

pub returns-then-self-clause-end : goal.returns-then-self-clause-end
returns-then-self-clause-end c =
    let none : c.args.self.now ≡ [] = sym c.self.view_is ∙ packets_end c.self.inside.bytes.now c.self.inside.at c.if-self.true in
    (none, none)

pub returns-clause-item : goal.returns-clause-item
returns-clause-item c =
    let bytes = c.self.inside.bytes.now in
    let at = c.self.inside.at in
    (packet_at bytes at, c.item_at-next.ensures.item, sym c.self.view_is ∙ packets_on bytes at c.item_at-next.result.1 c.if-self.false c.item_at-next.ensures.next)
