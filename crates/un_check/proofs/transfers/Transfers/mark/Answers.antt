use Rattle.std.proofs.Common.{◌∙◌, ◌+◌, ◌<◌, length, ap, sym, subst}
use Rattle.un_check.specs.Transfers.{Transfers}
use Rattle.un_check.specs.TransferLines.{marked_at}
use Rattle.un_check.specs.TransfersInside.{transfers_in}
use Rattle.un_check.proofs.TransferLists.{set_marks}
use Rattle.un_check.proofs.transfers.Transfers.mark.Goals as goal

pub returns : goal.returns
returns c =
    let made : c.args.serial < length c.self.inside.all.items = subst (λ t. c.args.serial < length t.all) (sym c.self.view_is) c.requires in
    ap {B = Transfers} (λ all. record (transfers_in c.self.inside) { all = all; marked = c.args.serial + 1 })
    (set_marks c.args.serial c.args.cause c.index_mut-transfer.result.now c.self.inside.all.items made c.index_mut-transfer.ensures.value)
    ∙ ap {B = Transfers} (λ t. record t { all = marked_at c.args.serial c.args.cause t.all; marked = c.args.serial + 1 }) c.self.view_is
