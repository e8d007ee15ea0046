use Rattle.std.proofs.Common.{sym}
use Rattle.un_wire.proofs.WriteLemmas.{packs_ncm}
use Rattle.un_wire.proofs.ntb.NtbWire.packs.Goals as goal

pub returns : goal.returns
returns g c = rw (← c.self.view_is) (sym (packs_ncm g.row.WIDTH c.self.inside.params.class c.args.lane c.self.invariant.class))
