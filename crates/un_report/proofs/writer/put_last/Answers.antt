use Rattle.std.proofs.Common.{refl}
use Rattle.un_text.proofs.Putting.{puts_pending}
use Rattle.un_report.proofs.writer.put_last.Goals as goal

pub returns : goal.returns
returns g c = puts_pending _ _ _ _ _ c.reserve.new.self _ _ refl c.push_last.ensures c.reserve.ensures.put
