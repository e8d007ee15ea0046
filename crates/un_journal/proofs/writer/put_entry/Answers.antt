use Rattle.std.proofs.Common.{refl}
use Rattle.un_text.proofs.Putting.{puts_three, puts_as, puts_pending}
use Rattle.un_journal.proofs.Text.LineParts.{line_text}
use Rattle.un_journal.proofs.writer.put_entry.Goals as goal

pub returns : goal.returns
returns g c =
    puts_as _ _ _ _ _ _ _ _ (line_text c.args.line c.args.bytes.now)
    (puts_three _ _ _ _ _ _ _ _ _ _ _ _ _ _ _ (puts_pending _ _ _ _ _ c.reserve.new.self _ _ refl c.head.ensures c.reserve.ensures.put) c.put_bytes.ensures c.put.ensures)
