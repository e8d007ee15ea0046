use Rattle.std.proofs.Common.{arith}
use Rattle.un_text.proofs.Putting.{puts_then, puts_as}
use Rattle.un_journal.proofs.Text.LineParts.{bytes_text}
use Rattle.un_journal.proofs.writer.put_bytes.Goals as goal

pub returns-then-bytes-gt0 : goal.returns-then-bytes-gt0
returns-then-bytes-gt0 g c =
    puts_as _ _ _ _ _ _ _ _ (bytes_text c.args.bytes.now (omega arith)) (puts_then _ _ _ _ _ _ _ _ _ _ _ c.put.ensures c.put_hex.ensures)
