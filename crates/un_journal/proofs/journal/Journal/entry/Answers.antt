use Rattle.std.proofs.Common.{length, ap, arith}
use Rattle.un_journal.specs.Log.{Log}
use Rattle.un_journal.proofs.StoredEntries.{entries_length}
use Rattle.un_journal.proofs.journal.Journal.entry.Goals as goal

pub entry-requires-clause-within : goal.entry-requires-clause-within
entry-requires-clause-within c =
    let size = entries_length c.self.inside.bytes.items c.self.inside.lines.items in
    let same = ap (λ (l : Log). length l.history) c.self.view_is in
    let lent = ap length c.deref.ensures.value in
    omega (arith, size, same, lent)
