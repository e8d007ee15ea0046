use Rattle.std.proofs.Common.{length, length-append, ap, ◌∙◌}
use Rattle.std.proofs.lemmas.List.Elements.{recursion_from_All}
use Rattle.un_journal.proofs.StoredEntries.{entries_push}
use Rattle.un_journal.proofs.Text.EntriesRead.{entry_as}
use Rattle.un_journal.proofs.trace_reader.read_entry.Goals as goal

pub returns-in-Ok-clause-read : goal.returns-in-Ok-clause-read
returns-in-Ok-clause-read c =
    let kept = c.args.kept.now.items in
    let r = c.in_ok-add_bytes.ensures in (
      (c.in-Some.line, r.0),
      entry_as c.args.text.now c.in-Some.digits.now r.0 c.in-Some.line c.in-Some.ensures r.1,
      rw (c.in-Ok.ensures.items, r.2) (entries_push kept r.0 c.args.lines.now.items c.in-Some.line _ _
          (rw (← c.args.kept.now.ok.0) (recursion_from_All _ _ c.requires)) (c.len-from.ensures ∙ c.args.kept.now.ok.0)
          (c.len-to.ensures ∙ c.add_bytes.new.kept.ok.0 ∙ ap length r.2 ∙ length-append kept r.0)),
    )
