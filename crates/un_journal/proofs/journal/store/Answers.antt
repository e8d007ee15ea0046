use Rattle.std.proofs.Common.{◌≡◌, ◌++◌, length, length-append, ap, ◌∙◌, arith, rules}
use Rattle.un_journal.proofs.StoredEntries.{are_more, entries_push}
use Rattle.std.proofs.lemmas.List.Elements.{recursion_from_All}
use Rattle.un_journal.proofs.journal.store.Goals as goal

pub returns-clause-history : goal.returns-clause-history
returns-clause-history c =
    let grown : c.extend_from_slice.new.self.items ≡ c.args.kept.now.items ++ c.args.bytes.now = search rules in
    rw (grown, c.push_reserved.ensures.items) (entries_push c.args.kept.now.items c.args.bytes.now c.args.lines.now.items c.args.line _ _
    (rw (← c.args.kept.now.ok.0) (recursion_from_All _ _ c.requires.stored)) (c.len-from.ensures ∙ c.args.kept.now.ok.0)
    (c.len-to.ensures ∙ c.extend_from_slice.new.self.ok.0 ∙ ap length grown ∙ length-append c.args.kept.now.items c.args.bytes.now))

pub returns-clause-entries : goal.returns-clause-entries
returns-clause-entries c =
    rw (returns-clause-history c) (are_more _ (c.args.line, c.args.bytes.now) c.requires.entries
    (c.numbers_fit.ensures, c.requires.reason, c.requires.carried, λ i. omega (arith, c.type_inv.bytes i)))
