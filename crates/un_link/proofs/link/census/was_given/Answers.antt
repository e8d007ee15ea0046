use Rattle.std.proofs.Common.{sym, ◌∙◌}
use Rattle.un_link.proofs.Places.{line_at, gave_at, gave_not}
use Rattle.un_link.proofs.link.census.was_given.Goals as goal

pub returns-then-gives : goal.returns-then-gives
returns-then-gives c =
    sym (gave_at c.args.lane c.args.journal.now.history c.loop-index.index c.args.number c.line.result (line_at c.args.journal.now.history c.loop-index.index c.line.result c.line.ensures) (sym c.gives.ensures ∙ c.if-gives.true))

pub loop-index-preserved : goal.loop-index-preserved
loop-index-preserved c =
    record { none = gave_not c.args.lane c.args.journal.now.history c.loop-index.index c.args.number c.line.result (line_at c.args.journal.now.history c.loop-index.index c.line.result c.line.ensures) c.loop-index.invariant.none (sym c.gives.ensures ∙ c.if-gives.false) }
