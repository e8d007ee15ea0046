use Rattle.std.proofs.Common.{◌∙◌, refl, sym, arith}
use Rattle.un_report.proofs.LaneCounts.{count_skips, count_counts, count_next, count_ends, few_packets}
use Rattle.un_report.proofs.lane_count.count.Goals as goal

pub returns-then-not-concerns : goal.returns-then-not-concerns
returns-then-not-concerns c =
    count_skips c.args.packet c.args.lane c.args.journal.now.history c.args.index c.args.known.now c.line-line.result c.line-line.ensures (sym c.concerns.ensures ∙ c.if-not-concerns.true) c.requires.before

pub returns-then-not-is_end : goal.returns-then-not-is_end
returns-then-not-is_end c =
    count_counts c.args.packet c.args.lane c.args.journal.now.history c.args.index c.args.known.now.next c.args.known.now c.line-line.result c.count_line-known.result c.prove_entries.ensures c.line-line.ensures
    (sym c.concerns.ensures ∙ c.if-not-concerns.false) (sym c.is_end.ensures ∙ c.if-not-is_end.true) c.count_line-known.ensures refl c.requires.before

pub find-found-requires-clause-some : goal.find-found-requires-clause-some
find-found-requires-clause-some c =
    count_next c.args.packet c.args.lane c.args.journal.now.history c.args.index c.args.known.now c.line-line.result c.requires.within c.requires.sound c.line-line.ensures
    (sym c.concerns.ensures ∙ c.if-not-concerns.false) (sym c.is_end.ensures ∙ c.if-not-is_end.false) c.requires.before

pub returns : goal.returns
returns c =
    count_ends c.args.packet c.args.lane c.args.journal.now.history c.args.index c.find-found.result.next c.find-found.result.datagrams c.find-found.result.bytes c.args.known.now c.line-line.result c.count_end-known.result
    c.requires.within c.requires.sound c.line-line.ensures (sym c.concerns.ensures ∙ c.if-not-concerns.false) (sym c.is_end.ensures ∙ c.if-not-is_end.false)
    c.find-found.ensures.datagrams c.find-found.ensures.bytes c.find-found.ensures.ended c.find-found.ensures.order (omega arith)
    (few_packets c.find-found.result.bytes c.args.packet c.requires.packet (omega arith)) c.count_end-known.ensures c.requires.before
