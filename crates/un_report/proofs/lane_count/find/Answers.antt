use Rattle.std.proofs.Common.{length, ap, sym, ◌∙◌, arith}
use Rattle.un_report.specs.Counts.{span_size}
use Rattle.un_report.proofs.LaneCounts.{found, passed}
use Rattle.un_report.proofs.lane_count.find.Goals as goal

pub returns-in-Some-clause-datagrams : goal.returns-in-Some-clause-datagrams
returns-in-Some-clause-datagrams c =
    let here = found c.args.lane c.args.journal.now.history c.loop-at.at c.args.index _ _ (c.in-Some.begin, c.in-Some.end) c.requires.sound c.requires.within (omega arith) c.entry-line.ensures (sym c.in-Some.ensures) in
    c.saturating_sub.ensures ∙ sym (ap span_size (rw c.loop-at.invariant.same at here.spans))

pub returns-in-Some-clause-bytes : goal.returns-in-Some-clause-bytes
returns-in-Some-clause-bytes c =
    let here = found c.args.lane c.args.journal.now.history c.loop-at.at c.args.index _ _ (c.in-Some.begin, c.in-Some.end) c.requires.sound c.requires.within (omega arith) c.entry-line.ensures (sym c.in-Some.ensures) in
    sym (ap length (rw c.loop-at.invariant.same at here.carries))

pub returns-in-Some-clause-ended : goal.returns-in-Some-clause-ended
returns-in-Some-clause-ended c =
    let here = found c.args.lane c.args.journal.now.history c.loop-at.at c.args.index _ _ (c.in-Some.begin, c.in-Some.end) c.requires.sound c.requires.within (omega arith) c.entry-line.ensures (sym c.in-Some.ensures) in
    rw c.loop-at.invariant.same at here.counts_on

pub loop-at-preserved : goal.loop-at-preserved
loop-at-preserved c = record { same = passed c.args.lane c.args.journal.now.history c.loop-at.at _ _ c.entry-line.ensures (sym c.made_span.ensures ∙ c.in_default.is) ∙ c.loop-at.invariant.same }
