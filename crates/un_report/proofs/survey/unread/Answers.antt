use Rattle.std.proofs.Common.{arith}
use Rattle.un_facts.proofs.Lists.{none_past}
use Rattle.un_journal.specs.Script.{frames_of}
use Rattle.un_report.proofs.Feeds.{few, some_below}
use Rattle.un_report.proofs.survey.unread.Goals as goal

pub loop-index-preserved : goal.loop-index-preserved
loop-index-preserved c =
    let frames = frames_of c.args.script.now c.args.lane c.args.sender in
    let below = some_below frames c.loop-index.index _ c.in-Some.ensures in
    let high = c.loop-index.invariant.high in
    record { low = omega arith; high = omega (arith, below, high) }

pub returns-in-None : goal.returns-in-None
returns-in-None c =
    let frames = frames_of c.args.script.now c.args.lane c.args.sender in
    let above = none_past frames c.loop-index.index c.in-None.ensures in
    let high = c.loop-index.invariant.high in
    omega (arith, above, high)

pub returns : goal.returns
returns c =
    let most = few c.args.script.now c.args.lane c.args.sender in
    let high = c.loop-index.invariant.high in
    omega (arith, most, high)
