use Rattle.std.proofs.Common.{rules, arith, ◌≤◌, length}
use Rattle.std.proofs.lemmas.Option.{slice_get_within}
use Rattle.un_facts.proofs.Lists.{none_past}
use Rattle.un_journal.specs.Script.{frames_of}
use Rattle.un_link.proofs.Rooms.{feed_more, feed_all, feed_few}
use Rattle.un_link.proofs.room.feed_bytes.Goals as goal

pub loop-index-preserved : goal.loop-index-preserved
loop-index-preserved c =
    record {
      bytes = feed_more (frames_of c.args.script.now c.args.lane c.args.sender) c.loop-index.index c.args.before c.loop-index.bytes c.in_ok-bytes.bytes c.in-Some.frame.now c.in-Some.ensures c.loop-index.invariant.bytes (search rules);
      within = omega (arith, slice_get_within (frames_of c.args.script.now c.args.lane c.args.sender) c.loop-index.index c.in-Some.frame.now c.in-Some.ensures);
    }

pub returns-after-loop-index : goal.returns-after-loop-index
returns-after-loop-index c =
    let few : length (frames_of c.args.script.now c.args.lane c.args.sender) ≤ 65536 = feed_few c.args.script.now c.args.lane c.args.sender c.prove_ready.ensures in
    absurd (omega (arith, few, c.loop-index.invariant.within, c.loop-index-test.false))

pub returns-in_default : goal.returns-in_default
returns-in_default c =
    feed_all (frames_of c.args.script.now c.args.lane c.args.sender) c.loop-index.index c.args.before c.loop-index.bytes (none_past (frames_of c.args.script.now c.args.lane c.args.sender) c.loop-index.index c.in_default.ensures) c.loop-index.invariant.bytes
