use Rattle.std.proofs.Common.{◌≡◌, ◌+◌, ◌∷◌, length, length-append, ◌∙◌, sym, ap, refl, arith}
use Rattle.std.proofs.lemmas.Bool.{eqb-true, eqb-false}
use Rattle.std.proofs.lemmas.List.Elements.{All-nil}
use Rattle.un_journal.specs.Log.{entries_of}
use Rattle.un_journal.proofs.Text.TracesRead.{bad_first, bad_rest, no_head, other_head, same_head, done, late, outside, grown, none_of}
use Rattle.un_journal.proofs.trace_reader.read_trace.Goals as goal

pub returns-in_default : goal.returns-in_default
returns-in_default c = rw c.bad.ensures (bad_first c.args.bytes.now (no_head c.args.bytes.now c.in_default.ensures))

pub returns-then-not-is : goal.returns-then-not-is
returns-then-not-is c =
    let cut = c.in-Some.ensures in
    rw c.bad-then-not-is.ensures (bad_first c.args.bytes.now (other_head c.args.bytes.now c.in-Some.first.now c.in-Some.more.now cut.0 cut.1 (sym c.is.ensures ∙ c.if-not-is.true)))

pub returns-in_default-cut_line : goal.returns-in_default-cut_line
returns-in_default-cut_line c =
    let h = entries_of c.loop-line.kept.items c.loop-line.lines.items in
    rw (c.bad-in_default-cut_line.ensures, c.loop-line.invariant.number) (bad_rest c.args.bytes.now h c.loop-line.rest.now c.loop-line.invariant.behind c.in_default-cut_line.ensures)

pub returns-then-is_empty : goal.returns-then-is_empty
returns-then-is_empty c =
    let h = entries_of c.loop-line.kept.items c.loop-line.lines.items in
    let cut = c.in-Some-cut_line.ensures in
    rw c.journal_of.ensures (
      c.loop-line.invariant.behind.0,
      done c.args.bytes.now h c.loop-line.rest.now c.in-Some-cut_line.line.now c.in-Some-cut_line.more.now c.loop-line.invariant.behind cut.1
          (sym c.is-in-loop-line.ensures ∙ c.if-is.true) (eqb-true (length c.in-Some-cut_line.more.now) 0 (sym c.is_empty.ensures ∙ c.if-is_empty.true)),
    )

pub returns-else-is_empty : goal.returns-else-is_empty
returns-else-is_empty c =
    let h = entries_of c.loop-line.kept.items c.loop-line.lines.items in
    let cut = c.in-Some-cut_line.ensures in
    let number : c.loop-line.number + 1 ≡ length h + 3 = let n = c.loop-line.invariant.number in omega (arith, n) in
    rw (c.bad-else-is_empty.ensures, number) (late c.args.bytes.now h c.loop-line.rest.now c.in-Some-cut_line.line.now c.in-Some-cut_line.more.now c.loop-line.invariant.behind cut.1
    (sym c.is-in-loop-line.ensures ∙ c.if-is.true) (let some = eqb-false (length c.in-Some-cut_line.more.now) 0 (sym c.is_empty.ensures ∙ c.if-is_empty.false) in omega (arith, some)))

pub returns-in-Err-Outside : goal.returns-in-Err-Outside
returns-in-Err-Outside c =
    let h = entries_of c.loop-line.kept.items c.loop-line.lines.items in
    rw (c.bad-in-Err-Outside.ensures, c.loop-line.invariant.number) (outside c.args.bytes.now h c.loop-line.rest.now c.in-Some-cut_line.line.now c.in-Some-cut_line.more.now c.loop-line.invariant.behind c.in-Some-cut_line.ensures
    (sym c.is-in-loop-line.ensures ∙ c.if-is.false) (rw c.in-Err-Outside.field-0-is at c.in-Err-Outside.ensures.read))

pub loop-line-init : goal.loop-line-init
loop-line-init c =
    let cut = c.in-Some.ensures in
    let none = none_of c.new-kept.result.items c.new-lines.result.items c.new-lines.ensures.items in
    let long = ap length cut.1 ∙ length-append c.in-Some.first.now (10 ∷ c.in-Some.more.now) in
    record {
      stored = rw c.new-lines.ensures.items (All-nil _);
      behind = rw none (same_head c.args.bytes.now c.in-Some.first.now c.in-Some.more.now cut.1 (sym c.is.ensures ∙ c.if-not-is.false));
      number = rw none refl;
      few = omega (arith, long);
    }

pub loop-line-preserved : goal.loop-line-preserved
loop-line-preserved c =
    let h = entries_of c.loop-line.kept.items c.loop-line.lines.items in
    let g = entries_of c.read_entry.new.kept.items c.read_entry.new.lines.items in
    let cut = c.in-Some-cut_line.ensures in
    let r = c.in-Ok.ensures.read in
    let more = grown c.args.bytes.now h g c.loop-line.rest.now c.in-Some-cut_line.line.now c.in-Some-cut_line.more.now r.0 c.loop-line.invariant.behind cut.1 r.1 r.2 in
    let long : length c.loop-line.rest.now ≡ length c.in-Some-cut_line.line.now + (1 + length c.in-Some-cut_line.more.now) = ap length cut.1 ∙ length-append c.in-Some-cut_line.line.now (10 ∷ c.in-Some-cut_line.more.now) ∙ omega arith in
    record {
      stored = c.in-Ok.ensures.stored;
      behind = more.0;
      number = let n = c.loop-line.invariant.number in omega (arith, n, more.1);
      few = let n = c.loop-line.invariant.few in omega (arith, n, long);
    }
