use Rattle.std.proofs.Common.{◌≡◌, ◌+◌, List, drop, length, refl, sym, ap, ◌∙◌, arith}
use Rattle.un_frame.specs.Bytes.{Place}
use Rattle.un_frame.specs.declared.span.Span.{Span}
use Rattle.un_wire.specs.Places.{places_at}
use Rattle.un_wire.proofs.SpanLemmas.{filled_from, filled_none, filled_on}
use Rattle.un_wire.proofs.spans.fill.Goals as goal

pub loop-span-preserved : goal.loop-span-preserved
loop-span-preserved c =
    let bytes = c.args.bytes.now in
    let count = c.loop-span.count in
    let rest = c.in-Some.ensures.span.0 in
    let here = c.in-Some.ensures.span.1 in
    let after : places_at bytes c.next-cursor.result.place ≡ rest = c.next-cursor.ensures.places ∙ ap (λ (places : List Place). drop 1 places) here in
    let before = ap (λ (places : List Place). length places) here in
    let behind = ap (λ (places : List Place). length places) after in
    let so_far = c.loop-span.invariant.counted in
    record {
      sound = c.next-cursor.ensures.sound;
      counted = omega (arith, so_far, before, behind);
      filled = ap (λ (places : List Place). filled_from (count + 1) places c.put.new.spans) after ∙ ap (λ (spans : List Span). filled_from (count + 1) rest spans) c.put.ensures
          ∙ filled_on count (count + 1) c.in-Some.span (places_at bytes c.loop-span.cursor.place) rest c.loop-span.spans refl here ∙ c.loop-span.invariant.filled;
    }

pub returns-clause-spans : goal.returns-clause-spans
returns-clause-spans c =
    let none = c.in_default.ensures.end in
    sym (filled_none c.loop-span.count c.loop-span.spans) ∙ ap (λ (places : List Place). filled_from c.loop-span.count places c.loop-span.spans) (sym none) ∙ c.loop-span.invariant.filled
