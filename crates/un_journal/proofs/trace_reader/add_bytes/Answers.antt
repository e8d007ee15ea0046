use Rattle.std.proofs.Common.{length, ◌/◌, ap, sym, ◌∙◌, arith}
use Rattle.un_text.proofs.ReadFields.{upper_bytes, odd_bytes, filled, taken_all}
use Rattle.un_journal.proofs.trace_reader.add_bytes.Goals as goal
use Rattle.un_journal.proofs.trace_reader.add_bytes.Goals.{then-has_upper-via-then-has_upper, then-has_upper-via-else-has_upper+then-digits-ne0}

pub returns-then-has_upper : goal.returns-then-has_upper
returns-then-has_upper c = elim c.then-has_upper.branch [
  | then-has_upper-via-then-has_upper w ↦ upper_bytes c.args.digits.now (sym c.has_upper.ensures ∙ w.if-has_upper.true)
  | then-has_upper-via-else-has_upper+then-digits-ne0 w ↦ odd_bytes c.args.digits.now (λ e. let k = w.if-digits-ne0.true in absurd (omega (arith, e, k)))
]

pub returns-then-decode : goal.returns-then-decode
returns-then-decode c =
    let kept = c.args.kept.now.items in
    let items = c.as_mut_slice.ensures.value ∙ (rw c.if-is_err.ensures.negation at c.resize.ensures.items) in
    let f = filled kept _ c.decode.new.bytes c.args.digits.now c.len-from.result (length c.args.digits.now / 2) c.decode.result
    (c.len-from.ensures ∙ c.args.kept.now.ok.0) (c.decode.auto.bytes ∙ ap length items) (rw items at c.decode.ensures) c.if-decode.true (sym c.has_upper.ensures ∙ c.if-has_upper.false) in
    (f.0, f.1, taken_all _ c.decode.new.bytes _ (sym (c.decode.auto.bytes ∙ c.as_mut_slice.ensures.len)) ∙ f.2)
