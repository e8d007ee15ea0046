use Rattle.std.proofs.Common.{◌++◌, refl, ap, ◌∙◌}
use Rattle.un_text.specs.declared.page.Page.{Page}
use Rattle.un_text.specs.Puts.{blank}
use Rattle.un_text.proofs.Putting.{puts_three, puts_pending, puts_none, puts_end}
use Rattle.usbnet_run.specs.Decode.{commands_text, head_text}
use Rattle.usbnet_run.proofs.Endings.{writes_put}
use Rattle.usbnet_run.proofs.decode.write_decoded.Goals as goal

pub returns-clause-writes : goal.returns-clause-writes
returns-clause-writes g c =
    let fresh = ap (λ (p : Page). p.failed) c.blank-page.ensures in
    let headed : Page = record { pending = c.push_head.new.buffer; failed = c.blank-page.result.failed } in
    let begun = c.push_head.ensures ∙ ap (λ n. head_text c.args.class n) c.count-count.ensures in
    let last = c.push_commands.ensures ∙ ap (λ n. c.reserve.new.self.pending ++ commands_text n) c.commands-commands.ensures in
    writes_put c.finish.result _ _ _ _ _ _ c.finish.ensures.empty c.finish.ensures.answer
    (puts_end _ _ _ _ _ _ _ _ _ _
    (puts_three _ _ _ _ _ _ _ _ _ _ _ _ _ _ _ (puts_pending _ _ _ _ blank blank headed (head_text c.args.class _) fresh begun (puts_none _ _ blank)) c.put_frames.ensures (puts_pending _ _ _ _ _ c.reserve.new.self _ _ refl last c.reserve.ensures.put))
    c.finish.ensures.put)
