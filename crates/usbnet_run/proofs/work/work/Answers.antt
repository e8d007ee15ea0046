use Rattle.std.proofs.Common.{◌≡◌, ap, ◌∙◌}
use Rattle.un_journal.specs.Script.{Script}
use Rattle.un_link.specs.Link.{Link, flights_of}
use Rattle.un_turn.specs.declared.view.View.{View}
use Rattle.usbnet_run.proofs.Eleven.{kept_link, same_plan}
use Rattle.usbnet_run.proofs.work.work.Goals as goal

pub returns-clause-kept : goal.returns-clause-kept
returns-clause-kept g c =
    let is : c.into_inner-link.result ≡ c.close.result.value = c.into_inner-link.ensures in
    let plan = same_plan _ _ _ _ c.close.ensures.script (ap (λ (v : View Script). v.script) c.in_ok-turn.ensures.1) c.run_workers-seat.ensures.worked.script in
    kept_link c.args.link.script c.into_inner-link.result c.drain.new.self
    (ap (λ (l : Link). l.script) is ∙ plan ∙ ap (λ (l : Link). l.script) c.in_ok-boxed.ensures.ok) c.prove_holds.ensures (ap flights_of is ∙ c.close.ensures.none_out) c.drain.ensures.history
