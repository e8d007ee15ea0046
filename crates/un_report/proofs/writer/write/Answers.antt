use Rattle.un_text.proofs.Putting.{puts_end, whole_written, whole_stopped, whole_cause}
use Rattle.un_report.proofs.writer.write.Goals as goal

pub returns-clause-written : goal.returns-clause-written
returns-clause-written g c =
    whole_written _ _ _ _ _ _ _ c.finish.ensures.empty c.finish.ensures.answer (puts_end _ _ _ _ _ _ _ _ _ _ (rw c.blank-page.ensures at c.put_report.ensures) c.finish.ensures.put)

pub returns-clause-stopped : goal.returns-clause-stopped
returns-clause-stopped g c =
    whole_stopped _ _ _ _ _ _ _ c.finish.ensures.answer (puts_end _ _ _ _ _ _ _ _ _ _ (rw c.blank-page.ensures at c.put_report.ensures) c.finish.ensures.put)
