use Rattle.un_facts.proofs.Copies.{copies_append}
use Rattle.un_facts.proofs.copies_add_up.Goals as goal

pub returns : goal.returns
returns c = copies_append
