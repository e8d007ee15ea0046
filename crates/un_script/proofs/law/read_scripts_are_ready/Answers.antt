use Rattle.un_script.proofs.LawLemmas.{read_ready}
use Rattle.un_script.proofs.law.read_scripts_are_ready.Goals as goal

pub returns : goal.returns
returns c = read_ready
