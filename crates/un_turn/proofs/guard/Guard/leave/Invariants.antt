use Rattle.un_facts.specs.Numbers.{one_if}
use Rattle.un_turn.proofs.guard.Guard.leave.Given as goal

abbrev pub ghosts-free : goal.ghosts-free
ghosts-free g a = record { amount = one_if a._called }
