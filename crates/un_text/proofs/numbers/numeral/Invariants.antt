use Rattle.std.proofs.Common.{◌≡◌, ◌≤◌, drop}
use Rattle.un_text.specs.Words.{number_from}
use Rattle.un_text.proofs.numbers.numeral.Given as goal

abbrev pub invariant-loop-digit : goal.invariant-loop-digit
invariant-loop-digit l = record {
  value : number_from l.value (drop l.digit-index l.word) ≡ number_from 0 l.word;
  bound : l.value ≤ l.most;
}
