use Rattle.std.proofs.Common.{add-one, arith}
use Rattle.std.proofs.lemmas.List.{take_rest}
use Rattle.un_text.proofs.ReadWords.{line_cut, line_none}
use Rattle.un_text.proofs.words.cut_line.Goals as goal

pub returns-in-Some : goal.returns-in-Some
returns-in-Some c =
    let found = c.in-Some.ensures in
    rw (take_rest, add-one) (line_cut c.args.text.now c.in-Some.end found.0.high (λ k h. found.0.before k (omega arith) h) found.1)

pub returns-in-None : goal.returns-in-None
returns-in-None c = line_none c.args.text.now (λ k h. c.in-None.ensures k (omega arith) h)
