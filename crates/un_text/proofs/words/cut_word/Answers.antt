use Rattle.std.proofs.Common.{add-one, arith}
use Rattle.std.proofs.lemmas.List.{take_rest}
use Rattle.un_text.proofs.ReadWords.{words_cut, words_whole}
use Rattle.un_text.proofs.words.cut_word.Goals as goal

pub returns-in-Some-clause-cut : goal.returns-in-Some-clause-cut
returns-in-Some-clause-cut c =
    let found = c.in-Some.ensures in
    rw (take_rest, add-one) (words_cut c.args.line.now c.in-Some.end found.0.high (λ k h. found.0.before k (omega arith) h) found.1)

pub returns-in-None-clause-cut : goal.returns-in-None-clause-cut
returns-in-None-clause-cut c = words_whole c.args.line.now (λ k h. c.in-None.ensures k (omega arith) h)
