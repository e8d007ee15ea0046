use Rattle.std.proofs.Common.{◌≡◌, ◌∙◌, sym, true, arith}
use Rattle.un_text.specs.Words.{is_numeral}
use Rattle.un_text.proofs.ReadNumbers.{number_more, number_done, number_beyond, number_yes, number_no}
use Rattle.un_text.proofs.numbers.numeral.Goals as goal

pub returns-then-value-most : goal.returns-then-value-most
returns-then-value-most c =
    let yes_it_is : is_numeral c.args.word.now ≡ true = sym c.is_numeral.ensures ∙ c.if-not-is_numeral.false in
    let beyond = number_beyond c.loop-digit.value c.args.word.now c.loop-digit.digit-index c.args.most (omega arith) (omega arith) in
    let same = c.loop-digit.invariant.value in
    sym (number_no c.args.word.now c.args.most yes_it_is (omega (arith, beyond, same)))

pub returns-then-digit-most : goal.returns-then-digit-most
returns-then-digit-most c =
    let yes_it_is : is_numeral c.args.word.now ≡ true = sym c.is_numeral.ensures ∙ c.if-not-is_numeral.false in
    let is = c.from-digit.ensures in
    let beyond = number_beyond c.loop-digit.value c.args.word.now c.loop-digit.digit-index c.args.most (omega arith) (omega (arith, is)) in
    let same = c.loop-digit.invariant.value in
    sym (number_no c.args.word.now c.args.most yes_it_is (omega (arith, beyond, same)))

pub loop-digit-preserved : goal.loop-digit-preserved
loop-digit-preserved c = record {
  value = rw c.from-digit.ensures (sym (number_more _ c.args.word.now c.loop-digit.digit-index (omega arith)) ∙ c.loop-digit.invariant.value);
  bound = omega arith;
}

pub returns : goal.returns
returns c =
    let yes_it_is : is_numeral c.args.word.now ≡ true = sym c.is_numeral.ensures ∙ c.if-not-is_numeral.false in
    let done = number_done c.loop-digit.value c.args.word.now c.loop-digit.digit-index (omega arith) in
    sym (number_yes c.args.word.now c.args.most c.loop-digit.value yes_it_is (sym c.loop-digit.invariant.value ∙ done) c.loop-digit.invariant.bound)
