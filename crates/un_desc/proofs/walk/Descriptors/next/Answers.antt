use Rattle.std.proofs.Common.{◌≡◌, ◌∙◌, [], length, sym, arith}
use Rattle.std.proofs.lemmas.Bool.Decides.{nat_tests}
use Rattle.un_desc.proofs.WalkLemmas.{none_left}
use Rattle.un_desc.proofs.walk.Descriptors.next.Goals as goal

pub returns-then-is_empty : goal.returns-then-is_empty
returns-then-is_empty c =
    let empty : length c.self.inside.rest.now ≡ 0 = grind (arith, nat_tests) in
    let none : c.args.self.now ≡ [] = sym c.self.view_is ∙ none_left c.self.inside.rest.now empty in
    (none, none)
