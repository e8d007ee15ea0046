use Rattle.std.proofs.Common.{rules, true, false, not, sym, ap, ◌∙◌, ◌≡◌, subst, length}
use Rattle.un_frame.specs.Verdict.{verdict_of}
use Rattle.un_script.proofs.CursorLemmas.{feed_is}
use Rattle.un_link.proofs.Offers.{acts_anyway, take_still, taken_low}
use Rattle.un_link.proofs.half.Half.stays.Goals as goal

pub returns-then-can_offer : goal.returns-then-can_offer
returns-then-can_offer g c =
    let k = c.requires.kept in
    let way = c.args.self.now.path in
    let script = c.args.shared.now.script in
    let head = feed_is script way.lane c.args.lane _ c.args.self.now.read c.args.sender c.at.result _ c.requires.lane k.read_is c.at.ensures c.in-Some.ensures in
    let long : length c.in-Some.frame.now ≡ c.in-Ok.length = search rules in
    let told = c.can_offer.ensures _ c.args.sender c.in-Some.frame.now k.keeps.stands long in
    let room : c.can_offer.result ≡ true = search rules in
    rw (← c.requires.lane) (sym (acts_anyway script c.args.shared.now.phase way c.args.shared.now.journal.history c.args.sender c.in-Some.frame.now k.keeps k.phase_is (search rules) head (λ taken. told (taken_low way script.params way.lane c.in-Some.frame.now c.in-Ok.length k.keeps.params_are long taken) ∙ ap not room)))

pub returns-in-Take : goal.returns-in-Take
returns-in-Take g c =
    let k = c.requires.kept in
    let way = c.args.self.now.path in
    let script = c.args.shared.now.script in
    let v = subst (λ l. verdict_of script.params l c.in-Some.frame.now ≡ c.verdict.result) (sym c.requires.lane) (sym (rw c.params.ensures at c.verdict.ensures)) ∙ c.in-Take.is in
    let head = feed_is script way.lane c.args.lane _ c.args.self.now.read c.args.sender c.at.result _ c.requires.lane k.read_is c.at.ensures c.in-Some.ensures in
    let long : length c.in-Some.frame.now ≡ c.in-Ok.length = search rules in
    let low = taken_low way script.params way.lane c.in-Some.frame.now c.in-Ok.length k.keeps.params_are long v in
    let told = c.can_offer.ensures _ c.args.sender c.in-Some.frame.now k.keeps.stands long low in
    let full : c.can_offer.result ≡ false = search rules in
    rw (← c.requires.lane) (sym (take_still script c.args.shared.now.phase way c.args.shared.now.journal.history c.args.sender c.in-Some.frame.now k.keeps k.phase_is (search rules) head v ∙ (told ∙ ap not full)))
