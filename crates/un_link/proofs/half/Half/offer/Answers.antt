use Rattle.std.proofs.Common.{rules, None, ◌≡◌, sym, ap, ◌∙◌, refl, subst, ◌∷◌, []}
use Rattle.un_frame.specs.Verdict.{verdict_of}
use Rattle.un_journal.specs.declared.actions.Answer.{Answer}
use Rattle.un_journal.specs.declared.lines.Line.TheVariants.{Refused}
use Rattle.un_journal.specs.History.{past}
use Rattle.un_journal.specs.Lookup.{phase_of}
use Rattle.un_journal.specs.LaneSteps.{bare}
use Rattle.un_journal.specs.Step.{Work, offer_head}
use Rattle.un_lane.specs.Way.{Adds}
use Rattle.un_lane.specs.Answered.{UnlessDid}
use Rattle.un_script.proofs.CursorLemmas.{feed_is}
use Rattle.un_link.proofs.Offers.{cursor_small, accept_is, accept_does, accept_advances, accept_stays, refuse_does, pushed}
use Rattle.un_link.proofs.Unchanged.{always}
use Rattle.un_link.proofs.Working.{idle_does, plain_ready}
use Rattle.un_link.proofs.half.Half.offer.Goals as goal

pub returns-in_default : goal.returns-in_default
returns-in_default g c =
    let k = c.requires.ready.kept in
    let own = c.args.self.now.path.lane in
    let script = c.args.shared.now.script in
    let h = c.args.shared.now.journal.history in
    let none = feed_is script own c.args.lane _ c.args.self.now.read c.args.sender c.at.result None c.requires.lane k.read_is c.at.ensures c.in_default.ensures in
    idle_does (Work.Offer own c.args.sender) c.args.shared.now c.args.self.now Answer.Spent (ap (offer_head script (phase_of script h) own c.args.sender (past own h)) none) k

pub advance-requires : goal.advance-requires
advance-requires g c = cursor_small c.args.self.now.read c.args.self.now.path.lane c.args.shared.now.journal _ c.args.sender c.requires.ready.kept.read_is c.requires.ready.room

pub advance-requires-in_default-verdict : goal.advance-requires-in_default-verdict
advance-requires-in_default-verdict g c = cursor_small c.args.self.now.read c.args.self.now.path.lane c.args.shared.now.journal _ c.args.sender c.requires.ready.kept.read_is c.requires.ready.room

pub offer-requires-clause-ready : goal.offer-requires-clause-ready
offer-requires-clause-ready g c =
    let k = c.requires.ready.kept in
    let script = c.args.shared.now.script in
    let head = feed_is script c.args.self.now.path.lane c.args.lane _ c.args.self.now.read c.args.sender c.at.result _ c.requires.lane k.read_is c.at.ensures c.in-Some.ensures in
    let told = subst (λ l. verdict_of script.params l c.in-Some.frame.now ≡ c.verdict.result) (sym c.requires.lane) (sym (rw c.params.ensures at c.verdict.ensures)) in
    plain_ready (Work.Offer c.args.self.now.path.lane c.args.sender) _ c.args.shared.now c.args.self.now c.requires.ready
    (sym (accept_is script c.args.shared.now.phase c.args.self.now.path c.args.shared.now.journal.history c.args.sender c.in-Some.frame.now k.keeps k.phase_is (search rules) head (told ∙ c.in-Take.is)))

pub returns-in-Did : goal.returns-in-Did
returns-in-Did g c =
    let k = c.requires.ready.kept in
    let script = c.args.shared.now.script in
    let head = feed_is script c.args.self.now.path.lane c.args.lane _ c.args.self.now.read c.args.sender c.at.result _ c.requires.lane k.read_is c.at.ensures c.in-Some.ensures in
    let told = subst (λ l. verdict_of script.params l c.in-Some.frame.now ≡ c.verdict.result) (sym c.requires.lane) (sym (rw c.params.ensures at c.verdict.ensures)) in
    let good = told ∙ c.in-Take.is in
    let d = c.offer.ensures in
    let read = accept_advances script c.args.shared.now.phase c.args.self.now.path c.args.shared.now.journal c.offer.new.journal c.args.self.now.read c.args.sender c.in-Some.frame.now c.offer.result k.keeps k.phase_is (search rules) head good d.lines.history_is d.answer c.in-Did.is k.read_is in
    rw (← c.in-Did.is)
    (accept_does c.args.shared.now c.args.self.now c.offer.new.self c.offer.new.journal c.advance.new.self c.args.sender c.in-Some.frame.now c.offer.result k (search rules) head good d.lines d.answer d.stands (rw (← c.sleeps-asleep.ensures) d.leaves) d.flight d.refused
    (rw c.advance.ensures read) (subst (λ a. UnlessDid a (c.advance.new.self ≡ c.args.self.now.read)) (sym c.in-Did.is) tt))

pub returns-in_default-offer : goal.returns-in_default-offer
returns-in_default-offer g c =
    let k = c.requires.ready.kept in
    let script = c.args.shared.now.script in
    let head = feed_is script c.args.self.now.path.lane c.args.lane _ c.args.self.now.read c.args.sender c.at.result _ c.requires.lane k.read_is c.at.ensures c.in-Some.ensures in
    let told = subst (λ l. verdict_of script.params l c.in-Some.frame.now ≡ c.verdict.result) (sym c.requires.lane) (sym (rw c.params.ensures at c.verdict.ensures)) in
    let good = told ∙ c.in-Take.is in
    let d = c.offer.ensures in
    let read = accept_stays c.args.self.now.path c.args.shared.now.journal c.offer.new.journal c.args.self.now.read c.args.sender c.in-Some.frame.now c.offer.result d.lines.history_is d.answer c.in_default-offer.not-Did k.read_is in
    accept_does c.args.shared.now c.args.self.now c.offer.new.self c.offer.new.journal c.args.self.now.read c.args.sender c.in-Some.frame.now c.offer.result k (search rules) head good d.lines d.answer d.stands (rw (← c.sleeps-asleep.ensures) d.leaves) d.flight d.refused
    read (always c.offer.result _ refl)

pub returns-in_default-verdict : goal.returns-in_default-verdict
returns-in_default-verdict g c =
    let k = c.requires.ready.kept in
    let script = c.args.shared.now.script in
    let head = feed_is script c.args.self.now.path.lane c.args.lane _ c.args.self.now.read c.args.sender c.at.result _ c.requires.lane k.read_is c.at.ensures c.in-Some.ensures in
    let told = subst (λ l. verdict_of script.params l c.in-Some.frame.now ≡ c.verdict.result) (sym c.requires.lane) (sym (rw c.params.ensures at c.verdict.ensures)) in
    let p = c.push.ensures in
    refuse_does c.args.shared.now c.args.self.now c.push.new.self c.advance-in_default-verdict.new.self c.args.sender c.in-Some.frame.now c.verdict.result k (search rules) head told c.in_default-verdict.not-Take
    (subst (λ l. Adds c.args.shared.now.journal c.push.new.self (bare (Refused l c.args.sender c.verdict.result) ∷ [])) (sym c.requires.lane) (pushed _ _ (Refused c.args.lane c.args.sender c.verdict.result) p.history p.lines p.bytes))
    c.advance-in_default-verdict.ensures
