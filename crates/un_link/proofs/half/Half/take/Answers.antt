use Rattle.std.proofs.Common.{refl, sym, ◌∙◌, ap, subst, map}
use Rattle.un_journal.specs.Step.{Work}
use Rattle.un_journal.specs.LaneSteps.{take_queued}
use Rattle.un_journal.specs.History.{past}
use Rattle.un_journal.specs.declared.got.Got.TheVariants.{Part, Cut, Not}
use Rattle.un_lane.specs.Stands.{serial_of}
use Rattle.un_lane.specs.Answered.{Answered}
use Rattle.un_link.proofs.Working.{plain_goes, plain_ready}
use Rattle.un_link.proofs.Takings.{take_is, part_came, cut_came, not_came}
use Rattle.un_link.proofs.half.Half.take.Goals as goal

pub take-requires : goal.take-requires
take-requires g c =
    let old = c.args.self.now.path in
    let log = c.args.shared.now.journal in
    let k = c.requires.ready.kept in
    plain_ready (Work.Take old.lane) _ c.args.shared.now c.args.self.now c.requires.ready
    (ap (λ a. take_queued a old.lane (past old.lane log.history) (map serial_of old.bus.queue)) c.sleeps.ensures ∙ sym (take_is c.args.shared.now.script c.args.shared.now.phase old log.history k.keeps k.phase_is))

pub returns-in-Part : goal.returns-in-Part
returns-in-Part g c =
    let d = c.take.ensures in
    let old = c.args.self.now.path in
    let log = c.args.shared.now.journal in
    let k = c.requires.ready.kept in
    let same = ap (λ a. take_queued a old.lane (past old.lane log.history) (map serial_of old.bus.queue)) c.sleeps.ensures ∙ sym (take_is c.args.shared.now.script c.args.shared.now.phase old log.history k.keeps k.phase_is) in
    let goes = plain_goes (Work.Take old.lane) _ c.args.shared.now c.args.self.now c.take.new.self c.take.new.journal refl refl k same d.lines d.stands d.leaves in
    part_came c.args.shared.now c.args.self.now c.take.new.self c.take.new.journal k goes c.args.lane c.in-Part.flight c.requires.lane
    (subst (λ o. Answered c.take.new.self (past old.lane log.history) o (Part c.in-Part.flight)) same (rw c.in-Part.is at d.answer))

pub returns-in-Cut : goal.returns-in-Cut
returns-in-Cut g c =
    let d = c.take.ensures in
    let old = c.args.self.now.path in
    let log = c.args.shared.now.journal in
    let k = c.requires.ready.kept in
    let same = ap (λ a. take_queued a old.lane (past old.lane log.history) (map serial_of old.bus.queue)) c.sleeps.ensures ∙ sym (take_is c.args.shared.now.script c.args.shared.now.phase old log.history k.keeps k.phase_is) in
    let goes = plain_goes (Work.Take old.lane) _ c.args.shared.now c.args.self.now c.take.new.self c.take.new.journal refl refl k same d.lines d.stands d.leaves in
    cut_came c.args.shared.now c.args.self.now c.take.new.self c.take.new.journal k goes
    (subst (λ o. Answered c.take.new.self (past old.lane log.history) o Cut) same (rw c.in-Cut.is at d.answer)) (rw c.in-Cut.is at d.flight)

pub returns-in-Not : goal.returns-in-Not
returns-in-Not g c =
    let d = c.take.ensures in
    let old = c.args.self.now.path in
    let log = c.args.shared.now.journal in
    let k = c.requires.ready.kept in
    let same = ap (λ a. take_queued a old.lane (past old.lane log.history) (map serial_of old.bus.queue)) c.sleeps.ensures ∙ sym (take_is c.args.shared.now.script c.args.shared.now.phase old log.history k.keeps k.phase_is) in
    let goes = plain_goes (Work.Take old.lane) _ c.args.shared.now c.args.self.now c.take.new.self c.take.new.journal refl refl k same d.lines d.stands d.leaves in
    not_came c.args.shared.now c.args.self.now c.take.new.self c.take.new.journal k goes c.in-Not.answer
    (subst (λ o. Answered c.take.new.self (past old.lane log.history) o (Not c.in-Not.answer)) same (rw c.in-Not.is at d.answer)) (rw c.in-Not.is at d.flight) (rw c.in-Not.is at d.refused)
