-- The laws of a legal history, at every moment.
use Rattle.std.proofs.Common.{subst}
use Rattle.un_frame.specs.Params.{AreInRange, Agree}
use Rattle.un_journal.specs.Script.{Script}
use Rattle.un_journal.specs.History.{History, past}
use Rattle.un_journal.specs.Fits.{Legal}
use Rattle.un_journal.proofs.Theorems.{partition, legal_good, given_rises, given_taken, legal_formed, wire_holds, licensed_at, settled_at}
use Rattle.un_link.specs.Lawful.{IsLawful, AtEveryMoment}

lawful : (script : Script) (h : History) → AreInRange script.params → Agree script.params → Legal script h → IsLawful script h
lawful script h ranges agree legal = record {
  one_place = λ lane n low. partition (past lane h) ((legal_good script h legal).sound lane) n;
  given_rises = λ lane. given_rises (past lane h) ((legal_good script h legal).sound lane);
  given_accepted = λ lane. given_taken (past lane h) ((legal_good script h legal).sound lane);
  given_unchanged = λ lane. (legal_formed script h (wire_holds script.params ranges agree) legal lane).kept.gave_well;
  licensed = λ before after e at. licensed_at script before after e (subst (Legal script) at legal);
  settled_home = λ before after t1 r1 t2 r2 bytes at. settled_at script before after t1 r1 t2 r2 bytes (subst (Legal script) at legal);
}

pub lawful_moments : (script : Script) (h : History) → AreInRange script.params → Agree script.params → AtEveryMoment script h
lawful_moments script h ranges agree = λ moment rest at legal. lawful script moment ranges agree legal
