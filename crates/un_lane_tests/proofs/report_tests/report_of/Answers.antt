use Rattle.std.proofs.Common.{◌≡◌, Result, Ok, Err, sym, ap, subst}
use Rattle.un_frame.specs.Params.{AreInRange}
use Rattle.un_frame.specs.declared.params.Params.{Params}
use Rattle.un_journal.specs.Fits.{begins}
use Rattle.un_setup.specs.declared.agreement.Agreed.{Agreed}
use Rattle.un_setup.specs.declared.agreement.SetupFault.{SetupFault}
use Rattle.un_setup.specs.Agreement.{◌>>=◌, agreement, tested_as, agreed_of}
use Rattle.un_lane_tests.proofs.report_tests.report_of.Goals as goal

-- the parameters of an agreement are those that were agreed on
picked : (p : Params) (a : Agreed) (r : Result (Unit {0}) SetupFault) → (r >>= λ tested. Ok (agreement p)) ≡ Ok a → a.params ≡ p
picked p a (Ok u) h = let same : agreement p ≡ a = cc in sym (ap (λ (x : Agreed). x.params) same)
picked p a (Err e) h = absurd (cc)

params_agreed : (p : Params) (a : Agreed) → agreed_of p ≡ Ok a → a.params ≡ p
unfolding agreed_of
params_agreed p a h = picked p a (tested_as p.class p) h

pub write-requires-clause-legal : goal.write-requires-clause-legal
write-requires-clause-legal c = rw c.in-Ok-make.ensures begins

pub write-requires-clause-range : goal.write-requires-clause-range
write-requires-clause-range c = subst AreInRange (sym (params_agreed c.args.params c.in-Ok.agreed c.in-Ok.ensures.agreed)) c.requires
