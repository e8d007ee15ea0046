use Rattle.std.proofs.Common.{sym, subst, ap, ◌∙◌}
use Rattle.un_frame.specs.Params.{AreInRange, Agree}
use Rattle.un_endpoint.specs.Ends.{Transmitter}
use Rattle.un_link.proofs.Agreeing.{agreed_is, fresh_out, fresh_in}
use Rattle.un_link.proofs.ends.LinkOver+HostTx+GadRx+GadTx+HostRx.make.Goals as goal

pub make-requires-clause-in_range : goal.make-requires-clause-in_range
make-requires-clause-in_range c = subst AreInRange (sym (agreed_is c.args.script.params c.args.agreed.now c.requires).params_are) c.prove_ready.ensures.in_range

pub make-requires-clause-agree : goal.make-requires-clause-agree
make-requires-clause-agree c = let a = agreed_is c.args.script.params c.args.agreed.now c.requires in subst Agree (sym a.params_are) a.agree

pub make_over-requires-clause-agree : goal.make_over-requires-clause-agree
make_over-requires-clause-agree c = (agreed_is c.args.script.params c.args.agreed.now c.requires).agree

pub make_over-requires-clause-out : goal.make_over-requires-clause-out
make_over-requires-clause-out c = fresh_out c.args.agreed.now.params c.args.script.params c.in_ok-out_tx.out_tx c.in_ok-in_tx.out_rx (agreed_is c.args.script.params c.args.agreed.now c.requires).params_are c.in_ok-out_tx.ensures.0 c.in_ok-in_tx.ensures.1

pub make_over-requires-clause-inward : goal.make_over-requires-clause-inward
make_over-requires-clause-inward c = fresh_in c.args.agreed.now.params c.args.script.params c.in_ok-in_tx.in_tx c.in_ok-out_tx.in_rx (agreed_is c.args.script.params c.args.agreed.now c.requires).params_are c.in_ok-in_tx.ensures.0 c.in_ok-out_tx.ensures.1

pub make_over-requires-clause-out_params : goal.make_over-requires-clause-out_params
make_over-requires-clause-out_params c = ap (λ (t : Transmitter). t.params) c.in_ok-out_tx.ensures.0 ∙ (agreed_is c.args.script.params c.args.agreed.now c.requires).params_are

pub make_over-requires-clause-in_params : goal.make_over-requires-clause-in_params
make_over-requires-clause-in_params c = ap (λ (t : Transmitter). t.params) c.in_ok-in_tx.ensures.0 ∙ (agreed_is c.args.script.params c.args.agreed.now c.requires).params_are
