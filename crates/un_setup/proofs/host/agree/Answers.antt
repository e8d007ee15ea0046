use Rattle.std.proofs.Common.{sym}
use Rattle.std.proofs.lemmas.Result.{err_from_is_err_and}
use Rattle.un_setup.proofs.Agrees.{refused, refuses, tests_pass}
use Rattle.un_setup.proofs.host.agree.Goals as goal

pub returns-in_err-test-clause-agreed : goal.returns-in_err-test-clause-agreed
returns-in_err-test-clause-agreed c =
    let p = err_from_is_err_and c.from_residual.result c.from_residual.ensures.1 in
    rw (p.1, p.2) (refused c.args.params.now _ (sym c.in_err-test.ensures))

pub returns-in_err-test-clause-decides : goal.returns-in_err-test-clause-decides
returns-in_err-test-clause-decides c =
    let p = err_from_is_err_and c.from_residual.result c.from_residual.ensures.1 in
    rw (p.1, p.2) (refuses c.args.params.now _ (sym c.in_err-test.ensures))

pub returns-in-Ok-clause-decides : goal.returns-in-Ok-clause-decides
returns-in-Ok-clause-decides c = tests_pass c.args.params.now.class c.args.params.now (sym c.in_ok-test.ensures)

pub returns-in-Err-clause-decides : goal.returns-in-Err-clause-decides
returns-in-Err-clause-decides c = tests_pass c.args.params.now.class c.args.params.now (sym c.in_ok-test.ensures)
