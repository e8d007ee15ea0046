use Rattle.std.proofs.Common.{◌≡◌, arith, rules}
use Rattle.un_frame.specs.Bytes.{number_at}
use Rattle.un_classreq.proofs.SetupLemmas.{bytes_again}
use Rattle.un_classreq.proofs.setup.parse.Goals as goal

pub returns-clause-again : goal.returns-clause-again
unfolding number_at
returns-clause-again c =
    let value : c.read_u16.result ≡ number_at 2 c.args.bytes.now 2 = search rules in
    let index : c.read_u16-2.result ≡ number_at 2 c.args.bytes.now 4 = search rules in
    let size : c.read_u16-3.result ≡ number_at 2 c.args.bytes.now 6 = search rules in
    rw (value, index, size) (bytes_again c.args.bytes.now c.requires (λ i. omega (arith, c.type_inv.bytes i)))
