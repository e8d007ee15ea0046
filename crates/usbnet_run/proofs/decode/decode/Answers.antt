use Rattle.std.proofs.Common.{arith, refl, sym}
use Rattle.usbnet_run.specs.Decode.{Decodes, decoded_text}
use Rattle.usbnet_run.proofs.Decoding.{outside}
use Rattle.usbnet_run.proofs.decode.decode.Goals as goal

pub returns-in-Ok-clause-does : goal.returns-in-Ok-clause-does
returns-in-Ok-clause-does g c = (
  decoded_text c.args.class c.in-Ok.parts.frames c.in-Ok.parts.commands,
  Decodes.decoded c.in-Ok.parts.frames c.in-Ok.parts.commands c.in-Ok.ensures.found,
  c.write_decoded.ensures.writes,
)

pub returns-in-Err-clause-does : goal.returns-in-Err-clause-does
returns-in-Err-clause-does g c =
    let first = sym c.in-Err.ensures.fault in
    (Decodes.bad_transfer c.in-Err.fault (outside c.args.class c.args.bytes.now c.in-Err.fault (λ i. omega (arith, c.type_inv.bytes i)) first) first, refl, refl)
