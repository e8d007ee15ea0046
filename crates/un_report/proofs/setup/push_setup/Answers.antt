use Rattle.std.proofs.Common.{length, length-append, codes, ap, ◌∙◌, arith}
use Rattle.hex.specs.Hex.{lower_digits, encode_lower}
use Rattle.hex.proofs.HexLemmas.{length-encode_with}
use Rattle.un_report.proofs.setup.push_setup.Goals as goal

pub push-requires-2 : goal.push-requires-2
push-requires-2 c =
    let a = ap length c.push_hex.ensures ∙ length-append c.push.new.self (encode_lower c.to_bytes.result) in
    let b = ap length c.push.ensures ∙ length-append c.args.buffer.now (codes "control ") in
    let d = length-encode_with lower_digits c.to_bytes.result in
    omega (arith, a, b, d)
