use Rattle.usbnet_run.proofs.Eleven.{sums_of_none, sums_of_one, sums_text, whole_found}
use Rattle.usbnet_run.proofs.Endings.{writes_of}
use Rattle.usbnet_run.proofs.load.print_sums.Goals as goal

pub returns-clause-writes : goal.returns-clause-writes
returns-clause-writes g c =
    let w = whole_found c.args.count _ _ _ _ c.go_over-found.ensures.outward c.go_over-found.ensures.inward c.requires.whole in
    let line = sums_text _ _ _ _ _ _ _ _ _ _ _ _ c.args.count c.make-line.ensures c.push.ensures c.number.ensures.text c.push-2.ensures c.number-2.ensures.text c.push-3.ensures c.number-3.ensures.text c.push-4.ensures c.as_slice.ensures.text
    (sums_of_one _ _ _ c.sums_of-sums.ensures.taken w.taken) (sums_of_one _ _ _ c.sums_of-sums.ensures.given w.given) (sums_of_none c.args.count _ _ _ w c.sums_of-sums.ensures.lost) in
    writes_of _ _ _ _ _ _ c.write_whole.result line c.write_whole.ensures.written c.write_whole.ensures.stopped c.write_whole.ensures.cause
