use Rattle.std.proofs.Common.{sym}
use Rattle.un_frame.proofs.NtbCursorLemmas.{first_cursor}
use Rattle.un_ntb.specs.Formats.{format_of}
use Rattle.un_ntb.proofs.FormatLemmas.{class_reads, format_known}
use Rattle.un_ntb.proofs.parts.read.Goals as goal

pub invariant_of-result : goal.invariant_of-result
invariant_of-result g c =
    let r = first_cursor (format_of g.row.WIDTH) c.args.bytes.now (format_known g.row.WIDTH) (sym c.in_ok-check.ensures.fault) in
    rw (c.number.ensures.value, c.ndp_index.ensures.value, c.block-block.ensures.block) r.2

pub returns-clause-found : goal.returns-clause-found
returns-clause-found g c =
    let r = first_cursor (format_of g.row.WIDTH) c.args.bytes.now (format_known g.row.WIDTH) (sym c.in_ok-check.ensures.fault) in
    record {
      places = r.0;
      found = class_reads g.row.WIDTH c.args.bytes.now r.0 r.1;
      sliced = rw (c.number.ensures.value, c.ndp_index.ensures.value, c.block-block.ensures.block) r.3;
    }
