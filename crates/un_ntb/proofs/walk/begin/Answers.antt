use Rattle.std.proofs.Common.{sym, ap, ◌∙◌, map}
use Rattle.un_frame.specs.Bytes.{slice_at}
use Rattle.un_frame.specs.Ntb.{block_of}
use Rattle.un_frame.proofs.NtbCursorLemmas.{first_cursor}
use Rattle.un_ntb.specs.Formats.{format_of}
use Rattle.un_ntb.proofs.FormatLemmas.{class_places, class_reads, format_known}
use Rattle.un_ntb.proofs.walk.begin.Goals as goal

pub skip_ended-requires : goal.skip_ended-requires
skip_ended-requires g c =
    let r = first_cursor (format_of g.row.WIDTH) c.args.bytes.now (format_known g.row.WIDTH) (sym c.in_ok-check.ensures.fault) in
    rw (c.number.ensures.value, c.ndp_index.ensures.value, c.block-block.ensures.block) r.2

pub returns-clause-found : goal.returns-clause-found
returns-clause-found g c =
    let r = first_cursor (format_of g.row.WIDTH) c.args.bytes.now (format_known g.row.WIDTH) (sym c.in_ok-check.ensures.fault) in
    let same = rw (c.number.ensures.value, c.ndp_index.ensures.value, c.block-block.ensures.block) at c.skip_ended.ensures.same in
    record {
      places = r.0;
      found = class_reads g.row.WIDTH c.args.bytes.now r.0 r.1;
      sliced = ap (map (slice_at (block_of (format_of g.row.WIDTH) c.args.bytes.now))) same ∙ r.3;
    }

pub returns-clause-places : goal.returns-clause-places
returns-clause-places g c =
    let same = rw (c.number.ensures.value, c.ndp_index.ensures.value, c.block-block.ensures.block) at c.skip_ended.ensures.same in
    same ∙ class_places g.row.WIDTH c.args.bytes.now
