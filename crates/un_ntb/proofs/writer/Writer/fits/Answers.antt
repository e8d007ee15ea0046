use Rattle.std.proofs.Common.{◌≡◌, ◌++◌, ◌∷◌, [], false, length, sym, ◌∙◌, arith, leb}
use Rattle.std.proofs.lemmas.Bool.Decides.{nat_tests}
use Rattle.std.proofs.lemmas.Grind.{common_steps}
use Rattle.un_frame.specs.NtbForm.{block_fits}
use Rattle.un_ntb.specs.Formats.{format_of}
use Rattle.un_ntb.specs.Writer.{layout_in, sizes_in}
use Rattle.un_ntb.proofs.FormatLemmas.{format_small, format_writable}
use Rattle.un_ntb.proofs.WriterLemmas.{fits_next, fits_never, fits_new}
use Rattle.un_ntb.proofs.writer.Writer.fits.Goals as goal

pub returns-then-length-self : goal.returns-then-length-self
returns-then-length-self g c =
    let f = format_of g.row.WIDTH in
    let w = c.self.inside in
    let many : c.len.result ≡ length w.datagrams.items = grind (arith, common_steps, c.len.ensures, w.datagrams.ok) in
    let e = fits_next f (format_writable g.row.WIDTH) (format_small g.row.WIDTH) g.row.WIDTH w c.self.invariant c.args.length c.len.result many in
    let whole : c.closed_fits.result ≡ block_fits f (layout_in w) w.block w.limit (sizes_in w ++ c.args.length ∷ []) = rw c.place.ensures.place at c.closed_fits.ensures ∙ sym e in
    rw (← c.self.view_is) (record {
      fits = whole;
      nothing_open = fits_new f (format_writable g.row.WIDTH) (format_small g.row.WIDTH) g.row.WIDTH w c.self.invariant c.args.length c.closed_fits.result whole;
    })

pub returns-else-length-self : goal.returns-else-length-self
returns-else-length-self g c =
    let f = format_of g.row.WIDTH in
    let w = c.self.inside in
    let e = fits_never f (format_writable g.row.WIDTH) (format_small g.row.WIDTH) g.row.WIDTH w c.self.invariant c.args.length c.if-length-self.false in
    let no : leb c.args.length w.block ≡ false = grind (arith, nat_tests, c.if-length-self.false) in
    rw (← c.self.view_is) (record {
      fits = no ∙ sym e;
      nothing_open = fits_new f (format_writable g.row.WIDTH) (format_small g.row.WIDTH) g.row.WIDTH w c.self.invariant c.args.length (leb c.args.length w.block) (no ∙ sym e);
    })
