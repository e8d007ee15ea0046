-- The two formats of a block, by the bytes of an index.
use Rattle.std.specs.Prelude.{ℕ, ◌-◌, ◌/◌, ◌==◌, if◌then◌else◌}
use Rattle.un_frame.specs.declared.params.Class.{Class}
use Rattle.un_frame.specs.declared.params.Class.TheVariants.{Ncm16, Ncm32}
use Rattle.un_frame.specs.Ntb.{Format, ntb16, ntb32}

-- the format whose indices and lengths have so many bytes: NTB16 at 2, and NTB32 else
abbrev pub format_of : ℕ → Format
format_of width = if width == 2 then ntb16 else ntb32

-- the class that has this format
abbrev pub class_of : ℕ → Class
class_of width = if width == 2 then Ncm16 else Ncm32

-- the pairs of a table of this length but its last
abbrev pub pairs_in : Format → ℕ → ℕ
pairs_in f length = (length - f.head) / f.pair - 1
