use Rattle.std.proofs.Common.{◌≡◌, ◌+◌, ◌-◌, ◌≤◌, [], length, take}
use Rattle.un_frame.specs.Ntb.{tables_fault}
use Rattle.un_ntb.specs.Formats.{format_of}
use Rattle.un_ntb.proofs.checks.check_tables.Given as goal

-- the fault of the tables that are left is that of all
abbrev pub invariant-loop-count : goal.invariant-loop-count
invariant-loop-count g l = record {
  room : l.field + (format_of g.row.WIDTH).width ≤ length l.block;
  seen : length l.seen ≡ 32;
  same : tables_fault (format_of g.row.WIDTH) l.block (32 - l.count) (take l.count l.seen) l.field ≡ tables_fault (format_of g.row.WIDTH) l.fn.block 32 [] (format_of g.row.WIDTH).ndp_index;
}
