use Rattle.std.proofs.Common.{◌≡◌, ◌+◌, ◌-◌, ◌*◌, ◌≤◌, length}
use Rattle.un_frame.specs.Ntb.{pairs_fault}
use Rattle.un_ntb.specs.Formats.{format_of}
use Rattle.un_ntb.proofs.checks.check_pairs.Given as goal

-- the fault of the pairs that are left is that of all
abbrev pub invariant-loop : goal.invariant-loop
invariant-loop g l = record {
  room : l.place + (format_of g.row.WIDTH).pair * (l.pairs - l.counter) ≤ length l.block;
  same : pairs_fault (format_of g.row.WIDTH) l.block (l.pairs - l.counter) l.place ≡ pairs_fault (format_of g.row.WIDTH) l.fn.block l.fn.pairs l.fn.at;
}
