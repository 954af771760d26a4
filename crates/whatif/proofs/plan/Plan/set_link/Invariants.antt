use Rattle.std.proofs.Common.{◌≡◌, ◌+◌, ◌-◌, ◌≤◌}
use Rattle.unit_scale.specs.Names.{cells_of}
use Rattle.whatif.proofs.Links.{run_of}
use Rattle.whatif.proofs.plan.Plan.set_link.Given as goal

abbrev pub invariant-loop-cell : goal.invariant-loop-cell
invariant-loop-cell l = record {
  low : cells_of l.fn.mode l.fn.link ≤ l.cell;
  high : l.cell ≤ cells_of l.fn.mode (l.fn.link + 1);
  plan : l.self ≡ run_of l.fn.self (cells_of l.fn.mode l.fn.link) l.fn.cap (l.cell - cells_of l.fn.mode l.fn.link);
}
