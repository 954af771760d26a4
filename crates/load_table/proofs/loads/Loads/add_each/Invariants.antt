use Rattle.std.proofs.Common.{take}
use Rattle.flow_core.specs.Core.{Leads}
use Rattle.load_table.specs.Seen.{IsPassOf}
use Rattle.load_table.specs.Rule.{KeepsWorks}
use Rattle.load_table.specs.Adding.{HasAddedAll, adds_along}
use Rattle.load_table.proofs.loads.Loads.add_each.Given as goal

abbrev pub invariant-loop-cell : goal.invariant-loop-cell
invariant-loop-cell l = record {
  of : IsPassOf l.self l.pass;
  view : HasAddedAll (adds_along l.k (take l.cell-index l.path)) l.fn.pass.view l.pass.view;
  since : Leads l.self.terms l.fn.pass.seen l.pass.seen;
  works : KeepsWorks l.fn.pass.seen l.fn.pass.view.hands l.pass.seen l.pass.view.hands;
}

abbrev pub ghosts-add_for-J-OfCommodity : goal.ghosts-add_for-J-OfCommodity
ghosts-add_for-J-OfCommodity a = record { commodity = a.k }

abbrev pub ghosts-add_for-L-OfCell : goal.ghosts-add_for-L-OfCell
ghosts-add_for-L-OfCell a = record { cell = a.cell }
