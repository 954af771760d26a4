use Rattle.std.proofs.Common.{◌≡◌, List, length}
use Rattle.phase_engine.specs.declared.hand.Hand.{Hand}
use Rattle.flow_solver.specs.Adding.{ArePlaces, KeepsRows, AreBegun, AreRoutedAs}
use Rattle.flow_solver.proofs.history.PathHistory.name_rows.Given as goal

abbrev pub invariant-loop-k : goal.invariant-loop-k
invariant-loop-k l = record {
  count : length l.entries.items ≡ l.k;
  commodities : l.self.commodities ≡ l.initial.self.commodities;
  history : l.self.history ≡ l.initial.self.history;
  keeps : KeepsRows l.initial.self.rows l.self.rows;
  begun : AreBegun l.fn.net l.initial.self.history l.entries.items l.self.rows;
  named : (hands : List Hand) → ArePlaces l.fn.net hands l.places → AreRoutedAs hands l.initial.self.rows l.initial.entries.items → AreRoutedAs hands l.self.rows l.entries.items;
}
