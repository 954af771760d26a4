use Rattle.std.proofs.Common.{ℕ, ◌≡◌, ◌<◌, ◌≤◌, take, get_or}
use Rattle.mcf_limits.specs.declared.TheConstants.{MAX_LENGTH}
use Rattle.flow_core.specs.Core.{Leads}
use Rattle.load_table.specs.Seen.{IsPassOf}
use Rattle.load_table.specs.Rule.{KeepsWorks}
use Rattle.load_table.specs.Views.{with_work}
use Rattle.load_table.specs.Reading.{reads_all}
use Rattle.load_table.proofs.loads.Loads.read_each.Given as goal

abbrev pub invariant-loop-cell : goal.invariant-loop-cell
invariant-loop-cell l = record {
  of : IsPassOf l.self l.pass;
  view : l.pass.view ≡ with_work (reads_all (take l.cell l.reads)) l.fn.pass.view;
  small : (k : ℕ) → k < l.cell → get_or l.reads k 0 ≤ MAX_LENGTH;
  since : Leads l.self.terms l.fn.pass.seen l.pass.seen;
  works : KeepsWorks l.fn.pass.seen l.fn.pass.view.hands l.pass.seen l.pass.view.hands;
}

abbrev pub ghosts-read_shared : goal.ghosts-read_shared
ghosts-read_shared a = record { cell = a.cell }
