use Rattle.std.proofs.Common.{◌≡◌, take}
use Rattle.sweep_cmd.proofs.Shutting.{shut_cells}
use Rattle.sweep_cmd.proofs.closing.cells_without.Given as goal

abbrev pub invariant-loop-c : goal.invariant-loop-c
invariant-loop-c l = l.list.items ≡ take l.c (shut_cells l.mode l.cells l.link)
