use Rattle.std.proofs.Common.{◌≡◌, map}
use Rattle.std.specs.List.{range_with_len}
use Rattle.cut_bound.specs.Search.{node_cut}
use Rattle.cut_bound.proofs.cuts.cuts_one_way.Given as goal

abbrev pub invariant-loop-node : goal.invariant-loop-node
invariant-loop-node l = l.cuts.items ≡ map (node_cut l.net.cells l.demands l.into) (range_with_len 0 l.node)
