use Rattle.std.proofs.Common.{◌≡◌, ◌+◌, take}
use Rattle.std.specs.List.{sum_by}
use Rattle.mcf_limits.specs.declared.TheConstants.{MAX_TOTAL}
use Rattle.solve_tests.proofs.networks.is_within_total.Given as goal

abbrev pub invariant-loop-commodity : goal.invariant-loop-commodity
invariant-loop-commodity l = l.left + sum_by (λ k. k.amount) (take l.commodity-index l.commodities) ≡ MAX_TOTAL
