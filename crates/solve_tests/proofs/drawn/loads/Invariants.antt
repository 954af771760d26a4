use Rattle.std.proofs.Common.{◌≡◌, ◌≤◌, All, length}
use Rattle.mcf_limits.specs.declared.TheConstants.{MAX_LENGTH}
use Rattle.solve_tests.proofs.drawn.loads.Given as goal

abbrev pub invariant-loop : goal.invariant-loop
invariant-loop l = record { count : length l.loads.items ≡ l.counter; small : All (λ x. x ≤ MAX_LENGTH) l.loads.items }
