use Rattle.std.proofs.Common.{◌≤◌, ℕ, [], arith}
use Rattle.std.specs.Prelude.{Option, MatchOption}
use Rattle.std.proofs.lemmas.List.Elements.{All-cons, All-nil}
use Rattle.mcf_limits.specs.declared.TheConstants.{MAX_HOPS}
use Rattle.kind_tests.proofs.limited_runs.solved.Goals as goal

pub solve_hops-requires-clause-limits : goal.solve_hops-requires-clause-limits
solve_hops-requires-clause-limits c =
    let Fits : Option ℕ → Type 0 = λ limit. MatchOption limit (Unit {0}) (λ n. n ≤ MAX_HOPS) in
    record { count = omega (arith, c.in_ok-net.ensures); small = All-cons Fits c.args.limit [] c.requires.limit (All-nil Fits) }

pub solve_hops-requires-clause-options : goal.solve_hops-requires-clause-options
solve_hops-requires-clause-options c = record {
  gap = omega arith;
  some_phase = omega arith;
  phases = omega arith;
  some_step = c.requires.some_step;
  step = c.requires.step;
  work = omega (arith, c.in_ok-net.ensures);
}
