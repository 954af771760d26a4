use Rattle.std.proofs.Common.{◌≡◌, ℕ, ◌<◌, length, get_or}
use Rattle.cut_bound.specs.Sums.{AreSteps}
use Rattle.cut_bound.proofs.sums.running_sums.Given as goal

abbrev pub invariant-loop-j : goal.invariant-loop-j
invariant-loop-j l = record {
  len : length l.sums.items ≡ l.j;
  total : (level : ℕ → ℕ) → AreSteps level l.starts l.ends → l.total ≡ level l.j;
  each : (level : ℕ → ℕ) → AreSteps level l.starts l.ends → (k : ℕ) → k < l.j → get_or l.sums.items k 0 ≡ level k;
}
