use Rattle.std.proofs.Common.{◌≡◌, ℕ, ◌+◌, ◌<◌, ◌/◌, ◌%◌, cond, get_or}
use Rattle.std.specs.Prelude.{nat_lt}
use Rattle.mcf_limits.specs.declared.TheConstants.{MAX_HOPS}
use Rattle.hop_check.proofs.places.are_asked.Given as goal

abbrev pub invariant-loop-place : goal.invariant-loop-place
invariant-loop-place l = (p : ℕ) → p < l.place → get_or l.counts p 0 ≡ cond {A = ℕ} (nat_lt (p % (MAX_HOPS + 1)) (get_or l.asked (p / (MAX_HOPS + 1)) 0)) 1 0
