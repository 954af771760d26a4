use Rattle.std.proofs.Common.{◌≡◌, ◌*◌, ◌^◌, min}
use Rattle.hop_check.proofs.rounded.raised.Given as goal

abbrev pub invariant-loop : goal.invariant-loop
invariant-loop l = l.n ≡ min (l.start * 10 ^ l.counter) 1000
